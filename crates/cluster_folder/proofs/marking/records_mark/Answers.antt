use Rattle.std.proofs.Common.{ℕ, List, take, sym, ap, subst, ◌∙◌, arith}
use Rattle.std.proofs.lemmas.Result.{IfOk-weaker}
use Rattle.cluster_identity.specs.Marks.{mark_of}
use Rattle.cluster_folder.specs.Gates.{IsClosedGate}
use Rattle.cluster_folder.specs.Marking.{IsMarkOfRecords}
use Rattle.cluster_folder.proofs.marking.records_mark.Goals as goal

pub returns-clause-marked : goal.returns-clause-marked
returns-clause-marked g c = λ told.
    let file = g.D.Disk.content c.args.disk.now in
    let place = c.in_ok-gate.gate in
    let looked = c.in_ok-size.ensures.same told in
    let searched = c.in_ok-gate.ensures.same told ∙ looked in
    let sized = c.in_ok-size.ensures.len told in
    let before = c.in_ok-gate.ensures.within in
    IfOk-weaker c.front_mark.result _ (IsMarkOfRecords file) (λ mark is. record {
      place = place;
      within = omega (arith, sized, before);
      closed = λ gate closed.
          let P : List ℕ → Type 0 = λ l. IsClosedGate l gate in
          c.in_ok-gate.ensures.closed told gate (subst P (sym looked) closed);
      marks = is ∙ ap (λ (l : List ℕ). mark_of (take place l)) searched;
    }) (c.front_mark.ensures.marked told)
