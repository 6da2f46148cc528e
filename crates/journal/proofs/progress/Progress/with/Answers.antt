use Rattle.std.proofs.Common.{◌≡◌, ℕ, ◌<◌, ◌++◌, ◌∷◌, [], List, arith, length, slice_index_or, sym, ap, subst, ◌∙◌}
use Rattle.node_parts.specs.ballots.specs.Limits.{max_members}
use Rattle.node_parts.specs.histories.specs.Event.{node_of}
use Rattle.node_parts.specs.histories.specs.Owning.{OwnEntry}
use Rattle.journal.specs.Logged.{own_of, AreCounted}
use Rattle.journal.proofs.Counting.{fewer, counted_more, counted_still}
use Rattle.journal.proofs.progress.Progress.with.Goals as goal
use Rattle.journal.proofs.progress.Progress.with.Goals.{then-node-from, else-node-from}

pub overflow_add-counts : goal.overflow_add-counts
overflow_add-counts g c =
    let node = c.node-node.result in
    let member : node < max_members = omega (arith, c.if-node-from.true, c.from.ensures) in
    let counted : slice_index_or c.self.inside.counts node 0 ≡ length (own_of node c.self.inside.reached) = c.self.invariant node member in
    omega (arith, counted, fewer node c.self.inside.reached, c.in-Ok.ensures.short)

pub invariant_of-result : goal.invariant_of-result
invariant_of-result g c =
    let log = c.self.inside.reached in
    let of : c.node-node.result ≡ node_of c.args.entry.now.step.event = c.node-node.ensures ∙ ap (λ (e : OwnEntry). node_of e.step.event) c.entry.view_is in
    let more : AreCounted c.if-node-from.counts (log ++ c.args.entry.now ∷ []) =
    elim c.if-node-from.branch [
      | then-node-from w ↦ subst (λ (cs : List ℕ). AreCounted cs (log ++ c.args.entry.now ∷ [])) (sym w.counts-is)
          (counted_more c.self.inside.counts log c.args.entry.now c.node-node.result of (omega (arith, w.if-node-from.true, c.from.ensures, c.self.ranges)) c.self.invariant)
      | else-node-from w ↦ subst (λ (cs : List ℕ). AreCounted cs (log ++ c.args.entry.now ∷ [])) (sym w.counts-is)
          (counted_still c.self.inside.counts log c.args.entry.now (omega (arith, of, w.if-node-from.false, c.from.ensures)) c.self.invariant)
    ] in
    subst (λ (es : List OwnEntry). AreCounted c.if-node-from.counts es) (sym c.in-Ok.ensures.entry) more
