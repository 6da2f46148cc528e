use Rattle.std.proofs.Common.{◌≡◌, ℕ, ◌+◌, ◌≤◌, List, take, drop, ap, ◌∙◌, arith}
use Rattle.std.proofs.lemmas.List.{length-take-le}
use Rattle.cluster_folder.proofs.Fronts.{first_read, last_read}
use Rattle.cluster_folder.proofs.marking.front_mark.Goals as goal

pub returns-clause-marked : goal.returns-clause-marked
returns-clause-marked g c = λ told.
    let file = g.D.Disk.content c.args.disk.now in
    let size = c.args.size in
    let count = c.digested_parts-parts.result.count in
    let from = c.digested_parts-parts.result.last_from in
    let parts = c.digested_parts-parts.ensures in
    let counted = parts.count in
    let placed = parts.last_from in
    let few : count ≤ size = omega (arith, counted) in
    let ends : from + count ≡ size = omega (arith, counted, placed) in
    let long = length-take-le size file (c.requires told) in
    c.mark_of.ensures.marks (take size file) long
    (c.as_slice.ensures.value ∙ c.in_ok-first.ensures.read told ∙ first_read file size count few
    ∙ parts.first (take size file) long)
    (c.as_slice-2.ensures.value ∙ c.in_ok-last.ensures.read told
    ∙ ap (λ (l : List ℕ). take count (drop from l)) (c.in_ok-first.ensures.same told)
    ∙ last_read file size count from ends ∙ parts.last (take size file) long)
