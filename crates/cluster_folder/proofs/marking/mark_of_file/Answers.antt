use Rattle.std.proofs.Common.{ℕ, take, ap, ◌∙◌}
use Rattle.cluster_identity.specs.Marks.{mark_of}
use Rattle.cluster_folder.proofs.marking.mark_of_file.Goals as goal

pub returns-in-Ok-clause-marked : goal.returns-in-Ok-clause-marked
returns-in-Ok-clause-marked g c = λ told gate closed.
    let file = g.D.Disk.content c.args.disk.now in
    let is = c.in-Ok.ensures.marked told in
    is.marks ∙ ap (λ (n : ℕ). mark_of (take n file)) (is.closed gate closed)
