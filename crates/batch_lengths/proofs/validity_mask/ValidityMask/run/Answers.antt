use Rattle.std.proofs.Common.{refl, true}
use Rattle.batch_lengths.proofs.Marking.{all_marked}
use Rattle.batch_lengths.proofs.validity_mask.ValidityMask.run.Goals as goal

pub returns-clause-spots : goal.returns-clause-spots
returns-clause-spots c = all_marked c.args.start c.args.count (λ k. true) (λ k. refl)
