use Rattle.std.proofs.Common.{◌∙◌, arith}
use Rattle.batch_lengths.proofs.Eights.{none_set}
use Rattle.batch_lengths.proofs.validity_mask.ValidityMask.unfold.Goals as goal

pub returns-then-self-clause-behind : goal.returns-then-self-clause-behind
returns-then-self-clause-behind c k from = c.set_bits.ensures.behind k (omega (arith, from)) ∙ none_set 128 k
