use Rattle.std.proofs.Common.{arith}
use Rattle.uploads.proofs.CallerLemmas.{message_size}
use Rattle.uploads.proofs.lengths.message_length.Goals as goal

pub overflow_add-result : goal.overflow_add-result
overflow_add-result c = omega (arith, c.requires.header_small, c.requires.metadata_small, c.field_length.ensures.few, c.field_length-2.ensures.few)

pub overflow_add-result-2 : goal.overflow_add-result-2
overflow_add-result-2 c =
    omega (arith, c.requires.header_small, c.requires.metadata_small, c.requires.body_small, c.field_length.ensures.few, c.field_length-2.ensures.few, c.field_length-3.ensures.few)

pub returns : goal.returns
returns c = λ h m b is_h is_m is_b.
    omega (arith, message_size h m b, c.field_length.ensures.long h is_h, c.field_length-2.ensures.long m is_m, c.field_length-3.ensures.long b is_b)
