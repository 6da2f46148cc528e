use Rattle.bitmaps.proofs.PackedForms.{first_byte, next_byte, no_bytes}
use Rattle.bitmaps.proofs.laws.bits_are_binary_digits.Goals as goal

pub returns-clause-first : goal.returns-clause-first
returns-clause-first c = first_byte

pub returns-clause-next : goal.returns-clause-next
returns-clause-next c = next_byte

pub returns-clause-none : goal.returns-clause-none
returns-clause-none c = no_bytes
