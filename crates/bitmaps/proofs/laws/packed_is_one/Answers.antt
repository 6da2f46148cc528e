use Rattle.bitmaps.proofs.PackedForms.{one_form, one_list, holds_them, clear_behind}
use Rattle.bitmaps.proofs.laws.packed_is_one.Goals as goal

pub returns-clause-bytes : goal.returns-clause-bytes
returns-clause-bytes c = one_form

pub returns-clause-bits : goal.returns-clause-bits
returns-clause-bits c = one_list

pub returns-clause-held : goal.returns-clause-held
returns-clause-held c = holds_them

pub returns-clause-clear : goal.returns-clause-clear
returns-clause-clear c = λ bits bytes j p behind. clear_behind bits bytes j p behind
