use Rattle.table_types.proofs.Texts.{no_bytes, uploads_both, are_valid, are_few, are_one}
use Rattle.table_types.proofs.laws.texts_hold_one_list_of_uploads.Goals as goal

pub returns-clause-one : goal.returns-clause-one
returns-clause-one c = are_one c.uploads_have_one_encoding.ensures

pub returns-clause-valid : goal.returns-clause-valid
returns-clause-valid c = are_valid

pub returns-clause-few : goal.returns-clause-few
returns-clause-few c = are_few

pub returns-clause-both : goal.returns-clause-both
returns-clause-both c = uploads_both

pub returns-clause-none : goal.returns-clause-none
returns-clause-none c = no_bytes
