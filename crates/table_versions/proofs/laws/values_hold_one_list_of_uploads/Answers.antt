use Rattle.std.proofs.Common.{map}
use Rattle.ballots.specs.Message.{value_bytes}
use Rattle.table_versions.proofs.Values.{uploads_both, uploads_few}
use Rattle.table_versions.proofs.laws.values_hold_one_list_of_uploads.Goals as goal

pub returns-clause-one : goal.returns-clause-one
returns-clause-one c = λ values. c.texts_hold_one_list_of_uploads.ensures.one (map value_bytes values)

pub returns-clause-valid : goal.returns-clause-valid
returns-clause-valid c = λ values. c.texts_hold_one_list_of_uploads.ensures.valid (map value_bytes values)

pub returns-clause-few : goal.returns-clause-few
returns-clause-few c = uploads_few c.texts_hold_one_list_of_uploads.ensures.few

pub returns-clause-both : goal.returns-clause-both
returns-clause-both c = uploads_both c.texts_hold_one_list_of_uploads.ensures.both
