use Rattle.safe_histories.proofs.Texts.{one_list, uploads_begin}
use Rattle.safe_histories.proofs.laws.texts_have_one_list_of_uploads.Goals as goal

pub returns-clause-one : goal.returns-clause-one
returns-clause-one c = one_list c.uploads_have_one_encoding.ensures

pub returns-clause-begins : goal.returns-clause-begins
returns-clause-begins c = uploads_begin c.uploads_have_one_encoding.ensures
