use Rattle.schema_words.proofs.Unique.{schema_is_one}
use Rattle.schema_words.proofs.laws.words_are_one.Goals as goal

pub returns : goal.returns
returns c = schema_is_one
