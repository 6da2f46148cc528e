use Rattle.std.proofs.Common.{sym, ap}
use Rattle.schema_words.specs.Spelling.{comma_before}
use Rattle.schema_words.proofs.Gathering.{comma_behind}
use Rattle.schema_words.proofs.writing.comma_before.Goals as goal

pub returns-then-index-eq0 : goal.returns-then-index-eq0
returns-then-index-eq0 c = ap comma_before (sym c.if-index-eq0.true)

pub returns-else-index-eq0 : goal.returns-else-index-eq0
returns-else-index-eq0 c = comma_behind c.args.index c.if-index-eq0.false
