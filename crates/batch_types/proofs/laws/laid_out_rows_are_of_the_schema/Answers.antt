use Rattle.batch_types.proofs.Typing.{typed_rows}
use Rattle.batch_types.proofs.laws.laid_out_rows_are_of_the_schema.Goals as goal

pub returns : goal.returns
returns c = typed_rows
