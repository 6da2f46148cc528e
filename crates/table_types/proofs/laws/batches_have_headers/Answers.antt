use Rattle.table_types.proofs.OneEncoding.{batch_writable}
use Rattle.table_types.proofs.laws.batches_have_headers.Goals as goal

pub returns : goal.returns
returns c = batch_writable c.written_rows_are_laid_out.ensures.laid
