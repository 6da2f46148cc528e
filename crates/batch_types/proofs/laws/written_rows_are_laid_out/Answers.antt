use Rattle.batch_types.proofs.WrittenRows.{rows_laid_out, rows_only}
use Rattle.batch_types.proofs.laws.written_rows_are_laid_out.Goals as goal

pub returns-clause-laid : goal.returns-clause-laid
returns-clause-laid c = rows_laid_out c.bits_are_packed_by_eights.ensures

pub returns-clause-only : goal.returns-clause-only
returns-clause-only c = rows_only c.bits_are_packed_by_eights.ensures
