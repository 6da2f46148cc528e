use Rattle.batch_types.proofs.WorkedBatches.{int8_laid_out, texts_laid_out, crowded_laid_out}
use Rattle.batch_types.specs.Examples.{points_table, points_rows, bare_table, bare_rows, most_rows, no_texts_table, no_texts_rows}
use Rattle.batch_types.proofs.WorkedRows.{points_profile, points_can, bare_profile, bare_can, most_can, no_texts_profile, no_texts_can}
use Rattle.batch_types.proofs.WrittenRows.{rows_laid_out}
use Rattle.batch_types.proofs.laws.worked_batches_are_laid_out.Goals as goal

pub returns-clause-int8 : goal.returns-clause-int8
returns-clause-int8 c = int8_laid_out

pub returns-clause-texts : goal.returns-clause-texts
returns-clause-texts c = texts_laid_out

pub returns-clause-points : goal.returns-clause-points
returns-clause-points c = rows_laid_out c.bits_are_packed_by_eights.ensures points_table points_rows points_profile points_can

pub returns-clause-no_texts : goal.returns-clause-no_texts
returns-clause-no_texts c = rows_laid_out c.bits_are_packed_by_eights.ensures no_texts_table no_texts_rows no_texts_profile no_texts_can

pub returns-clause-bare : goal.returns-clause-bare
returns-clause-bare c = rows_laid_out c.bits_are_packed_by_eights.ensures bare_table bare_rows bare_profile bare_can

pub returns-clause-most : goal.returns-clause-most
returns-clause-most c = rows_laid_out c.bits_are_packed_by_eights.ensures bare_table most_rows bare_profile most_can

pub returns-clause-crowded : goal.returns-clause-crowded
returns-clause-crowded c = crowded_laid_out
