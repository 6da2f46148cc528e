use Rattle.batch_columns.proofs.Listing.{columns_are_read}
use Rattle.batch_columns.proofs.laws.sources_are_the_columns.Goals as goal

pub returns : goal.returns
returns c = columns_are_read
