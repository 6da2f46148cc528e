use Rattle.batch_stories.proofs.cells.+put_columns.Given as goal

abbrev pub decreases-put_columns : goal.decreases-put_columns
decreases-put_columns l = l.levels
