use Rattle.part_tasks.proofs.batches.+columns_weight.Given as goal

abbrev pub decreases-columns_weight : goal.decreases-columns_weight
decreases-columns_weight l = l.levels
