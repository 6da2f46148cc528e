use Rattle.chosen_records.specs.Tallies.{RisesUpTo, SlotsRise, TellsUpTo}
use Rattle.chosen_records.proofs.telling.told_again.Given as goal

abbrev pub invariant-loop-index : goal.invariant-loop-index
invariant-loop-index l = record {
  tells : TellsUpTo l.members l.tallies l.index l.told.items;
  rises : SlotsRise l.tallies → RisesUpTo l.tallies l.index l.told.items;
}
