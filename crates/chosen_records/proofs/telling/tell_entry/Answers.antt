use Rattle.std.proofs.Common.{◌≡◌, ◌+◌, true, false, sym, subst, ◌∙◌}
use Rattle.std.specs.List.{Any}
use Rattle.chosen_records.specs.Tallies.{RisesUpTo, TellsUpTo}
use Rattle.chosen_records.proofs.Rising.{rises_over, rises_place}
use Rattle.chosen_records.proofs.Told.{told_already, told_over, told_place}
use Rattle.chosen_records.proofs.telling.tell_entry.Goals as goal
use Rattle.chosen_records.proofs.telling.tell_entry.Goals.{else-are_majority-via-then-are_majority+else-not-ends_at, else-are_majority-via-else-are_majority}

pub returns-in_ok-tell-clause-tells : goal.returns-in_ok-tell-clause-tells
returns-in_ok-tell-clause-tells c = λ is.
    subst (TellsUpTo c.args.members c.args.tallies.now (c.args.index + 1)) (sym c.in_ok-tell.ensures)
    (told_place c.args.members c.args.tallies.now c.args.index c.args.told.now.items is c.in-Some.place.now c.in-Some.tally.now (sym c.in-Some.ensures.entry)
    c.in-Some.ensures.value (c.are_majority.ensures.0 c.if-are_majority.true))

pub returns-else-are_majority-clause-tells : goal.returns-else-are_majority-clause-tells
returns-else-are_majority-clause-tells c = λ is. elim c.else-are_majority.branch [
  | else-are_majority-via-then-are_majority+else-not-ends_at w ↦
      told_already c.args.members c.args.tallies.now c.args.index c.args.told.now.items is c.in-Some.place.now c.in-Some.tally.now (sym c.in-Some.ensures.entry)
      (subst (Any (λ m. m.slot ≡ c.in-Some.place.now.slot)) w.as_slice.ensures.value (w.ends_at.ensures w.if-not-ends_at.false))
  | else-are_majority-via-else-are_majority w ↦
      told_over c.args.members c.args.tallies.now c.args.index c.args.told.now.items is c.in-Some.place.now c.in-Some.tally.now (sym c.in-Some.ensures.entry)
      (λ majority. let no : true ≡ false = sym (c.are_majority.ensures.1 majority) ∙ w.if-are_majority.false in cc)
]

pub returns-in_ok-tell-clause-rises : goal.returns-in_ok-tell-clause-rises
returns-in_ok-tell-clause-rises c = λ rise is.
    subst (RisesUpTo c.args.tallies.now (c.args.index + 1)) (sym c.in_ok-tell.ensures)
    (rises_place c.args.members c.args.tallies.now c.args.index c.args.told.now.items rise is c.in-Some.place.now c.in-Some.tally.now (sym c.in-Some.ensures.entry))

pub returns-else-are_majority-clause-rises : goal.returns-else-are_majority-clause-rises
returns-else-are_majority-clause-rises c = λ rise is. rises_over c.args.tallies.now c.args.index c.args.told.now.items is
