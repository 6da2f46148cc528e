use Rattle.std.proofs.Common.{List, map}
use Rattle.ballots.specs.declared.record.Record.{Record}
use Rattle.indexmap.specs.IndexMap.{keys}
use Rattle.chosen_records.proofs.Counted.{counted_alike, none_differs}
use Rattle.chosen_records.proofs.Rising.{slots_rise}
use Rattle.chosen_records.proofs.chosen.chosen_again.Goals as goal

pub returns-clause-recorded : goal.returns-clause-recorded
returns-clause-recorded c =
    let seen : List (List Record) = map (λ own. own.items) c.args.records.now in
    let counts = counted_alike seen c.in_ok-tallies.tallies c.sort_keys.new.self c.in_ok-sort_keys.ensures.reordered.2 c.in_ok-tallies.ensures.counted in
    c.in_ok-told_again.ensures.recorded seen counts

pub returns-clause-only : goal.returns-clause-only
returns-clause-only c =
    let seen : List (List Record) = map (λ own. own.items) c.args.records.now in
    let counts = counted_alike seen c.in_ok-tallies.tallies c.sort_keys.new.self c.in_ok-sort_keys.ensures.reordered.2 c.in_ok-tallies.ensures.counted in
    c.in_ok-told_again.ensures.only seen counts

pub returns-clause-rising : goal.returns-clause-rising
returns-clause-rising c = c.in_ok-told_again.ensures.rising (slots_rise (keys c.sort_keys.new.self) c.in_ok-sort_keys.ensures.sorted)

pub returns-clause-chosen : goal.returns-clause-chosen
returns-clause-chosen c = λ slot ballot value chosen.
    let seen : List (List Record) = map (λ own. own.items) c.args.records.now in
    let counts = counted_alike seen c.in_ok-tallies.tallies c.sort_keys.new.self c.in_ok-sort_keys.ensures.reordered.2 c.in_ok-tallies.ensures.counted in
    c.in_ok-told_again.ensures.chosen seen slot ballot value counts chosen

pub returns-clause-agree : goal.returns-clause-agree
returns-clause-agree c =
    let seen : List (List Record) = map (λ own. own.items) c.args.records.now in
    none_differs seen c.in_ok-tallies.tallies c.in_ok-tallies.ensures.counted
