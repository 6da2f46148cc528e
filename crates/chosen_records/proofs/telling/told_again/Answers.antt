use Rattle.std.proofs.Common.{◌≡◌, ℕ, length, subst, arith}
use Rattle.chosen_records.specs.Tallies.{TellsUpTo}
use Rattle.chosen_records.proofs.Told.{chosen_all, only_chosen, recorded_all}
use Rattle.chosen_records.proofs.telling.told_again.Goals as goal

pub returns-clause-recorded : goal.returns-clause-recorded
returns-clause-recorded c = λ all counts.
    let end : c.loop-index.index ≡ length c.args.tallies.now.entries = omega arith in
    recorded_all c.args.members c.args.tallies.now c.loop-index.told.items
    (subst (λ (n : ℕ). TellsUpTo c.args.members c.args.tallies.now n c.loop-index.told.items) end c.loop-index.invariant.tells) all counts

pub returns-clause-only : goal.returns-clause-only
returns-clause-only c = λ all counts.
    let end : c.loop-index.index ≡ length c.args.tallies.now.entries = omega arith in
    only_chosen c.args.members c.args.tallies.now c.loop-index.told.items
    (subst (λ (n : ℕ). TellsUpTo c.args.members c.args.tallies.now n c.loop-index.told.items) end c.loop-index.invariant.tells) all counts

pub returns-clause-rising : goal.returns-clause-rising
returns-clause-rising c = λ rise. (c.loop-index.invariant.rises rise).rising

pub returns-clause-chosen : goal.returns-clause-chosen
returns-clause-chosen c = λ all slot ballot value counts chosen.
    let end : c.loop-index.index ≡ length c.args.tallies.now.entries = omega arith in
    chosen_all c.args.members c.args.tallies.now c.loop-index.told.items
    (subst (λ (n : ℕ). TellsUpTo c.args.members c.args.tallies.now n c.loop-index.told.items) end c.loop-index.invariant.tells) all counts slot ballot value chosen
