use Rattle.std.proofs.Common.{ℕ, List, Some, refl, sym, subst, arith, rules}
use Rattle.std.proofs.lemmas.Grind.{common_steps}
use Rattle.ballots.specs.Ballot.{Ballot, IsAbove}
use Rattle.ballots.specs.Slots.{SetsSlot}
use Rattle.acceptor.specs.AcceptorState.{AcceptorState, at, promised_at}
use Rattle.acceptor.specs.Ranges.{ranged_at}
use Rattle.acceptor.proofs.Promising.{sets_above}
use Rattle.acceptor.proofs.acceptor.Acceptor.on_prepare.Goals as goal
use Rattle.acceptor.proofs.acceptor.Acceptor.on_prepare.Goals.{in-Some+else-not-is_below, in_default}

pub returns-then-not-is_below-clause-answered : goal.returns-then-not-is_below-clause-answered
returns-then-not-is_below-clause-answered c = grind (arith, common_steps) steps 600000

pub returns-then-not-is_below-clause-err : goal.returns-then-not-is_below-clause-err
returns-then-not-is_below-clause-err c = search rules steps 300000

pub returns-then-not-is_below-clause-memory : goal.returns-then-not-is_below-clause-memory
returns-then-not-is_below-clause-memory c = search rules steps 300000

pub returns-in_err-report-clause-answered : goal.returns-in_err-report-clause-answered
returns-in_err-report-clause-answered c = search rules steps 300000

pub returns-in_err-report-clause-err : goal.returns-in_err-report-clause-err
returns-in_err-report-clause-err c = search rules steps 300000

pub returns-in_err-report-clause-memory : goal.returns-in_err-report-clause-memory
returns-in_err-report-clause-memory c = search rules steps 300000

pub returns-in_err-reserve-clause-answered : goal.returns-in_err-reserve-clause-answered
returns-in_err-reserve-clause-answered c = grind (arith, common_steps) steps 600000

pub returns-in_err-reserve-clause-err : goal.returns-in_err-reserve-clause-err
returns-in_err-reserve-clause-err c = grind (arith, common_steps) steps 600000

pub returns-in_err-reserve-clause-memory : goal.returns-in_err-reserve-clause-memory
returns-in_err-reserve-clause-memory c = grind (arith, common_steps) steps 600000

pub returns-clause-answered : goal.returns-clause-answered
returns-clause-answered c =
    let own = at c.self.inside.promises.entries in
    let ranged = ranged_at c.self.inside.ranges.ranges in
    let new = at c.put_promise.new.promises.entries in
    let above : IsAbove c.args.ballot (promised_at c.args.self.now c.args.slot) = subst (IsAbove c.args.ballot) c.promised.ensures (above_promised c) in
    let held = subst (λ (state : AcceptorState). IsAbove c.args.ballot (promised_at state c.args.slot)) (sym c.self.view_is) above in
    let puts = subst (λ (l : List (ℕ × Ballot)). SetsSlot (at l) new c.args.slot (Some c.args.ballot)) c.reserve.ensures.entries c.put_promise.ensures.puts in (
      above,
      search rules,
      rw (← c.self.view_is) (record { promises = sets_above own ranged new c.args.slot c.args.ballot puts held; acceptances = record { here = refl; others = λ other apart. refl } }),
    )
  where
    above_promised : (c : goal.After-put_promise) → IsAbove c.args.ballot c.promised.result
    above_promised c = elim c.match-promised.branch as (λ _. IsAbove c.args.ballot c.promised.result) [ in-Some+else-not-is_below w ↦ search rules | in_default w ↦ search rules ]

pub returns-clause-err : goal.returns-clause-err
returns-clause-err c = search rules steps 300000

pub returns-clause-memory : goal.returns-clause-memory
returns-clause-memory c = search rules steps 300000

pub returns-clause-room : goal.returns-clause-room
returns-clause-room c = grind (arith, common_steps) steps 600000
