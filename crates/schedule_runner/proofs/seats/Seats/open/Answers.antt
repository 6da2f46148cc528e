use Rattle.std.proofs.Common.{ℕ, List, suc, sym, subst, arith, ◌∙◌}
use Rattle.histories.specs.Following.{at_first}
use Rattle.schedule_runner.specs.Seated.{MemorySeat, IsSeatOf}
use Rattle.schedule_runner.proofs.Seating.{AreOpened, none_opened, one_opened, all_opened}
use Rattle.schedule_runner.proofs.seats.Seats.open.Goals as goal

pub loop-number-init : goal.loop-number-init
loop-number-init c = subst (λ (states : List MemorySeat). AreOpened c.args.config states 0) (sym c.new-seats.ensures.items) (none_opened c.args.config)

pub loop-number-preserved : goal.loop-number-preserved
loop-number-preserved c =
    let config = c.args.config in
    let number = c.loop-number.number in
    subst (λ (n : ℕ). AreOpened config c.push.new.self.items n) (omega arith)
    (subst (λ (states : List MemorySeat). AreOpened config states (suc number)) (sym {A = List MemorySeat} c.in_ok-push.ensures.items)
    (one_opened config c.loop-number.seats.items number c.loop-number.invariant c.in_ok-seat.seat
    (subst (λ (n : ℕ). IsSeatOf config n c.in_ok-seat.seat (at_first n)) c.in-Some.ensures.value c.in_ok-seat.ensures)))

pub returns : goal.returns
returns c =
    all_opened c.args.config c.loop-number.seats.items
    (subst (λ (n : ℕ). AreOpened c.args.config c.loop-number.seats.items n) (omega (arith, c.loop-number-test.false, c.loop-number.auto.number-end, c.count-number-end.ensures)) c.loop-number.invariant)
