use Rattle.std.proofs.Common.{ℕ, List, [], ◌∷◌, ◌++◌, refl, sym, ap, subst, ◌∙◌}
use Rattle.journal.specs.parts.histories.specs.Following.{IsUp, recovered_in}
use Rattle.journal.specs.parts.agreement_rules.specs.Views.{started_with}
use Rattle.journal.specs.parts.histories.specs.Owning.{OwnEntry}
use Rattle.journal.specs.Journaled.{seats_in, Journaled, MayEnter}
use Rattle.seats.specs.Entries.{restart_step, restart_entry}
use Rattle.seats.specs.State.{RunningSeat}
use Rattle.seats.specs.Steps.{IsOpen}
use Rattle.seats.proofs.Joining.{next_restart}
use Rattle.seats.proofs.Leading.{HasMore, leaves_restart, member_in, led_in}
use Rattle.seats.proofs.Ready.{EnteredRestart}
use Rattle.seats.proofs.Moving.{open_as}
use Rattle.seats.proofs.Owned.{known_own}
use Rattle.seats.specs.contracts.seat.Seat.{the_view}
use Rattle.seats.proofs.seat.Seat.restart.Goals as goal

pub enter_restart-receipt-requires-clause-follows : goal.enter_restart-receipt-requires-clause-follows
enter_restart-receipt-requires-clause-follows g c =
    let view : RunningSeat g.row.S.Denot = the_view g.row.S g.row.J g.row.M g.S.Stable g.J.Beginning g.J.Naming g.M.Retention c.self.inside in
    let mid : Journaled = c.make_room.new.journal in
    let may : IsOpen view c.args.journal.now = subst (λ (s : RunningSeat g.row.S.Denot). IsOpen s c.args.journal.now) (sym c.self.view_is) c.in_ok-is_open.ensures in
    let open_mid = open_as view c.args.journal.now mid c.make_room.ensures.journal may in
    let led = c.self.invariant.1 in
    subst (λ (m : ℕ). MayEnter mid (restart_step m) [] c.in-Ok.recovered) (sym c.self.invariant.0) (
      led.0,
      IsUp (started_with (recovered_in c.in-Ok.recovered led.0)),
      next_restart mid view.node.me led.0 c.in-Ok.recovered (member_in view mid led.0 led.1 open_mid.0.0) (led_in view mid led.0 led.1 open_mid.0.0),
    )

pub invariant_of-self-2 : goal.invariant_of-self-2
invariant_of-self-2 g c =
    let view : RunningSeat g.row.S.Denot = the_view g.row.S g.row.J g.row.M g.S.Stable g.J.Beginning g.J.Naming g.M.Retention c.self.inside in
    let mid : Journaled = c.make_room.new.journal in
    let may : IsOpen view c.args.journal.now = subst (λ (s : RunningSeat g.row.S.Denot). IsOpen s c.args.journal.now) (sym c.self.view_is) c.in_ok-is_open.ensures in
    let open_mid = open_as view c.args.journal.now mid c.make_room.ensures.journal may in
    let led = c.self.invariant.1 in
    let was = c.in-Ok.recovered in
    let node = c.recover.new.self in
    let gives = c.in-Ok.ensures.gives in
    let entered : EnteredRestart mid c.enter_restart-receipt.new.journal was c.enter_restart-receipt.result c.make_room.new.own.entries c.enter_restart-receipt.new.own.entries view.node.me =
    subst (λ (m : ℕ). EnteredRestart mid c.enter_restart-receipt.new.journal was c.enter_restart-receipt.result c.make_room.new.own.entries c.enter_restart-receipt.new.own.entries m) c.self.invariant.0
    (c.enter_restart-receipt.ensures.entry, c.enter_restart-receipt.ensures.others, c.enter_restart-receipt.ensures.told, c.enter_restart-receipt.ensures.own) in
    let new : RunningSeat g.row.S.Denot = record { config = c.self.inside.config; start = seats_in g.J.Beginning.start c.self.inside.me; node = node; own = c.enter_restart-receipt.new.own.entries; keeps = c.enter_restart-receipt.new.own.keeps; known = c.log.result } in
    let more : HasMore view new node (restart_entry view.node.me was) = record {
      config_is = refl;
      start_is = refl;
      node_is = refl;
      own_is = entered.3 ∙ ap (λ (es : List OwnEntry). es ++ restart_entry view.node.me was ∷ []) c.make_room.ensures.own.entries_are;
    } in
    let left = leaves_restart view new node mid c.enter_restart-receipt.new.journal was led.0 open_mid.0.0 led.1 gives.stands gives.none_in_doubt gives.placed gives.me_is gives.config_is more entered.0 entered.1 in
    let me_is = c.self.invariant.0 ∙ sym gives.me_is in
    let stood = IsUp (started_with (recovered_in was led.0)) in (
      me_is,
      (stood, left.led),
      known_own new c.enter_restart-receipt.new.journal stood c.self.inside.me c.log.result left me_is c.log.ensures.logged,
      c.enter_restart-receipt.ensures.keeps ∙ (c.make_room.ensures.own.keeps_is ∙ c.self.invariant.3),
    )
