use Rattle.std.proofs.Common.{Result, ◌≡◌, ℕ, arith, length, vec_len, List, [], ◌∷◌, ◌++◌, ap, false, Some, Ok, Err, refl, sym, subst, ◌∙◌}
use Rattle.journal.specs.parts.histories.specs.Owning.{OwnEntry}
use Rattle.journal.specs.Journaled.{seats_in, Journaled}
use Rattle.journal.specs.parts.histories.specs.Following as following
use Rattle.seats.specs.declared.fault.SeatFault.TheVariants as fault
use Rattle.seats.specs.State.{RunningSeat}
use Rattle.seats.specs.Entries.{done_step, done_entry, cut_step, cut_entry}
use Rattle.seats.specs.Steps.{IsOpen, IsPreparedFor, TakeGives, OthersAgree}
use Rattle.seats.proofs.Held.{held_sent}
use Rattle.seats.proofs.Joining.{node_at, cut_node}
use Rattle.seats.proofs.Leading.{HasMore, Done, Broken, leaves_done, leaves_cut, others_agree}
use Rattle.seats.proofs.Giving.{take_gives, cut_gives}
use Rattle.seats.proofs.Ready.{ready_done, ready_broken, may_enter_done, may_enter_cut, entered_done, EnteredCut}
use Rattle.seats.proofs.Moving.{open_as, held_as, taken_before, cut_before, others_before}
use Rattle.seats.proofs.Owned.{own_done, own_cut, known_own}
use Rattle.seats.specs.contracts.seat.Seat.{the_view}
use Rattle.std.proofs.lemmas.Result.{err_from_is_err_and}
use Rattle.journal.specs.declared.receipt.Receipt.{Receipt}
use Rattle.seats.specs.declared.fault.SeatFault.{SeatFault}
use Rattle.seats.specs.Steps.{TakeGives}
use Rattle.seats.proofs.Moving.{refused_take}
use Rattle.seats.proofs.seat.Seat.take.Goals as goal

pub returns-in_err-admits-clause-gives : goal.returns-in_err-admits-clause-gives
returns-in_err-admits-clause-gives g c =
    let p = err_from_is_err_and c.from_residual.result c.from_residual.ensures.1 in
    let why = c.in_err-admits.field-0.0 in
    subst (λ (r : Result Receipt SeatFault). TakeGives c.args.self.now c.args.self.now c.args.journal.now c.args.journal.now c.args.prepared r) (sym (p.1 ∙ ap Err p.2))
    (refused_take c.args.self.now c.args.journal.now c.args.prepared why c.in_err-admits.ensures)

pub enter_done-receipt-requires-clause-follows : goal.enter_done-receipt-requires-clause-follows
enter_done-receipt-requires-clause-follows g c =
    let view : RunningSeat g.row.S.Denot = the_view g.row.S g.row.J g.row.M g.S.Stable g.J.Beginning g.J.Naming g.M.Retention c.self.inside in
    let mid : Journaled = c.made_ready.new.journal in
    let may : IsOpen view c.args.journal.now = subst (λ (s : RunningSeat g.row.S.Denot). IsOpen s c.args.journal.now) (sym c.self.view_is) c.in_ok-admits.ensures.0 in
    let open_mid = open_as view c.args.journal.now mid c.made_ready.ensures.journal may in
    let held = held_as c.args.journal.now mid c.args.prepared.input c.made_ready.ensures.journal c.in_ok-admits.ensures.1 in
    let sent = held_sent mid c.args.prepared.input held in
    let prepared : IsPreparedFor view (record { input = c.args.prepared.input; plan = c.args.prepared.plan }) =
    subst (λ (s : RunningSeat g.row.S.Denot). IsPreparedFor s c.args.prepared) (sym c.self.view_is) c.requires in
    let sends = c.in-Ok.copies.sends.items in
    let node = c.take.new.self in
    let done : Done view node c.args.prepared.input sends =
    ready_done view node c.args.prepared.input c.args.prepared.plan sends prepared c.in-Ok-take.ensures.gives (c.in-Ok.ensures.copies.sends_are ∙ c.sends.ensures) in
    let counted : vec_len c.in-Ok.copies.sends ≡ length sends = omega (arith, c.in-Ok.copies.sends.ok.0) in
    may_enter_done view node mid c.args.prepared.input sends c.self.inside.me (vec_len c.in-Ok.copies.sends) c.self.invariant.0 counted open_mid.0.0 sent done

pub enter_done-receipt-requires-clause-entry : goal.enter_done-receipt-requires-clause-entry
enter_done-receipt-requires-clause-entry g c =
    let view : RunningSeat g.row.S.Denot = the_view g.row.S g.row.J g.row.M g.S.Stable g.J.Beginning g.J.Naming g.M.Retention c.self.inside in
    let mid : Journaled = c.made_ready.new.journal in
    let held = held_as c.args.journal.now mid c.args.prepared.input c.made_ready.ensures.journal c.in_ok-admits.ensures.1 in
    let sent = held_sent mid c.args.prepared.input held in
    let prepared : IsPreparedFor view (record { input = c.args.prepared.input; plan = c.args.prepared.plan }) =
    subst (λ (s : RunningSeat g.row.S.Denot). IsPreparedFor s c.args.prepared) (sym c.self.view_is) c.requires in
    let sends = c.in-Ok.copies.sends.items in
    let node = c.take.new.self in
    let done : Done view node c.args.prepared.input sends =
    ready_done view node c.args.prepared.input c.args.prepared.plan sends prepared c.in-Ok-take.ensures.gives (c.in-Ok.ensures.copies.sends_are ∙ c.sends.ensures) in
    let counted : vec_len c.in-Ok.copies.sends ≡ length sends = omega (arith, c.in-Ok.copies.sends.ok.0) in
    own_done view node mid c.args.prepared.input sends c.self.inside.me (vec_len c.in-Ok.copies.sends) counted sent done

pub invariant_of-self-in-Ok-take : goal.invariant_of-self-in-Ok-take
invariant_of-self-in-Ok-take g c =
    let view : RunningSeat g.row.S.Denot = the_view g.row.S g.row.J g.row.M g.S.Stable g.J.Beginning g.J.Naming g.M.Retention c.self.inside in
    let mid : Journaled = c.made_ready.new.journal in
    let may : IsOpen view c.args.journal.now = subst (λ (s : RunningSeat g.row.S.Denot). IsOpen s c.args.journal.now) (sym c.self.view_is) c.in_ok-admits.ensures.0 in
    let open_mid = open_as view c.args.journal.now mid c.made_ready.ensures.journal may in
    let held = held_as c.args.journal.now mid c.args.prepared.input c.made_ready.ensures.journal c.in_ok-admits.ensures.1 in
    let sent = held_sent mid c.args.prepared.input held in
    let prepared : IsPreparedFor view (record { input = c.args.prepared.input; plan = c.args.prepared.plan }) =
    subst (λ (s : RunningSeat g.row.S.Denot). IsPreparedFor s c.args.prepared) (sym c.self.view_is) c.requires in
    let sends = c.in-Ok.copies.sends.items in
    let node = c.take.new.self in
    let done : Done view node c.args.prepared.input sends =
    ready_done view node c.args.prepared.input c.args.prepared.plan sends prepared c.in-Ok-take.ensures.gives (c.in-Ok.ensures.copies.sends_are ∙ c.sends.ensures) in
    let counted : vec_len c.in-Ok.copies.sends ≡ length sends = omega (arith, c.in-Ok.copies.sends.ok.0) in
    let entered = entered_done mid c.enter_done-receipt.new.journal c.args.prepared.input sends c.enter_done-receipt.result c.made_ready.new.own.entries c.enter_done-receipt.new.own.entries c.self.inside.me view.node.me (vec_len c.in-Ok.copies.sends)
    c.self.invariant.0 counted (c.enter_done-receipt.ensures.entry, c.enter_done-receipt.ensures.others, c.enter_done-receipt.ensures.told, c.enter_done-receipt.ensures.own) in
    let new : RunningSeat g.row.S.Denot = record { config = c.self.inside.config; start = seats_in g.J.Beginning.start c.self.inside.me; node = node; own = c.enter_done-receipt.new.own.entries; keeps = c.enter_done-receipt.new.own.keeps; known = c.log.result } in
    let more : HasMore view new node (done_entry view.node.me c.args.prepared.input (length mid.trace.sent) sends) = record {
      config_is = refl;
      start_is = refl;
      node_is = refl;
      own_is = entered.3 ∙ ap (λ (es : List OwnEntry). es ++ done_entry view.node.me c.args.prepared.input (length mid.trace.sent) sends ∷ []) c.made_ready.ensures.own.entries_are;
    } in
    let left = leaves_done view new node mid c.enter_done-receipt.new.journal c.args.prepared.input sends open_mid.0.0 sent done more entered.0 entered.1 in
    let me_is = c.self.invariant.0 ∙ sym done.me_is in (
      me_is,
      (following.IsUp done.plan.after, left.led),
      known_own new c.enter_done-receipt.new.journal (following.IsUp done.plan.after) c.self.inside.me c.log.result left me_is c.log.ensures.logged,
      c.enter_done-receipt.ensures.keeps ∙ (c.made_ready.ensures.own.keeps_is ∙ c.self.invariant.3),
    )

pub returns-in-Ok-take-clause-gives : goal.returns-in-Ok-take-clause-gives
returns-in-Ok-take-clause-gives g c =
    let view : RunningSeat g.row.S.Denot = the_view g.row.S g.row.J g.row.M g.S.Stable g.J.Beginning g.J.Naming g.M.Retention c.self.inside in
    let mid : Journaled = c.made_ready.new.journal in
    let may : IsOpen view c.args.journal.now = subst (λ (s : RunningSeat g.row.S.Denot). IsOpen s c.args.journal.now) (sym c.self.view_is) c.in_ok-admits.ensures.0 in
    let open_mid = open_as view c.args.journal.now mid c.made_ready.ensures.journal may in
    let held = held_as c.args.journal.now mid c.args.prepared.input c.made_ready.ensures.journal c.in_ok-admits.ensures.1 in
    let sent = held_sent mid c.args.prepared.input held in
    let prepared : IsPreparedFor view (record { input = c.args.prepared.input; plan = c.args.prepared.plan }) =
    subst (λ (s : RunningSeat g.row.S.Denot). IsPreparedFor s c.args.prepared) (sym c.self.view_is) c.requires in
    let sends = c.in-Ok.copies.sends.items in
    let node = c.take.new.self in
    let done : Done view node c.args.prepared.input sends =
    ready_done view node c.args.prepared.input c.args.prepared.plan sends prepared c.in-Ok-take.ensures.gives (c.in-Ok.ensures.copies.sends_are ∙ c.sends.ensures) in
    let counted : vec_len c.in-Ok.copies.sends ≡ length sends = omega (arith, c.in-Ok.copies.sends.ok.0) in
    let entered = entered_done mid c.enter_done-receipt.new.journal c.args.prepared.input sends c.enter_done-receipt.result c.made_ready.new.own.entries c.enter_done-receipt.new.own.entries c.self.inside.me view.node.me (vec_len c.in-Ok.copies.sends)
    c.self.invariant.0 counted (c.enter_done-receipt.ensures.entry, c.enter_done-receipt.ensures.others, c.enter_done-receipt.ensures.told, c.enter_done-receipt.ensures.own) in
    let new : RunningSeat g.row.S.Denot = record { config = c.self.inside.config; start = seats_in g.J.Beginning.start c.self.inside.me; node = node; own = c.enter_done-receipt.new.own.entries; keeps = c.enter_done-receipt.new.own.keeps; known = c.log.result } in
    let more : HasMore view new node (done_entry view.node.me c.args.prepared.input (length mid.trace.sent) sends) = record {
      config_is = refl;
      start_is = refl;
      node_is = refl;
      own_is = entered.3 ∙ ap (λ (es : List OwnEntry). es ++ done_entry view.node.me c.args.prepared.input (length mid.trace.sent) sends ∷ []) c.made_ready.ensures.own.entries_are;
    } in
    let given = take_gives view new node mid c.enter_done-receipt.new.journal c.args.prepared sends c.enter_done-receipt.result open_mid held done more entered.0 entered.1 entered.2 c.log.ensures.log in
    subst (λ (s : RunningSeat g.row.S.Denot). TakeGives s new c.args.journal.now c.enter_done-receipt.new.journal c.args.prepared (Ok c.enter_done-receipt.result)) c.self.view_is
    (may, c.in_ok-admits.ensures.1, taken_before view new c.args.journal.now mid c.enter_done-receipt.new.journal c.args.prepared c.enter_done-receipt.result c.made_ready.ensures.journal given.2)

pub returns-in-Ok-take-clause-others : goal.returns-in-Ok-take-clause-others
returns-in-Ok-take-clause-others g c =
    let view : RunningSeat g.row.S.Denot = the_view g.row.S g.row.J g.row.M g.S.Stable g.J.Beginning g.J.Naming g.M.Retention c.self.inside in
    let mid : Journaled = c.made_ready.new.journal in
    let may : IsOpen view c.args.journal.now = subst (λ (s : RunningSeat g.row.S.Denot). IsOpen s c.args.journal.now) (sym c.self.view_is) c.in_ok-admits.ensures.0 in
    let open_mid = open_as view c.args.journal.now mid c.made_ready.ensures.journal may in
    let held = held_as c.args.journal.now mid c.args.prepared.input c.made_ready.ensures.journal c.in_ok-admits.ensures.1 in
    let sent = held_sent mid c.args.prepared.input held in
    let prepared : IsPreparedFor view (record { input = c.args.prepared.input; plan = c.args.prepared.plan }) =
    subst (λ (s : RunningSeat g.row.S.Denot). IsPreparedFor s c.args.prepared) (sym c.self.view_is) c.requires in
    let sends = c.in-Ok.copies.sends.items in
    let node = c.take.new.self in
    let done : Done view node c.args.prepared.input sends =
    ready_done view node c.args.prepared.input c.args.prepared.plan sends prepared c.in-Ok-take.ensures.gives (c.in-Ok.ensures.copies.sends_are ∙ c.sends.ensures) in
    let counted : vec_len c.in-Ok.copies.sends ≡ length sends = omega (arith, c.in-Ok.copies.sends.ok.0) in
    let entered = entered_done mid c.enter_done-receipt.new.journal c.args.prepared.input sends c.enter_done-receipt.result c.made_ready.new.own.entries c.enter_done-receipt.new.own.entries c.self.inside.me view.node.me (vec_len c.in-Ok.copies.sends)
    c.self.invariant.0 counted (c.enter_done-receipt.ensures.entry, c.enter_done-receipt.ensures.others, c.enter_done-receipt.ensures.told, c.enter_done-receipt.ensures.own) in
    let new : RunningSeat g.row.S.Denot = record { config = c.self.inside.config; start = seats_in g.J.Beginning.start c.self.inside.me; node = node; own = c.enter_done-receipt.new.own.entries; keeps = c.enter_done-receipt.new.own.keeps; known = c.log.result } in
    let more : HasMore view new node (done_entry view.node.me c.args.prepared.input (length mid.trace.sent) sends) = record {
      config_is = refl;
      start_is = refl;
      node_is = refl;
      own_is = entered.3 ∙ ap (λ (es : List OwnEntry). es ++ done_entry view.node.me c.args.prepared.input (length mid.trace.sent) sends ∷ []) c.made_ready.ensures.own.entries_are;
    } in
    subst (λ (s : RunningSeat g.row.S.Denot). OthersAgree s.node.me c.args.journal.now c.enter_done-receipt.new.journal) c.self.view_is
    (others_before c.args.journal.now mid c.enter_done-receipt.new.journal view.node.me c.made_ready.ensures.journal
    (others_agree mid c.enter_done-receipt.new.journal view.node.me (done_step view.node.me c.args.prepared.input (length mid.trace.sent) (length sends)) sends false
    (node_at view.node.me c.args.prepared.input) entered.1 entered.0))

pub enter_cut-requires-clause-follows : goal.enter_cut-requires-clause-follows
enter_cut-requires-clause-follows g c =
    let view : RunningSeat g.row.S.Denot = the_view g.row.S g.row.J g.row.M g.S.Stable g.J.Beginning g.J.Naming g.M.Retention c.self.inside in
    let mid : Journaled = c.made_ready.new.journal in
    let may : IsOpen view c.args.journal.now = subst (λ (s : RunningSeat g.row.S.Denot). IsOpen s c.args.journal.now) (sym c.self.view_is) c.in_ok-admits.ensures.0 in
    let open_mid = open_as view c.args.journal.now mid c.made_ready.ensures.journal may in
    let held = held_as c.args.journal.now mid c.args.prepared.input c.made_ready.ensures.journal c.in_ok-admits.ensures.1 in
    let sent = held_sent mid c.args.prepared.input held in
    let prepared : IsPreparedFor view (record { input = c.args.prepared.input; plan = c.args.prepared.plan }) =
    subst (λ (s : RunningSeat g.row.S.Denot). IsPreparedFor s c.args.prepared) (sym c.self.view_is) c.requires in
    let node = c.take.new.self in
    let broken : Broken view node c.args.prepared.input = ready_broken view node c.args.prepared.input c.args.prepared.plan prepared c.in-Err-take.ensures.gives in
    may_enter_cut view node mid c.args.prepared.input c.self.inside.me c.self.invariant.0 open_mid.0.0 sent broken

pub enter_cut-requires-clause-entry : goal.enter_cut-requires-clause-entry
enter_cut-requires-clause-entry g c =
    let mid : Journaled = c.made_ready.new.journal in
    let held = held_as c.args.journal.now mid c.args.prepared.input c.made_ready.ensures.journal c.in_ok-admits.ensures.1 in
    let sent = held_sent mid c.args.prepared.input held in
    own_cut mid c.self.inside.me c.args.prepared.input sent

pub invariant_of-self-in-Err-take : goal.invariant_of-self-in-Err-take
invariant_of-self-in-Err-take g c =
    let view : RunningSeat g.row.S.Denot = the_view g.row.S g.row.J g.row.M g.S.Stable g.J.Beginning g.J.Naming g.M.Retention c.self.inside in
    let mid : Journaled = c.made_ready.new.journal in
    let may : IsOpen view c.args.journal.now = subst (λ (s : RunningSeat g.row.S.Denot). IsOpen s c.args.journal.now) (sym c.self.view_is) c.in_ok-admits.ensures.0 in
    let open_mid = open_as view c.args.journal.now mid c.made_ready.ensures.journal may in
    let held = held_as c.args.journal.now mid c.args.prepared.input c.made_ready.ensures.journal c.in_ok-admits.ensures.1 in
    let sent = held_sent mid c.args.prepared.input held in
    let prepared : IsPreparedFor view (record { input = c.args.prepared.input; plan = c.args.prepared.plan }) =
    subst (λ (s : RunningSeat g.row.S.Denot). IsPreparedFor s c.args.prepared) (sym c.self.view_is) c.requires in
    let node = c.take.new.self in
    let broken : Broken view node c.args.prepared.input = ready_broken view node c.args.prepared.input c.args.prepared.plan prepared c.in-Err-take.ensures.gives in
    let entered : EnteredCut mid c.enter_cut.new.journal c.args.prepared.input c.made_ready.new.own.entries c.enter_cut.new.own.entries view.node.me =
    subst (λ (m : ℕ). EnteredCut mid c.enter_cut.new.journal c.args.prepared.input c.made_ready.new.own.entries c.enter_cut.new.own.entries m) c.self.invariant.0 c.enter_cut.ensures.entered in
    let cut = entered.0 in
    let new : RunningSeat g.row.S.Denot = record { config = c.self.inside.config; start = seats_in g.J.Beginning.start c.self.inside.me; node = node; own = c.enter_cut.new.own.entries; keeps = c.enter_cut.new.own.keeps; known = c.log-in-Err-take.result } in
    let more : HasMore view new node (cut_entry cut c.args.prepared.input) = record {
      config_is = refl;
      start_is = refl;
      node_is = refl;
      own_is = entered.2 ∙ ap (λ (es : List OwnEntry). es ++ cut_entry cut c.args.prepared.input ∷ []) c.made_ready.ensures.own.entries_are;
    } in
    let left = leaves_cut view new node mid c.enter_cut.new.journal c.args.prepared.input cut open_mid.0.0 sent entered.1 broken more entered.3 entered.4 in
    let me_is = c.self.invariant.0 ∙ sym broken.me_is in
    let stood = following.IsDown broken.views.records (Some broken.last) in (
      me_is,
      (stood, left.led),
      known_own new c.enter_cut.new.journal stood c.self.inside.me c.log-in-Err-take.result left me_is c.log-in-Err-take.ensures.logged,
      c.enter_cut.ensures.keeps ∙ (c.made_ready.ensures.own.keeps_is ∙ c.self.invariant.3),
    )

pub returns-in-Err-take-clause-gives : goal.returns-in-Err-take-clause-gives
returns-in-Err-take-clause-gives g c =
    let view : RunningSeat g.row.S.Denot = the_view g.row.S g.row.J g.row.M g.S.Stable g.J.Beginning g.J.Naming g.M.Retention c.self.inside in
    let mid : Journaled = c.made_ready.new.journal in
    let may : IsOpen view c.args.journal.now = subst (λ (s : RunningSeat g.row.S.Denot). IsOpen s c.args.journal.now) (sym c.self.view_is) c.in_ok-admits.ensures.0 in
    let open_mid = open_as view c.args.journal.now mid c.made_ready.ensures.journal may in
    let held = held_as c.args.journal.now mid c.args.prepared.input c.made_ready.ensures.journal c.in_ok-admits.ensures.1 in
    let sent = held_sent mid c.args.prepared.input held in
    let prepared : IsPreparedFor view (record { input = c.args.prepared.input; plan = c.args.prepared.plan }) =
    subst (λ (s : RunningSeat g.row.S.Denot). IsPreparedFor s c.args.prepared) (sym c.self.view_is) c.requires in
    let node = c.take.new.self in
    let broken : Broken view node c.args.prepared.input = ready_broken view node c.args.prepared.input c.args.prepared.plan prepared c.in-Err-take.ensures.gives in
    let entered : EnteredCut mid c.enter_cut.new.journal c.args.prepared.input c.made_ready.new.own.entries c.enter_cut.new.own.entries view.node.me =
    subst (λ (m : ℕ). EnteredCut mid c.enter_cut.new.journal c.args.prepared.input c.made_ready.new.own.entries c.enter_cut.new.own.entries m) c.self.invariant.0 c.enter_cut.ensures.entered in
    let cut = entered.0 in
    let new : RunningSeat g.row.S.Denot = record { config = c.self.inside.config; start = seats_in g.J.Beginning.start c.self.inside.me; node = node; own = c.enter_cut.new.own.entries; keeps = c.enter_cut.new.own.keeps; known = c.log-in-Err-take.result } in
    let more : HasMore view new node (cut_entry cut c.args.prepared.input) = record {
      config_is = refl;
      start_is = refl;
      node_is = refl;
      own_is = entered.2 ∙ ap (λ (es : List OwnEntry). es ++ cut_entry cut c.args.prepared.input ∷ []) c.made_ready.ensures.own.entries_are;
    } in
    let given = cut_gives view new node mid c.enter_cut.new.journal c.args.prepared cut c.in-Err-take.fault open_mid held entered.1 broken more entered.3 entered.4 c.log-in-Err-take.ensures.log in
    subst (λ (s : RunningSeat g.row.S.Denot). TakeGives s new c.args.journal.now c.enter_cut.new.journal c.args.prepared (Err (fault.Store c.in-Err-take.fault))) c.self.view_is
    (may, c.in_ok-admits.ensures.1, cut_before view new c.args.journal.now mid c.enter_cut.new.journal c.args.prepared c.made_ready.ensures.journal given.2)

pub returns-in-Err-take-clause-others : goal.returns-in-Err-take-clause-others
returns-in-Err-take-clause-others g c =
    let view : RunningSeat g.row.S.Denot = the_view g.row.S g.row.J g.row.M g.S.Stable g.J.Beginning g.J.Naming g.M.Retention c.self.inside in
    let mid : Journaled = c.made_ready.new.journal in
    let may : IsOpen view c.args.journal.now = subst (λ (s : RunningSeat g.row.S.Denot). IsOpen s c.args.journal.now) (sym c.self.view_is) c.in_ok-admits.ensures.0 in
    let open_mid = open_as view c.args.journal.now mid c.made_ready.ensures.journal may in
    let held = held_as c.args.journal.now mid c.args.prepared.input c.made_ready.ensures.journal c.in_ok-admits.ensures.1 in
    let sent = held_sent mid c.args.prepared.input held in
    let prepared : IsPreparedFor view (record { input = c.args.prepared.input; plan = c.args.prepared.plan }) =
    subst (λ (s : RunningSeat g.row.S.Denot). IsPreparedFor s c.args.prepared) (sym c.self.view_is) c.requires in
    let node = c.take.new.self in
    let broken : Broken view node c.args.prepared.input = ready_broken view node c.args.prepared.input c.args.prepared.plan prepared c.in-Err-take.ensures.gives in
    let entered : EnteredCut mid c.enter_cut.new.journal c.args.prepared.input c.made_ready.new.own.entries c.enter_cut.new.own.entries view.node.me =
    subst (λ (m : ℕ). EnteredCut mid c.enter_cut.new.journal c.args.prepared.input c.made_ready.new.own.entries c.enter_cut.new.own.entries m) c.self.invariant.0 c.enter_cut.ensures.entered in
    let cut = entered.0 in
    let new : RunningSeat g.row.S.Denot = record { config = c.self.inside.config; start = seats_in g.J.Beginning.start c.self.inside.me; node = node; own = c.enter_cut.new.own.entries; keeps = c.enter_cut.new.own.keeps; known = c.log-in-Err-take.result } in
    let more : HasMore view new node (cut_entry cut c.args.prepared.input) = record {
      config_is = refl;
      start_is = refl;
      node_is = refl;
      own_is = entered.2 ∙ ap (λ (es : List OwnEntry). es ++ cut_entry cut c.args.prepared.input ∷ []) c.made_ready.ensures.own.entries_are;
    } in
    subst (λ (s : RunningSeat g.row.S.Denot). OthersAgree s.node.me c.args.journal.now c.enter_cut.new.journal) c.self.view_is
    (others_before c.args.journal.now mid c.enter_cut.new.journal view.node.me c.made_ready.ensures.journal
    (others_agree mid c.enter_cut.new.journal view.node.me (cut_step cut) [] false (cut_node view.node.me c.args.prepared.input cut entered.1) entered.4 entered.3))
