-- What a node does, as a step of the journal that it agrees with.
use Rattle.std.proofs.Common.{◌≡◌, ◌≢◌, inl, inr, ℕ, zero, suc, ◌<◌, ◌&&◌, not, Bool, true, false, if◌then◌else◌, arith, Option, None, Some, List, [], ◌∷◌, ◌++◌, length, take, drop, slice_get, refl, sym, ap, subst, ◌∙◌}
use Rattle.std.proofs.lemmas.Bool.{eq-eqb, ne_eqb}
use Rattle.std.proofs.lemmas.List.{append-nil, take_all}
use Rattle.std.proofs.lemmas.Option.{slice_get_within}
use Rattle.std.proofs.Math.Seq.{drop-append_seam}
use Rattle.journal.specs.parts.ballots.specs.declared.message.Message.{Message}
use Rattle.journal.specs.parts.ballots.specs.declared.record.Record.{Record}
use Rattle.journal.specs.parts.agreement_rules.specs.Views.{AgreementConfig, Views, started_with}
use Rattle.journal.specs.parts.agreement_rules.specs.Due.{Plan, Plans}
use Rattle.journal.specs.parts.histories.specs.Event.{node_of}
use Rattle.journal.specs.parts.histories.specs.EventResult.{count_of}
use Rattle.journal.specs.parts.histories.specs.Due.{IsDue, InputKeeps}
use Rattle.journal.specs.parts.histories.specs.Due as owed
use Rattle.journal.specs.parts.histories.specs.Following.{UpOrDown, IsUp, IsDown, NodeGives, IsAsked, recovered_in}
use Rattle.journal.specs.parts.histories.specs.Owning.{OwnEntry, concerns, is_query, entry_of, entries_of, OwnReaches}
use Rattle.journal.specs.parts.node_events.specs.declared.event.Event.{Event}
use Rattle.journal.specs.parts.node_events.specs.declared.event.Event.TheVariants as event
use Rattle.journal.specs.parts.node_events.specs.Told.{event_of, result_of}
use Rattle.journal.specs.parts.traces.specs.declared.step.Step.{Step}
use Rattle.journal.specs.parts.traces.specs.Told.{config_of, step_of}
use Rattle.journal.specs.Journaled.{seats_in, Journaled, IsNext, EntersOwn, own_in}
use Rattle.seats.specs.declared.input.SeatInput.{SeatInput}
use Rattle.seats.specs.declared.input.SeatInput.TheVariants.{Put, Tick, Deliver}
use Rattle.seats.specs.Inputs.{input_of, event_at, IsCutAt, IsSentIn}
use Rattle.seats.specs.Entries.{done_step, done_entry, cut_step, cut_entry, restart_step}

-- ---- a step of a node

-- what the node gives, as a step that is next
pub next_at : (journal : Journaled) (me : ℕ) (step : Step) (more : List Message) (was : Bool) (old new : UpOrDown) → node_of (event_of step.event) ≡ me → me < journal.trace.config.members
    → OwnReaches (config_of journal.trace.config) (seats_in journal.start me) (own_in me journal) old
    → NodeGives (config_of journal.trace.config) (journal.trace.sent ++ more) (length journal.trace.sent) was old (event_of step.event) (result_of step.result) new
    → IsAsked (event_of step.event) was → length more ≡ count_of (result_of step.result) → IsNext journal step more was old new
next_at journal me step more was old new is member led gives asked counted = record {
  member = subst (λ (m : ℕ). m < journal.trace.config.members) (sym is) member;
  led = subst (λ (m : ℕ). OwnReaches (config_of journal.trace.config) (seats_in journal.start m) (own_in m journal) old) (sym is) led;
  gives = gives;
  asked = asked;
  counted = counted;
}

-- ---- its own entries

-- the event is one of the node that may change it
pub concerning : (me : ℕ) (here query : Bool) → here ≡ true → query ≡ false → (here && not query) ≡ true
concerning me here query is none = ap (λ (b : Bool). b && not query) is ∙ ap (λ (b : Bool). not b) none

pub mine_grow : (before after : Journaled) (me : ℕ) (step : Step) (more : List Message) (was : Bool) (own : List OwnEntry) (entry : OwnEntry) → EntersOwn before step more was after
    → me < before.trace.config.members → own_in me before ≡ own → concerns me (event_of step.event) ≡ true → entry_of after.trace.sent (step_of step) was ≡ entry
    → own_in me after ≡ own ++ entry ∷ []
mine_grow before after me step more was own entry enters member is mine one =
    enters.grows me member
    ∙ (ap (λ (es : List OwnEntry). es ++ entries_of me after.trace.sent (step_of step) was) is
    ∙ ap (λ (es : List OwnEntry). own ++ es)
    (ap (λ (b : Bool). if b then entry_of after.trace.sent (step_of step) was ∷ [] else []) mine ∙ ap (λ (e : OwnEntry). e ∷ []) one))

pub mine_stay : (before after : Journaled) (me : ℕ) (step : Step) (more : List Message) (was : Bool) (own : List OwnEntry) → EntersOwn before step more was after
    → me < before.trace.config.members → own_in me before ≡ own → concerns me (event_of step.event) ≡ false → own_in me after ≡ own
mine_stay before after me step more was own enters member is none =
    enters.grows me member
    ∙ (ap (λ (es : List OwnEntry). es ++ entries_of me after.trace.sent (step_of step) was) is
    ∙ (ap (λ (b : Bool). own ++ (if b then entry_of after.trace.sent (step_of step) was ∷ [] else [])) none ∙ append-nil own))

pub others_stay : (before after : Journaled) (me other : ℕ) (step : Step) (more : List Message) (was : Bool) (own : List OwnEntry) → EntersOwn before step more was after
    → node_of (event_of step.event) ≡ me → other ≢ me → other < before.trace.config.members → own_in other before ≡ own → own_in other after ≡ own
others_stay before after me other step more was own enters of differs member is =
    mine_stay before after other step more was own enters member is
    (ap (λ (b : Bool). b && not (is_query (event_of step.event))) (ne_eqb (node_of (event_of step.event)) other (λ same. differs (sym same ∙ of))))

-- ---- an input that is done

pub node_at : (me : ℕ) (input : SeatInput) → node_of (event_of (event_at me input)) ≡ me
node_at me (Put upload) = refl
node_at me (Tick left) = refl
node_at me (Deliver number message) = refl

pub concerns_done : (me : ℕ) (input : SeatInput) → concerns me (event_of (event_at me input)) ≡ true
concerns_done me (Put upload) = ap (λ (b : Bool). b && true) (eq-eqb me me refl)
concerns_done me (Tick left) = ap (λ (b : Bool). b && true) (eq-eqb me me refl)
concerns_done me (Deliver number message) = ap (λ (b : Bool). b && true) (eq-eqb me me refl)

next_sent : (before sends : List Message) → take (length sends) (drop (length before) (before ++ sends)) ≡ sends
next_sent before sends =
    subst (λ (ms : List Message). take (length sends) ms ≡ sends) (sym (drop-append_seam before sends)) (take_all (length sends) sends (omega arith))

-- a put sends nothing
none_of : (plan made : Plan) → plan ≡ made → made.sends ≡ [] → plan.sends ≡ []
none_of plan made is none = subst (λ (p : Plan). p.sends ≡ []) (sym is) none

pub put_sends_none : (config : AgreementConfig) (me : ℕ) (views : Views) (text : List ℕ) (plan : Plan) → IsDue config me views (owed.Put text) (Plans plan) → plan.sends ≡ []
put_sends_none config me views text plan (inl due) = none_of plan _ due.1 refl
put_sends_none config me views text plan (inr due) = none_of plan _ due.3 refl

none_is_some : (message : Message) → None ≡ Some message → ⊥
none_is_some message is = cc

-- a message that was sent is still the one of its number
still_sent : (sent more : List Message) (number : ℕ) (message : Message) → slice_get sent number ≡ Some message → slice_get (sent ++ more) number ≡ Some message
still_sent [] more number message is = absurd (none_is_some message is)
still_sent (first ∷ sent) more zero message is = is
still_sent (first ∷ sent) more (suc number) message is = still_sent sent more number message is

-- the step that an input makes, of a node whose own entries leave it up with these views
pub next_done : (journal : Journaled) (me : ℕ) (input : SeatInput) (views : Views) (plan : Plan) → me < journal.trace.config.members
    → OwnReaches (config_of journal.trace.config) (seats_in journal.start me) (own_in me journal) (IsUp views)
    → IsDue (config_of journal.trace.config) me views (input_of input) (Plans plan) → IsSentIn journal.trace.sent input
    → IsNext journal (done_step me input (length journal.trace.sent) (length plan.sends)) plan.sends false (IsUp views) (IsUp plan.after)
next_done journal me (Put upload) views plan member led due sent =
    next_at journal me (done_step me (Put upload) (length journal.trace.sent) (length plan.sends)) plan.sends false (IsUp views) (IsUp plan.after) refl member led
    (inl (Plans plan, due, (refl, refl))) refl
    (ap (λ (ms : List Message). length ms) (put_sends_none (config_of journal.trace.config) me views upload plan due))
next_done journal me (Tick left) views plan member led due sent =
    next_at journal me (done_step me (Tick left) (length journal.trace.sent) (length plan.sends)) plan.sends false (IsUp views) (IsUp plan.after) refl member led
    (inl (Plans plan, due, (refl, next_sent journal.trace.sent plan.sends, refl))) refl refl
next_done journal me (Deliver number message) views plan member led due sent =
    next_at journal me (done_step me (Deliver number message) (length journal.trace.sent) (length plan.sends)) plan.sends false (IsUp views) (IsUp plan.after) refl member led
    (inl (
      message,
      slice_get_within journal.trace.sent number message sent,
      still_sent journal.trace.sent plan.sends number message sent,
      inl (Plans plan, due, (refl, next_sent journal.trace.sent plan.sends, refl)),
    )) refl refl

-- its entry is the node's own one
pub done_is_own : (sent : List Message) (me : ℕ) (input : SeatInput) (sends : List Message) → ((text : List ℕ) → input ≡ Put text → sends ≡ []) → IsSentIn sent input
    → entry_of (sent ++ sends) (step_of (done_step me input (length sent) (length sends))) false ≡ done_entry me input (length sent) sends
done_is_own sent me (Put upload) sends none is =
    ap (λ (ms : List Message). record { step = step_of (done_step me (Put upload) (length sent) (length sends)); recovered = false; handed = None; sends = ms }) (sym (none upload refl))
done_is_own sent me (Tick left) sends none is =
    ap (λ (ms : List Message). record { step = step_of (done_step me (Tick left) (length sent) (length sends)); recovered = false; handed = None; sends = ms }) (next_sent sent sends)
done_is_own sent me (Deliver number message) sends none is =
    ap (λ (ms : List Message). record { step = step_of (done_step me (Deliver number message) (length sent) (length sends)); recovered = false; handed = slice_get (sent ++ sends) number; sends = ms }) (next_sent sent sends)
    ∙ ap (λ (h : Option Message). record { step = step_of (done_step me (Deliver number message) (length sent) (length sends)); recovered = false; handed = h; sends = sends }) (still_sent sent sends number message is)

-- ---- a node that goes down in the midst

pub cut_node : (me : ℕ) (input : SeatInput) (cut : Event) → IsCutAt me input cut → node_of (event_of cut) ≡ me
cut_node me (Put upload) cut is = absurd is
cut_node me (Tick left) cut is = ap (λ (e : Event). node_of (event_of e)) is
cut_node me (Deliver number message) cut is = ap (λ (e : Event). node_of (event_of e)) is

pub concerns_cut : (me : ℕ) (input : SeatInput) (cut : Event) → IsCutAt me input cut → concerns me (event_of cut) ≡ true
concerns_cut me (Put upload) cut is = absurd is
concerns_cut me (Tick left) cut is = ap (λ (e : Event). concerns me (event_of e)) is ∙ ap (λ (b : Bool). b && true) (eq-eqb me me refl)
concerns_cut me (Deliver number message) cut is = ap (λ (e : Event). concerns me (event_of e)) is ∙ ap (λ (b : Bool). b && true) (eq-eqb me me refl)

-- there is a cut of an input for which a record is due
some_none : (last : Record) → Some last ≡ None → ⊥
some_none last is = cc

pub cut_there : (config : AgreementConfig) (me : ℕ) (views : Views) (input : SeatInput) (last : Record) → InputKeeps config me views (input_of input) (Some last) → (cut : Event) × IsCutAt me input cut
cut_there config me views (Put upload) last keeps = absurd (some_none last keeps)
cut_there config me views (Tick left) last keeps = (event.TickCut me left, refl)
cut_there config me views (Deliver number message) last keeps = (event.DeliverCut me number, refl)

pub next_cut : (journal : Journaled) (me : ℕ) (input : SeatInput) (cut : Event) (views : Views) (last : Record) → IsCutAt me input cut → me < journal.trace.config.members
    → OwnReaches (config_of journal.trace.config) (seats_in journal.start me) (own_in me journal) (IsUp views)
    → InputKeeps (config_of journal.trace.config) me views (input_of input) (Some last) → IsSentIn journal.trace.sent input
    → IsNext journal (cut_step cut) [] false (IsUp views) (IsDown views.records (Some last))
next_cut journal me (Put upload) cut views last is member led keeps sent = absurd is
next_cut journal me (Tick left) cut views last is member led keeps sent =
    subst (λ (e : Event). IsNext journal (cut_step e) [] false (IsUp views) (IsDown views.records (Some last))) (sym is)
    (next_at journal me (cut_step (event.TickCut me left)) [] false (IsUp views) (IsDown views.records (Some last)) refl member led
    (refl, (Some last, keeps, refl)) refl refl)
next_cut journal me (Deliver number message) cut views last is member led keeps sent =
    subst (λ (e : Event). IsNext journal (cut_step e) [] false (IsUp views) (IsDown views.records (Some last))) (sym is)
    (next_at journal me (cut_step (event.DeliverCut me number)) [] false (IsUp views) (IsDown views.records (Some last)) refl member led
    (inl (
      message,
      slice_get_within journal.trace.sent number message sent,
      still_sent journal.trace.sent [] number message sent,
      (refl, (Some last, keeps, refl)),
    )) refl refl)

pub cut_is_own : (sent : List Message) (me : ℕ) (input : SeatInput) (cut : Event) → IsCutAt me input cut → IsSentIn sent input
    → entry_of (sent ++ []) (step_of (cut_step cut)) false ≡ cut_entry cut input
cut_is_own sent me (Put upload) cut is there = absurd is
cut_is_own sent me (Tick left) cut is there =
    subst (λ (e : Event). entry_of (sent ++ []) (step_of (cut_step e)) false ≡ cut_entry e (Tick left)) (sym is) refl
cut_is_own sent me (Deliver number message) cut is there =
    subst (λ (e : Event). entry_of (sent ++ []) (step_of (cut_step e)) false ≡ cut_entry e (Deliver number message)) (sym is)
    (ap (λ (h : Option Message). record { step = step_of (cut_step (event.DeliverCut me number)); recovered = false; handed = h; sends = [] }) (still_sent sent [] number message there))

-- ---- a restart

pub concerns_restart : (me : ℕ) → concerns me (event_of (event.Restart me)) ≡ true
concerns_restart me = ap (λ (b : Bool). b && true) (eq-eqb me me refl)

pub next_restart : (journal : Journaled) (me : ℕ) (stood : UpOrDown) (was : Bool) → me < journal.trace.config.members
    → OwnReaches (config_of journal.trace.config) (seats_in journal.start me) (own_in me journal) stood
    → IsNext journal (restart_step me) [] was stood (IsUp (started_with (recovered_in was stood)))
next_restart journal me (IsUp views) was member led =
    next_at journal me (restart_step me) [] was (IsUp views) (IsUp (started_with (recovered_in was (IsUp views)))) refl member led (inl (refl, refl)) tt refl
next_restart journal me (IsDown records due) was member led =
    next_at journal me (restart_step me) [] was (IsDown records due) (IsUp (started_with (recovered_in was (IsDown records due)))) refl member led (inl (refl, refl)) tt refl
