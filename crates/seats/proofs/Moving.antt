-- A journal with more room tells the same, so that what is entered in it is entered in the one before; and calls that change
-- nothing.
use Rattle.std.proofs.Common.{◌≡◌, inl, inr, ℕ, ◌≤◌, Bool, IsTrue, false, Option, Some, IsSome, Err, List, [], ◌∷◌, ◌++◌, length, refl, sym, ap, subst, ◌∙◌}
use Rattle.journal.specs.parts.ballots.specs.declared.message.Message.{Message}
use Rattle.journal.specs.parts.node_events.specs.declared.event.Event.{Event}
use Rattle.journal.specs.parts.node_events.specs.declared.event_result.EventResult.{EventResult}
use Rattle.stored_nodes.specs.declared.fault.StoredNodeFault.{StoredNodeFault as NodeFault}
use Rattle.stored_nodes.specs.declared.fault.StoredNodeFault.TheVariants as recover
use Rattle.stored_nodes.specs.Kept.{CountsRecall}
use Rattle.journal.specs.parts.traces.specs.declared.step.Step.{Step}
use Rattle.journal.specs.parts.traces.specs.declared.config.Config.{Config}
use Rattle.journal.specs.declared.receipt.Receipt.{Receipt}
use Rattle.journal.specs.parts.histories.specs.Owning.{OwnEntry}
use Rattle.journal.specs.Recalled.{held_at}
use Rattle.journal.specs.Journaled.{Journaled, HasEntry, TellsSame}
use Rattle.seats.specs.declared.fault.SeatFault.{SeatFault}
use Rattle.seats.specs.declared.fault.SeatFault.TheVariants as fault
use Rattle.seats.specs.declared.input.SeatInput.{SeatInput}
use Rattle.seats.specs.declared.input.Prepared.{Prepared}
use Rattle.seats.specs.declared.query.Found.{Found}
use Rattle.seats.specs.declared.input.SeatInput.TheVariants.{Put, Tick, Deliver}
use Rattle.seats.specs.Inputs.{event_at, given_for, IsHeldIn}
use Rattle.seats.specs.State.{RunningSeat, CanTell}
use Rattle.seats.specs.Steps.{StandsSame, IsOpen, OpensFor, Admits, OthersAgree, TellsEntry, IsTaken, IsCut, IsRestarted, IsFaultOf, TakeGives, ServeGives, RestartGives, Counts}
use Rattle.seats.proofs.Leading.{still_agrees}

-- ---- a journal that tells the same

pub same_journal : (journal : Journaled) → TellsSame journal journal
same_journal journal = record { start_is = refl; trace = record { config_is = refl; sent_is = refl; steps_are = refl }; recovered_is = refl; whole_is = refl; forgotten_is = refl; log_is = refl; outrun_is = refl }

tell_as : {S : Type 0} (seat : RunningSeat S) (before mid : Journaled) → TellsSame before mid → CanTell seat before → CanTell seat mid
tell_as seat before mid same (inl both) = inl (both.0, subst (λ (b : Bool). IsTrue b) (sym same.whole_is) both.1)
tell_as seat before mid same (inr both) = inr (both.0, subst (λ (log : Option (List OwnEntry)). IsSome log) (sym same.log_is) both.1)

pub open_as : {S : Type 0} (seat : RunningSeat S) (before mid : Journaled) → TellsSame before mid → IsOpen seat before → IsOpen seat mid
open_as seat before mid same may = (
  (still_agrees seat.config seat.node.me seat.start seat.own before mid same may.0.0, tell_as seat before mid same may.0.1),
  λ full.
      may.1 (
        subst (λ (b : Bool). IsTrue b) same.whole_is full.0,
        subst (λ (c : Config). c.journal_limit ≤ length before.trace.steps) same.trace.config_is
            (subst (λ (ss : List Step). mid.trace.config.journal_limit ≤ length ss) same.trace.steps_are full.1),
      ),
)

pub held_as : (before mid : Journaled) (input : SeatInput) → TellsSame before mid → IsHeldIn before input → IsHeldIn mid input
held_as before mid (Put upload) same is = tt
held_as before mid (Tick left) same is = tt
held_as before mid (Deliver number message) same is =
    subst (λ (k : ℕ). held_at k mid.trace.sent number ≡ Some message) (sym same.forgotten_is)
    (subst (λ (ms : List Message). held_at before.forgotten ms number ≡ Some message) (sym same.trace.sent_is) is)

entry_before : (before mid after : Journaled) (step : Step) (more : List Message) (was : Bool) → TellsSame before mid → HasEntry mid step more was after → HasEntry before step more was after
entry_before before mid after step more was same entry = record {
  start_is = entry.start_is ∙ same.start_is;
  trace = record {
    config_is = entry.trace.config_is ∙ same.trace.config_is;
    sent_is = entry.trace.sent_is ∙ ap (λ (ms : List Message). ms ++ more) same.trace.sent_is;
    steps_are = entry.trace.steps_are ∙ ap (λ (ss : List Step). ss ++ step ∷ []) same.trace.steps_are;
  };
  recovered_is = entry.recovered_is ∙ ap (λ (rs : List Bool). rs ++ was ∷ []) same.recovered_is;
  whole_is = entry.whole_is ∙ same.whole_is;
}

told_before : (before mid : Journaled) (e : Event) (given : EventResult) (receipt : Receipt) → TellsSame before mid → TellsEntry mid e given receipt → TellsEntry before e given receipt
told_before before mid e given receipt same told = told ∙ ap (λ (ss : List Step). record { number = length ss; event = e; answer = given }) same.trace.steps_are

pub taken_before : {S : Type 0} (old new : RunningSeat S) (before mid after : Journaled) (prepared : Prepared) (receipt : Receipt) → TellsSame before mid
    → IsTaken old new mid after prepared receipt → IsTaken old new before after prepared receipt
taken_before old new before mid after prepared receipt same taken = record {
  views = taken.views;
  led = taken.led;
  plan = taken.plan;
  due = taken.due;
  stands = taken.stands;
  entry = entry_before before mid after _ taken.plan.sends false same taken.entry;
  answer_is = taken.answer_is ∙ ap (λ (ms : List Message). given_for prepared.input (length ms) (length taken.plan.sends)) same.trace.sent_is;
  told = told_before before mid (event_at old.node.me prepared.input) receipt.answer receipt same taken.told;
  agrees = taken.agrees;
  knows = taken.knows;
}

pub cut_before : {S : Type 0} (old new : RunningSeat S) (before mid after : Journaled) (prepared : Prepared) → TellsSame before mid → IsCut old new mid after prepared
    → IsCut old new before after prepared
cut_before old new before mid after prepared same cut = record {
  views = cut.views;
  led = cut.led;
  last = cut.last;
  keeps = cut.keeps;
  down = cut.down;
  unkept = cut.unkept;
  doubt = cut.doubt;
  cut = cut.cut;
  is_cut = cut.is_cut;
  entry = entry_before before mid after _ [] false same cut.entry;
  agrees = cut.agrees;
  knows = cut.knows;
}

pub restarted_before : {S : Type 0} (old new : RunningSeat S) (before mid after : Journaled) (receipt : Receipt) → TellsSame before mid → IsRestarted old new mid after receipt
    → IsRestarted old new before after receipt
restarted_before old new before mid after receipt same restarted = record {
  recovered = restarted.recovered;
  none = restarted.none;
  stands = restarted.stands;
  entry = entry_before before mid after _ [] restarted.recovered same restarted.entry;
  told = told_before before mid _ _ receipt same restarted.told;
  agrees = restarted.agrees;
  knows = restarted.knows;
}

pub others_before : (before mid after : Journaled) (me : ℕ) → TellsSame before mid → OthersAgree me mid after → OthersAgree me before after
others_before before mid after me same agree config other start own differs member has =
    agree config other start own differs member (still_agrees config other start own before mid same has)

pub others_same : (before after : Journaled) (me : ℕ) → TellsSame before after → OthersAgree me before after
others_same before after me same config other start own differs member has = still_agrees config other start own before after same has

-- ---- calls that change nothing

pub same_seat : {S : Type 0} (seat : RunningSeat S) → StandsSame seat seat
same_seat seat = record { config_is = refl; start_is = refl; me_is = refl; own_is = refl; keeps_is = refl; known_is = refl; records_are = refl; doubted_is = refl; stands = λ stood is. is }

pub refused_take : {S : Type 0} (seat : RunningSeat S) (journal : Journaled) (prepared : Prepared) (why : SeatFault) → Admits {T = Unit {0}} seat journal prepared.input (Err why)
    → TakeGives seat seat journal journal prepared (Err why)
refused_take seat journal prepared fault.Down admits = admits
refused_take seat journal prepared fault.Strange admits = (admits, (same_seat seat, same_journal journal))
refused_take seat journal prepared fault.JournalFull admits = (admits.0, admits.1, (same_seat seat, same_journal journal))
refused_take seat journal prepared fault.NotSent admits = (admits.0, admits.1, (same_seat seat, same_journal journal))
refused_take seat journal prepared (fault.Refused why) admits = absurd admits
refused_take seat journal prepared (fault.Store why) admits = absurd admits
refused_take seat journal prepared fault.Lost admits = admits

pub counts_refused : {S : Type 0} (tells : Bool) (seat : RunningSeat S) (journal : Journaled) (input : SeatInput) (why : SeatFault) (n : ℕ) → Admits {T = Unit {0}} seat journal input (Err why)
    → Counts {T = Receipt} tells (Err why) n n
counts_refused tells seat journal input fault.Down n admits = absurd admits
counts_refused tells seat journal input fault.Strange n admits = refl
counts_refused tells seat journal input fault.JournalFull n admits = refl
counts_refused tells seat journal input fault.NotSent n admits = refl
counts_refused tells seat journal input (fault.Refused why) n admits = absurd admits
counts_refused tells seat journal input (fault.Store why) n admits = absurd admits
counts_refused tells seat journal input fault.Lost n admits = absurd admits

pub refused_serve : {S : Type 0} (seat : RunningSeat S) (journal : Journaled) (found : Found) (why : SeatFault) → OpensFor {T = Unit {0}} seat journal (Err why)
    → ServeGives seat journal journal found (Err why)
refused_serve seat journal found fault.Down opens = opens
refused_serve seat journal found fault.Strange opens = (opens, same_journal journal)
refused_serve seat journal found fault.JournalFull opens = (opens.0, opens.1, same_journal journal)
refused_serve seat journal found fault.NotSent opens = opens
refused_serve seat journal found (fault.Refused why) opens = absurd opens
refused_serve seat journal found (fault.Store why) opens = absurd opens
refused_serve seat journal found fault.Lost opens = opens

pub refused_restart : {S : Type 0} (seat : RunningSeat S) (journal : Journaled) (why : SeatFault) → OpensFor {T = Unit {0}} seat journal (Err why)
    → RestartGives seat seat journal journal (Err why)
refused_restart seat journal fault.Down opens = opens
refused_restart seat journal fault.Strange opens = (opens, (same_seat seat, same_journal journal))
refused_restart seat journal fault.JournalFull opens = (opens.0, opens.1, (same_seat seat, same_journal journal))
refused_restart seat journal fault.NotSent opens = opens
refused_restart seat journal (fault.Refused why) opens = absurd opens
refused_restart seat journal (fault.Store why) opens = absurd opens
refused_restart seat journal fault.Lost opens = absurd opens

pub counts_unopened : {S : Type 0} (tells : Bool) (seat : RunningSeat S) (journal : Journaled) (why : SeatFault) (n : ℕ) → OpensFor {T = Unit {0}} seat journal (Err why)
    → Counts {T = Receipt} tells (Err why) n n
counts_unopened tells seat journal fault.Down n opens = absurd opens
counts_unopened tells seat journal fault.Strange n opens = refl
counts_unopened tells seat journal fault.JournalFull n opens = refl
counts_unopened tells seat journal fault.NotSent n opens = absurd opens
counts_unopened tells seat journal (fault.Refused why) n opens = absurd opens
counts_unopened tells seat journal (fault.Store why) n opens = absurd opens
counts_unopened tells seat journal fault.Lost n opens = absurd opens

-- a node that was not opened again
pub failed_restart : {S : Type 0} (old new : RunningSeat S) (before after : Journaled) (failed : NodeFault) (why : SeatFault) → IsFaultOf failed why → IsOpen old before → StandsSame old new
    → TellsSame before after → RestartGives old new before after (Err why)
failed_restart old new before after recover.OutOfMemory why is may seat journal =
    subst (λ (w : SeatFault). RestartGives old new before after (Err w)) (sym is) (may, refl, (seat, journal))
failed_restart old new before after (recover.Store failed) why is may seat journal =
    subst (λ (w : SeatFault). RestartGives old new before after (Err w)) (sym is) (may, (seat, journal))
failed_restart old new before after recover.Lost why is may seat journal =
    subst (λ (w : SeatFault). RestartGives old new before after (Err w)) (sym is) (may, (seat, journal))

pub counts_failed : (tells : Bool) (failed : NodeFault) (why : SeatFault) (old new : ℕ) → IsFaultOf failed why → CountsRecall {T = Bool} tells (Err failed) old new
    → Counts {T = Receipt} tells (Err why) old new
counts_failed tells recover.OutOfMemory why old new is counts = subst (λ (w : SeatFault). Counts {T = Receipt} tells (Err w) old new) (sym is) counts
counts_failed tells (recover.Store failed) why old new is counts = subst (λ (w : SeatFault). Counts {T = Receipt} tells (Err w) old new) (sym is) counts
counts_failed tells recover.Lost why old new is counts = subst (λ (w : SeatFault). Counts {T = Receipt} tells (Err w) old new) (sym is) counts
