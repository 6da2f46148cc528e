-- What is due to an input, as what its seat prepares.
use Rattle.std.proofs.Common.{◌≡◌, sym, subst, Option, None, Some, IsSome, Ok, Err}
use Rattle.journal.specs.parts.agreement.specs.declared.refusal.Refusal.{Refusal}
use Rattle.journal.specs.parts.agreement.specs.declared.refusal.Refusal.TheVariants as refusal
use Rattle.journal.specs.parts.histories.specs.Due.{Input}
use Rattle.journal.specs.parts.histories.specs.Following.{IsUp}
use Rattle.node_core.specs.declared.plan.Planned.{Planned}
use Rattle.journal.specs.parts.node_events.specs.declared.event_result.Reason.{Reason}
use Rattle.journal.specs.parts.node_events.specs.declared.event_result.Reason.TheVariants as reason
use Rattle.stored_nodes.specs.State.{StoredNodeState}
use Rattle.stored_nodes.specs.Parts.{PlanAnswers, RefusesAs, StandsStill, IsPlannedFor}
use Rattle.seats.specs.declared.fault.SeatFault.{SeatFault}
use Rattle.seats.specs.declared.fault.SeatFault.TheVariants as fault
use Rattle.seats.specs.declared.input.SeatInput.{SeatInput}
use Rattle.seats.specs.Inputs.{input_of}
use Rattle.seats.specs.State.{RunningSeat, IsLed}
use Rattle.seats.specs.Steps.{IsFaultFor, PrepareGives, IsPreparedFor}
use Rattle.seats.proofs.Leading.{was_up}
use Rattle.seats.proofs.Ready.{led_still}

some_is_none : {X : Type 0} (x : X) → Some x ≡ None → ⊥
some_is_none x is = cc

none_some : (X : Type 0) → IsSome {T = X} None → ⊥
none_some X is = cc

none_is_some : {X : Type 0} (found : Option X) → IsSome found → found ≡ None → ⊥
none_is_some {X = X} None is none = absurd (none_some X is)
none_is_some (Some x) is none = some_is_none x none

refuses : {S : Type 0} (old new : RunningSeat S) (input : SeatInput) (why : Refusal) (told : SeatFault) → told ≡ fault.Refused why → RefusesAs old.node (input_of input) why
    → PrepareGives old new input (Err told)
refuses old new input why told is refused =
    subst (λ (t : SeatFault). PrepareGives old new input (Err t)) (sym is) (none_is_some old.node.node refused.0, refused.1)

by_reason : {S : Type 0} (old new : RunningSeat S) (node : StoredNodeState S) (input : SeatInput) (why : Reason) (told : SeatFault) → IsFaultFor why told
    → PlanAnswers old.node node (input_of input) (Err why) → PrepareGives old new input (Err told)
by_reason old new node input reason.OutOfRange told is answers = refuses old new input refusal.OutOfRange told is answers
by_reason old new node input reason.SlotsSpent told is answers = refuses old new input refusal.SlotsSpent told is answers
by_reason old new node input reason.RoundsSpent told is answers = refuses old new input refusal.RoundsSpent told is answers
by_reason old new node input reason.OutOfMemory told is answers = refuses old new input refusal.OutOfMemory told is answers
by_reason old new node input reason.Down told is answers = subst (λ (t : SeatFault). PrepareGives old new input (Err t)) (sym is) answers
by_reason old new node input reason.NotSent told is answers = absurd answers

-- what the node refuses, or that it is down
pub refused_gives : {S : Type 0} (old new : RunningSeat S) (node : StoredNodeState S) (input : SeatInput) (copy : Input) (why : Reason) (told : SeatFault) → copy ≡ input_of input → IsFaultFor why told
    → PlanAnswers old.node node copy (Err why) → PrepareGives old new input (Err told)
refused_gives {S = S} old new node input copy why told same is answers =
    by_reason old new node input why told is (subst (λ (i : Input). PlanAnswers old.node node i (Err why)) same answers)

-- what is planned
pub prepared_gives : {S : Type 0} (old : RunningSeat S) (node : StoredNodeState S) (input : SeatInput) (copy : Input) (plan : Planned) → copy ≡ input_of input → IsLed old → StandsStill old.node node
    → PlanAnswers old.node node copy (Ok plan) → IsPreparedFor (record { config = old.config; start = old.start; node = node; own = old.own; keeps = old.keeps; known = old.known }) (record { input = input; plan = plan })
prepared_gives old node input copy plan same led still answers =
    let was = was_up old led (none_is_some old.node.node answers.0) in
    let planned = answers.1 was.views was.led.stands in
    record {
      views = was.views;
      led = led_still old node (IsUp was.views) still.me_is still.config_is (still.placed was.led.placed) (still.stands (IsUp was.views) was.led.stands) was.led;
      planned = subst (λ (i : Input). IsPlannedFor node was.views i plan) same planned;
    }
