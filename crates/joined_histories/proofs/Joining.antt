-- Two parts of a history, one behind the other.
use Rattle.std.proofs.Common.{◌≡◌, ℕ, ◌+◌, Bool, List, [], ◌∷◌, ◌++◌, length, map, refl, sym, ap, ap₂, subst, arith}
use Rattle.ballots.specs.declared.message.Message.{Message}
use Rattle.agreement_rules.specs.Views.{AgreementConfig}
use Rattle.histories.specs.Event.{Event}
use Rattle.histories.specs.Event as event
use Rattle.histories.specs.EventResult.{EventResult, count_of}
use Rattle.histories.specs.EventResult as results
use Rattle.histories.specs.History.{Step, History}
use Rattle.histories.specs.Following.{UpOrDown, StepFollows, StepsReach, ReachesFrom, Reaches, at_first, Follows}
use Rattle.joined_histories.specs.Joined.{moved_event, moved_result, moved, joined, Precedes}
use Rattle.joined_histories.proofs.Moving.{reaches_moved}

-- a step that follows does so when more is sent later
abbrev pub StillFollows : Type 0
StillFollows = (config : AgreementConfig) (sent more : List Message) (next : ℕ) (old new : ℕ → UpOrDown) (step : Step) (recovered : Bool)
    → StepFollows config sent next old step recovered new → StepFollows config (sent ++ more) next old step recovered new

reach_then : StillFollows → (config : AgreementConfig) (sent more : List Message) (later : List Step) (asked_later : List Bool) (mid last : ℕ → UpOrDown)
    → StepsReach config (sent ++ more) mid (length sent) later asked_later last
    → (steps : List Step) (found : List Bool) (seats : ℕ → UpOrDown) (next : ℕ) → StepsReach config sent seats next steps found mid
    → StepsReach config (sent ++ more) seats next (steps ++ later) (found ++ asked_later) last
reach_then still config sent more later asked_later mid last rest [] [] seats next (none, end, same) =
    subst (λ (s : ℕ → UpOrDown). StepsReach config (sent ++ more) s next later asked_later last) same
    (subst (λ (k : ℕ). StepsReach config (sent ++ more) mid k later asked_later last) (sym end) rest)
reach_then still config sent more later asked_later mid last rest [] (f ∷ found) seats next (none, end, same) = absurd (cc)
reach_then still config sent more later asked_later mid last rest (s ∷ steps) [] seats next reaches = absurd reaches
reach_then still config sent more later asked_later mid last rest (s ∷ steps) (f ∷ found) seats next (after, one, asked, on) = (
  after,
  still config sent more next seats after s f one,
  asked,
  reach_then still config sent more later asked_later mid last rest steps found after (next + count_of s.result) on,
)

pub precede : StillFollows → (config : AgreementConfig) (start seats : ℕ → UpOrDown) (before tail : History) (recovered : List Bool) → Precedes config start before
    → ReachesFrom config start tail.sent tail.steps recovered seats → Precedes config seats (joined before tail)
precede still config start seats before tail recovered precedes reaches =
    let moved_tail = reaches_moved config before.sent tail.sent tail.steps recovered start seats 0 reaches in
    let at_end : length before.sent + 0 ≡ length before.sent = omega arith in
    let behind = subst (λ (k : ℕ). StepsReach config (before.sent ++ tail.sent) start k (map (moved (length before.sent)) tail.steps) recovered seats) at_end moved_tail in
    record {
      config_is = precedes.config_is;
      recovered = precedes.recovered ++ recovered;
      reached = reach_then still config before.sent tail.sent (map (moved (length before.sent)) tail.steps) recovered start seats behind before.steps precedes.recovered at_first 0 precedes.reached;
    }

-- what precedes something follows the rules itself
pub follow : (config : AgreementConfig) (start : ℕ → UpOrDown) (before : History) → Precedes config start before → Follows before
follow config start before precedes = record {
  recovered = precedes.recovered;
  seats = start;
  reached = subst (λ (c : AgreementConfig). Reaches c before.sent before.steps precedes.recovered start) (sym precedes.config_is) precedes.reached;
}

-- ---- nothing before

unmoved_event : (e : Event) → moved_event 0 e ≡ e
unmoved_event (event.Put node text) = refl
unmoved_event (event.Tick node left) = refl
unmoved_event (event.Deliver node number) = ap (event.Deliver node) (let same : 0 + number ≡ number = omega arith in same)
unmoved_event (event.TickCut node left) = refl
unmoved_event (event.DeliverCut node number) = ap (event.DeliverCut node) (let same : 0 + number ≡ number = omega arith in same)
unmoved_event (event.Restart node) = refl
unmoved_event (event.Get node table version) = refl
unmoved_event (event.Info node table) = refl
unmoved_event (event.Outcome node text) = refl

unmoved_result : (given : EventResult) → moved_result 0 given ≡ given
unmoved_result (results.Sent first count) = ap (λ (k : ℕ). results.Sent k count) (let same : 0 + first ≡ first = omega arith in same)
unmoved_result results.Done = refl
unmoved_result (results.Answer bytes) = refl
unmoved_result results.Unavailable = refl
unmoved_result (results.Info version) = refl
unmoved_result results.NoTable = refl
unmoved_result (results.Outcome outcome) = refl
unmoved_result (results.Refused reason) = refl

unmoved : (step : Step) → moved 0 step ≡ step
unmoved step = ap₂ (λ (e : Event) (given : EventResult). let s : Step = record { event = e; result = given } in s) (unmoved_event step.event) (unmoved_result step.result)

all_unmoved : (steps : List Step) → map (moved 0) steps ≡ steps
all_unmoved [] = refl
all_unmoved (s ∷ steps) = ap₂ (λ (x : Step) (xs : List Step). x ∷ xs) (unmoved s) (all_unmoved steps)

pub joined_to_nothing : (tail : History) → joined (record { config = tail.config; sent = []; steps = [] }) tail ≡ tail
joined_to_nothing tail = ap (λ (ss : List Step). let h : History = record { config = tail.config; sent = tail.sent; steps = ss } in h) (all_unmoved tail.steps)
