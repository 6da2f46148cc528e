-- An event of one seat, as a step of all nodes of a run.
use Rattle.std.proofs.Common.{◌≡◌, ◌≢◌, refl, sym, ap, subst, ◌∙◌, inl, inr, ℕ, ◌<◌, ◌≤◌, arith, Bool, false, if◌then◌else◌, Result, Ok, Err, zero, suc, List, [], ◌∷◌, ◌++◌, length, slice_get, slice_set, get_or, None, Some}
use Rattle.std.proofs.lemmas.Bool.{eq-eqb, ne_eqb, cases_eq, cases_lt}
use Rattle.std.proofs.lemmas.List.{append-nil, length-append, length-set}
use Rattle.std.proofs.lemmas.Option.{slice_get_within, slice_get_past, slice_get-get_or}
use Rattle.ballots.specs.declared.message.Message.{Message}
use Rattle.agreement_rules.specs.Views.{AgreementConfig}
use Rattle.histories.specs.History.{Step}
use Rattle.histories.specs.Event.{node_of}
use Rattle.histories.specs.Event as events
use Rattle.histories.specs.EventResult as results
use Rattle.histories.specs.Following.{UpOrDown, NodeGives, IsAsked, StepFollows, at_first, with_seat}
use Rattle.node_events.specs.declared.event.Event.{Event}
use Rattle.node_events.specs.declared.event_result.EventResult.{EventResult}
use Rattle.node_events.specs.Told.{event_of, result_of}
use Rattle.stored_nodes.specs.State.{IsPlaced, Stands}
use Rattle.traces.specs.Applying.{AppliesTo, Answers}
use Rattle.schedule_runner.specs.Seated.{MemorySeat, IsSeatOf, AreSeated, MemorySeatAnswers}

-- of no event is it asked whether a record was recovered, or it was not
asked_false : (event : events.Event) → IsAsked event false
asked_false (events.Put node text) = refl
asked_false (events.Tick node left) = refl
asked_false (events.Deliver node number) = refl
asked_false (events.TickCut node left) = refl
asked_false (events.DeliverCut node number) = refl
asked_false (events.Restart node) = tt
asked_false (events.Get node table version) = refl
asked_false (events.Info node table) = refl
asked_false (events.Outcome node text) = refl

-- what a member gives is a step of all nodes
abbrev pub StepsAlone : Type 0
StepsAlone = (config : AgreementConfig) (sent : List Message) (next : ℕ) (seats : ℕ → UpOrDown) (step : Step) (recovered : Bool) (seat : UpOrDown) → node_of step.event < config.members
    → NodeGives config sent next recovered (seats (node_of step.event)) step.event step.result seat
    → StepFollows config sent next seats step recovered (with_seat seats (node_of step.event) seat)

own_seat : (seats : ℕ → UpOrDown) (node : ℕ) (seat : UpOrDown) → with_seat seats node seat node ≡ seat
own_seat seats node seat = ap (λ (b : Bool). if b then seat else seats node) (eq-eqb node node refl)

other_seat : (seats : ℕ → UpOrDown) (node other : ℕ) (seat : UpOrDown) → other ≢ node → with_seat seats node seat other ≡ seats other
other_seat seats node other seat differs = ap (λ (b : Bool). if b then seat else seats other) (ne_eqb other node differs)

some_same : {X : Type 0} (x y : X) → Some x ≡ Some y → x ≡ y
some_same x y same = cc

none_is_some : {X : Type 0} (x : X) → None ≡ Some x → ⊥
none_is_some x same = cc

-- one of the list is another now, and all others are as before
pub record IsChangedAt (old new : List MemorySeat) (place : ℕ) (state : MemorySeat) : Type 0 where
  pub long : length new ≡ length old
  pub there : slice_get new place ≡ Some state
  pub others : (other : ℕ) → other ≢ place → slice_get new other ≡ slice_get old other

module _ (config : AgreementConfig) (seats : ℕ → UpOrDown) (states after : List MemorySeat) (place : ℕ) (old new : MemorySeat) (are : AreSeated states config seats)
    (was : slice_get states place ≡ Some old) (changed : IsChangedAt states after place new) (left : UpOrDown) (placed : IsPlaced new) (me : new.me ≡ old.me)
    (same : new.config ≡ old.config) (stands : Stands new left) where
  abbrev first : IsSeatOf config place old (seats place)
  first = are.each place old was

  each_seat : (number : ℕ) (state : MemorySeat) → slice_get after number ≡ Some state → IsSeatOf config number state (with_seat seats place left number)
  each_seat number state there = elim (cases_eq number place) as (λ _. IsSeatOf config number state (with_seat seats place left number)) [
    | inl is ↦
        subst (λ (n : ℕ). IsSeatOf config n state (with_seat seats place left n)) (sym is)
        (subst (λ (s : MemorySeat). IsSeatOf config place s (with_seat seats place left place))
        (some_same new state (sym changed.there ∙ subst (λ (n : ℕ). slice_get after n ≡ Some state) is there))
        (subst (λ (s : UpOrDown). IsSeatOf config place new s) (sym (own_seat seats place left))
        (record { placed = placed; me = me ∙ first.me; config_is = same ∙ first.config_is; stands = stands })))
    | inr differs ↦
        subst (λ (s : UpOrDown). IsSeatOf config number state s) (sym (other_seat seats place number left differs))
        (are.each number state (sym (changed.others number differs) ∙ there))
  ]

  pub seated : AreSeated after config (with_seat seats place left)
  seated = record { one_each = changed.long ∙ are.one_each; each = each_seat }

-- a seat that is left as it was is as it was
same_seat : (seats : ℕ → UpOrDown) (node other : ℕ) → with_seat seats node (seats node) other ≡ seats other
same_seat seats node other = elim (cases_eq other node) as (λ _. with_seat seats node (seats node) other ≡ seats other) [
  | inl is ↦
      subst (λ (n : ℕ). with_seat seats node (seats node) n ≡ seats n) (sym is) (own_seat seats node (seats node))
  | inr differs ↦ other_seat seats node other (seats node) differs
]

same_seats : (states : List MemorySeat) (config : AgreementConfig) (seats : ℕ → UpOrDown) (node : ℕ) → AreSeated states config (with_seat seats node (seats node)) → AreSeated states config seats
same_seats states config seats node are = record {
  one_each = are.one_each;
  each = λ number state there. subst (λ (s : UpOrDown). IsSeatOf config number state s) (same_seat seats node number) (are.each number state there);
}

module _ (alone : StepsAlone) (config : AgreementConfig) (seats : ℕ → UpOrDown) (states states-after : List MemorySeat) (old new : MemorySeat) (before after : List Message) (event : Event)
    (are : AreSeated states config seats) (was : slice_get states (node_of (event_of event)) ≡ Some old) (changed : IsChangedAt states states-after (node_of (event_of event)) new) where
  abbrev its : IsSeatOf config (node_of (event_of event)) old (seats (node_of (event_of event)))
  its = are.each (node_of (event_of event)) old was

  -- the seat applied the event, or it is as before
  one_answers : {E : Type 0} (answer : Result EventResult E) → MemorySeatAnswers old new (seats (node_of (event_of event))) before after (event_of event) answer
      → Answers (AreSeated states-after config) config seats before after event answer
  one_answers (Ok given) (recovered, asked, leaves) =
      let place = node_of (event_of event) in
      let step : Step = record { event = event_of event; result = result_of given } in
      record {
        more = leaves.more;
        behind = leaves.behind;
        counted = leaves.counted;
        recovered = recovered;
        asked = asked;
        left = with_seat seats place leaves.left;
        follows = alone config after (length before) seats step recovered leaves.left
            (subst (λ (n : ℕ). place < n) are.one_each (slice_get_within states place old was))
            (subst (λ (c : AgreementConfig). NodeGives c after (length before) recovered (seats place) step.event step.result leaves.left) its.config_is leaves.gives);
        have = seated config seats states states-after place old new are was changed leaves.left leaves.placed leaves.me_is leaves.config_is leaves.stands;
      }
  one_answers (Err wants) (same, sends) =
      let place = node_of (event_of event) in (
        same_seats states-after config seats place (seated config seats states states-after place old new are was changed (seats place) same.placed same.me_is same.config_is same.stands),
        same.unsent,
      )

  pub one_applies : {E : Type 0} (answer : Result EventResult E)
      → (IsPlaced old → node_of (event_of event) ≡ old.me → (seat : UpOrDown) → Stands old seat → MemorySeatAnswers old new seat before after (event_of event) answer)
      → Answers (AreSeated states-after config) config seats before after event answer
  one_applies answer applies = one_answers answer (applies its.placed (sym its.me) (seats (node_of (event_of event))) its.stands)

-- an event of none of the nodes
pub none_applies : (config : AgreementConfig) (seats : ℕ → UpOrDown) (states : List MemorySeat) (before : List Message) (event : Event) (given : EventResult)
    → AreSeated states config seats → config.members ≤ node_of (event_of event) → result_of given ≡ results.Refused results.OutOfRange
    → AppliesTo (AreSeated states config) config seats before before event given
none_applies config seats states before event given are past is = record {
  more = [];
  behind = sym (append-nil before);
  counted = sym (ap results.count_of is);
  recovered = false;
  asked = asked_false (event_of event);
  left = seats;
  follows = inr (past, is, λ other. refl);
  have = are;
}

-- ---- the first seats

-- so many of the members are up, and have nothing
pub record AreOpened (config : AgreementConfig) (states : List MemorySeat) (count : ℕ) : Type 0 where
  pub so_many : length states ≡ count
  pub each : (number : ℕ) (state : MemorySeat) → slice_get states number ≡ Some state → IsSeatOf config number state (at_first number)

pub none_opened : (config : AgreementConfig) → AreOpened config [] 0
none_opened config = record { so_many = refl; each = λ number state there. absurd (none_is_some state (sym (slice_get_past {X = MemorySeat} [] number (omega arith)) ∙ there)) }

get_left : (xs ys : List MemorySeat) (k : ℕ) → k < length xs → slice_get (xs ++ ys) k ≡ slice_get xs k
get_left [] ys k within = absurd (omega (arith, within))
get_left (x ∷ xs) ys zero within = refl
get_left (x ∷ xs) ys (suc k) within = get_left xs ys k (omega (arith, within))

get_last : (xs : List MemorySeat) (x : MemorySeat) (k : ℕ) → k ≡ length xs → slice_get (xs ++ x ∷ []) k ≡ Some x
get_last [] x zero is = refl
get_last [] x (suc k) is = absurd (omega (arith, is))
get_last (y ∷ xs) x zero is = absurd (omega (arith, is))
get_last (y ∷ xs) x (suc k) is = get_last xs x k (omega (arith, is))

module _ (config : AgreementConfig) (states : List MemorySeat) (count : ℕ) (opened : AreOpened config states count) (state : MemorySeat) (is : IsSeatOf config count state (at_first count)) where
  each_opened : (number : ℕ) (other : MemorySeat) → slice_get (states ++ state ∷ []) number ≡ Some other → IsSeatOf config number other (at_first number)
  each_opened number other there = elim (cases_lt number count) as (λ _. IsSeatOf config number other (at_first number)) [
    | inl within ↦ opened.each number other (sym (get_left states (state ∷ []) number (omega (arith, within, opened.so_many))) ∙ there)
    | inr past ↦
        let last : number ≡ count = omega (arith, past, opened.so_many, slice_get_within (states ++ state ∷ []) number other there, length-append states (state ∷ [])) in
        subst (λ (n : ℕ). IsSeatOf config n other (at_first n)) (sym last)
        (subst (λ (s : MemorySeat). IsSeatOf config count s (at_first count))
        (some_same state other (sym (get_last states state number (last ∙ sym opened.so_many)) ∙ there)) is)
  ]

  pub one_opened : AreOpened config (states ++ state ∷ []) (suc count)
  one_opened = record { so_many = length-append states (state ∷ []) ∙ omega (arith, opened.so_many); each = each_opened }

pub all_opened : (config : AgreementConfig) (states : List MemorySeat) → AreOpened config states config.members → AreSeated states config at_first
all_opened config states opened = record { one_each = opened.so_many; each = opened.each }

-- ---- one seat among the others

set_there : (xs : List MemorySeat) (k : ℕ) (x : MemorySeat) → k < length xs → slice_get (slice_set xs k x) k ≡ Some x
set_there [] k x within = absurd (omega (arith, within))
set_there (y ∷ xs) zero x within = refl
set_there (y ∷ xs) (suc k) x within = set_there xs k x (omega (arith, within))

set_other : (xs : List MemorySeat) (k other : ℕ) (x : MemorySeat) → other ≢ k → slice_get (slice_set xs k x) other ≡ slice_get xs other
set_other [] k other x differs = refl
set_other (y ∷ xs) zero zero x differs = absurd (differs refl)
set_other (y ∷ xs) zero (suc other) x differs = refl
set_other (y ∷ xs) (suc k) zero x differs = refl
set_other (y ∷ xs) (suc k) (suc other) x differs = set_other xs k other x (λ same. differs (omega (arith, same)))

pub changed_at : (states : List MemorySeat) (place : ℕ) (state : MemorySeat) → place < length states → IsChangedAt states (slice_set states place state) place state
changed_at states place state within = record {
  long = length-set states place state;
  there = set_there states place state within;
  others = λ other differs. set_other states place other state differs;
}

pub was_there : (states : List MemorySeat) (place : ℕ) (state : MemorySeat) → place < length states → state ≡ get_or states place state → slice_get states place ≡ Some state
was_there states place state within is = slice_get-get_or states place state within ∙ ap (λ s. Some s) (sym is)
