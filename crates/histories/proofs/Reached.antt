-- A history that goes on: what followed still follows when more is sent later, and a step more is reached.
use Rattle.std.proofs.Common.{◌≡◌, ◌≢◌, ℕ, zero, suc, ◌+◌, ◌<◌, inl, inr, Bool, List, [], ◌∷◌, ◌++◌, length, take, drop, slice_get, Some, None, refl, sym, ap, subst, arith, length-append, eq-eqb, if◌then◌else◌}
use Rattle.std.proofs.lemmas.Bool.{ne_eqb}
use Rattle.ballots.specs.declared.message.Message.{Message}
use Rattle.agreement_rules.specs.Views.{AgreementConfig, Views}
use Rattle.agreement_rules.specs.Due.{Due, Refuses, Plans}
use Rattle.histories.specs.Due.{Input, IsDue}
use Rattle.histories.specs.Due as input
use Rattle.histories.specs.Event.{Event, node_of}
use Rattle.histories.specs.Event as event
use Rattle.histories.specs.EventResult.{EventResult, count_of}
use Rattle.histories.specs.History.{Step}
use Rattle.histories.specs.Following.{UpOrDown, IsUp, IsDown, SendsGives, InputGives, CutGives, Delivers, UpGives, NodeGives, StepFollows, IsAsked, StepsReach, with_seat}

-- ---- when more is sent later

none_is_some : {X : Type 0} (x : X) → None ≡ Some x → ⊥
none_is_some x same = cc

pub get_with_more : {X : Type 0} (xs more : List X) (k : ℕ) (x : X) → slice_get xs k ≡ Some x → slice_get (xs ++ more) k ≡ Some x
get_with_more [] more k x is = absurd (none_is_some x is)
get_with_more (y ∷ xs) more zero x is = is
get_with_more (y ∷ xs) more (suc k) x is = get_with_more xs more k x is

-- what was all there stays where it is
pub taken_with_more : {X : Type 0} (xs more ms : List X) (n : ℕ) → take (length ms) (drop n xs) ≡ ms → take (length ms) (drop n (xs ++ more)) ≡ ms
taken_with_more xs more [] n is = refl
taken_with_more [] more (m ∷ ms) zero is = absurd (let no : [] ≡ m ∷ ms = is in cc)
taken_with_more [] more (m ∷ ms) (suc n) is = absurd (let no : [] ≡ m ∷ ms = is in cc)
taken_with_more (x ∷ xs) more (m ∷ ms) zero is =
    let heads : x ≡ m = cc in
    let tails : take (length ms) xs ≡ ms = cc in
    let rest : take (length ms) (xs ++ more) ≡ ms = taken_with_more xs more ms zero tails in
    cc
taken_with_more (x ∷ xs) more (m ∷ ms) (suc n) is = taken_with_more xs more (m ∷ ms) n is

module _ (config : AgreementConfig) (sent more : List Message) (next : ℕ) where
  step_gives : (views : Views) (due : Due) (given : EventResult) (seat : UpOrDown) → SendsGives sent next views due given seat → SendsGives (sent ++ more) next views due given seat
  step_gives views (Refuses refusal) given seat gives = gives
  step_gives views (Plans plan) given seat (is, placed, same) = (is, taken_with_more sent more plan.sends next placed, same)

  input_gives : (node : ℕ) (views : Views) (asked : Input) (given : EventResult) (seat : UpOrDown) → InputGives config node views asked (SendsGives sent next views) given seat
      → InputGives config node views asked (SendsGives (sent ++ more) next views) given seat
  input_gives node views asked given seat (inl (due, is, gives)) = inl (due, is, step_gives views due given seat gives)
  input_gives node views asked given seat (inr wants) = inr wants

  delivers : (number : ℕ) (Before After : Message → EventResult → UpOrDown → Type 0) (views : Views) (given : EventResult) (seat : UpOrDown)
      → ((m : Message) → Before m given seat → After m given seat) → Delivers sent next number Before views given seat → Delivers (sent ++ more) next number After views given seat
  delivers number Before After views given seat later (inl (m, lt, is, gives)) = inl (m, lt, get_with_more sent more number m is, later m gives)
  delivers number Before After views given seat later (inr late) = inr late

  up_gives : (found : Bool) (views : Views) (e : Event) (given : EventResult) (seat : UpOrDown) → UpGives config sent next found views e given seat → UpGives config (sent ++ more) next found views e given seat
  up_gives found views (event.Put node text) given seat gives = gives
  up_gives found views (event.Tick node left) given seat gives = input_gives node views (input.Tick left) given seat gives
  up_gives found views (event.Deliver node number) given seat gives =
      delivers number (λ m. InputGives config node views (input.Deliver m) (SendsGives sent next views))
      (λ m. InputGives config node views (input.Deliver m) (SendsGives (sent ++ more) next views)) views given seat
      (λ m. input_gives node views (input.Deliver m) given seat) gives
  up_gives found views (event.TickCut node left) given seat gives = gives
  up_gives found views (event.DeliverCut node number) given seat gives =
      delivers number (λ m. CutGives config node views (input.Deliver m)) (λ m. CutGives config node views (input.Deliver m)) views given seat (λ m cut. cut) gives
  up_gives found views (event.Restart node) given seat gives = gives
  up_gives found views (event.Get node table version) given seat gives = gives
  up_gives found views (event.Info node table) given seat gives = gives
  up_gives found views (event.Outcome node text) given seat gives = gives

  seat_gives : (found : Bool) (old : UpOrDown) (e : Event) (given : EventResult) (seat : UpOrDown) → NodeGives config sent next found old e given seat
      → NodeGives config (sent ++ more) next found old e given seat
  seat_gives found (IsUp views) e given seat gives = up_gives found views e given seat gives
  seat_gives found (IsDown records due) e given seat gives = gives

  pub follows_with_more : (old : ℕ → UpOrDown) (step : Step) (found : Bool) (new : ℕ → UpOrDown) → StepFollows config sent next old step found new
      → StepFollows config (sent ++ more) next old step found new
  follows_with_more old step found new (inl (member, gives, others)) =
      inl (member, seat_gives found (old (node_of step.event)) step.event step.result (new (node_of step.event)) gives, others)
  follows_with_more old step found new (inr outside) = inr outside

-- ---- a node's own step

pub own_seat : (seats : ℕ → UpOrDown) (node : ℕ) (seat : UpOrDown) → with_seat seats node seat node ≡ seat
own_seat seats node seat = ap (λ (b : Bool). if b then seat else seats node) (eq-eqb node node refl)

pub other_seat : (seats : ℕ → UpOrDown) (node other : ℕ) (seat : UpOrDown) → other ≢ node → with_seat seats node seat other ≡ seats other
other_seat seats node other seat differs = ap (λ (b : Bool). if b then seat else seats other) (ne_eqb other node differs)

pub steps_alone : (config : AgreementConfig) (sent : List Message) (next : ℕ) (seats : ℕ → UpOrDown) (step : Step) (found : Bool) (seat : UpOrDown) → node_of step.event < config.members
    → NodeGives config sent next found (seats (node_of step.event)) step.event step.result seat
    → StepFollows config sent next seats step found (with_seat seats (node_of step.event) seat)
steps_alone config sent next seats step found seat member gives =
    inl (
      member,
      subst (λ (s : UpOrDown). NodeGives config sent next found (seats (node_of step.event)) step.event step.result s) (sym (own_seat seats (node_of step.event) seat)) gives,
      λ other differs. other_seat seats (node_of step.event) other seat differs,
    )

-- ---- a step more

module _ (config : AgreementConfig) (sent more : List Message) (last : ℕ → UpOrDown) (step : Step) (was : Bool) (new : ℕ → UpOrDown)
    (follows : StepFollows config (sent ++ more) (length sent) last step was new) (asked : IsAsked step.event was)
    (count : length more ≡ count_of step.result) where
  ends : (next : ℕ) → next ≡ length sent → next + count_of step.result ≡ length (sent ++ more)
  ends next is = omega (arith, is, count, length-append sent more)

  begins : (seats : ℕ → UpOrDown) (next : ℕ) → next ≡ length sent → last ≡ seats → StepFollows config (sent ++ more) next seats step was new
  begins seats next is same =
      subst (λ (s : ℕ → UpOrDown). StepFollows config (sent ++ more) next s step was new) same
      (subst (λ (n : ℕ). StepFollows config (sent ++ more) n last step was new) (sym is) follows)

  pub reach_more : (steps : List Step) (found : List Bool) (seats : ℕ → UpOrDown) (next : ℕ) → StepsReach config sent seats next steps found last
      → StepsReach config (sent ++ more) seats next (steps ++ step ∷ []) (found ++ was ∷ []) new
  reach_more [] [] seats next (none, end, same) = (new, begins seats next end same, asked, (refl, ends next end, refl))
  reach_more [] (f ∷ found) seats next (none, end, same) = absurd (cc)
  reach_more (s ∷ steps) [] seats next reaches = absurd reaches
  reach_more (s ∷ steps) (f ∷ found) seats next (after, one, was_asked, rest) =
      (after, follows_with_more config sent more next seats s f after one, was_asked, reach_more steps found after (next + count_of s.result) rest)
