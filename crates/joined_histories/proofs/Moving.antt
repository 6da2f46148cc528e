-- A step that follows still follows behind other messages, with its numbers so many greater.
use Rattle.std.proofs.Common.{◌≡◌, ◌≢◌, ℕ, ◌+◌, ◌<◌, ◌≤◌, inl, inr, Bool, List, [], ◌∷◌, ◌++◌, length, take, map, refl, sym, ap, subst, ◌∙◌, arith, length-append}
use Rattle.ballots.specs.declared.message.Message.{Message}
use Rattle.agreement_rules.specs.Views.{AgreementConfig, Views}
use Rattle.agreement_rules.specs.Due.{Due, Refuses, Plans}
use Rattle.table_types.specs.Uploads.{Upload}
use Rattle.histories.specs.Due.{Input}
use Rattle.histories.specs.Due as input
use Rattle.histories.specs.Event.{Event, node_of}
use Rattle.histories.specs.Event as event
use Rattle.histories.specs.EventResult.{EventResult, count_of}
use Rattle.histories.specs.EventResult as results
use Rattle.histories.specs.History.{Step}
use Rattle.histories.specs.Following.{UpOrDown, IsUp, IsDown, PutGives, SendsGives, InputGives, CutGives, Delivers, GetGivesIfAble, InfoGivesIfAble, OutcomeGives, RestartGives, UpGives, RefusesAsDown, DownGives, NodeGives, IsAsked, StepFollows, StepsReach}
use Rattle.joined_histories.specs.Joined.{moved_event, moved_result, moved}
use Rattle.joined_histories.proofs.Places.{get_behind, drop_behind}

-- ---- what a move leaves

pub same_node : (n : ℕ) (e : Event) → node_of (moved_event n e) ≡ node_of e
same_node n (event.Put node text) = refl
same_node n (event.Tick node left) = refl
same_node n (event.Deliver node number) = refl
same_node n (event.TickCut node left) = refl
same_node n (event.DeliverCut node number) = refl
same_node n (event.Restart node) = refl
same_node n (event.Get node table version) = refl
same_node n (event.Info node table) = refl
same_node n (event.Outcome node text) = refl

pub same_count : (n : ℕ) (given : EventResult) → count_of (moved_result n given) ≡ count_of given
same_count n (results.Sent first count) = refl
same_count n results.Done = refl
same_count n (results.Answer bytes) = refl
same_count n results.Unavailable = refl
same_count n (results.Info version) = refl
same_count n results.NoTable = refl
same_count n (results.Outcome outcome) = refl
same_count n (results.Refused reason) = refl

still_asked : (n : ℕ) (e : Event) (found : Bool) → IsAsked e found → IsAsked (moved_event n e) found
still_asked n (event.Put node text) found asked = asked
still_asked n (event.Tick node left) found asked = asked
still_asked n (event.Deliver node number) found asked = asked
still_asked n (event.TickCut node left) found asked = asked
still_asked n (event.DeliverCut node number) found asked = asked
still_asked n (event.Restart node) found asked = asked
still_asked n (event.Get node table version) found asked = asked
still_asked n (event.Info node table) found asked = asked
still_asked n (event.Outcome node text) found asked = asked

-- ---- what is given

module _ (config : AgreementConfig) (before sent : List Message) (next : ℕ) where
  abbrev go : EventResult → EventResult
  go given = moved_result (length before) given

  sends_gives : (views : Views) (due : Due) (given : EventResult) (seat : UpOrDown) → SendsGives sent next views due given seat
      → SendsGives (before ++ sent) (length before + next) views due (go given) seat
  sends_gives views (Refuses refusal) given seat (is, same) = (ap go is, same)
  sends_gives views (Plans plan) given seat (is, placed, same) =
      (ap go is, ap (λ (l : List Message). take (length plan.sends) l) (drop_behind before sent next) ∙ placed, same)

  put_gives : (views : Views) (due : Due) (given : EventResult) (seat : UpOrDown) → PutGives views due given seat → PutGives views due (go given) seat
  put_gives views (Refuses refusal) given seat (is, same) = (ap go is, same)
  put_gives views (Plans plan) given seat (is, same) = (ap go is, same)

  input_gives : (node : ℕ) (views : Views) (asked : Input) (given : EventResult) (seat : UpOrDown) → InputGives config node views asked (SendsGives sent next views) given seat
      → InputGives config node views asked (SendsGives (before ++ sent) (length before + next) views) (go given) seat
  input_gives node views asked given seat (inl (due, is, gives)) = inl (due, is, sends_gives views due given seat gives)
  input_gives node views asked given seat (inr (allowed, (is, same))) = inr (allowed, (ap go is, same))

  puts_give : (node : ℕ) (views : Views) (asked : Input) (given : EventResult) (seat : UpOrDown) → InputGives config node views asked (PutGives views) given seat
      → InputGives config node views asked (PutGives views) (go given) seat
  puts_give node views asked given seat (inl (due, is, gives)) = inl (due, is, put_gives views due given seat gives)
  puts_give node views asked given seat (inr (allowed, (is, same))) = inr (allowed, (ap go is, same))

  cut_gives : (node : ℕ) (views : Views) (asked : Input) (given : EventResult) (seat : UpOrDown) → CutGives config node views asked given seat → CutGives config node views asked (go given) seat
  cut_gives node views asked given seat (is, kept) = (ap go is, kept)

  delivers : (number : ℕ) (Before After : Message → EventResult → UpOrDown → Type 0) (views : Views) (given : EventResult) (seat : UpOrDown)
      → ((m : Message) → Before m given seat → After m (go given) seat) → Delivers sent next number Before views given seat
      → Delivers (before ++ sent) (length before + next) (length before + number) After views (go given) seat
  delivers number Before After views given seat later (inl (m, lt, is, gives)) =
      inl (m, omega (arith, lt), get_behind before sent number ∙ is, later m gives)
  delivers number Before After views given seat later (inr (late, is, same)) = inr (omega (arith, late), ap go is, same)

  restart_gives : (found : Bool) (old : UpOrDown) (given : EventResult) (seat : UpOrDown) → RestartGives found old given seat → RestartGives found old (go given) seat
  restart_gives found old given seat (inl (is, same)) = inl (ap go is, same)
  restart_gives found old given seat (inr (is, same)) = inr (ap go is, same)

  get_gives : (uploads : List Upload) (table : List ℕ) (version : ℕ) (given : EventResult) → GetGivesIfAble uploads table version given → GetGivesIfAble uploads table version (go given)
  get_gives uploads table version given (inl (inl (found, there, is))) = inl (inl (found, there, ap go is))
  get_gives uploads table version given (inl (inr (none, is))) = inl (inr (none, ap go is))
  get_gives uploads table version given (inr (some, is)) = inr (some, ap go is)

  info_gives : (uploads : List Upload) (table : List ℕ) (given : EventResult) → InfoGivesIfAble uploads table given → InfoGivesIfAble uploads table (go given)
  info_gives uploads table given (inl (inl (some, is))) = inl (inl (some, ap go is))
  info_gives uploads table given (inl (inr (none, is))) = inl (inr (none, ap go is))
  info_gives uploads table given (inr (some, is)) = inr (some, ap go is)

  outcome_gives : (uploads : List Upload) (text : List ℕ) (given : EventResult) → OutcomeGives uploads text given → OutcomeGives uploads text (go given)
  outcome_gives uploads text given (upload, is_text, is) = (upload, is_text, ap go is)

  up_gives : (found : Bool) (views : Views) (e : Event) (given : EventResult) (seat : UpOrDown) → UpGives config sent next found views e given seat
      → UpGives config (before ++ sent) (length before + next) found views (moved_event (length before) e) (go given) seat
  up_gives found views (event.Put node text) given seat gives = puts_give node views (input.Put text) given seat gives
  up_gives found views (event.Tick node left) given seat gives = input_gives node views (input.Tick left) given seat gives
  up_gives found views (event.Deliver node number) given seat gives =
      delivers number (λ m. InputGives config node views (input.Deliver m) (SendsGives sent next views))
      (λ m. InputGives config node views (input.Deliver m) (SendsGives (before ++ sent) (length before + next) views)) views given seat
      (λ m. input_gives node views (input.Deliver m) given seat) gives
  up_gives found views (event.TickCut node left) given seat gives = cut_gives node views (input.Tick left) given seat gives
  up_gives found views (event.DeliverCut node number) given seat gives =
      delivers number (λ m. CutGives config node views (input.Deliver m)) (λ m. CutGives config node views (input.Deliver m)) views given seat
      (λ m. cut_gives node views (input.Deliver m) given seat) gives
  up_gives found views (event.Restart node) given seat gives = restart_gives found (IsUp views) given seat gives
  up_gives found views (event.Get node table version) given seat (uploads, has, gives, same) = (uploads, has, get_gives uploads table version given gives, same)
  up_gives found views (event.Info node table) given seat (uploads, has, gives, same) = (uploads, has, info_gives uploads table given gives, same)
  up_gives found views (event.Outcome node text) given seat (uploads, has, gives, same) = (uploads, has, outcome_gives uploads text given gives, same)

  still_down : (old : UpOrDown) (given : EventResult) (seat : UpOrDown) → RefusesAsDown old given seat → RefusesAsDown old (go given) seat
  still_down old given seat (is, same) = (ap go is, same)

  down_gives : (found : Bool) (old : UpOrDown) (e : Event) (given : EventResult) (seat : UpOrDown) → DownGives found old e given seat
      → DownGives found old (moved_event (length before) e) (go given) seat
  down_gives found old (event.Put node text) given seat gives = still_down old given seat gives
  down_gives found old (event.Tick node left) given seat gives = still_down old given seat gives
  down_gives found old (event.Deliver node number) given seat gives = still_down old given seat gives
  down_gives found old (event.TickCut node left) given seat gives = still_down old given seat gives
  down_gives found old (event.DeliverCut node number) given seat gives = still_down old given seat gives
  down_gives found old (event.Restart node) given seat gives = restart_gives found old given seat gives
  down_gives found old (event.Get node table version) given seat gives = still_down old given seat gives
  down_gives found old (event.Info node table) given seat gives = still_down old given seat gives
  down_gives found old (event.Outcome node text) given seat gives = still_down old given seat gives

  seat_gives : (found : Bool) (old : UpOrDown) (e : Event) (given : EventResult) (seat : UpOrDown) → NodeGives config sent next found old e given seat
      → NodeGives config (before ++ sent) (length before + next) found old (moved_event (length before) e) (go given) seat
  seat_gives found (IsUp views) e given seat gives = up_gives found views e given seat gives
  seat_gives found (IsDown records due) e given seat gives = down_gives found (IsDown records due) e given seat gives

  -- ---- a step

  abbrev OfNode : (ℕ → UpOrDown) → Step → Bool → (ℕ → UpOrDown) → ℕ → Type 0
  OfNode old step found new node =
      (node < config.members)
      × NodeGives config (before ++ sent) (length before + next) found (old node) (moved_event (length before) step.event) (go step.result) (new node)
      × ((other : ℕ) → other ≢ node → new other ≡ old other)

  follows_moved : (old : ℕ → UpOrDown) (step : Step) (found : Bool) (new : ℕ → UpOrDown) → StepFollows config sent next old step found new
      → StepFollows config (before ++ sent) (length before + next) old (moved (length before) step) found new
  follows_moved old step found new (inl (member, gives, others)) =
      inl (subst (OfNode old step found new) (sym (same_node (length before) step.event))
      (member, seat_gives found (old (node_of step.event)) step.event step.result (new (node_of step.event)) gives, others))
  follows_moved old step found new (inr (outside, is, same)) =
      inr (subst (λ (k : ℕ). config.members ≤ k) (sym (same_node (length before) step.event)) outside, ap go is, same)

-- ---- all steps

pub reaches_moved : (config : AgreementConfig) (before sent : List Message) (steps : List Step) (found : List Bool) (seats last : ℕ → UpOrDown) (next : ℕ) → StepsReach config sent seats next steps found last
    → StepsReach config (before ++ sent) seats (length before + next) (map (moved (length before)) steps) found last
reaches_moved config before sent [] found seats last next (none, end, same) = (none, omega (arith, end, length-append before sent), same)
reaches_moved config before sent (s ∷ steps) [] seats last next reaches = absurd reaches
reaches_moved config before sent (s ∷ steps) (f ∷ found) seats last next (after, one, asked, rest) =
    let count = same_count (length before) s.result in
    let along : length before + (next + count_of s.result) ≡ (length before + next) + count_of (moved_result (length before) s.result) = omega (arith, count) in (
      after,
      follows_moved config before sent next seats s f after one,
      still_asked (length before) s.event f asked,
      subst (λ (k : ℕ). StepsReach config (before ++ sent) after k (map (moved (length before)) steps) found last) along
          (reaches_moved config before sent steps found after last (next + count_of s.result) rest),
    )
