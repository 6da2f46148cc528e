-- A node that goes on in a tail answers what it told there.
use Rattle.std.proofs.Common.{◌≡◌, ◌⊎◌, inl, inr, ℕ, ◌+◌, ◌-◌, ◌<◌, ◌≤◌, ◌&&◌, ◌||◌, not, Bool, false, Option, None, Some, List, length, map, slice_get, refl, sym, ap, subst, ◌∙◌, arith}
use Rattle.std.specs.Option.{option_map}
use Rattle.std.proofs.lemmas.Option.{slice_get-map}
use Rattle.table_types.specs.Uploads.{Upload}
use Rattle.table_types.specs.Tables.{applied}
use Rattle.histories.specs.Texts.{IsTextOf}
use Rattle.histories.specs.Event.{Event}
use Rattle.histories.specs.Event as event
use Rattle.histories.specs.EventResult.{EventResult, is_done}
use Rattle.histories.specs.EventResult as results
use Rattle.histories.specs.History.{Step, History}
use Rattle.histories.specs.Following.{Follows}
use Rattle.safe_histories.specs.Learning.{is_restart_of, is_cut_of, brings_up, brings_down}
use Rattle.safe_histories.specs.Safe.{IsStep}
use Rattle.joined_histories.specs.Joined.{moved_event, moved_result, moved, joined}
use Rattle.joined_histories.proofs.Places.{get_behind, get_mapped}

abbrev pub Fresh : Type 0
Fresh = (history : History) (i j node number version : ℕ) (text : List ℕ) (upload : Upload) (given : EventResult)
    → Follows history → IsTextOf text upload
    → IsStep history.steps i (event.Outcome node text) (results.Outcome (applied number)) → i < j
    → ((k : ℕ) (step : Step) → i < k → k < j → slice_get history.steps k ≡ Some step → (brings_up node step ≡ false) × (brings_down node step ≡ false))
    → version ≤ number → IsStep history.steps j (event.Get node upload.table version) given
    → ((bytes : List ℕ) × (given ≡ results.Answer bytes)) ⊎ (given ≡ results.Refused results.OutOfMemory)

-- ---- a moved step starts and stops the same nodes

same_done : (n : ℕ) (given : EventResult) → is_done (moved_result n given) ≡ is_done given
same_done n (results.Sent first count) = refl
same_done n results.Done = refl
same_done n (results.Answer bytes) = refl
same_done n results.Unavailable = refl
same_done n (results.Info version) = refl
same_done n results.NoTable = refl
same_done n (results.Outcome outcome) = refl
same_done n (results.Refused reason) = refl

same_restart : (n node : ℕ) (e : Event) → is_restart_of node (moved_event n e) ≡ is_restart_of node e
same_restart n node (event.Put other text) = refl
same_restart n node (event.Tick other left) = refl
same_restart n node (event.Deliver other number) = refl
same_restart n node (event.TickCut other left) = refl
same_restart n node (event.DeliverCut other number) = refl
same_restart n node (event.Restart other) = refl
same_restart n node (event.Get other table version) = refl
same_restart n node (event.Info other table) = refl
same_restart n node (event.Outcome other text) = refl

same_cut : (n node : ℕ) (e : Event) → is_cut_of node (moved_event n e) ≡ is_cut_of node e
same_cut n node (event.Put other text) = refl
same_cut n node (event.Tick other left) = refl
same_cut n node (event.Deliver other number) = refl
same_cut n node (event.TickCut other left) = refl
same_cut n node (event.DeliverCut other number) = refl
same_cut n node (event.Restart other) = refl
same_cut n node (event.Get other table version) = refl
same_cut n node (event.Info other table) = refl
same_cut n node (event.Outcome other text) = refl

same_up : (n node : ℕ) (step : Step) → brings_up node (moved n step) ≡ brings_up node step
same_up n node step =
    ap (λ (b : Bool). b && is_done (moved_result n step.result)) (same_restart n node step.event)
    ∙ ap (λ (b : Bool). is_restart_of node step.event && b) (same_done n step.result)

same_down : (n node : ℕ) (step : Step) → brings_down node (moved n step) ≡ brings_down node step
same_down n node step =
    ap (λ (b : Bool). (b && is_done (moved_result n step.result)) || (is_restart_of node (moved_event n step.event) && not (is_done (moved_result n step.result)))) (same_cut n node step.event)
    ∙ (ap (λ (b : Bool). (is_cut_of node step.event && is_done (moved_result n step.result)) || (b && not (is_done (moved_result n step.result)))) (same_restart n node step.event)
    ∙ ap (λ (b : Bool). (is_cut_of node step.event && b) || (is_restart_of node step.event && not b)) (same_done n step.result))

-- ---- a step behind the first part is one of the tail

none_is_some : {X : Type 0} (x : X) → None ≡ Some x → ⊥
none_is_some x same = cc

some_same : {X : Type 0} (x y : X) → Some x ≡ Some y → x ≡ y
some_same x y same = cc

of_map : {X Y : Type 0} (f : X → Y) (found : Option X) (y : Y) → option_map f found ≡ Some y → (x : X) × (found ≡ Some x) × (f x ≡ y)
of_map f None y is = absurd (none_is_some y is)
of_map f (Some x) y is = (x, refl, some_same (f x) y is)

in_tail : (before tail : History) (k : ℕ) (step : Step) → slice_get (joined before tail).steps (length before.steps + k) ≡ Some step
    → (own : Step) × (slice_get tail.steps k ≡ Some own) × (moved (length before.sent) own ≡ step)
in_tail before tail k step is =
    of_map (moved (length before.sent)) (slice_get tail.steps k) step
    (sym (slice_get-map (moved (length before.sent)) tail.steps k) ∙ sym (get_behind before.steps (map (moved (length before.sent)) tail.steps) k) ∙ is)

abbrev Still : List Step → ℕ → ℕ → ℕ → Type 0
Still steps node i j = (k : ℕ) (step : Step) → i < k → k < j → slice_get steps k ≡ Some step → (brings_up node step ≡ false) × (brings_down node step ≡ false)

still_joined : (before tail : History) (node i j : ℕ) → Still tail.steps node i j → Still (joined before tail).steps node (length before.steps + i) (length before.steps + j)
still_joined before tail node i j still k step above below is =
    let n = length before.steps in
    let count = length before.sent in
    let at : n + (k - n) ≡ k = omega (arith, above) in
    let own = in_tail before tail (k - n) step (subst (λ (m : ℕ). slice_get (joined before tail).steps m ≡ Some step) (sym at) is) in
    let calm = still (k - n) own.0 (omega (arith, above)) (omega (arith, above, below)) own.1 in
    subst (λ (s : Step). (brings_up node s ≡ false) × (brings_down node s ≡ false)) own.2
    (same_up count node own.0 ∙ calm.0, same_down count node own.0 ∙ calm.1)

-- ---- the answer

given_moved : (n : ℕ) (given : EventResult) → ((bytes : List ℕ) × (moved_result n given ≡ results.Answer bytes)) ⊎ (moved_result n given ≡ results.Refused results.OutOfMemory)
    → ((bytes : List ℕ) × (given ≡ results.Answer bytes)) ⊎ (given ≡ results.Refused results.OutOfMemory)
given_moved n (results.Sent first count) (inl (bytes, is)) = absurd (cc)
given_moved n (results.Sent first count) (inr is) = absurd (cc)
given_moved n results.Done (inl (bytes, is)) = absurd (cc)
given_moved n results.Done (inr is) = absurd (cc)
given_moved n (results.Answer found) is = is
given_moved n results.Unavailable is = is
given_moved n (results.Info version) is = is
given_moved n results.NoTable is = is
given_moved n (results.Outcome outcome) is = is
given_moved n (results.Refused reason) is = is

pub fresh_tail : Fresh → (before tail : History) → Follows (joined before tail) → (i j node number version : ℕ) (text : List ℕ) (upload : Upload) (given : EventResult)
    → IsTextOf text upload → IsStep tail.steps i (event.Outcome node text) (results.Outcome (applied number)) → i < j → Still tail.steps node i j
    → version ≤ number → IsStep tail.steps j (event.Get node upload.table version) given
    → ((bytes : List ℕ) × (given ≡ results.Answer bytes)) ⊎ (given ≡ results.Refused results.OutOfMemory)
fresh_tail fresh before tail follows i j node number version text upload given is_text told early still le asked =
    let go = moved (length before.sent) in
    let n = length before.steps in
    given_moved (length before.sent) given
    (fresh (joined before tail) (n + i) (n + j) node number version text upload (moved_result (length before.sent) given) follows is_text
    (get_mapped go before.steps tail.steps i (record { event = event.Outcome node text; result = results.Outcome (applied number) }) told)
    (omega (arith, early)) (still_joined before tail node i j still) le
    (get_mapped go before.steps tail.steps j (record { event = event.Get node upload.table version; result = given }) asked))
