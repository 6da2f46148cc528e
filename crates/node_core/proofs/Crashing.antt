-- A crash in the midst of a step as a history: the step is cut, and the node restarts from what its store has.
use Rattle.std.proofs.Common.{◌≡◌, ◌≢◌, ℕ, ◌<◌, inl, inr, Bool, true, false, List, [], ◌∷◌, ◌++◌, length, Option, Some, None, Result, Ok, Err, refl, sym, ap, subst, ◌∙◌, if◌then◌else◌}
use Rattle.std.proofs.lemmas.Bool.{ne_eqb, eq-eqb}
use Rattle.std.proofs.lemmas.List.{append-nil, append_assoc}
use Rattle.std.proofs.lemmas.Option.{slice_get_within}
use Rattle.ballots.specs.declared.message.Message.{Message}
use Rattle.ballots.specs.declared.record.Record.{Record}
use Rattle.stable_records.specs.declared.fault.StoreFault.{StoreFault}
use Rattle.stable_records.specs.declared.fault.StoreFault.TheVariants.{Device, Damaged, Broken, OutOfMemory}
use Rattle.stable_records.specs.Found.{Found, FindsOnly, IsWithOrWithout}
use Rattle.stable_records.specs.Calls.{LeftInKeep}
use Rattle.agreement_rules.specs.Views.{AgreementConfig, Views, started_with}
use Rattle.histories.specs.Due.{Input, InputKeeps}
use Rattle.histories.specs.Due as input
use Rattle.histories.specs.Event.{Event, node_of}
use Rattle.histories.specs.Event as event
use Rattle.histories.specs.EventResult.{count_of}
use Rattle.histories.specs.EventResult as results
use Rattle.histories.specs.History.{Step}
use Rattle.histories.specs.Following.{UpOrDown, IsUp, IsDown, with_due, NodeGives, StepFollows, IsAsked, Reaches, with_seat}
use Rattle.histories.specs.Owning.{own}
use Rattle.histories.specs.Keeping.{AreKept, records_in}
use Rattle.node_core.specs.Reopening.{IsCutOf, MayBeLeft, done, GoesOnWith, IsKeptThrough}

-- ---- what the laws of histories say

abbrev pub StepsAlone : Type 0
StepsAlone = (config : AgreementConfig) (sent : List Message) (next : ℕ) (seats : ℕ → UpOrDown) (step : Step) (recovered : Bool)
    (seat : UpOrDown) → node_of step.event < config.members
    → NodeGives config sent next recovered (seats (node_of step.event)) step.event step.result seat
    → StepFollows config sent next seats step recovered (with_seat seats (node_of step.event) seat)

abbrev pub StepsMore : Type 0
StepsMore = (config : AgreementConfig) (sent more : List Message) (steps : List Step) (recovered : List Bool)
    (seats new : ℕ → UpOrDown) (step : Step) (was : Bool) → Reaches config sent steps recovered seats
    → StepFollows config (sent ++ more) (length sent) seats step was new → IsAsked step.event was
    → length more ≡ count_of step.result
    → Reaches config (sent ++ more) (steps ++ step ∷ []) (recovered ++ was ∷ []) new

abbrev pub KeepsRecords : Type 0
KeepsRecords = (config : AgreementConfig) (sent : List Message) (steps : List Step) (recovered : List Bool) (seats : ℕ → UpOrDown)
    (node : ℕ) → node < config.members → Reaches config sent steps recovered seats
    → AreKept config (IsUp (started_with [])) (own node sent steps recovered) (records_in (seats node))

-- ---- what a crash leaves

pub left_in_keep : {T : Type 0} (last : Record) (answer : Result T StoreFault) (finds : Found → Type 0) (found : Found)
    → LeftInKeep last answer finds found → IsWithOrWithout last finds found
left_in_keep last (Ok x) finds found left = left
left_in_keep last (Err Device) finds found left = left
left_in_keep last (Err Damaged) finds found left = absurd left
left_in_keep last (Err Broken) finds found left = inl left
left_in_keep last (Err OutOfMemory) finds found left = inl left

module _ (records : List Record) (finds : Found → Type 0) (found : Found) (only : FindsOnly finds records) where
  found_after : (due : Option Record) → MayBeLeft due finds found → (was : Bool) × (found ≡ Some (with_due was records due))
  found_after None here = (false, only.nothing_else found here)
  found_after (Some last) (inl here) = (false, only.nothing_else found here)
  found_after (Some last) (inr (before, there, is)) =
      let one : Some before ≡ Some records = only.nothing_else (Some before) there in
      let same : before ≡ records = cc in
      (true, is ∙ ap (λ (rs : List Record). Some (rs ++ last ∷ [])) same)

-- ---- one seat in the place of another

seat_there : (seats : ℕ → UpOrDown) (node : ℕ) (seat : UpOrDown) → with_seat seats node seat node ≡ seat
seat_there seats node seat = ap (λ (b : Bool). if b then seat else seats node) (eq-eqb node node refl)

seat_besides : (seats : ℕ → UpOrDown) (node : ℕ) (seat : UpOrDown) (other : ℕ) → other ≢ node → with_seat seats node seat other ≡ seats other
seat_besides seats node seat other differs = ap (λ (b : Bool). if b then seat else seats other) (ne_eqb other node differs)

-- ---- steps that send nothing

module _ (alone : StepsAlone) (steps_more : StepsMore) (keeps : KeepsRecords) (config : AgreementConfig) (sent : List Message) (node : ℕ) (member : node < config.members) where
  -- the node itself takes one step more, and sends nothing
  quiet : (steps : List Step) (recovered : List Bool) (seats : ℕ → UpOrDown) (e : Event) (was : Bool) (old new : UpOrDown) → node_of e ≡ node
      → Reaches config sent steps recovered seats → seats node ≡ old → NodeGives config sent (length sent) was old e results.Done new → IsAsked e was
      → Reaches config sent (steps ++ done e ∷ []) (recovered ++ was ∷ []) (with_seat seats node new)
  quiet steps recovered seats e was old new own reaches at gives asked =
      let after : ℕ → UpOrDown = with_seat seats (node_of e) new in
      let here : seats (node_of e) ≡ old = ap seats own ∙ at in
      let follows : StepFollows config sent (length sent) seats (done e) was after =
      alone config sent (length sent) seats (done e) was new (subst (λ (n : ℕ). n < config.members) (sym own) member)
      (subst (λ (s : UpOrDown). NodeGives config sent (length sent) was s e results.Done new) (sym here) gives) in
      let there : StepFollows config (sent ++ []) (length sent) seats (done e) was after =
      subst (λ (ms : List Message). StepFollows config ms (length sent) seats (done e) was after) (sym (append-nil sent)) follows in
      let more : Reaches config (sent ++ []) (steps ++ done e ∷ []) (recovered ++ was ∷ []) after =
      steps_more config sent [] steps recovered seats after (done e) was reaches there asked refl in
      let same : Reaches config sent (steps ++ done e ∷ []) (recovered ++ was ∷ []) after =
      subst (λ (ms : List Message). Reaches config ms (steps ++ done e ∷ []) (recovered ++ was ∷ []) after) (append-nil sent) more in
      subst (λ (n : ℕ). Reaches config sent (steps ++ done e ∷ []) (recovered ++ was ∷ []) (with_seat seats n new)) own same

  -- a history that leaves the node up with records and nothing else
  goes_on : (steps more : List Step) (recovered asked : List Bool) (seats after : ℕ → UpOrDown) (records : List Record)
      → Reaches config sent (steps ++ more) (recovered ++ asked) after → after node ≡ IsUp (started_with records)
      → ((other : ℕ) → other ≢ node → after other ≡ seats other) → GoesOnWith config sent steps more recovered asked seats node records
  goes_on steps more recovered asked seats after records reaches opened others = record {
    after = after;
    reaches = reaches;
    opened = opened;
    others = others;
    kept = subst (λ (s : UpOrDown). AreKept config (IsUp (started_with [])) (own node sent (steps ++ more) (recovered ++ asked)) (records_in s)) opened
        (keeps config sent (steps ++ more) (recovered ++ asked) after node member reaches);
  }

  -- ---- a restart alone

  pub crash_between : (steps : List Step) (recovered : List Bool) (seats : ℕ → UpOrDown) (views : Views) (finds : Found → Type 0) (found : Found)
      → Reaches config sent steps recovered seats → seats node ≡ IsUp views → FindsOnly finds views.records → finds found
      → IsKeptThrough config sent steps [] recovered [] seats node found
  crash_between steps recovered seats views finds found reaches at only here = (
    false,
    views.records,
    only.nothing_else found here,
    goes_on steps (done (event.Restart node) ∷ []) recovered (false ∷ []) seats (with_seat seats node (IsUp (started_with views.records))) views.records
        (quiet steps recovered seats (event.Restart node) false (IsUp views) (IsUp (started_with views.records)) refl reaches at (inl (refl, refl)) tt)
        (seat_there seats node (IsUp (started_with views.records)))
        (seat_besides seats node (IsUp (started_with views.records))),
  )

  -- ---- a cut, and a restart

  -- what a cut of the node gives
  record CutStep (views : Views) (due : Option Record) (cut : Event) : Type 0 where
    own : node_of cut ≡ node
    asked : IsAsked cut false
    gives : NodeGives config sent (length sent) false (IsUp views) cut results.Done (IsDown views.records due)

  cut_step : (views : Views) (due : Option Record) (cut : Event) (asked : Input) → IsCutOf sent node cut asked
      → InputKeeps config node views asked due → CutStep views due cut
  cut_step views due cut (input.Put text) none kept = absurd none
  cut_step views due cut (input.Tick left) is kept =
      subst (CutStep views due) (sym is) (record { own = refl; asked = refl; gives = (refl, (due, kept, refl)) })
  cut_step views due cut (input.Deliver m) (number, is, sent_is) kept =
      subst (CutStep views due) (sym is) (record { own = refl; asked = refl; gives = inl (m, slice_get_within sent number m sent_is, sent_is, (refl, (due, kept, refl))) })

  pub crash_within : (steps : List Step) (recovered : List Bool) (seats : ℕ → UpOrDown) (views : Views) (cut : Event) (asked : Input) (due : Option Record)
      (finds : Found → Type 0) (found : Found) → Reaches config sent steps recovered seats → seats node ≡ IsUp views
      → IsCutOf sent node cut asked → InputKeeps config node views asked due → FindsOnly finds views.records → MayBeLeft due finds found
      → IsKeptThrough config sent steps (done cut ∷ []) recovered (false ∷ []) seats node found
  crash_within steps recovered seats views cut asked due finds found reaches at is_cut kept only left =
      let step : CutStep views due cut = cut_step views due cut asked is_cut kept in
      let down : ℕ → UpOrDown = with_seat seats node (IsDown views.records due) in
      let was_found : (was : Bool) × (found ≡ Some (with_due was views.records due)) = found_after views.records finds found only due left in
      let was : Bool = was_found.0 in
      let records : List Record = with_due was views.records due in
      let up : UpOrDown = IsUp (started_with records) in
      let first : Reaches config sent (steps ++ done cut ∷ []) (recovered ++ false ∷ []) down =
      quiet steps recovered seats cut false (IsUp views) (IsDown views.records due) step.own reaches at step.gives step.asked in
      let second : Reaches config sent ((steps ++ done cut ∷ []) ++ done (event.Restart node) ∷ []) ((recovered ++ false ∷ []) ++ was ∷ []) (with_seat down node up) =
      quiet (steps ++ done cut ∷ []) (recovered ++ false ∷ []) down (event.Restart node) was (IsDown views.records due) up refl first
      (seat_there seats node (IsDown views.records due)) (inl (refl, refl)) tt in
      let joined : Reaches config sent (steps ++ (done cut ∷ done (event.Restart node) ∷ [])) ((recovered ++ false ∷ []) ++ was ∷ []) (with_seat down node up) =
      subst (λ (ss : List Step). Reaches config sent ss ((recovered ++ false ∷ []) ++ was ∷ []) (with_seat down node up))
      (append_assoc steps (done cut ∷ []) (done (event.Restart node) ∷ [])) second in
      let whole : Reaches config sent (steps ++ (done cut ∷ done (event.Restart node) ∷ [])) (recovered ++ (false ∷ was ∷ [])) (with_seat down node up) =
      subst (λ (bs : List Bool). Reaches config sent (steps ++ (done cut ∷ done (event.Restart node) ∷ [])) bs (with_seat down node up))
      (append_assoc recovered (false ∷ []) (was ∷ [])) joined in (
        was,
        records,
        was_found.1,
        goes_on steps (done cut ∷ done (event.Restart node) ∷ []) recovered (false ∷ was ∷ []) seats (with_seat down node up) records whole
            (seat_there down node up)
            (λ other differs. seat_besides down node up other differs ∙ seat_besides seats node (IsDown views.records due) other differs),
      )
