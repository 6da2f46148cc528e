-- Each acceptance that a node kept was told, or was found at a start behind the cut where it was due.
use Rattle.std.proofs.Common.{◌≡◌, ℕ, zero, suc, ◌<◌, ◌⊎◌, inl, inr, Bool, true, false, if◌then◌else◌, Option, None, Some, List, [], ◌∷◌, ◌++◌, filter_map, refl, sym, ap, ap₂, subst, ◌∙◌, arith}
use Rattle.std.specs.List.{Contains, cons_option}
use Rattle.std.proofs.lemmas.List.Elements.{Contains-append_cases, Contains-push_cases}
use Rattle.ballots.specs.Message.{message}
use Rattle.ballots.specs.declared.acceptance.Acceptance.{Acceptance}
use Rattle.ballots.specs.declared.record.Record.{Record}
use Rattle.ballots.specs.declared.record.Record.TheVariants.{Accepted as HasAccepted}
use Rattle.ballots.specs.declared.message.Message.{Message}
use Rattle.ballots.specs.declared.message.Body.{Body}
use Rattle.ballots.specs.declared.message.Body.TheVariants as body
use Rattle.agreement_rules.specs.Views.{AgreementConfig, started_with}
use Rattle.agreement_rules.specs.Keeping.{record_behind, record_of}
use Rattle.histories.specs.Event.{node_of}
use Rattle.histories.specs.Event as event
use Rattle.histories.specs.EventResult as results
use Rattle.histories.specs.History.{Step}
use Rattle.histories.specs.Following.{UpOrDown, IsUp, IsDown, recovered_in, Reaches}
use Rattle.histories.specs.Owning.{concerns, sends_in, entry_of, own, Leads}
use Rattle.histories.specs.Keeping.{is_recovered, if_recovered, AreKept, records_in}
use Rattle.safe_histories.specs.Safe.{IsStep}
use Rattle.resumed_histories.specs.Finding.{WasFound}
use Rattle.resumed_histories.proofs.Sending.{PartsAnswer, TicksSay, sent_in_step, seat_own}
use Rattle.resumed_histories.proofs.Finding.{FoundNext, IsCutAt, of_the_node, no_question, next_found, cut_is}

-- ---- lists

front_or_rest : {X : Type 0} (x y : X) (xs : List X) → Contains (x ∷ xs) y → (x ≡ y) ⊎ Contains xs y
front_or_rest x y xs (zero, within, same) = inl same
front_or_rest x y xs (suc k, within, same) = inr (k, omega (arith, within), same)

none_in : {X : Type 0} (y : X) → Contains [] y → ⊥
none_in y has = absurd (omega (arith, has.1))

-- what is given comes of an element
abbrev Comes : {X Y : Type 0} → (X → Option Y) → List X → Y → Type 0
Comes {X} f xs y = (x : X) × Contains xs x × (f x ≡ Some y)

comes_later : {X Y : Type 0} (f : X → Option Y) (x : X) (xs : List X) (y : Y) → Comes f xs y → Comes f (x ∷ xs) y
comes_later f x xs y (z, (k, within, same), is) = (z, (suc k, omega (arith, within), same), is)

comes_step : {X Y : Type 0} (f : X → Option Y) (x : X) (xs : List X) (y : Y) (o : Option Y) → f x ≡ o → (Contains (filter_map f xs) y → Comes f xs y)
    → Contains (cons_option o (filter_map f xs)) y → Comes f (x ∷ xs) y
comes_step f x xs y None is rest has = comes_later f x xs y (rest has)
comes_step f x xs y (Some z) is rest has = elim (front_or_rest z y (filter_map f xs) has) as (λ _. Comes f (x ∷ xs) y) [
  | inl same ↦ (x, (0, omega arith, refl), is ∙ ap Some same)
  | inr there ↦ comes_later f x xs y (rest there)
]

comes_from : {X Y : Type 0} (f : X → Option Y) (xs : List X) (y : Y) → Contains (filter_map f xs) y → Comes f xs y
comes_from f [] y has = absurd (none_in y has)
comes_from f (x ∷ xs) y has = comes_step f x xs y (f x) refl (comes_from f xs y) has

is_recovered_due : (recovered : Bool) (due : Option Record) (kept : Record) → Contains (if_recovered recovered due) kept → (recovered ≡ true) × (due ≡ Some kept)
is_recovered_due recovered None kept has = absurd (none_in kept has)
is_recovered_due true (Some due) kept has = elim (front_or_rest due kept [] has) as (λ _. (true ≡ true) × (Some due ≡ Some kept)) [
  | inl same ↦ (refl, ap Some same)
  | inr there ↦ absurd (none_in kept there)
]
is_recovered_due false (Some due) kept has = absurd (none_in kept has)

-- ---- a message behind the record

module _ (slot : ℕ) (told : Acceptance) where
  says_accepted : (at : ℕ) (said : Body) → record_behind at said ≡ Some (HasAccepted slot told) → (at ≡ slot) × (said ≡ body.Accepted told)
  says_accepted at (body.Prepare ballot) is = absurd (cc)
  says_accepted at (body.Promise ballot report) is = absurd (cc)
  says_accepted at (body.Nack ballot promised) is = absurd (cc)
  says_accepted at (body.Accept proposal) is = absurd (cc)
  says_accepted at (body.Accepted acceptance) is =
      let slots : at ≡ slot = cc in
      let acceptances : acceptance ≡ told = cc in
      (slots, ap body.Accepted acceptances)
  says_accepted at body.Ask is = absurd (cc)
  says_accepted at (body.Decided value) is = absurd (cc)

  module _ (node : ℕ) (sent : List Message) where
    abbrev WasTold : List Step → List Bool → Type 0
    WasTold steps recovered = Contains sent (message node slot (body.Accepted told)) ⊎ WasFound node sent steps recovered slot told

    later : (step : Step) (steps : List Step) (was : Bool) (recovered : List Bool) → WasTold steps recovered → WasTold (step ∷ steps) (was ∷ recovered)
    later step steps was recovered (inl has) = inl has
    later step steps was recovered (inr found) = inr (record {
      cut = suc found.cut;
      number = found.number;
      sender = found.sender;
      at_cut = found.at_cut;
      handed = found.handed;
      start = suc found.start;
      later = omega (arith, found.later);
      at_start = found.at_start;
      first = earlier;
      found = found.found;
    })
      where
        earlier : (place : ℕ) → suc found.cut < place → place < suc found.start → IsStep (step ∷ steps) place (event.Restart node) results.Done → ⊥
        earlier zero behind within is = absurd (omega (arith, behind))
        earlier (suc place) behind within is = found.first place (omega (arith, behind)) (omega (arith, within)) is

    cut_here : (step : Step) (steps : List Step) (was : Bool) (recovered : List Bool) → node_of step.event ≡ node → IsCutAt sent slot told step.event step.result
        → FoundNext node steps recovered → WasTold (step ∷ steps) (was ∷ recovered)
    cut_here step steps was recovered mine is_cut next = inr (record {
      cut = 0;
      number = is_cut.number;
      sender = is_cut.sender;
      at_cut =
          ap Some (ap₂ (λ (e : event.Event) (given : results.EventResult). record { event = e; result = given })
          (is_cut.cut ∙ ap (λ (n : ℕ). event.DeliverCut n is_cut.number) mine) is_cut.done);
      handed = is_cut.handed;
      start = suc next.start;
      later = omega arith;
      at_start = next.at_start;
      first = earlier;
      found = next.found;
    })
      where
        earlier : (place : ℕ) → 0 < place → place < suc next.start → IsStep (step ∷ steps) place (event.Restart node) results.Done → ⊥
        earlier zero behind within is = absurd (omega (arith, behind))
        earlier (suc place) behind within is = next.first place (omega (arith, within)) is

    module _ (parts : PartsAnswer) (ticks : TicksSay) (config : AgreementConfig) where
      sent_here : (step : Step) (was : Bool) (seat after : UpOrDown) → concerns node step.event ≡ true → Leads config seat (entry_of sent step was) after
          → Comes record_of (sends_in sent step.result) (HasAccepted slot told) → Contains sent (message node slot (body.Accepted told))
      sent_here step was seat after mine leads (m, has, is) =
          let says = says_accepted m.slot m.body is in
          let sender : m.sender ≡ node =
          seat_own parts ticks config leads.sent leads.next m step.result after (subst (λ (ms : List Message). Contains ms m) (sym leads.sends_are) has)
          was seat step.event (no_question node step.event mine) leads.gives ∙ of_the_node node step.event mine in
          let whole : m ≡ message m.sender slot (body.Accepted told) = ap₂ (message m.sender) says.0 says.1 in
          let named : m ≡ message node slot (body.Accepted told) = whole ∙ ap (λ (n : ℕ). message n slot (body.Accepted told)) sender in
          subst (Contains sent) named (sent_in_step sent step.result m has)

      own_step : (step : Step) (steps : List Step) (was : Bool) (recovered : List Bool) (seat : UpOrDown) (records : List Record) → concerns node step.event ≡ true
          → AreKept config seat (entry_of sent step was ∷ own node sent steps recovered) records → Contains records (HasAccepted slot told)
          → ((after : UpOrDown) (more : List Record) → AreKept config after (own node sent steps recovered) more → Contains more (HasAccepted slot told) → WasTold steps recovered)
          → WasTold (step ∷ steps) (was ∷ recovered)
      own_step step steps was recovered seat records mine (after, due, more, leads, at_cut, kept, are) has rest =
          let found : Bool = is_recovered (own node sent steps recovered) in
          let sends : List Record = filter_map record_of (sends_in sent step.result) in
          elim (Contains-append_cases sends (if_recovered found due ++ more) (HasAccepted slot told) (subst (λ (rs : List Record). Contains rs (HasAccepted slot told)) are has))
          as (λ _. WasTold (step ∷ steps) (was ∷ recovered)) [
            | inl here ↦ inl (sent_here step was seat after mine leads (comes_from record_of (sends_in sent step.result) (HasAccepted slot told) here))
            | inr behind ↦
                elim (Contains-append_cases (if_recovered found due) more (HasAccepted slot told) behind) as (λ _. WasTold (step ∷ steps) (was ∷ recovered)) [
                  | inl recovers ↦
                      let is = is_recovered_due found due (HasAccepted slot told) recovers in
                      cut_here step steps was recovered (of_the_node node step.event mine)
                      (cut_is slot told config sent leads.sent leads.next was step.result after due is.1 seat step.event at_cut leads.gives)
                      (next_found node sent steps recovered is.0)
                  | inr there ↦ later step steps was recovered (rest after more kept there)
                ]
          ]

      step_told : (step : Step) (steps : List Step) (was : Bool) (recovered : List Bool) (seat : UpOrDown) (records : List Record) (b : Bool) → concerns node step.event ≡ b
          → AreKept config seat (if b then entry_of sent step was ∷ own node sent steps recovered else own node sent steps recovered) records → Contains records (HasAccepted slot told)
          → ((after : UpOrDown) (more : List Record) → AreKept config after (own node sent steps recovered) more → Contains more (HasAccepted slot told) → WasTold steps recovered)
          → WasTold (step ∷ steps) (was ∷ recovered)
      step_told step steps was recovered seat records true mine kept has rest = own_step step steps was recovered seat records mine kept has rest
      step_told step steps was recovered seat records false mine kept has rest = later step steps was recovered (rest seat records kept has)

      all_told : (steps : List Step) (recovered : List Bool) (seat : UpOrDown) (records : List Record) → AreKept config seat (own node sent steps recovered) records
          → Contains records (HasAccepted slot told) → WasTold steps recovered
      all_told [] recovered seat records none has = absurd (none_in (HasAccepted slot told) (subst (λ (rs : List Record). Contains rs (HasAccepted slot told)) none has))
      all_told (step ∷ steps) [] seat records none has = absurd (none_in (HasAccepted slot told) (subst (λ (rs : List Record). Contains rs (HasAccepted slot told)) none has))
      all_told (step ∷ steps) (was ∷ recovered) seat records kept has =
          step_told step steps was recovered seat records (concerns node step.event) refl kept has (λ after more. all_told steps recovered after more)

-- ---- what is found at a start

-- the record was due where the node went down, and is found
abbrev IsFoundNow : Bool → UpOrDown → Record → Type 0
IsFoundNow found seat kept = (found ≡ true) × (records : List Record) × (seat ≡ IsDown records (Some kept))

-- a start has the records that the node had, and what was due where it went down
had_or_found : (found : Bool) (seat : UpOrDown) (kept : Record) → Contains (recovered_in found seat) kept → Contains (records_in seat) kept ⊎ IsFoundNow found seat kept
had_or_found found (IsUp views) kept has = inl has
had_or_found found (IsDown records None) kept has = inl has
had_or_found false (IsDown records (Some due)) kept has = inl has
had_or_found true (IsDown records (Some due)) kept has =
    elim (Contains-push_cases records due kept has) as (λ _. Contains records kept ⊎ IsFoundNow true (IsDown records (Some due)) kept) [
      | inl there ↦ inl there
      | inr same ↦ inr (refl, records, ap (λ (r : Record). IsDown records (Some r)) same)
    ]

or_more : {A B C : Type 0} → A ⊎ B → A ⊎ B ⊎ C
or_more (inl a) = inl a
or_more (inr b) = inr (inl b)

-- ---- the law

abbrev pub KeepsRecords : Type 0
KeepsRecords = (config : AgreementConfig) (sent : List Message) (steps : List Step) (recovered : List Bool) (seats : ℕ → UpOrDown)
    (node : ℕ) → node < config.members → Reaches config sent steps recovered seats
    → AreKept config (IsUp (started_with [])) (own node sent steps recovered) (records_in (seats node))

module _ (keeps : KeepsRecords) (parts : PartsAnswer) (ticks : TicksSay) where
  pub accepted_was_told : (config : AgreementConfig) (sent : List Message) (steps : List Step) (recovered : List Bool) (seats : ℕ → UpOrDown) (node slot : ℕ) (told : Acceptance)
      → node < config.members → Reaches config sent steps recovered seats → Contains (records_in (seats node)) (HasAccepted slot told)
      → Contains sent (message node slot (body.Accepted told)) ⊎ WasFound node sent steps recovered slot told
  accepted_was_told config sent steps recovered seats node slot told member reaches has =
      all_told slot told node sent parts ticks config steps recovered (IsUp (started_with [])) (records_in (seats node))
      (keeps config sent steps recovered seats node member reaches) has

  pub accepted_at_start : (config : AgreementConfig) (sent : List Message) (steps : List Step) (recovered : List Bool) (seats : ℕ → UpOrDown) (node slot : ℕ) (told : Acceptance) (found : Bool)
      → node < config.members → Reaches config sent steps recovered seats → Contains (recovered_in found (seats node)) (HasAccepted slot told)
      → Contains sent (message node slot (body.Accepted told)) ⊎ WasFound node sent steps recovered slot told ⊎ IsFoundNow found (seats node) (HasAccepted slot told)
  accepted_at_start config sent steps recovered seats node slot told found member reaches has =
      elim (had_or_found found (seats node) (HasAccepted slot told) has)
      as (λ _. Contains sent (message node slot (body.Accepted told)) ⊎ WasFound node sent steps recovered slot told ⊎ IsFoundNow found (seats node) (HasAccepted slot told)) [
        | inl had ↦ or_more (accepted_was_told config sent steps recovered seats node slot told member reaches had)
        | inr due ↦ inr (inr due)
      ]
