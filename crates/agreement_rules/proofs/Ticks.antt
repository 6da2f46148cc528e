-- What a tick is for, by what waits and what was learned.
use Rattle.std.proofs.Common.{◌≡◌, ℕ, ◌<◌, ◌≤◌, ◌⊎◌, ◌↔◌, inl, inr, List, [], ◌∷◌, ◌++◌, length, Some, None, refl, sym, ap, subst, ◌∙◌, arith}
use Rattle.ballots.specs.Limits.{max_round}
use Rattle.ballots.specs.Ballot.{Ballot}
use Rattle.ballots.specs.declared.value.Value.{Value}
use Rattle.ballots.specs.declared.value.Value.TheVariants.{Noop, Upload as UploadValue}
use Rattle.ballots.specs.declared.record.Record.{Record}
use Rattle.ballots.specs.declared.record.Record.TheVariants.{Began}
use Rattle.ballots.specs.declared.message.Body.TheVariants.{Prepare, Ask}
use Rattle.ballots.specs.Message.{message}
use Rattle.acceptor.specs.Restored.{IsHighestRound}
use Rattle.proposer.specs.Call.{OneSlot, Begins}
use Rattle.proposer.specs.Attempting.{next_ballot}
use Rattle.learner.specs.Calls.{IsLearned}
use Rattle.agreement_rules.specs.Views.{AgreementConfig, Views, IsFreeAfter, HasPrefix, HasGap}
use Rattle.agreement_rules.specs.Due.{Plan, Plans, Refuses, OutOfRange, OutOfMemory, Aim, Attempts, AsksFrom, AsksAt, AimIsDue, TickIsDue}
use Rattle.agreement_rules.proofs.Prefixes.{OneValue, one_prefix}
use Rattle.agreement_rules.proofs.Replies.{sends_of}

-- the acceptor's law that is used
abbrev pub OneRound : Type 0
OneRound = (records : List Record) (a b : ℕ) → IsHighestRound records a → IsHighestRound records b → a ≡ b

no_longer_waits : (text : List ℕ) (others waiting : List (List ℕ)) → waiting ≡ text ∷ others → waiting ≡ [] → ⊥
no_longer_waits text others waiting some none = let no : text ∷ others ≡ [] = sym some ∙ none in cc

-- ---- an attempt

-- it begins at a ballot of the node's own
abbrev pub HasBegun : AgreementConfig → ℕ → Views → ℕ → Value → Plan → Type 0
HasBegun config me views slot value plan =
    (ballot : Ballot) × (ballot.node ≡ me) × (views.seen_round < ballot.round)
    × ((highest : ℕ) → IsHighestRound views.records highest → highest < ballot.round) × (ballot.round ≤ max_round)
    × (slot < config.slot_limit) × (plan.kept ≡ Some (Began ballot)) × (plan.sends ≡ message me slot (Prepare ballot) ∷ [])
    × (plan.after ≡ record {
      records = views.records ++ Began ballot ∷ [];
      seen_round = views.seen_round;
      waiting = views.waiting;
      proposer_calls = views.proposer_calls ++ Begins (record { slot = slot; reach = OneSlot; seen_round = views.seen_round; candidate = value; ballot = ballot }) ∷ [];
      learner_calls = views.learner_calls;
    })

pub begun_at : OneRound → (config : AgreementConfig) (me : ℕ) (views : Views) (slot : ℕ) (value : Value) (plan : Plan) → AimIsDue config me views (Attempts slot value) (Plans plan)
    → HasBegun config me views slot value plan
begun_at one_round config me views slot value plan (highest, within, is_highest, round_left, is) = (
  next_ballot me highest views.seen_round,
  refl,
  omega arith,
  (λ other is_other. let same : other ≡ highest = one_round views.records other highest is_other is_highest in omega (arith, same)),
  omega (arith, round_left),
  within,
  ap (λ (p : Plan). p.kept) is,
  ap sends_of is,
  ap (λ (p : Plan). p.after) is,
)

-- ---- what it is for

module _ (one_value : OneValue) (config : AgreementConfig) (me : ℕ) (views : Views) (left : ℕ) (plan : Plan) where
  -- it attempts to have the value chosen for the slot
  abbrev AttemptsTo : ℕ → Value → Type 0
  AttemptsTo slot value = AimIsDue config me views (Attempts slot value) (Plans plan)

  -- for the first that waits
  pub serves_first : (text : List ℕ) (others : List (List ℕ)) → views.waiting ≡ text ∷ others → TickIsDue config me views left (Plans plan)
      → (slot : ℕ) × IsFreeAfter config.members views.learner_calls left slot × AttemptsTo slot (UploadValue text)
  serves_first text others waits (inl (over, is)) = absurd (let no : Plans plan ≡ Refuses OutOfRange = is in cc)
  serves_first text others waits (inr (Attempts slot value, within, inl (text', others', waits', is, free), due)) =
      let same : text' ∷ others' ≡ text ∷ others = sym waits' ∙ waits in
      let texts : text' ≡ text = cc in
      (slot, free, subst (AttemptsTo slot) (is ∙ ap UploadValue texts) due)
  serves_first text others waits (inr (Attempts slot value, within, inr (values, none, is, prefix, at, gap), due)) =
      absurd (no_longer_waits text others views.waiting waits none)
  serves_first text others waits (inr (AsksFrom slot, within, (values, none, prefix, at, no_gap), due)) =
      absurd (no_longer_waits text others views.waiting waits none)

  -- nothing waits
  module _ (none : views.waiting ≡ []) (values : List Value) (prefix : HasPrefix config.members views.learner_calls values) where
    at_end : (found : List Value) (slot : ℕ) → HasPrefix config.members views.learner_calls found → slot ≡ length found → slot ≡ length values
    at_end found slot is_found at = at ∙ ap length (one_prefix one_value config.members views.learner_calls found values is_found prefix)

    -- and something was learned behind the prefix
    pub fills_gap : (slot : ℕ) (value : Value) → length values < slot → IsLearned config.members views.learner_calls slot value
        → TickIsDue config me views left (Plans plan) → AttemptsTo (length values) Noop
    fills_gap slot value behind learned (inl (over, is)) = absurd (let no : Plans plan ≡ Refuses OutOfRange = is in cc)
    fills_gap slot value behind learned (inr (Attempts at_slot tried, within, inl (text, others, waits, is, free), due)) =
        absurd (no_longer_waits text others views.waiting waits none)
    fills_gap slot value behind learned (inr (Attempts at_slot tried, within, inr (found, none', is, is_found, at, gap), due)) =
        subst (λ (s : ℕ). AttemptsTo s Noop) (at_end found at_slot is_found at) (subst (AttemptsTo at_slot) is due)
    fills_gap slot value behind learned (inr (AsksFrom at_slot, within, (found, none', is_found, at, no_gap), due)) =
        absurd (no_gap (subst (HasGap config.members views.learner_calls) (sym (at_end found at_slot is_found at)) (slot, value, behind, learned)))

    -- and nothing was
    abbrev AsksThere : ℕ → Type 0
    AsksThere slot = (plan.kept ≡ None) × (plan.after ≡ views)
        × (((slot < config.slot_limit) × (plan.sends ≡ message me slot Ask ∷ [])) ⊎ ((slot ≡ config.slot_limit) × (plan.sends ≡ [])))

    asks_there : (slot : ℕ) → AsksAt config me views slot plan → AsksThere slot
    asks_there slot (inl (within, is)) = (ap (λ (p : Plan). p.kept) is, ap (λ (p : Plan). p.after) is, inl (within, ap sends_of is))
    asks_there slot (inr (spent, is)) = (ap (λ (p : Plan). p.kept) is, ap (λ (p : Plan). p.after) is, inr (spent, ap sends_of is))

    pub asks_on : ((slot : ℕ) (value : Value) → length values < slot → IsLearned config.members views.learner_calls slot value → ⊥)
        → TickIsDue config me views left (Plans plan) → AsksThere (length values)
    asks_on none_behind (inl (over, is)) = absurd (let no : Plans plan ≡ Refuses OutOfRange = is in cc)
    asks_on none_behind (inr (Attempts slot tried, within, inl (text, others, waits, is, free), due)) = absurd (no_longer_waits text others views.waiting waits none)
    asks_on none_behind (inr (Attempts slot tried, within, inr (found, none', is, is_found, at, (later, value, behind, learned)), due)) =
        absurd (none_behind later value (subst (λ (s : ℕ). s < later) (at_end found slot is_found at) behind) learned)
    asks_on none_behind (inr (AsksFrom slot, within, (found, none', is_found, at, no_gap), due)) =
        subst AsksThere (at_end found slot is_found at) (asks_there slot due)

-- ---- refusals

not_of_aim : (config : AgreementConfig) (me : ℕ) (views : Views) (aim : Aim) → AimIsDue config me views aim (Refuses OutOfRange) → ⊥
not_of_aim config me views (Attempts slot value) is = is
not_of_aim config me views (AsksFrom slot) is = is

pub out_of_range : (config : AgreementConfig) (me : ℕ) (views : Views) (left : ℕ) → (TickIsDue config me views left (Refuses OutOfRange) ↔ (7 < left))
out_of_range config me views left = (there, λ over. inl (over, refl))
  where
    there : TickIsDue config me views left (Refuses OutOfRange) → 7 < left
    there (inl (over, is)) = over
    there (inr (aim, within, is_aim, due)) = absurd (not_of_aim config me views aim due)

no_memory : (config : AgreementConfig) (me : ℕ) (views : Views) (aim : Aim) → AimIsDue config me views aim (Refuses OutOfMemory) → ⊥
no_memory config me views (Attempts slot value) is = is
no_memory config me views (AsksFrom slot) is = is

pub takes_no_memory : (config : AgreementConfig) (me : ℕ) (views : Views) (left : ℕ) → TickIsDue config me views left (Refuses OutOfMemory) → ⊥
takes_no_memory config me views left (inl (over, is)) = let no : Refuses OutOfMemory ≡ Refuses OutOfRange = is in cc
takes_no_memory config me views left (inr (aim, within, is_aim, due)) = no_memory config me views aim due
