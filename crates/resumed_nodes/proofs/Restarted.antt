-- Nodes that start again, one after the other.
use Rattle.std.proofs.Common.{◌≡◌, ℕ, zero, suc, ◌<◌, arith, inl, inr, Bool, None, Some, Result, Ok, Err, IfOk, List, [], ◌∷◌, ◌++◌, length, map, slice_get, slice_index_or, refl, sym, ap, subst, ◌∙◌}
use Rattle.std.specs.List.{All, Contains}
use Rattle.std.proofs.lemmas.Bool.{cases_lt}
use Rattle.std.proofs.lemmas.List.{length-map, length_push, get_or_push, get_or_append_left}
use Rattle.std.proofs.lemmas.List.Elements.{All-contains, All-from_recursion}
use Rattle.ballots.specs.declared.record.Record.{Record}
use Rattle.ballots.specs.declared.record.Record.TheVariants.{Accepted as HasAccepted}
use Rattle.ballots.specs.declared.message.Message.{Message}
use Rattle.ballots.specs.declared.message.Body.TheVariants.{Accepted}
use Rattle.agreement_rules.specs.Views.{AgreementConfig, started_with}
use Rattle.agreement_rules.specs.Due.{IsBodyOf}
use Rattle.histories.specs.History.{History}
use Rattle.histories.specs.Following.{UpOrDown, recovered_in, at_first}
use Rattle.joined_histories.specs.Joined.{Precedes}
use Rattle.cut_histories.specs.Settling.{of_clients}
use Rattle.resumed_histories.specs.StartingOver.{TellsOfAValue, Hears, StartsOver}
use Rattle.resumed_histories.specs.StartingOver as over
use Rattle.chosen_records.specs.Chosen.{IsRecorded}
use Rattle.node_core.specs.State.{IsRecordOf}
use Rattle.stored_nodes.specs.State.{StoredNodeState, IsPlaced, StandsUp}
use Rattle.resumed_nodes.specs.Heard.{heard, starts_of}
use Rattle.resumed_nodes.specs.Hearing.{HasHeard}
use Rattle.resumed_nodes.specs.Starting.{IsStarted, AreStarted, HasHeardAgain, MayBeTold, HaveBack, GoesOn, records_at_nodes}

none_is_some : {X : Type 0} (x : X) → None ≡ Some x → ⊥
none_is_some x same = cc

-- what stands at a place of what is made of each element
placed : {X Y : Type 0} (f : X → Y) (xs : List X) (number : ℕ) (y : Y) → slice_get (map f xs) number ≡ Some y
    → (x : X) × (number < length xs) × (slice_index_or xs number x ≡ x) × (y ≡ f x)
placed f [] number y is = absurd (none_is_some y is)
placed f (x ∷ xs) zero y is =
    let same : y ≡ f x = cc in
    (x, omega arith, refl, same)
placed f (x ∷ xs) (suc number) y is =
    let rest = placed f xs number y is in
    (rest.0, omega (arith, rest.1), rest.2, rest.3)

module _ {S : Type 0} (config : AgreementConfig) where
  -- ---- a node more

  -- a node that was just opened has heard nothing
  pub opened : (number : ℕ) (node : StoredNodeState S) → node.me ≡ number → node.config ≡ config → IsPlaced node
      → StandsUp node (started_with node.records) → IsStarted config [] number node
  opened number node me is placed stands = record { me_is = me; config_is = is; placed = placed; stands = stands; hears = refl }

  -- and stands behind the others
  pub one_more : (nodes : List (StoredNodeState S)) (last : StoredNodeState S) → AreStarted config [] nodes → IsStarted config [] (length nodes) last
      → AreStarted config [] (nodes ++ last ∷ [])
  one_more nodes last started behind number d within =
      elim (cases_lt number (length nodes)) as (λ _. IsStarted config [] number (slice_index_or (nodes ++ last ∷ []) number d)) [
        | inl before ↦ subst (IsStarted config [] number) (sym (get_or_append_left nodes (last ∷ []) d number before)) (started number d before)
        | inr past ↦
            let here : length nodes ≡ number = omega (arith, past, within, length_push nodes last) in
            subst (λ (n : ℕ). IsStarted config [] n (slice_index_or (nodes ++ last ∷ []) n d)) here
            (subst (IsStarted config [] (length nodes)) (sym (get_or_push nodes last d (length nodes) refl)) behind)
      ]

  -- ---- one of them hears

  module _ (told : List Message) (number : ℕ) (was after : StoredNodeState S) where
    pub has_started : IsStarted config [] number was → HasHeard was after (started_with was.records) told (heard was.records told) → IsStarted config told number after
    has_started is has = record {
      me_is = has.me_is ∙ is.me_is;
      config_is = has.config_is ∙ is.config_is;
      placed = has.placed;
      stands = subst (λ (rs : List Record). StandsUp after (heard rs told)) (sym has.records_are) has.stands;
      hears =
          subst (λ (rs : List Record). Hears config number (started_with rs) told (heard rs told)) (sym has.records_are)
          (subst (λ (n : ℕ). Hears config n (started_with was.records) told (heard was.records told)) is.me_is
          (subst (λ (c : AgreementConfig). Hears c was.me (started_with was.records) told (heard was.records told)) is.config_is has.hears));
    }

  -- ---- all hear

  pub job_started : (nodes : List (StoredNodeState S)) → AreStarted config [] nodes → (i : ℕ) (node : StoredNodeState S) → i < length nodes → node ≡ slice_index_or nodes i node
      → IsStarted config [] node.me node
  job_started nodes started i node within is =
      let at = subst (λ (n : StoredNodeState S). IsStarted config [] i n) (sym is) (started i node within) in
      subst (λ (number : ℕ). IsStarted config [] number node) (sym at.me_is) at

  same_records : (nodes heard : List (StoredNodeState S)) → length heard ≡ length nodes
      → ((number : ℕ) (d : StoredNodeState S) → number < length nodes → (slice_index_or heard number d).records ≡ (slice_index_or nodes number d).records)
      → records_at_nodes heard ≡ records_at_nodes nodes
  same_records [] [] len each = refl
  same_records [] (new ∷ heard) len each = absurd (omega (arith, len))
  same_records (old ∷ nodes) [] len each = absurd (omega (arith, len))
  same_records (old ∷ nodes) (new ∷ heard) len each =
      let first : new.records ≡ old.records = each 0 old (omega arith) in
      let rest = same_records nodes heard (omega (arith, len)) (λ number d within. each (suc number) d (omega (arith, within))) in
      ap (λ (rs : List Record). rs ∷ records_at_nodes heard) first ∙ ap (λ (all : List (List Record)). old.records ∷ all) rest

  module _ (told : List Message) (nodes heard : List (StoredNodeState S)) (started : AreStarted config [] nodes) (len : length heard ≡ length nodes)
      (each : (number : ℕ) (d : StoredNodeState S) → number < length nodes → HasHeardAgain config told (slice_index_or nodes number d) (slice_index_or heard number d)) where
    pub all_started : AreStarted config told heard
    all_started number d within =
        let inside : number < length nodes = omega (arith, within, len) in
        subst (λ (n : ℕ). IsStarted config told n (slice_index_or heard number d)) (started number d inside).me_is (each number d inside).0

    pub all_records : records_at_nodes heard ≡ records_at_nodes nodes
    all_records = same_records nodes heard len (λ number d within. (each number d within).1)

  -- ---- all of them

  module _ (nodes : List (StoredNodeState S)) (told : List Message) (started : AreStarted config told nodes) where
    node_at : (number : ℕ) (own : List Record) → slice_get (records_at_nodes nodes) number ≡ Some own
        → (node : StoredNodeState S) × (number < length nodes) × IsStarted config told number node × (own ≡ node.records)
    node_at number own is =
        let at = placed (λ (node : StoredNodeState S). node.records) nodes number own is in
        (at.0, at.1, subst (IsStarted config told number) at.2 (started number at.0 at.1), at.3)

    -- an acceptance that is recorded may be told
    pub may_be_told : length nodes ≡ config.members → (m : Message) → IsRecorded (records_at_nodes nodes) m → MayBeTold config m
    may_be_told count m (accepted, tells, (own, there, has)) =
        let at = node_at m.sender own there in
        let of = All-contains (IsRecordOf at.0.config) at.0.records (HasAccepted m.slot accepted)
        (All-from_recursion (IsRecordOf at.0.config) at.0.records at.2.placed.records_are)
        (subst (λ (rs : List Record). Contains rs (HasAccepted m.slot accepted)) at.3 has) in
        let within = subst (λ (c : AgreementConfig). IsRecordOf c (HasAccepted m.slot accepted)) at.2.config_is of in
        let body : m.body ≡ Accepted accepted = ap (λ (m : Message). m.body) tells in (
          subst TellsOfAValue (sym body) tt,
          record {
            sender = omega (arith, at.1, count);
            slot = within.0;
            body = subst (IsBodyOf config.members) (sym body) within.1;
          },
        )

    -- ---- what goes before

    module _ (left : ℕ → UpOrDown) (found : ℕ → Bool) (back : HaveBack left found (records_at_nodes nodes)) where
      -- each has back what it was left, and hears the messages by its rules
      pub each_hears : (number : ℕ) (own : List Record) → slice_get (records_at_nodes nodes) number ≡ Some own
          → (own ≡ recovered_in (found number) (left number)) × Hears config number (started_with own) told (heard own told)
      each_hears number own is =
          let at = node_at number own is in (
            back number own is,
            subst (λ (rs : List Record). Hears config number (started_with rs) told (heard rs told)) (sym at.3) at.2.hears,
          )

      -- what is recorded among the records of all is so among those that the nodes have back
      pub recorded_by : length nodes ≡ config.members → (m : Message) → IsRecorded (records_at_nodes nodes) m → over.IsRecorded config left found m
      recorded_by count m (accepted, tells, (own, there, has)) =
          let at = node_at m.sender own there in
          record {
            member = omega (arith, at.1, count);
            accepted = accepted;
            tells = tells;
            has = subst (λ (rs : List Record). Contains rs (HasAccepted m.slot accepted)) (back m.sender own there) has;
          }

-- ---- the laws that are cited

abbrev pub HaveStartedOver : Type 0
HaveStartedOver =
    (config : AgreementConfig) (left : ℕ → UpOrDown) (before : History) (recovered : ℕ → Bool) (all : List (List Record)) (told : List Message) → Precedes config left before
    → length all ≡ config.members
    → ((node : ℕ) (records : List Record) → slice_get all node ≡ Some records
    → (records ≡ recovered_in (recovered node) (left node)) × Hears config node (started_with records) told (heard records told))
    → StartsOver config left recovered told (λ node. slice_index_or (starts_of all told) node (at_first node))

abbrev pub MayStartOver : Type 0
MayStartOver =
    (config : AgreementConfig) (left start : ℕ → UpOrDown) (before : History) (recovered : ℕ → Bool) (told : List Message) → Precedes config left before
    → ((m : Message) → Contains told m → over.IsRecorded config left recovered m) → StartsOver config left recovered told start
    → (whole : History) × Precedes config start whole × (of_clients whole.steps ≡ of_clients before.steps)

pub go_on : HaveStartedOver → MayStartOver → {S : Type 0} (config : AgreementConfig) (nodes : List (StoredNodeState S)) (told : List Message) → length nodes ≡ config.members
    → AreStarted config told nodes → All (IsRecorded (records_at_nodes nodes)) told → GoesOn config (records_at_nodes nodes) told
go_on starts_over may_start config nodes told count started recorded left before found precedes back =
    may_start config left (λ node. slice_index_or (starts_of (records_at_nodes nodes) told) node (at_first node)) before found told precedes
    (λ m has. recorded_by config nodes told started left found back count m (All-contains (IsRecorded (records_at_nodes nodes)) told m recorded has))
    (starts_over config left before found (records_at_nodes nodes) told precedes
    (length-map nodes (λ (node : StoredNodeState _). node.records) ∙ count)
    (each_hears config nodes told started left found back))

-- ---- by cases of an answer

pub may_all : {S V E : Type 0} (config : AgreementConfig) (nodes : List (StoredNodeState S)) (items : V → List Message) (result : Result V E) → length nodes ≡ config.members
    → AreStarted config [] nodes → IfOk result (λ told. All (IsRecorded (records_at_nodes nodes)) (items told)) → IfOk result (λ told. All (MayBeTold config) (items told))
may_all config nodes items (Ok told) count started recorded =
    λ k d within. may_be_told config nodes [] started count (slice_index_or (items told) k d) (recorded k d within)
may_all config nodes items (Err fault) count started recorded = tt
