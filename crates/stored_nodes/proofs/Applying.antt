-- What is done to a seat that is up, as a step of a history.
use Rattle.std.proofs.Common.{◌≡◌, ◌⊎◌, refl, sym, ap, subst, ◌∙◌, inl, inr, ℕ, ◌<◌, ◌≤◌, zero, suc, true, false, Bool, Option, None, Some, Result, Ok, Err, List, [], ◌∷◌, ◌++◌, length, slice_get}
use Rattle.std.specs.Result.{IsErr}
use Rattle.std.proofs.lemmas.Option.{slice_get_within, slice_get_cases}
use Rattle.ballots.specs.declared.record.Record.{Record}
use Rattle.ballots.specs.declared.message.Message.{Message}
use Rattle.table_types.specs.Uploads.{Upload}
use Rattle.agreement_rules.specs.Views.{AgreementConfig, Views, started_with}
use Rattle.histories.specs.Texts.{HasUploads}
use Rattle.agreement_rules.specs.Due.{Refuses, Plan, Plans, IsMessageOf}
use Rattle.agreement_rules.specs.Due as due
use Rattle.histories.specs.Due.{Input, Put, Tick, Deliver, IsDue, InputKeeps}
use Rattle.histories.specs.Event as event
use Rattle.histories.specs.EventResult.{EventResult, count_of}
use Rattle.histories.specs.EventResult as results
use Rattle.histories.specs.Following.{UpOrDown, IsUp, IsDown, recovered_in, with_due, reason_of, PutGives, SendsGives, InputGives, CutGives, Delivers, GetGivesIfAble, InfoGivesIfAble, QueryGives, RestartGives}
use Rattle.table_versions.specs.Outcomes.{told as outcome_told}
use Rattle.node_events.specs.declared.event_result.EventResult.{EventResult as Told}
use Rattle.node_events.specs.declared.event_result.EventResult.TheVariants as told
use Rattle.node_events.specs.Told.{result_of, reason_of as reason_told}
use Rattle.node_events.specs.declared.event_result.Reason.{Reason as ToldReason}
use Rattle.node_events.specs.declared.event_result.Reason.TheVariants as reason
use Rattle.stable_records.specs.declared.fault.StoreFault.{StoreFault}
use Rattle.stable_records.specs.declared.fault.StoreFault.TheVariants as store
use Rattle.agreement.specs.declared.refusal.Refusal.{Refusal}
use Rattle.node_core.specs.Inputs.{refusal_of}
use Rattle.node_core.specs.Plans.{IsRefused}
use Rattle.node_core.specs.State.{NodeState, NodeHas}
use Rattle.stored_nodes.specs.declared.fault.StoredNodeFault.{StoredNodeFault}
use Rattle.stored_nodes.specs.declared.fault.StoredNodeFault.TheVariants as fault
use Rattle.stored_nodes.specs.Kept.{HasKept}
use Rattle.stored_nodes.specs.State.{StoredNodeState, IsPlaced, StandsUp, Stands, Leaves, SendsFor, IsAsBefore, BreaksFor, UpBreaks, IsBroken}
use Rattle.stored_nodes.specs.Steps.{HandsMessage, KeepsAlone, StepAnswers, StepBreaks, UpAnswers, IsCut, HasNode, RestartApplies}
use Rattle.stored_nodes.specs.Parts.{IsRecovered, IsUnchanged}
use Rattle.stored_nodes.proofs.Keeping.{Taken as TakenKeepSome}
use Rattle.stored_nodes.proofs.Allowing.{Allows, message_allowed}
use Rattle.stored_nodes.proofs.Leaving.{quiet, same_records, same_node, refusal_gives, keeps_there, has_kept, cut_has_kept, doubted_down}

none_is_some : {X : Type 0} (x : X) → None ≡ Some x → ⊥
none_is_some x same = cc

get_with_more : {X : Type 0} (xs more : List X) (k : ℕ) (x : X) → slice_get xs k ≡ Some x → slice_get (xs ++ more) k ≡ Some x
get_with_more [] more k x is = absurd (none_is_some x is)
get_with_more (y ∷ xs) more zero x is = is
get_with_more (y ∷ xs) more (suc k) x is = get_with_more xs more k x is

-- ---- a put

no_messages : (sends : List Message) → length sends ≡ 0 → sends ≡ []
no_messages [] none = refl
no_messages (m ∷ sends) none = absurd (cc)

-- a put that is planned sends nothing
put_sends_nothing : (config : AgreementConfig) (me : ℕ) (views : Views) (text : List ℕ) (plan : Plan) → IsDue config me views (Put text) (Plans plan) → length plan.sends ≡ 0
put_sends_nothing config me views text plan (inl due) = subst (λ (p : Plan). length p.sends ≡ 0) (sym due.1) refl
put_sends_nothing config me views text plan (inr due) = subst (λ (p : Plan). length p.sends ≡ 0) (sym due.3) refl

is_not_refused : (first count : ℕ) (why : results.Reason) (given : EventResult) → given ≡ results.Sent first count → given ≡ results.Refused why → ⊥
is_not_refused first count why given sent refused = (let no : results.Sent first count ≡ results.Refused why = sym sent ∙ refused in cc)

module _ {S : Type 0} (old new : StoredNodeState S) (before after : List Message) (views : Views) (text : List ℕ) (given : EventResult) where
  put_gives : (first count : ℕ) (left : UpOrDown) → given ≡ results.Sent first count
      → InputGives old.config old.me views (Put text) (SendsGives after (length before) views) given left
      → count ≡ 0 × InputGives old.config old.me views (Put text) (PutGives views) results.Done left
  put_gives first count left sent (inl (Refuses refusal, due, gives)) = absurd (is_not_refused first count (reason_of refusal) given sent gives.0)
  put_gives first count left sent (inl (Plans plan, due, gives)) =
      let none = put_sends_nothing old.config old.me views text plan due in
      (ap count_of (sym sent ∙ gives.0) ∙ none, inl (Plans plan, due, (refl, gives.2)))
  put_gives first count left sent (inr gives) = absurd (is_not_refused first count results.OutOfMemory given sent gives.1.0)

  pub put_done : (first count : ℕ) → given ≡ results.Sent first count
      → Leaves old new before after given (InputGives old.config old.me views (Put text) (SendsGives after (length before) views) given)
      → Leaves old new before after results.Done (InputGives old.config old.me views (Put text) (PutGives views) results.Done)
  put_done first count sent leaves =
      let gives = put_gives first count leaves.left sent leaves.gives in
      record {
        more = leaves.more;
        behind = leaves.behind;
        counted = leaves.counted ∙ (ap count_of sent ∙ gives.0);
        left = leaves.left;
        gives = gives.1;
        stands = leaves.stands;
        placed = leaves.placed;
        me_is = leaves.me_is;
        config_is = leaves.config_is;
      }

  put_refuses : (left : UpOrDown) → ((first count : ℕ) → given ≡ results.Sent first count → ⊥)
      → InputGives old.config old.me views (Put text) (SendsGives after (length before) views) given left
      → InputGives old.config old.me views (Put text) (PutGives views) given left
  put_refuses left not (inl (Refuses refusal, due, gives)) = inl (Refuses refusal, due, gives)
  put_refuses left not (inl (Plans plan, due, gives)) = absurd (not (length before) (length plan.sends) gives.0)
  put_refuses left not (inr gives) = inr gives

  pub put_refused : ((first count : ℕ) → given ≡ results.Sent first count → ⊥)
      → Leaves old new before after given (InputGives old.config old.me views (Put text) (SendsGives after (length before) views) given)
      → Leaves old new before after given (InputGives old.config old.me views (Put text) (PutGives views) given)
  put_refused not leaves = record {
    more = leaves.more;
    behind = leaves.behind;
    counted = leaves.counted;
    left = leaves.left;
    gives = put_refuses leaves.left not leaves.gives;
    stands = leaves.stands;
    placed = leaves.placed;
    me_is = leaves.me_is;
    config_is = leaves.config_is;
  }

-- a put sends nothing, so it wants no memory for messages
put_sends_none : (config : AgreementConfig) (me : ℕ) (views : Views) (text : List ℕ) → SendsFor config me views (Put text) → ⊥
put_sends_none config me views text (plan, due, some) = some (no_messages plan.sends (put_sends_nothing config me views text plan due))

false_is_true : false ≡ true → ⊥
false_is_true is = cc

-- and it keeps no record, so no store fails in it
put_keeps_none : (config : AgreementConfig) (me : ℕ) (views : Views) (text : List ℕ) (left : UpOrDown) → BreaksFor config me views (Put text) left → ⊥
put_keeps_none config me views text left (last, keeps, is) = none_is_some last (sym keeps)

pub put_failed : {S : Type 0} (old new : StoredNodeState S) (before after : List Message) (text : List ℕ) (why : StoredNodeFault)
    → StepAnswers old new before after (Put text) (Err why) → UpAnswers old new before after (event.Put old.me text) (Err why)
put_failed old new before after text fault.OutOfMemory step = λ views placed up.
    (let so = step views placed up in (so.0, put_sends_none old.config old.me views text so.1))
put_failed old new before after text (fault.Store why) step = λ views placed up.
    (let so = step views placed up in absurd (put_keeps_none old.config old.me views text so.left so.breaks))
put_failed old new before after text fault.Lost step = λ views placed up. absurd (step views placed up)

-- an upload that is refused before it is copied
pub put_not_handed : {S : Type 0} → Allows → (state : StoredNodeState S) (before : List Message) (views : Views) (text : List ℕ) (why : Refusal) (given : EventResult) → IsPlaced state
    → (up : StandsUp state views) (node : NodeState) → state.node ≡ Some node → (NodeHas node views → IsRefused node views (Put text) why) → given ≡ results.Refused (reason_of (refusal_of why))
    → Leaves state state before before given (InputGives state.config state.me views (Put text) (PutGives views) given)
put_not_handed allows state before views text why given placed up node here refused is =
    subst (λ (g : EventResult). Leaves state state before before g (InputGives state.config state.me views (Put text) (PutGives views) g)) (sym is)
    (quiet state state before (results.Refused (reason_of (refusal_of why)))
    (InputGives state.config state.me views (Put text) (PutGives views) (results.Refused (reason_of (refusal_of why)))) (IsUp views) refl
    (refusal_gives allows state views up (Put text) (PutGives views) (λ r. (refl, refl)) why
    (subst (λ (n : NodeState). IsRefused n views (Put text) why) (same_node state views up node here)
    (refused (subst (λ (n : NodeState). NodeHas n views) (sym (same_node state views up node here)) up.has))))
    up placed refl refl)

-- ---- a delivery

abbrev pub Delivery : {S : Type 0} → StoredNodeState S → List Message → ℕ → ℕ → Views → EventResult → UpOrDown → Type 0
Delivery old sent next number views given left =
    Delivers sent next number (λ m. InputGives old.config old.me views (Deliver m) (SendsGives sent next views)) views given left

pub delivered : {S : Type 0} (old new : StoredNodeState S) (before after : List Message) (views : Views) (number : ℕ) (m : Message) (given : EventResult)
    → slice_get before number ≡ Some m
    → Leaves old new before after given (InputGives old.config old.me views (Deliver m) (SendsGives after (length before) views) given)
    → Leaves old new before after given (Delivery old after (length before) number views given)
delivered old new before after views number m given there leaves = record {
  more = leaves.more;
  behind = leaves.behind;
  counted = leaves.counted;
  left = leaves.left;
  gives = inl (
    m,
    slice_get_within before number m there,
    subst (λ (ms : List Message). slice_get ms number ≡ Some m) (sym leaves.behind) (get_with_more before leaves.more number m there),
    leaves.gives,
  );
  stands = leaves.stands;
  placed = leaves.placed;
  me_is = leaves.me_is;
  config_is = leaves.config_is;
}

-- the store fails in an event
broken : {S : Type 0} (old new : StoredNodeState S) (views : Views) (input : Input) (before after : List Message) (e : event.Event)
    → (so : StepBreaks old new views input before after) → UpBreaks old.config before views e so.left → IsBroken old new (IsUp views) before after e
broken old new views input before after e so breaks = record {
  left = so.left;
  breaks = breaks;
  stands = so.stands;
  placed = so.placed;
  me_is = so.me_is;
  config_is = so.config_is;
  unsent = so.unsent;
}

pub delivery_answers : {S : Type 0} (old new : StoredNodeState S) (before after : List Message) (number : ℕ) (m : Message) (answer : Result Told StoredNodeFault)
    → slice_get before number ≡ Some m → StepAnswers old new before after (Deliver m) answer → UpAnswers old new before after (event.Deliver old.me number) answer
delivery_answers old new before after number m (Ok given) there step =
    λ views placed up. delivered old new before after views number m (result_of given) there (step views placed up)
delivery_answers old new before after number m (Err fault.OutOfMemory) there step = λ views placed up. (let so = step views placed up in (so.0, (m, there, so.1)))
delivery_answers old new before after number m (Err (fault.Store why)) there step = λ views placed up.
    (let so = step views placed up in broken old new views (Deliver m) before after (event.Deliver old.me number) so (m, there, so.breaks))
delivery_answers old new before after number m (Err fault.Lost) there step = λ views placed up. absurd (step views placed up)

pub tick_answers : {S : Type 0} (old new : StoredNodeState S) (before after : List Message) (left : ℕ) (answer : Result Told StoredNodeFault)
    → StepAnswers old new before after (Tick left) answer → UpAnswers old new before after (event.Tick old.me left) answer
tick_answers old new before after left (Ok given) step = λ views placed up. step views placed up
tick_answers old new before after left (Err fault.OutOfMemory) step = λ views placed up. step views placed up
tick_answers old new before after left (Err (fault.Store why)) step = λ views placed up.
    (let so = step views placed up in broken old new views (Tick left) before after (event.Tick old.me left) so so.breaks)
tick_answers old new before after left (Err fault.Lost) step = λ views placed up. absurd (step views placed up)

-- there is no message of the number, or there is one
pub is_not_sent : (sent : List Message) (number : ℕ) → slice_get sent number ≡ None → length sent ≤ number
is_not_sent sent number none = elim (slice_get_cases sent number).1 as (λ _. length sent ≤ number) [
  | inl there ↦ absurd (none_is_some there.0 (sym none ∙ there.2))
  | inr past ↦ past.0
]

-- ---- as it was

module _ {S : Type 0} (state : StoredNodeState S) (before : List Message) (views : Views) (given : EventResult) (Gives : UpOrDown → Type 0) where
  -- the node is as it was, and nothing goes out
  pub stays : IsPlaced state → StandsUp state views → count_of given ≡ 0 → Gives (IsUp views) → Leaves state state before before given Gives
  stays placed up none gives = quiet state state before given Gives (IsUp views) none gives up placed refl refl

-- a message that the node is not handed
module _ {S : Type 0} (state : StoredNodeState S) (before : List Message) (views : Views) (number : ℕ) (placed : IsPlaced state) (up : StandsUp state views) (node : NodeState) (here : state.node ≡ Some node) where
  of_seat : (P : AgreementConfig → Type 0) → P node.agreement.config → P state.config
  of_seat P is = subst P (ap (λ (n : NodeState). n.agreement.config) (same_node state views up node here) ∙ up.config_is) is

  not_handed_gives : (why : ToldReason) → HandsMessage node.agreement.config before number (Err why)
      → Delivery state before (length before) number views (results.Refused (reason_told why)) (IsUp views)
  not_handed_gives reason.OutOfRange (m, there, not) =
      inl (m, slice_get_within before number m there, there, inl (Refuses due.OutOfRange, (refl, of_seat (λ c. IsMessageOf c m → ⊥) not), (refl, refl)))
  not_handed_gives reason.SlotsSpent not = absurd not
  not_handed_gives reason.RoundsSpent not = absurd not
  not_handed_gives reason.OutOfMemory (m, there, of) =
      inl (m, slice_get_within before number m there, there, inr (message_allowed state.config state.me views m (of_seat (λ c. IsMessageOf c m) of), (refl, refl)))
  not_handed_gives reason.Down not = absurd not
  not_handed_gives reason.NotSent none = inr (is_not_sent before number none, refl, refl)

  pub not_handed : (why : ToldReason) → HandsMessage node.agreement.config before number (Err why)
      → Leaves state state before before (results.Refused (reason_told why)) (Delivery state before (length before) number views (results.Refused (reason_told why)))
  not_handed why not =
      stays state before views (results.Refused (reason_told why)) (Delivery state before (length before) number views (results.Refused (reason_told why)))
      placed up refl (not_handed_gives why not)

-- ---- a cut

pub cut_behind : {S T : Type 0} (old new : StoredNodeState S) (before : List Message) (views : Views) (input : Input) (result : Result T StoreFault) → IsPlaced old → StandsUp old views
    → IsCut old new views input result → Leaves old new before before results.Done (CutGives old.config old.me views input results.Done)
cut_behind old new before views input result placed up cut =
    let left = doubted_down old new views input old.records cut.due placed up cut.keeps cut.down cut.me_is cut.config_is
    (cut_has_kept result old.records new.records new.doubted cut.due cut.kept) in
    quiet old new before results.Done (CutGives old.config old.me views input results.Done) (IsDown views.records cut.due) refl
    (refl, (cut.due, cut.keeps, refl)) left.0 left.1 cut.me_is cut.config_is

-- the record was kept alone, or not, and the node is gone
pub kept_and_down : {S T : Type 0} (old new : StoredNodeState S) (views : Views) (input : Input) (result : Result T StoreFault) (node : NodeState) → (up : StandsUp old views) → old.node ≡ Some node
    → (NodeHas node views → KeepsAlone node views input old.records new.records new.doubted result) → new.node ≡ None → new.me ≡ old.me → new.config ≡ old.config
    → IsCut old new views input result
kept_and_down old new views input result node up here gives down me config =
    let same = same_node old views up node here in
    let did : KeepsAlone up.node views input old.records new.records new.doubted result =
    subst (λ (n : NodeState). KeepsAlone n views input old.records new.records new.doubted result) same
    (gives (subst (λ (n : NodeState). NodeHas n views) (sym same) up.has)) in
    record {
      due = did.0;
      keeps = keeps_there old views up input did.0 did.1;
      down = down;
      kept = did.2;
      me_is = me;
      config_is = config;
    }

-- a delivery that is cut off
abbrev pub CutDelivery : {S : Type 0} → StoredNodeState S → List Message → ℕ → Views → EventResult → UpOrDown → Type 0
CutDelivery old sent number views given left =
    Delivers sent (length sent) number (λ m. CutGives old.config old.me views (Deliver m)) views given left

pub cut_delivered : {S : Type 0} (old new : StoredNodeState S) (before : List Message) (views : Views) (number : ℕ) (m : Message) (given : EventResult)
    → slice_get before number ≡ Some m
    → Leaves old new before before given (CutGives old.config old.me views (Deliver m) given)
    → Leaves old new before before given (CutDelivery old before number views given)
cut_delivered old new before views number m given there leaves = record {
  more = leaves.more;
  behind = leaves.behind;
  counted = leaves.counted;
  left = leaves.left;
  gives = inl (m, slice_get_within before number m there, there, leaves.gives);
  stands = leaves.stands;
  placed = leaves.placed;
  me_is = leaves.me_is;
  config_is = leaves.config_is;
}

pub not_sent_stays : {S : Type 0} (state : StoredNodeState S) (before : List Message) (views : Views) (number : ℕ) → IsPlaced state → StandsUp state views → slice_get before number ≡ None
    → Leaves state state before before (results.Refused results.NotSent) (CutDelivery state before number views (results.Refused results.NotSent))
not_sent_stays state before views number placed up none =
    stays state before views (results.Refused results.NotSent) (CutDelivery state before number views (results.Refused results.NotSent)) placed up refl
    (inr (is_not_sent before number none, refl, refl))

-- a message that the node is not handed, where it goes down: what it would have kept is not recovered
module _ {S : Type 0} (some : TakenKeepSome) (old new : StoredNodeState S) (before : List Message) (views : Views) (number : ℕ) (placed : IsPlaced old) (up : StandsUp old views) (node : NodeState) (here : old.node ≡ Some node)
    (has : HasNode old new None) where
  abbrev unhanded : Result (Unit {0}) StoreFault
  unhanded = Err store.OutOfMemory

  unkept : (m : Message) (kept : Option Record) → InputKeeps old.config old.me views (Deliver m) kept → IsCut old new views (Deliver m) unhanded
  unkept m kept keeps = record {
    due = kept;
    keeps = keeps;
    down = has.node_is;
    kept = (has.records_are, inl (has.doubted_is ∙ up.certain));
    me_is = has.me_is;
    config_is = has.config_is;
  }

  unkept_leaves : (m : Message) (kept : Option Record) → slice_get before number ≡ Some m → InputKeeps old.config old.me views (Deliver m) kept
      → Leaves old new before before results.Done (CutDelivery old before number views results.Done)
  unkept_leaves m kept there keeps =
      cut_delivered old new before views number m results.Done there (cut_behind old new before views (Deliver m) unhanded placed up (unkept m kept keeps))

  pub not_handed_cut : (why : ToldReason) → (why ≡ reason.NotSent → ⊥) → HandsMessage node.agreement.config before number (Err why)
      → Leaves old new before before results.Done (CutDelivery old before number views results.Done)
  not_handed_cut reason.OutOfRange sent (m, there, not) =
      unkept_leaves m None there (inr (of_seat old before views number placed up node here (λ c. IsMessageOf c m → ⊥) not, refl))
  not_handed_cut reason.SlotsSpent sent not = absurd not
  not_handed_cut reason.RoundsSpent sent not = absurd not
  not_handed_cut reason.OutOfMemory sent (m, there, of) =
      let has = some old.config old.me views (Deliver m) (of_seat old before views number placed up node here (λ c. IsMessageOf c m) of) in
      unkept_leaves m has.0 there has.1
  not_handed_cut reason.Down sent not = absurd not
  not_handed_cut reason.NotSent sent not = absurd (sent refl)

-- ---- a query

-- what a node's prefix makes
pub uploads_of : (members : ℕ) (node : NodeState) (views : Views) → node.agreement.config.members ≡ members → NodeHas node views
    → (uploads : List Upload) × HasUploads node.agreement.config.members views.learner_calls uploads × HasUploads members views.learner_calls uploads
uploads_of members node views is has =
    let of : HasUploads node.agreement.config.members views.learner_calls has.taken.uploads = record { values = has.values; prefix = has.prefix; are = has.taken.are } in
    (has.taken.uploads, of, subst (λ (n : ℕ). HasUploads n views.learner_calls has.taken.uploads) is of)

-- an answer is none of the messages that go out
pub get_counts : (table : List ℕ) (version : ℕ) (given : EventResult) (uploads : List Upload) → GetGivesIfAble uploads table version given → count_of given ≡ 0
get_counts table version given uploads (inl (inl gives)) = ap count_of gives.2
get_counts table version given uploads (inl (inr gives)) = ap count_of gives.1
get_counts table version given uploads (inr gives) = ap count_of gives.1

pub info_counts : (table : List ℕ) (given : EventResult) (uploads : List Upload) → InfoGivesIfAble uploads table given → count_of given ≡ 0
info_counts table given uploads (inl (inl gives)) = ap count_of gives.1
info_counts table given uploads (inl (inr gives)) = ap count_of gives.1
info_counts table given uploads (inr gives) = ap count_of gives.1

module _ {S : Type 0} (state : StoredNodeState S) (before : List Message) (views : Views) (given : EventResult) (Gives : List Upload → EventResult → Type 0) (placed : IsPlaced state) (up : StandsUp state views) where
  pub answered : (node : NodeState) → state.node ≡ Some node → ((uploads : List Upload) → Gives uploads given → count_of given ≡ 0)
      → ((uploads : List Upload) → NodeHas node views → HasUploads node.agreement.config.members views.learner_calls uploads → Gives uploads given)
      → Leaves state state before before given (QueryGives state.config views Gives given)
  answered node here counts answers =
      let same = same_node state views up node here in
      let has : NodeHas node views = subst (λ (n : NodeState). NodeHas n views) (sym same) up.has in
      let of = uploads_of state.config.members node views (ap (λ (n : NodeState). n.agreement.config.members) same ∙ ap (λ (c : AgreementConfig). c.members) up.config_is) has in
      let gives = answers of.0 has of.1 in
      stays state before views given (QueryGives state.config views Gives given) placed up (counts of.0 gives) (of.0, of.2, gives, refl)

-- ---- a restart

-- what is recalled of a node that went down, with the record in doubt or without it
recalled_of : (doubted : Option Record) (kept records : List Record) (due : Option Record) (recovered : Bool) → HasKept kept doubted records due
    → (found : Bool) × (with_due recovered kept doubted ≡ with_due found records due)
recalled_of None kept records due recovered has = has
recalled_of (Some last) kept records due recovered (same, is) =
    (recovered, ap (λ (rs : List Record). with_due recovered rs (Some last)) same ∙ ap (λ (d : Option Record). with_due recovered records d) (sym is))

opened_in : {S : Type 0} (old : StoredNodeState S) (seat : UpOrDown) (recovered : Bool) → Stands old seat
    → (found : Bool) × (with_due recovered old.records old.doubted ≡ recovered_in found seat)
opened_in old (IsUp views) recovered up = (true, ap (λ (d : Option Record). with_due recovered old.records d) up.certain ∙ up.kept)
opened_in old (IsDown records due) recovered was = recalled_of old.doubted old.records records due recovered was.kept

-- the node is opened with the records that its store has
pub restarted : {S : Type 0} (old new : StoredNodeState S) (recovered : Bool) → IsRecovered old new recovered → RestartApplies old new results.Done
restarted old new recovered is seat before placed stands =
    let opened = opened_in old seat recovered stands in (
      opened.0,
      quiet old new before results.Done (RestartGives opened.0 seat results.Done) (IsUp (started_with (with_due recovered old.records old.doubted))) refl
          (inl (refl, ap (λ (rs : List Record). IsUp (started_with rs)) opened.1)) is.stands is.placed is.me_is is.config_is,
    )

-- it is not, and is down
start_refused : {S : Type 0} (old new : StoredNodeState S) (before : List Message) (given : EventResult) → IsPlaced old → HasNode old new None
    → given ≡ results.Refused results.OutOfMemory → (seat : UpOrDown) → Stands old seat
    → (recovered : Bool) × Leaves old new before before given (RestartGives recovered seat given)
start_refused old new before given placed has is (IsUp views) up = (
  true,
  quiet old new before given (RestartGives true (IsUp views) given) (IsDown views.records None) (ap count_of is) (inr (is, refl))
      (record { down = has.node_is; kept = has_kept new.doubted views.records new.records None (has.records_are ∙ up.kept) (inl (has.doubted_is ∙ up.certain)) })
      (same_records old new placed has.me_is has.config_is has.records_are has.doubted_is) has.me_is has.config_is,
)
start_refused old new before given placed has is (IsDown records due) was = (
  true,
  quiet old new before given (RestartGives true (IsDown records due) given) (IsDown records due) (ap count_of is) (inr (is, refl))
      (record {
        down = has.node_is;
        kept = subst (λ (rs : List Record). HasKept rs new.doubted records due) (sym has.records_are)
            (subst (λ (d : Option Record). HasKept old.records d records due) (sym has.doubted_is) was.kept);
      }) (same_records old new placed has.me_is has.config_is has.records_are has.doubted_is) has.me_is has.config_is,
)

-- memory was refused for it, and the node is let go
pub restart_refused : {S : Type 0} (old mid new : StoredNodeState S) (given : EventResult) → IsUnchanged old mid → HasNode mid new None → given ≡ results.Refused results.OutOfMemory
    → RestartApplies old new given
restart_refused old mid new given is has is_refused seat before placed stands =
    start_refused old new before given placed
    (record {
      node_is = has.node_is;
      me_is = has.me_is ∙ is.me_is;
      config_is = has.config_is ∙ is.config_is;
      records_are = has.records_are ∙ is.records_are;
      doubted_is = has.doubted_is ∙ is.doubted_is;
    }) is_refused seat stands

-- the store failed, and all else is as it was
pub unchanged : {S : Type 0} (old new : StoredNodeState S) → IsUnchanged old new → (seat : UpOrDown) (before : List Message) → IsPlaced old → Stands old seat
    → IsAsBefore old new seat before before
unchanged old new is seat before placed stands = record {
  stands = is.stands seat stands;
  records_are = is.records_are;
  placed = is.placed placed;
  me_is = is.me_is;
  config_is = is.config_is;
  unsent = refl;
}

-- what is none of the messages that went out is told as none of them
pub sent_tells : (result : Told) → ((first count : ℕ) → result ≡ told.Sent first count → ⊥) → (first count : ℕ) → result_of result ≡ results.Sent first count → ⊥
sent_tells (told.Sent a b) not first count is = not a b refl
sent_tells told.Done not first count is = (let no : results.Done ≡ results.Sent first count = is in cc)
sent_tells (told.Answer bytes) not first count is = (let no : results.Answer bytes ≡ results.Sent first count = is in cc)
sent_tells told.Unavailable not first count is = (let no : results.Unavailable ≡ results.Sent first count = is in cc)
sent_tells (told.Info version) not first count is = (let no : results.Info version ≡ results.Sent first count = is in cc)
sent_tells told.NoTable not first count is = (let no : results.NoTable ≡ results.Sent first count = is in cc)
sent_tells (told.Outcome outcome) not first count is = (let no : results.Outcome (outcome_told outcome) ≡ results.Sent first count = is in cc)
sent_tells (told.Refused why) not first count is = (let no : results.Refused (reason_told why) ≡ results.Sent first count = is in cc)
