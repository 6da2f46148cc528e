-- What is done about an input, as a step of a history.
use Rattle.std.proofs.Common.{◌≡◌, ◌≢◌, refl, ◌⊎◌, sym, ap, subst, ◌∙◌, inl, inr, ℕ, ◌<◌, arith, true, false, Option, None, Some, Result, Ok, Err, OnOk, OnErr, List, [], ◌++◌, length, take, drop}
use Rattle.std.specs.List.{AllByRecursion}
use Rattle.std.specs.Option.{IfSome}
use Rattle.std.proofs.lemmas.List.{append-nil, take_all}
use Rattle.std.proofs.Math.Seq.{drop-append_seam}
use Rattle.ballots.specs.declared.record.Record.{Record}
use Rattle.ballots.specs.declared.message.Message.{Message}
use Rattle.stable_records.specs.declared.fault.StoreFault.{StoreFault}
use Rattle.stable_records.specs.declared.fault.StoreFault.TheVariants as store
use Rattle.agreement.specs.declared.refusal.Refusal.{Refusal}
use Rattle.agreement.specs.declared.refusal.Refusal.TheVariants as refusal
use Rattle.agreement_rules.specs.Views.{AgreementConfig, Views}
use Rattle.agreement_rules.specs.Due.{Refusal as DueRefusal, Due, Refuses, Plan, Plans}
use Rattle.agreement_rules.specs.Due as due
use Rattle.histories.specs.Due.{Input, IsDue, InputKeeps}
use Rattle.histories.specs.Due as owed
use Rattle.histories.specs.EventResult.{EventResult, count_of}
use Rattle.histories.specs.EventResult as results
use Rattle.histories.specs.Following.{UpOrDown, IsUp, IsDown, with_due, reason_of, SendsGives, IsAllowed, InputGives}
use Rattle.node_core.specs.Inputs.{refusal_of}
use Rattle.node_core.specs.State.{NodeState, NodeHas, IsRecordOf}
use Rattle.node_core.specs.declared.plan.Planned.{Planned}
use Rattle.node_core.specs.Plans.{IsTaken, IsRefused, JudgesPut, IsPlanned, LeadsTo, kept_by, sent_by}
use Rattle.node_events.specs.declared.event_result.EventResult.{EventResult as Told}
use Rattle.node_events.specs.Told.{result_of}
use Rattle.stored_nodes.specs.State.{StoredNodeState, IsPlaced, StandsUp, StandsDown, Stands, Leaves, SendsFor, IsAsBefore}
use Rattle.stored_nodes.specs.declared.fault.StoredNodeFault.{StoredNodeFault}
use Rattle.stored_nodes.specs.Kept.{DueLeaves, KeepsDue, HasKept}
use Rattle.stored_nodes.specs.Steps.{IsDone, IsLeft, IsDoubted, TakeGives, DoubtsNone, IsNotKept, KeepsAlone, StepBreaks}
use Rattle.stored_nodes.proofs.Dues.{due_keeps}
use Rattle.stored_nodes.proofs.Placing.{IsOf, due_is_of, kept_is_of, recovered_are_of}
use Rattle.stored_nodes.proofs.Keeping.{Planned as PlansAreKept, Refused as RefusedKeepNone, Taken as TakenKeepSome}
use Rattle.stored_nodes.proofs.Allowing.{Allows}

-- ---- parts

-- two views that are one
pub viewed_node : {S : Type 0} {a b : StoredNodeState S} → a ≡ b → a.node ≡ b.node
viewed_node {S = S} is = ap (λ (s : StoredNodeState S). s.node) is

-- the record that is due is not recovered
pub without_due : (records : List Record) (due : Option Record) → with_due false records due ≡ records
without_due records None = refl
without_due records (Some due) = refl

-- nothing goes out
pub quiet : {S : Type 0} (old new : StoredNodeState S) (before : List Message) (given : EventResult) (Gives : UpOrDown → Type 0) (left : UpOrDown)
    → count_of given ≡ 0 → Gives left → Stands new left → IsPlaced new → new.me ≡ old.me → new.config ≡ old.config
    → Leaves old new before before given Gives
quiet old new before given Gives left none gives stands placed me config = record {
  more = [];
  behind = sym (append-nil before);
  counted = sym none;
  left = left;
  gives = gives;
  stands = stands;
  placed = placed;
  me_is = me;
  config_is = config;
}

pub placed_too : {S : Type 0} (old new : StoredNodeState S) → IsPlaced old → new.me ≡ old.me → new.config ≡ old.config
    → AllByRecursion (IsRecordOf old.config) new.records → IfSome new.doubted (IsRecordOf old.config) → IsPlaced new
placed_too old new placed me config are doubted = record {
  member = subst (λ (m : ℕ). m < new.config.members) (sym me) (subst (λ (c : AgreementConfig). old.me < c.members) (sym config) placed.member);
  records_are = subst (λ (c : AgreementConfig). AllByRecursion (IsRecordOf c) new.records) (sym config) are;
  doubted_is = subst (λ (c : AgreementConfig). IfSome new.doubted (IsRecordOf c)) (sym config) doubted;
}

-- none is in doubt
pub none_doubted : (config : AgreementConfig) (doubted : Option Record) → doubted ≡ None → IfSome doubted (IsRecordOf config)
none_doubted config doubted is = subst (λ (d : Option Record). IfSome d (IsRecordOf config)) (sym is) tt

pub same_records : {S : Type 0} (old new : StoredNodeState S) → IsPlaced old → new.me ≡ old.me → new.config ≡ old.config → new.records ≡ old.records → new.doubted ≡ old.doubted → IsPlaced new
same_records old new placed me config same doubted =
    placed_too old new placed me config (subst (λ (rs : List Record). AllByRecursion (IsRecordOf old.config) rs) (sym same) placed.records_are)
    (subst (λ (d : Option Record). IfSome d (IsRecordOf old.config)) (sym doubted) placed.doubted_is)

-- what is due to the node is due to its seat
pub due_there : {S : Type 0} (old : StoredNodeState S) (views : Views) (up : StandsUp old views) (input : Input) (due : Due)
    → IsDue up.node.agreement.config up.node.agreement.me views input due → IsDue old.config old.me views input due
due_there old views up input due is =
    subst (λ (m : ℕ). IsDue old.config m views input due) up.me_is
    (subst (λ (c : AgreementConfig). IsDue c up.node.agreement.me views input due) up.config_is is)

pub taken_there : {S : Type 0} (old : StoredNodeState S) (views : Views) (up : StandsUp old views) (input : Input)
    → IsTaken up.node.agreement.config up.node.agreement.me views input → IsTaken old.config old.me views input
taken_there old views up input is =
    subst (λ (m : ℕ). IsTaken old.config m views input) up.me_is
    (subst (λ (c : AgreementConfig). IsTaken c up.node.agreement.me views input) up.config_is is)

sends_there : {S : Type 0} (old : StoredNodeState S) (views : Views) (up : StandsUp old views) (input : Input)
    → SendsFor up.node.agreement.config up.node.agreement.me views input → SendsFor old.config old.me views input
sends_there old views up input is = (is.0, due_there old views up input (Plans is.0) is.1, is.2)

-- ---- an input

-- how the node is left, and its seat with it
pub record IsLeftAs {S : Type 0} (old new : StoredNodeState S) (views : Views) (up : StandsUp old views) (node : NodeState) : Type 0 where
  pub there : new.node ≡ Some node
  pub node_me : node.agreement.me ≡ up.node.agreement.me
  pub node_config : node.agreement.config ≡ up.node.agreement.config
  pub me : new.me ≡ old.me
  pub config : new.config ≡ old.config

stands_as : {S : Type 0} (old new : StoredNodeState S) (views after : Views) (up : StandsUp old views) (node : NodeState) → IsLeftAs old new views up node
    → NodeHas node after → new.records ≡ after.records → new.doubted ≡ None → StandsUp new after
stands_as old new views after up node is_left has kept certain = record {
  node = node;
  up = is_left.there;
  me_is = is_left.node_me ∙ (up.me_is ∙ sym is_left.me);
  config_is = is_left.node_config ∙ (up.config_is ∙ sym is_left.config);
  has = has;
  kept = kept;
  certain = certain;
}

next_sent : (before sends after : List Message) → after ≡ before ++ sends → take (length sends) (drop (length before) after) ≡ sends
next_sent before sends after is =
    subst (λ (ms : List Message). take (length sends) (drop (length before) ms) ≡ sends) (sym is)
    (subst (λ (ms : List Message). take (length sends) ms ≡ sends) (sym (drop-append_seam before sends)) (take_all (length sends) sends (omega arith)))

pub step_done : {S : Type 0} (old new : StoredNodeState S) (views : Views) (input : Input) (before after : List Message) (count : ℕ) (given : EventResult)
    → IsPlaced old → (up : StandsUp old views) (node : NodeState) → IsLeftAs old new views up node
    → IsDone up.node node views input old.records new.records new.doubted before after count → given ≡ results.Sent (length before) count
    → Leaves old new before after given (InputGives old.config old.me views input (SendsGives after (length before) views) given)
step_done old new views input before after count given placed up node is_left done is =
    let is_due = due_there old views up input (Plans done.plan) done.due in
    let recorded : new.records ≡ with_due true views.records done.plan.kept =
    subst (λ (rs : List Record). new.records ≡ with_due true rs done.plan.kept) up.kept done.recorded in
    record {
      more = done.plan.sends;
      behind = done.sent;
      counted = sym (ap count_of is ∙ done.counted);
      left = IsUp done.plan.after;
      gives = inl (Plans done.plan, is_due, (is ∙ ap (λ n. results.Sent (length before) n) done.counted, next_sent before done.plan.sends after done.sent, refl));
      stands = stands_as old new views done.plan.after up node is_left done.has (recorded ∙ sym (due_keeps old.config old.me views input done.plan is_due)) done.certain;
      placed = placed_too old new placed is_left.me is_left.config
          (subst (λ (rs : List Record). AllByRecursion (IsRecordOf old.config) rs) (sym done.recorded)
          (recovered_are_of old.config true old.records done.plan.kept placed.records_are (due_is_of old.config old.me views input done.plan placed.member is_due)))
          (none_doubted old.config new.doubted done.certain);
      me_is = is_left.me;
      config_is = is_left.config;
    }

-- a refusal, as what the input gives; memory is wanted only where no refusal is due
pub refusal_gives : {S : Type 0} → Allows → (old : StoredNodeState S) (views : Views) (up : StandsUp old views) (input : Input) (Gives : Due → EventResult → UpOrDown → Type 0)
    → ((refusal : DueRefusal) → Gives (Refuses refusal) (results.Refused (reason_of refusal)) (IsUp views)) → (why : Refusal)
    → IsRefused up.node views input why → InputGives old.config old.me views input Gives (results.Refused (reason_of (refusal_of why))) (IsUp views)
refusal_gives allows old views up input Gives refuses refusal.OutOfRange refused = inl (Refuses due.OutOfRange, due_there old views up input (Refuses due.OutOfRange) refused, refuses due.OutOfRange)
refusal_gives allows old views up input Gives refuses refusal.SlotsSpent refused = inl (Refuses due.SlotsSpent, due_there old views up input (Refuses due.SlotsSpent) refused, refuses due.SlotsSpent)
refusal_gives allows old views up input Gives refuses refusal.RoundsSpent refused = inl (Refuses due.RoundsSpent, due_there old views up input (Refuses due.RoundsSpent) refused, refuses due.RoundsSpent)
refusal_gives allows old views up input Gives refuses refusal.OutOfMemory refused =
    inr (allows old.config old.me views input (taken_there old views up input refused), (refl, refl))

-- the seat that is left as it was, whatever room its node has made
left_so : {S : Type 0} (old new : StoredNodeState S) (views : Views) (before after : List Message) → IsPlaced old → (up : StandsUp old views) (node : NodeState)
    → IsLeftAs old new views up node → IsLeft node views old.records new.records new.doubted before after → IsAsBefore old new (IsUp views) before after
left_so old new views before after placed up node is_left left = record {
  stands = stands_as old new views views up node is_left left.has (left.unrecorded ∙ up.kept) left.certain;
  records_are = left.unrecorded;
  placed = same_records old new placed is_left.me is_left.config left.unrecorded (left.certain ∙ sym up.certain);
  me_is = is_left.me;
  config_is = is_left.config;
  unsent = left.unsent;
}

pub step_left : {S : Type 0} → Allows → (old new : StoredNodeState S) (views : Views) (input : Input) (before after : List Message) (why : Refusal) (given : EventResult)
    → IsPlaced old → (up : StandsUp old views) (node : NodeState) → IsLeftAs old new views up node
    → IsRefused up.node views input why → IsLeft node views old.records new.records new.doubted before after → given ≡ results.Refused (reason_of (refusal_of why))
    → Leaves old new before after given (InputGives old.config old.me views input (SendsGives after (length before) views) given)
step_left allows old new views input before after why given placed up node is_left refused left is =
    let same = left_so old new views before after placed up node is_left left in
    subst (λ (g : EventResult). Leaves old new before after g (InputGives old.config old.me views input (SendsGives after (length before) views) g)) (sym is)
    (subst (λ (ms : List Message). Leaves old new before ms (results.Refused (reason_of (refusal_of why))) (InputGives old.config old.me views input (SendsGives ms (length before) views) (results.Refused (reason_of (refusal_of why))))) (sym left.unsent)
    (quiet old new before (results.Refused (reason_of (refusal_of why))) (InputGives old.config old.me views input (SendsGives before (length before) views) (results.Refused (reason_of (refusal_of why)))) (IsUp views)
    refl
    (refusal_gives allows old views up input (SendsGives before (length before) views) (λ r. (refl, refl)) why refused)
    same.stands same.placed is_left.me is_left.config))

-- ---- a node that does what was planned

pub done_by : (old mid new : NodeState) (views : Views) (input : Input) (planned : Planned) (records kept : List Record) (doubted : Option Record) (before after : List Message) (count : ℕ)
    → IsPlanned old views input planned → NodeHas mid views → mid.agreement.config ≡ old.agreement.config
    → ((from to : Views) → NodeHas mid from → LeadsTo mid.agreement.config from planned to → NodeHas new to)
    → kept ≡ with_due true records (kept_by planned) → doubted ≡ None → after ≡ before ++ sent_by planned → count ≡ length (sent_by planned)
    → IsDone old new views input records kept doubted before after count
done_by old mid new views input planned records kept doubted before after count is has config stands recorded certain sent counted = record {
  plan = is.plan;
  due = is.due;
  has = stands views is.plan.after has (subst (λ (c : AgreementConfig). LeadsTo c views planned is.plan.after) (sym config) is.leads);
  recorded = recorded ∙ ap (λ (due : Option Record). with_due true records due) (sym is.kept);
  certain = certain;
  sent = sent ∙ ap (λ (ms : List Message). before ++ ms) (sym is.sends);
  counted = counted ∙ ap (λ (ms : List Message). length ms) (sym is.sends);
}

-- an input for which something is planned may want memory
pub may_want_memory : (node : NodeState) (views : Views) (input : Input) (planned : Planned) → IsPlanned node views input planned
    → IsRefused node views input refusal.OutOfMemory
may_want_memory node views (owed.Put text) planned is = (is.plan, is.due)
may_want_memory node views (owed.Tick left) planned is = (is.plan, is.due)
may_want_memory node views (owed.Deliver message) planned is = is.due.0

-- the refusal that is due to a put
pub judged_refused : (node : NodeState) (views : Views) (text : List ℕ) (why : Refusal) → JudgesPut node views text (Some why) → IsRefused node views (owed.Put text) why
judged_refused node views text refusal.OutOfRange is = is
judged_refused node views text refusal.SlotsSpent is = is
judged_refused node views text refusal.RoundsSpent is = is
judged_refused node views text refusal.OutOfMemory is = absurd (let no : due.OutOfMemory ≡ due.SlotsSpent = is.0 in cc)

-- the messages of what was planned are due
pub planned_sends : (node : NodeState) (views : Views) (input : Input) (planned : Planned) → IsPlanned node views input planned → sent_by planned ≢ []
    → SendsFor node.agreement.config node.agreement.me views input
planned_sends node views input planned is some = (is.plan, is.due, λ none. some (sym is.sends ∙ none))

-- ---- a seat that takes an input

some_same : {X : Type 0} (x y : X) → Some x ≡ Some y → x ≡ y
some_same x y same = cc

pub same_node : {S : Type 0} (state : StoredNodeState S) (views : Views) (up : StandsUp state views) (node : NodeState) → state.node ≡ Some node → node ≡ up.node
same_node state views up node is = some_same node up.node (sym is ∙ up.up)

module _ {S : Type 0} (allows : Allows) (old new : StoredNodeState S) (views : Views) (input : Input) (before after : List Message) (placed : IsPlaced old) (up : StandsUp old views)
    (node changed : NodeState) (here : old.node ≡ Some node) (there : new.node ≡ Some changed) (node-me : changed.agreement.me ≡ node.agreement.me)
    (node-config : changed.agreement.config ≡ node.agreement.config) (me : new.me ≡ old.me) (config : new.config ≡ old.config) where
  is_left_so : IsLeftAs old new views up changed
  is_left_so = record {
    there = there;
    node_me = node-me ∙ ap (λ (n : NodeState). n.agreement.me) (same_node old views up node here);
    node_config = node-config ∙ ap (λ (n : NodeState). n.agreement.config) (same_node old views up node here);
    me = me;
    config = config;
  }

  has_here : NodeHas node views
  has_here = subst (λ (n : NodeState). NodeHas n views) (sym (same_node old views up node here)) up.has

  pub step_sent : (count : ℕ) (given : EventResult) → (NodeHas node views → IsDone node changed views input old.records new.records new.doubted before after count)
      → given ≡ results.Sent (length before) count
      → Leaves old new before after given (InputGives old.config old.me views input (SendsGives after (length before) views) given)
  step_sent count given gives is =
      step_done old new views input before after count given placed up changed is_left_so
      (subst (λ (n : NodeState). IsDone n changed views input old.records new.records new.doubted before after count) (same_node old views up node here) (gives has_here)) is

  pub step_refused : (why : Refusal) (given : EventResult) → (NodeHas node views → IsRefused node views input why × IsLeft changed views old.records new.records new.doubted before after)
      → given ≡ results.Refused (reason_of (refusal_of why))
      → Leaves old new before after given (InputGives old.config old.me views input (SendsGives after (length before) views) given)
  step_refused why given gives is =
      let did = gives has_here in
      step_left allows old new views input before after why given placed up changed is_left_so
      (subst (λ (n : NodeState). IsRefused n views input why) (same_node old views up node here) did.0) did.1 is

  pub step_wants : (NodeHas node views → SendsFor node.agreement.config node.agreement.me views input × IsLeft changed views old.records new.records new.doubted before after)
      → IsAsBefore old new (IsUp views) before after × SendsFor old.config old.me views input
  step_wants gives =
      let did = gives has_here in (
        left_so old new views before after placed up changed is_left_so did.1,
        sends_there old views up input (subst (λ (n : NodeState). SendsFor n.agreement.config n.agreement.me views input) (same_node old views up node here) did.0),
      )

-- ---- a record that is kept, or not

not_ok : false ≡ true → ⊥
not_ok is = cc

-- the record that is due was kept, if one is
pub due_kept : {T : Type 0} (due : Option Record) (result : Result T StoreFault) (records kept : List Record) (doubted : Option Record) (done : T) → result ≡ Ok done
    → DueLeaves due result records kept doubted → (kept ≡ with_due true records due) × (doubted ≡ None)
due_kept None result records kept doubted done is leaves = (leaves.1, leaves.2)
due_kept (Some last) (Ok found) records kept doubted done is leaves = leaves
due_kept (Some last) (Err why) records kept doubted done is leaves = absurd (let no : Err why ≡ Ok done = is in cc)

-- memory was refused for it, and nothing changed
pub due_unkept : {T : Type 0} (due : Option Record) (result : Result T StoreFault) (records kept : List Record) (doubted : Option Record) → result ≡ Err store.OutOfMemory
    → DueLeaves due result records kept doubted → (kept ≡ records) × (doubted ≡ None)
due_unkept None result records kept doubted is leaves = (leaves.1, leaves.2)
due_unkept (Some last) (Ok found) records kept doubted is leaves = absurd (let no : Ok found ≡ Err store.OutOfMemory = is in cc)
due_unkept (Some last) (Err store.Device) records kept doubted is leaves = absurd (let no : Err store.Device ≡ Err store.OutOfMemory = is in cc)
due_unkept (Some last) (Err store.Damaged) records kept doubted is leaves = absurd leaves
due_unkept (Some last) (Err store.Broken) records kept doubted is leaves = absurd (let no : Err store.Broken ≡ Err store.OutOfMemory = is in cc)
due_unkept (Some last) (Err store.OutOfMemory) records kept doubted is leaves = leaves

-- the store failed, so that a record was due, and was not kept, or is in doubt
pub failed_due : {T : Type 0} (due : Option Record) (why : StoreFault) (records kept : List Record) (doubted : Option Record) (result : Result T StoreFault) → result ≡ Err why
    → DueLeaves due result records kept doubted → (last : Record) × (due ≡ Some last) × (kept ≡ records) × ((doubted ≡ None) ⊎ (doubted ≡ Some last))
failed_due None why records kept doubted (Ok done) is leaves = absurd (let no : Ok done ≡ Err why = is in cc)
failed_due None why records kept doubted (Err other) is leaves = absurd (not_ok leaves.0)
failed_due (Some last) why records kept doubted (Ok done) is leaves = absurd (let no : Ok done ≡ Err why = is in cc)
failed_due (Some last) why records kept doubted (Err store.Device) is leaves = (last, refl, leaves.0, inr leaves.1)
failed_due (Some last) why records kept doubted (Err store.Damaged) is leaves = absurd leaves
failed_due (Some last) why records kept doubted (Err store.Broken) is leaves = (last, refl, leaves.0, inl leaves.1)
failed_due (Some last) why records kept doubted (Err store.OutOfMemory) is leaves = (last, refl, leaves.0, inl leaves.1)

-- as a cut tells it
pub due_left : {T : Type 0} (due : Option Record) (result : Result T StoreFault) (records kept : List Record) (doubted : Option Record)
    → DueLeaves due result records kept doubted → KeepsDue due result records kept doubted
due_left None (Ok done) records kept doubted leaves = (leaves.1, leaves.2)
due_left None (Err why) records kept doubted leaves = absurd (not_ok leaves.0)
due_left (Some last) (Ok done) records kept doubted leaves = leaves
due_left (Some last) (Err store.Device) records kept doubted leaves = (leaves.0, inr leaves.1)
due_left (Some last) (Err store.Damaged) records kept doubted leaves = absurd leaves
due_left (Some last) (Err store.Broken) records kept doubted leaves = (leaves.0, inl leaves.1)
due_left (Some last) (Err store.OutOfMemory) records kept doubted leaves = (leaves.0, inl leaves.1)

-- what a node that is down has kept
pub has_kept : (doubted : Option Record) (records kept : List Record) (due : Option Record) → kept ≡ records → (doubted ≡ None) ⊎ (doubted ≡ due)
    → HasKept kept doubted records due
has_kept None records kept due same in_doubt = (false, same ∙ sym (without_due records due))
has_kept (Some last) records kept due same (inl none) = absurd (let no : Some last ≡ None = none in cc)
has_kept (Some last) records kept due same (inr is) = (same, sym is)

certainly_kept : (doubted : Option Record) (records kept : List Record) (due : Option Record) → kept ≡ with_due true records due → doubted ≡ None
    → HasKept kept doubted records due
certainly_kept None records kept due same certain = (true, same)
certainly_kept (Some last) records kept due same certain = absurd (let no : Some last ≡ None = certain in cc)

pub cut_has_kept : {T : Type 0} (result : Result T StoreFault) (records kept : List Record) (doubted due : Option Record)
    → KeepsDue due result records kept doubted → HasKept kept doubted records due
cut_has_kept (Ok done) records kept doubted due keeps = certainly_kept doubted records kept due keeps.0 keeps.1
cut_has_kept (Err why) records kept doubted due keeps = has_kept doubted records kept due keeps.0 keeps.1

-- what was kept and what is in doubt is of the configuration, where the record that is due is
pub kept_are_of : (config : AgreementConfig) (doubted : Option Record) (records kept : List Record) (due : Option Record) → AllByRecursion (IsRecordOf config) records → IsOf config due
    → HasKept kept doubted records due → AllByRecursion (IsRecordOf config) kept × IfSome doubted (IsRecordOf config)
kept_are_of config None records kept due are of (recovered, is) =
    (subst (λ (rs : List Record). AllByRecursion (IsRecordOf config) rs) (sym is) (recovered_are_of config recovered records due are of), tt)
kept_are_of config (Some last) records kept due are of (same, is) =
    (subst (λ (rs : List Record). AllByRecursion (IsRecordOf config) rs) (sym same) are, subst (λ (d : Option Record). IsOf config d) is of)

-- ---- a node that keeps its record, and no more

pub kept_alone : PlansAreKept → {T : Type 0} (node : NodeState) (views : Views) (input : Input) (planned : Planned) (records kept : List Record) (doubted due : Option Record) (result : Result T StoreFault)
    → IsPlanned node views input planned → due ≡ kept_by planned → DueLeaves due result records kept doubted
    → KeepsAlone node views input records kept doubted result
kept_alone keep node views input planned records kept doubted due result is same leaves = (
  is.plan.kept,
  keep node.agreement.config node.agreement.me views input is.plan is.due,
  subst (λ (d : Option Record). KeepsDue d result records kept doubted) (same ∙ sym is.kept) (due_left due result records kept doubted leaves),
)

-- no record is due where it is refused
refused_alone : RefusedKeepNone → {T : Type 0} (node : NodeState) (views : Views) (input : Input) (why : Refusal) (records : List Record) (doubted : Option Record) (done : T) → doubted ≡ None
    → (why ≡ refusal.OutOfMemory → ⊥) → IsRefused node views input why → KeepsAlone node views input records records doubted (Ok done)
refused_alone none node views input refusal.OutOfRange records doubted done certain not refused = (None, none node.agreement.config node.agreement.me views input due.OutOfRange refused, (refl, certain))
refused_alone none node views input refusal.SlotsSpent records doubted done certain not refused = (None, none node.agreement.config node.agreement.me views input due.SlotsSpent refused, (refl, certain))
refused_alone none node views input refusal.RoundsSpent records doubted done certain not refused = (None, none node.agreement.config node.agreement.me views input due.RoundsSpent refused, (refl, certain))
refused_alone none node views input refusal.OutOfMemory records doubted done certain not refused = absurd (not refl)

wants_taken : (node : NodeState) (views : Views) (input : Input) → IsRefused node views input refusal.OutOfMemory → IsTaken node.agreement.config node.agreement.me views input
wants_taken node views input refused = refused

-- one may be due where memory is refused, and is not kept
pub not_kept : RefusedKeepNone → TakenKeepSome → {T : Type 0} (node : NodeState) (views : Views) (input : Input) (why : Refusal) (records : List Record) (doubted : Option Record) (result : Result T StoreFault)
    → doubted ≡ None → IsRefused node views input why → OnOk result (why ≡ refusal.OutOfMemory → ⊥) → OnErr result (why ≡ refusal.OutOfMemory)
    → KeepsAlone node views input records records doubted result
not_kept none some node views input why records doubted (Ok done) certain refused ok err = refused_alone none node views input why records doubted done certain ok refused
not_kept none some node views input why records doubted (Err wants) certain refused ok err =
    let taken = wants_taken node views input (subst (λ (w : Refusal). IsRefused node views input w) err refused) in
    let due = some node.agreement.config node.agreement.me views input taken in
    (due.0, due.1, (refl, inl certain))

-- ---- the store fails

-- the record that was due was not kept, or is in doubt
pub doubts : PlansAreKept → {T : Type 0} (node : NodeState) (views : Views) (input : Input) (planned : Planned) (records kept : List Record) (doubted due : Option Record) (before after : List Message)
    (why : StoreFault) (result : Result T StoreFault) → result ≡ Err why → IsPlanned node views input planned → due ≡ kept_by planned → DueLeaves due result records kept doubted → after ≡ before
    → IsDoubted node views input records kept doubted before after
doubts keep node views input planned records kept doubted due before after why result failed is same leaves unsent =
    let of = failed_due due why records kept doubted result failed leaves in
    record {
      last = of.0;
      keeps = subst (λ (d : Option Record). InputKeeps node.agreement.config node.agreement.me views input d) (is.kept ∙ sym same ∙ of.1)
          (keep node.agreement.config node.agreement.me views input is.plan is.due);
      unrecorded = of.2;
      in_doubt = of.3;
      unsent = unsent;
    }

pub keeps_there : {S : Type 0} (old : StoredNodeState S) (views : Views) (up : StandsUp old views) (input : Input) (due : Option Record)
    → InputKeeps up.node.agreement.config up.node.agreement.me views input due → InputKeeps old.config old.me views input due
keeps_there old views up input due keeps =
    subst (λ (m : ℕ). InputKeeps old.config m views input due) up.me_is
    (subst (λ (c : AgreementConfig). InputKeeps c up.node.agreement.me views input due) up.config_is keeps)

-- the seat is down, with what its store has
pub doubted_down : {S : Type 0} (old new : StoredNodeState S) (views : Views) (input : Input) (records : List Record) (due : Option Record) → IsPlaced old → StandsUp old views → InputKeeps old.config old.me views input due
    → new.node ≡ None → new.me ≡ old.me → new.config ≡ old.config → HasKept new.records new.doubted old.records due → StandsDown new views.records due × IsPlaced new
doubted_down old new views input records due placed up keeps down me config kept =
    let are = kept_are_of old.config new.doubted old.records new.records due placed.records_are (kept_is_of old.config old.me views input due placed.member keeps) kept in (
      record { down = down; kept = subst (λ (rs : List Record). HasKept new.records new.doubted rs due) up.kept kept },
      placed_too old new placed me config are.0 are.1,
    )

-- what it was up for is broken off
pub step_breaks : {S : Type 0} (old new : StoredNodeState S) (views : Views) (input : Input) (before after : List Message) (node : NodeState) → IsPlaced old → (up : StandsUp old views) → old.node ≡ Some node
    → (NodeHas node views → IsDoubted node views input old.records new.records new.doubted before after) → new.node ≡ None → new.me ≡ old.me → new.config ≡ old.config
    → StepBreaks old new views input before after
step_breaks old new views input before after node placed up here gives down me config =
    let same = same_node old views up node here in
    let did : IsDoubted up.node views input old.records new.records new.doubted before after =
    subst (λ (n : NodeState). IsDoubted n views input old.records new.records new.doubted before after) same
    (gives (subst (λ (n : NodeState). NodeHas n views) (sym same) up.has)) in
    let keeps = keeps_there old views up input (Some did.last) did.keeps in
    let left = doubted_down old new views input old.records (Some did.last) placed up keeps down me config
    (has_kept new.doubted old.records new.records (Some did.last) did.unrecorded did.in_doubt) in
    record {
      left = IsDown views.records (Some did.last);
      breaks = (did.last, keeps, refl);
      stands = left.0;
      placed = left.1;
      me_is = me;
      config_is = config;
      unsent = did.unsent;
    }

-- what a fault of the store gives
pub unkept_gives : PlansAreKept → {T : Type 0} (old mid : NodeState) (views : Views) (input : Input) (planned : Planned) (records kept : List Record) (doubted due : Option Record) (before after : List Message)
    (why : StoreFault) (result : Result T StoreFault) (given : Result (Result ℕ Refusal) StoredNodeFault) → result ≡ Err why → IsNotKept why given → IsPlanned old views input planned → due ≡ kept_by planned
    → DueLeaves due result records kept doubted → NodeHas mid views → after ≡ before → TakeGives old mid views input records kept doubted before after given
unkept_gives keep old mid views input planned records kept doubted due before after store.Device result given failed is plan same leaves has unsent =
    subst (λ (r : Result (Result ℕ Refusal) StoredNodeFault). TakeGives old mid views input records kept doubted before after r) (sym is)
    (doubts keep old views input planned records kept doubted due before after store.Device result failed plan same leaves unsent)
unkept_gives keep old mid views input planned records kept doubted due before after store.Damaged result given failed is plan same leaves has unsent =
    subst (λ (r : Result (Result ℕ Refusal) StoredNodeFault). TakeGives old mid views input records kept doubted before after r) (sym is)
    (doubts keep old views input planned records kept doubted due before after store.Damaged result failed plan same leaves unsent)
unkept_gives keep old mid views input planned records kept doubted due before after store.Broken result given failed is plan same leaves has unsent =
    subst (λ (r : Result (Result ℕ Refusal) StoredNodeFault). TakeGives old mid views input records kept doubted before after r) (sym is)
    (doubts keep old views input planned records kept doubted due before after store.Broken result failed plan same leaves unsent)
unkept_gives keep old mid views input planned records kept doubted due before after store.OutOfMemory result given failed is plan same leaves has unsent =
    let left = due_unkept due result records kept doubted failed leaves in
    subst (λ (r : Result (Result ℕ Refusal) StoredNodeFault). TakeGives old mid views input records kept doubted before after r) (sym is)
    (may_want_memory old views input planned plan, record { has = has; unrecorded = left.0; certain = left.1; unsent = unsent })

-- and then no record is in doubt, where it wants memory
pub unkept_doubts : {T : Type 0} (records kept : List Record) (doubted due : Option Record) (why : StoreFault) (result : Result T StoreFault) (given : Result (Result ℕ Refusal) StoredNodeFault)
    → result ≡ Err why → IsNotKept why given → DueLeaves due result records kept doubted → DoubtsNone given doubted
unkept_doubts records kept doubted due store.Device result given failed is leaves = subst (λ (r : Result (Result ℕ Refusal) StoredNodeFault). DoubtsNone r doubted) (sym is) tt
unkept_doubts records kept doubted due store.Damaged result given failed is leaves = subst (λ (r : Result (Result ℕ Refusal) StoredNodeFault). DoubtsNone r doubted) (sym is) tt
unkept_doubts records kept doubted due store.Broken result given failed is leaves = subst (λ (r : Result (Result ℕ Refusal) StoredNodeFault). DoubtsNone r doubted) (sym is) tt
unkept_doubts records kept doubted due store.OutOfMemory result given failed is leaves =
    subst (λ (r : Result (Result ℕ Refusal) StoredNodeFault). DoubtsNone r doubted) (sym is) (due_unkept due result records kept doubted failed leaves).1
