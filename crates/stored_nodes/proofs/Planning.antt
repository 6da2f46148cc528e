-- What is planned, and taken, by a seat that is up.
use Rattle.std.proofs.Common.{◌≡◌, refl, sym, ap, subst, ◌∙◌, ℕ, true, Option, None, Some, IsSome, Result, Ok, Err, IfOk, List}
use Rattle.std.specs.List.{AllByRecursion}
use Rattle.ballots.specs.declared.record.Record.{Record}
use Rattle.stable_records.specs.declared.fault.StoreFault.{StoreFault}
use Rattle.agreement.specs.declared.refusal.Refusal.{Refusal}
use Rattle.agreement.specs.declared.refusal.Refusal.TheVariants as refusal
use Rattle.agreement_rules.specs.Views.{AgreementConfig, Views}
use Rattle.agreement_rules.specs.Due.{Plans}
use Rattle.histories.specs.Due.{Input, IsDue, InputKeeps}
use Rattle.histories.specs.Following.{UpOrDown, IsUp, IsDown, with_due}
use Rattle.node_core.specs.State.{NodeState, NodeHas, IsRecordOf, StandsAsBefore}
use Rattle.node_core.specs.declared.plan.Planned.{Planned}
use Rattle.node_core.specs.Plans.{CanCommit, IsPlanned, IsRefused, LeadsTo, kept_by}
use Rattle.stored_nodes.specs.State.{StoredNodeState, IsPlaced, StandsUp, Stands}
use Rattle.stored_nodes.specs.Kept.{DueLeaves}
use Rattle.node_events.specs.declared.event_result.Reason.{Reason}
use Rattle.stored_nodes.specs.Parts.{reason_telling, RefusesAs, PlanAnswers, IsPlannedFor, IsUpFor, StandsStill, IsDoneFor, IsBrokenOff}
use Rattle.stored_nodes.proofs.Dues.{due_keeps}
use Rattle.stored_nodes.proofs.Placing.{due_is_of, recovered_are_of}
use Rattle.stored_nodes.proofs.Keeping.{Planned as PlansAreKept}
use Rattle.stored_nodes.proofs.Leaving.{same_node, same_records, placed_too, none_doubted, due_there, keeps_there, failed_due, due_kept, has_kept, doubted_down}

none_is_some : {X : Type 0} (x : X) → None ≡ Some x → ⊥
none_is_some x same = cc

-- ---- what is planned

-- a plan is one of any node of this place and configuration
planned_too : (node changed : NodeState) (views : Views) (input : Input) (planned : Planned) → changed.agreement.me ≡ node.agreement.me → changed.agreement.config ≡ node.agreement.config
    → IsPlanned node views input planned → IsPlanned changed views input planned
planned_too node changed views input planned me config is = record {
  plan = is.plan;
  due = subst (λ (m : ℕ). IsDue changed.agreement.config m views input (Plans is.plan)) (sym me)
      (subst (λ (c : AgreementConfig). IsDue c node.agreement.me views input (Plans is.plan)) (sym config) is.due);
  kept = is.kept;
  sends = is.sends;
  leads = subst (λ (c : AgreementConfig). LeadsTo c views planned is.plan.after) (sym config) is.leads;
}

module _ {S : Type 0} (old new : StoredNodeState S) (node changed : NodeState) (here : old.node ≡ Some node) (there : new.node ≡ Some changed) (node-me : changed.agreement.me ≡ node.agreement.me)
    (node-config : changed.agreement.config ≡ node.agreement.config) (me : new.me ≡ old.me) (config : new.config ≡ old.config) (records : new.records ≡ old.records)
    (doubted : new.doubted ≡ old.doubted) (same : StandsAsBefore node changed) where
  -- it stands as it stood
  up_too : (views : Views) → StandsUp old views → StandsUp new views
  up_too views up =
      let one = same_node old views up node here in
      record {
        node = changed;
        up = there;
        me_is = node-me ∙ (ap (λ (n : NodeState). n.agreement.me) one ∙ (up.me_is ∙ sym me));
        config_is = node-config ∙ (ap (λ (n : NodeState). n.agreement.config) one ∙ (up.config_is ∙ sym config));
        has = same views (subst (λ (n : NodeState). NodeHas n views) (sym one) up.has);
        kept = records ∙ up.kept;
        certain = doubted ∙ up.certain;
      }

  stands_too : (seat : UpOrDown) → Stands old seat → Stands new seat
  stands_too (IsUp views) up = up_too views up
  stands_too (IsDown kept due) was = absurd (none_is_some node (sym was.down ∙ here))

  pub stands_still : new.store ≡ old.store → StandsStill old new
  stands_still store = record {
    stands = stands_too;
    down = λ none. absurd (none_is_some node (sym none ∙ here));
    placed = λ placed. same_records old new placed me config records doubted;
    me_is = me;
    config_is = config;
    store_is = store;
    records_are = records;
    doubted_is = doubted;
  }

  -- and what is planned is planned for it
  pub planned_for : (input : Input) (planned : Planned) → CanCommit changed planned → ((views : Views) → NodeHas node views → IsPlanned node views input planned)
      → (views : Views) → StandsUp old views → IsPlannedFor new views input planned
  unfolding up_too
  planned_for input planned can gives views up =
      let one = same_node old views up node here in
      record {
        up = up_too views up;
        can = can;
        is = planned_too node changed views input planned node-me node-config (gives views (subst (λ (n : NodeState). NodeHas n views) (sym one) up.has));
      }

-- the node that is refused is that of the seat
refused_for : {S : Type 0} (state : StoredNodeState S) (node : NodeState) (input : Input) (why : Refusal) → state.node ≡ Some node
    → ((views : Views) → NodeHas node views → IsRefused node views input why) → (views : Views) (up : StandsUp state views) → IsRefused up.node views input why
refused_for state node input why here gives views up =
    let one = same_node state views up node here in
    subst (λ (n : NodeState). IsRefused n views input why) one (gives views (subst (λ (n : NodeState). NodeHas n views) (sym one) up.has))

refused_by : {S : Type 0} (old new : StoredNodeState S) (input : Input) (why : Refusal) → RefusesAs old input why → PlanAnswers old new input (Err (reason_telling why))
refused_by old new input refusal.OutOfRange refuses = refuses
refused_by old new input refusal.SlotsSpent refuses = refuses
refused_by old new input refusal.RoundsSpent refuses = refuses
refused_by old new input refusal.OutOfMemory refuses = refuses

is_some_by : {X : Type 0} (found : Option X) (x : X) → found ≡ Some x → IsSome found
is_some_by {X = X} found x is = subst (λ (o : Option X). IsSome o) (sym is) refl

-- what a plan is answered by
pub plan_answers : {S : Type 0} (old new : StoredNodeState S) (node : NodeState) (input : Input) (planned : Planned) (answer : Result Planned Reason) → old.node ≡ Some node → answer ≡ Ok planned
    → ((views : Views) → StandsUp old views → IsPlannedFor new views input planned) → PlanAnswers old new input answer
plan_answers old new node input planned answer here is planned-for =
    subst (λ (r : Result Planned Reason). PlanAnswers old new input r) (sym is) (is_some_by old.node node here, planned-for)

pub refusal_answers : {S : Type 0} (old new : StoredNodeState S) (node : NodeState) (input : Input) (why : Refusal) (reason : Reason) (answer : Result Planned Reason) → old.node ≡ Some node
    → answer ≡ Err reason → reason ≡ reason_telling why → ((views : Views) → NodeHas node views → IsRefused node views input why) → PlanAnswers old new input answer
refusal_answers old new node input why reason answer here is tells gives =
    subst (λ (r : Result Planned Reason). PlanAnswers old new input r) (sym (is ∙ ap (λ (r : Reason). Err r) tells))
    (refused_by old new input why (is_some_by old.node node here, refused_for old node input why here gives))

-- and the node can commit it
pub planned_is_up : {S : Type 0} (state : StoredNodeState S) (node : NodeState) (planned : Planned) (answer : Result Planned Reason) → state.node ≡ Some node → answer ≡ Ok planned → CanCommit node planned
    → IfOk answer (IsUpFor state)
planned_is_up state node planned answer here is can = subst (λ (r : Result Planned Reason). IfOk r (IsUpFor state)) (sym is) (node, here, can)

pub refused_is_up : {S : Type 0} (state : StoredNodeState S) (reason : Reason) (answer : Result Planned Reason) → answer ≡ Err reason → IfOk answer (IsUpFor state)
refused_is_up state reason answer is = subst (λ (r : Result Planned Reason). IfOk r (IsUpFor state)) (sym is) tt

-- ---- what is taken

module _ {S : Type 0} (old new : StoredNodeState S) (views : Views) (input : Input) (planned : Planned) (placed : IsPlaced old) (for : IsPlannedFor old views input planned)
    (node : NodeState) (here : old.node ≡ Some node) (me : new.me ≡ old.me) (config : new.config ≡ old.config) where
  -- its record is kept, and the node stands where the plan leads
  pub done_for : {T : Type 0} (result : Result T StoreFault) (done : T) (changed : NodeState) → result ≡ Ok done → new.node ≡ Some changed → changed.agreement.me ≡ node.agreement.me
      → changed.agreement.config ≡ node.agreement.config
      → ((from to : Views) → NodeHas node from → LeadsTo node.agreement.config from planned to → NodeHas changed to)
      → DueLeaves (kept_by planned) result old.records new.records new.doubted → IsDoneFor old new views input planned
  done_for result done changed is there node-me node-config stands leaves =
      let up = for.up in
      let one = same_node old views up node here in
      let is_due = due_there old views up input (Plans for.is.plan) for.is.due in
      let left = due_kept (kept_by planned) result old.records new.records new.doubted done is leaves in
      let kept : new.records ≡ with_due true old.records for.is.plan.kept = left.0 ∙ ap (λ (d : Option Record). with_due true old.records d) (sym for.is.kept) in
      record {
        plan = for.is.plan;
        due = is_due;
        sends = for.is.sends;
        stands = record {
          node = changed;
          up = there;
          me_is = node-me ∙ (ap (λ (n : NodeState). n.agreement.me) one ∙ (up.me_is ∙ sym me));
          config_is = node-config ∙ (ap (λ (n : NodeState). n.agreement.config) one ∙ (up.config_is ∙ sym config));
          has = stands views for.is.plan.after (subst (λ (n : NodeState). NodeHas n views) (sym one) up.has)
              (subst (λ (n : NodeState). LeadsTo n.agreement.config views planned for.is.plan.after) (sym one) for.is.leads);
          kept = kept ∙ (ap (λ (rs : List Record). with_due true rs for.is.plan.kept) up.kept ∙ sym (due_keeps old.config old.me views input for.is.plan is_due));
          certain = left.1;
        };
        placed = placed_too old new placed me config
            (subst (λ (rs : List Record). AllByRecursion (IsRecordOf old.config) rs) (sym kept)
            (recovered_are_of old.config true old.records for.is.plan.kept placed.records_are (due_is_of old.config old.me views input for.is.plan placed.member is_due)))
            (none_doubted old.config new.doubted left.1);
        me_is = me;
        config_is = config;
      }

  -- it is not kept, or in doubt, and the node is let go
  pub broken_off : PlansAreKept → {T : Type 0} (result : Result T StoreFault) (why : StoreFault) → result ≡ Err why → new.node ≡ None
      → DueLeaves (kept_by planned) result old.records new.records new.doubted → IsBrokenOff old new views input planned
  broken_off keep result why is down leaves =
      let up = for.up in
      let of = failed_due (kept_by planned) why old.records new.records new.doubted result is leaves in
      let keeps = keeps_there old views up input (Some of.0)
      (subst (λ (d : Option Record). InputKeeps up.node.agreement.config up.node.agreement.me views input d) (for.is.kept ∙ of.1)
      (keep up.node.agreement.config up.node.agreement.me views input for.is.plan for.is.due)) in
      record {
        last = of.0;
        last_is = of.1;
        keeps = keeps;
        down = down;
        kept = of.2 ∙ up.kept;
        doubt = of.3;
        placed = (doubted_down old new views input old.records (Some of.0) placed up keeps down me config (has_kept new.doubted old.records new.records (Some of.0) of.2 of.3)).1;
        me_is = me;
        config_is = config;
      }
