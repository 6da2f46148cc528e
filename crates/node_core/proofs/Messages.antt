-- What is due to a message that makes the node's part in agreement take a step.
use Rattle.std.proofs.Common.{◌≡◌, arith, ℕ, suc, ◌+◌, ◌≤◌, length, slice_get, ◌==◌, Bool, true, false, None, Some, List, [], ◌∷◌, ◌++◌, map, refl, sym, ap, subst, ◌∙◌}
use Rattle.std.proofs.Math.Dec.{eqb-suc-zero}
use Rattle.std.proofs.lemmas.List.{append-nil, map-append}
use Rattle.ballots.specs.Limits.{max_slot}
use Rattle.ballots.specs.Message.{value_bytes}
use Rattle.ballots.specs.declared.value.Value.{Value}
use Rattle.ballots.specs.declared.message.Message.{Message}
use Rattle.ballots.specs.declared.message.Body.{Body}
use Rattle.ballots.specs.declared.message.Body.TheVariants as body
use Rattle.learner.specs.Calls.{LearnerCall}
use Rattle.table_types.specs.Uploads.{Upload}
use Rattle.table_types.specs.Texts.{AreUploadsOf}
use Rattle.agreement_rules.specs.Views.{AgreementConfig, Views, with_waiting, HasPrefix}
use Rattle.histories.specs.Texts.{HasUploads}
use Rattle.agreement_rules.specs.Due.{Plan, quietly, also_learns, IsMessageOf, has_seen}
use Rattle.histories.specs.Due.{Deliver, LearnsOf, BodyIsDue, AreStillWaiting}
use Rattle.table_versions.specs.State.{ReadyState, IsReadyFor, agreed_values_limit}
use Rattle.table_versions.specs.Values.{AreUploadsIn}
use Rattle.agreement.specs.declared.step.AgreementStep.{AgreementStep as Step}
use Rattle.agreement.specs.Step.{plan_of, Grows, BodyGives}
use Rattle.node_core.specs.declared.plan.Planned.TheVariants.{Steps, Learns}
use Rattle.node_core.specs.State.{NodeState, NodeHas}
use Rattle.node_core.specs.Plans.{IsPlanned}
use Rattle.node_core.proofs.Waiting.{some_still, uploads_wait}
use Rattle.node_core.proofs.Within.{LearnedWhereSettled, SettledWhereLearned, HeldIsLearned, prepared, accepted, body_fits}

pub grows_by_none : (members : ℕ) (before after : List LearnerCall) (grown : List Value) → after ≡ before → grown ≡ [] → Grows members before after grown
grows_by_none members before after grown same none values prefix =
    subst (λ (l : List Value). HasPrefix members after (values ++ l)) (sym none)
    (subst (HasPrefix members after) (sym (append-nil values)) (subst (λ (l : List LearnerCall). HasPrefix members l values) (sym same) prefix))

at_seam : (xs : List Value) (x : Value) (ys : List Value) → slice_get (xs ++ x ∷ ys) (length xs) ≡ Some x
at_seam [] x ys = refl
at_seam (y ∷ xs) x ys = at_seam xs x ys

-- the same calls have no longer prefix
grown_twice : (members : ℕ) (calls : List LearnerCall) (values grown : List Value) → HasPrefix members calls values → HasPrefix members calls (values ++ grown)
    → (grown ≡ [] → ⊥) → ⊥
grown_twice members calls values [] prefix longer some = some refl
grown_twice members calls values (value ∷ grown) prefix longer some =
    prefix.gap value (longer.learned (length values) value (at_seam values value grown))

module _ (config : AgreementConfig) (me : ℕ) (seen : Views) (sender slot : ℕ) where
  abbrev BodyGrows : Plan → List Value → Type 0
  BodyGrows plan grown = Grows config.members seen.learner_calls plan.after.learner_calls grown

  -- ---- what is due, where the prefix stays

  -- the prefix that these calls leave
  same_prefix : (values : List Value) (plan : Plan) (grown : List Value) → HasPrefix config.members seen.learner_calls values → grown ≡ []
      → BodyGrows plan grown → HasPrefix config.members plan.after.learner_calls values
  same_prefix values plan grown prefix none grows =
      subst (HasPrefix config.members plan.after.learner_calls) (append-nil values)
      (subst (λ (l : List Value). HasPrefix config.members plan.after.learner_calls (values ++ l)) none (grows values prefix))

  told_due : (values : List Value) (uploads : List Upload) → HasPrefix config.members seen.learner_calls values
      → AreUploadsIn values uploads → AreStillWaiting uploads seen.waiting seen.waiting → (call : LearnerCall) (plan : Plan)
      (grown : List Value) → grown ≡ [] → plan ≡ quietly (also_learns seen call) → BodyGrows plan grown → LearnsOf config seen call plan
  told_due values uploads prefix are still call plan grown none is grows = (
    uploads,
    seen.waiting,
    record {
      values = values;
      prefix = subst (λ (p : Plan). HasPrefix config.members p.after.learner_calls values) is (same_prefix values plan grown prefix none grows);
      are = are;
    },
    still,
    is,
  )

  body_due : (values : List Value) (uploads : List Upload) → HasPrefix config.members seen.learner_calls values
      → AreUploadsIn values uploads → AreStillWaiting uploads seen.waiting seen.waiting → (said : Body) (plan : Plan)
      (grown : List Value) → grown ≡ [] → BodyGives config me seen sender slot said plan grown
      → BodyIsDue config me seen sender slot said plan
  body_due values uploads prefix are still (body.Accepted acceptance) plan grown none gives =
      told_due values uploads prefix are still _ plan grown none gives.0 gives.1
  body_due values uploads prefix are still (body.Decided value) plan grown none gives =
      told_due values uploads prefix are still _ plan grown none gives.0 gives.1
  body_due values uploads prefix are still (body.Prepare ballot) plan grown none gives = gives.0
  body_due values uploads prefix are still (body.Accept proposal) plan grown none gives = gives.0
  body_due values uploads prefix are still (body.Promise ballot report) plan grown none gives = gives.0
  body_due values uploads prefix are still (body.Nack ballot promised) plan grown none gives = gives.0
  body_due values uploads prefix are still body.Ask plan grown none gives = gives.0

  -- ---- what is due, where it grows

  told_learns : (uploads : List Upload) (left : List (List ℕ)) (call : LearnerCall) (plan : Plan)
      → plan ≡ quietly (also_learns seen call) → HasUploads config.members plan.after.learner_calls uploads
      → AreStillWaiting uploads seen.waiting left → LearnsOf config seen call (quietly (with_waiting plan.after left))
  told_learns uploads left call plan is of still = (
    uploads,
    left,
    subst (λ (p : Plan). HasUploads config.members p.after.learner_calls uploads) is of,
    still,
    ap (λ (p : Plan). quietly (with_waiting p.after left)) is,
  )

  -- it is quiet, and what is due
  pub record Learnt (said : Body) (plan : Plan) (left : List (List ℕ)) : Type 0 where
    pub kept : plan.kept ≡ None
    pub sends : plan.sends ≡ []
    pub due : BodyIsDue config me seen sender slot said (quietly (with_waiting plan.after left))

  -- a body that makes no call of the learner makes the prefix no longer
  none_grows : (values : List Value) (plan : Plan) (grown : List Value) → HasPrefix config.members seen.learner_calls values → (grown ≡ [] → ⊥)
      → plan.after.learner_calls ≡ seen.learner_calls → BodyGrows plan grown → ⊥
  none_grows values plan grown prefix some same grows =
      grown_twice config.members seen.learner_calls values grown prefix
      (subst (λ (l : List LearnerCall). HasPrefix config.members l (values ++ grown)) same (grows values prefix)) some

  body_learns : (values : List Value) (uploads : List Upload) (left : List (List ℕ)) (said : Body) (plan : Plan) (grown : List Value)
      → HasPrefix config.members seen.learner_calls values → (grown ≡ [] → ⊥) → BodyGives config me seen sender slot said plan grown
      → HasUploads config.members plan.after.learner_calls uploads → AreStillWaiting uploads seen.waiting left → Learnt said plan left
  body_learns values uploads left (body.Accepted acceptance) plan grown prefix some gives of still = record {
    kept = ap (λ (p : Plan). p.kept) gives.0;
    sends = ap (λ (p : Plan). p.sends) gives.0;
    due = told_learns uploads left _ plan gives.0 of still;
  }
  body_learns values uploads left (body.Decided value) plan grown prefix some gives of still = record {
    kept = ap (λ (p : Plan). p.kept) gives.0;
    sends = ap (λ (p : Plan). p.sends) gives.0;
    due = told_learns uploads left _ plan gives.0 of still;
  }
  body_learns values uploads left (body.Prepare ballot) plan grown prefix some gives of still =
      absurd (none_grows values plan grown prefix some (prepared me seen slot ballot gives.0.2 plan gives.0.5) gives.1)
  body_learns values uploads left (body.Accept proposal) plan grown prefix some gives of still =
      absurd (none_grows values plan grown prefix some (accepted me seen slot proposal gives.0.2 plan gives.0.5) gives.1)
  body_learns values uploads left (body.Promise ballot report) plan grown prefix some gives of still =
      absurd (none_grows values plan grown prefix some (ap (λ (p : Plan). p.after.learner_calls) gives.0.2) gives.1)
  body_learns values uploads left (body.Nack ballot promised) plan grown prefix some gives of still =
      absurd (none_grows values plan grown prefix some (ap (λ (p : Plan). p.after.learner_calls) gives.0) gives.1)
  body_learns values uploads left body.Ask plan grown prefix some gives of still =
      absurd (none_grows values plan grown prefix some (ap (λ (p : Plan). p.after.learner_calls) gives.0.2) gives.1)

-- ---- a step as a plan

-- what a message gives as a step, whatever records and calls the node stands by
abbrev pub StepOf : NodeState → Views → Message → Step → Type 0
StepOf state views m step =
    BodyGives state.agreement.config state.agreement.me (has_seen views m) m.sender m.slot m.body (plan_of views step) step.grown.items

pub step_planned : (state : NodeState) (views : Views) → NodeHas state views → (m : Message) (step : Step)
    → IsMessageOf state.agreement.config m → StepOf state views m step → step.grown.items ≡ []
    → IsPlanned state views (Deliver m) (Steps step)
step_planned state views has m step is gives none =
    let config = state.agreement.config in
    let me = state.agreement.me in
    let seen = has_seen views m in
    record {
      plan = plan_of views step;
      due = (is, body_due config me seen m.sender m.slot has.values has.taken.uploads has.prefix has.taken.are has.unknown m.body (plan_of views step) step.grown.items none gives);
      kept = refl;
      sends = refl;
      leads = (
        subst (Grows config.members views.learner_calls (plan_of views step).after.learner_calls) none gives.1,
        refl,
      );
    }

-- uploads of texts behind others are behind them
abbrev pub ListsJoin : Type 0
ListsJoin = (first second : List (List ℕ)) (xs ys : List Upload) → AreUploadsOf first xs → AreUploadsOf second ys → AreUploadsOf (first ++ second) (xs ++ ys)

both_in : ListsJoin → (first second : List Value) (xs ys : List Upload) → AreUploadsIn first xs → AreUploadsIn second ys
    → AreUploadsIn (first ++ second) (xs ++ ys)
both_in join first second xs ys are-first are-second =
    subst (λ (l : List (List ℕ)). AreUploadsOf l (xs ++ ys)) (sym (map-append value_bytes first second))
    (join (map value_bytes first) (map value_bytes second) xs ys are-first are-second)

pub learning_planned : ListsJoin → (state : NodeState) (views : Views) → NodeHas state views → (m : Message) (step : Step) (ready : ReadyState)
    → IsMessageOf state.agreement.config m → StepOf state views m step → (step.grown.items ≡ [] → ⊥) → IsReadyFor ready step.grown.items
    → IsPlanned state views (Deliver m) (Learns step ready)
learning_planned join state views has m step ready is gives some is-ready =
    let config = state.agreement.config in
    let me = state.agreement.me in
    let seen = has_seen views m in
    let plan = plan_of views step in
    let grown = step.grown.items in
    let uploads = has.taken.uploads ++ is-ready.uploads in
    let grows = gives.1 in
    let of : HasUploads config.members plan.after.learner_calls uploads = record {
      values = has.values ++ grown;
      prefix = grows has.values has.prefix;
      are = both_in join has.values grown has.taken.uploads is-ready.uploads has.taken.are is-ready.are;
    } in
    let still = some_still uploads views.waiting (uploads_wait has.taken.uploads views.waiting views.waiting has.unknown) in
    let learnt = body_learns config me seen m.sender m.slot has.values uploads still.0 m.body plan grown has.prefix some gives of still.1 in
    record {
      plan = quietly (with_waiting plan.after still.0);
      due = (is, learnt.due);
      kept = sym learnt.kept;
      sends = sym learnt.sends;
      leads = (grows, (uploads, still.0, of, still.1, refl));
    }

-- ---- room for what is learned

pub ready_fits : LearnedWhereSettled → SettledWhereLearned → HeldIsLearned → (state : NodeState) (views : Views) → NodeHas state views
    → (m : Message) (step : Step) → IsMessageOf state.agreement.config m → StepOf state views m step
    → state.tables.taken + length step.grown.items ≤ agreed_values_limit
ready_fits learned settled held state views has m step is gives =
    let fits = body_fits learned settled held state.agreement views has.agrees state.agreement.me (has_seen views m) m.sender m.slot
    m.body (plan_of views step) step.grown.items refl is.slot gives has.values has.prefix in
    let taken = has.taken.taken_is in
    let slots = has.agrees.slots in
    let top : suc max_slot ≡ agreed_values_limit = refl in
    omega (arith, fits, taken, slots, top)

-- ---- whether values are none

pub no_items : (shown items : List Value) (answer : Bool) → shown ≡ items → answer ≡ (length shown == 0) → answer ≡ true → items ≡ []
no_items [] items answer same is holds = sym same
no_items (value ∷ values) items answer same is holds =
    let both : false ≡ true = sym (is ∙ eqb-suc-zero (length values)) ∙ holds in absurd (cc)

pub some_items : (shown items : List Value) (answer : Bool) → shown ≡ items → answer ≡ (length shown == 0) → answer ≡ false
    → items ≡ [] → ⊥
some_items [] items answer same is fails none = let both : false ≡ true = sym fails ∙ is in cc
some_items (value ∷ values) items answer same is fails none = let both = same ∙ none in cc
