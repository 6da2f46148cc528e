-- A node that does what was planned stands where the plan leads.
use Rattle.std.proofs.Common.{◌≡◌, ℕ, List, [], ◌∷◌, ◌++◌, map, sym, ap, subst, ◌∙◌}
use Rattle.std.proofs.lemmas.List.{append-nil}
use Rattle.ballots.specs.Message.{value_bytes}
use Rattle.ballots.specs.declared.value.Value.{Value}
use Rattle.table_types.specs.Uploads.{Upload}
use Rattle.table_types.specs.Texts.{IsTextOf, AreUploadsOf}
use Rattle.table_types.specs.Tables.{outcome_of, unknown}
use Rattle.agreement_rules.specs.Views.{AgreementConfig, Views, with_waiting, HasPrefix}
use Rattle.histories.specs.Due.{AreStillWaiting}
use Rattle.table_versions.specs.State.{TablesState, HasTaken, ReadyState, IsReadyFor}
use Rattle.table_versions.specs.Values.{AreUploadsIn}
use Rattle.agreement.specs.State.{AgreementState, Has}
use Rattle.agreement.specs.Step.{left_by, learner_calls_with}
use Rattle.agreement.specs.declared.step.AgreementStep.{AgreementStep as Step}
use Rattle.node_core.specs.declared.plan.Planned.TheVariants.{Waits, Steps, Learns}
use Rattle.pending_uploads.specs.Waiting.{Waiting}
use Rattle.node_core.specs.State.{NodeState, NodeHas}
use Rattle.node_core.specs.Plans.{LeadsTo}
use Rattle.node_core.proofs.Waiting.{OneEncoding, still_one, still_still, still_behind}
use Rattle.node_core.proofs.Prefixes.{OnePrefix, OneLearned, prefix_is_one, same_uploads}

-- texts are one list of uploads
abbrev pub OneList : Type 0
OneList = (texts : List (List ℕ)) (xs ys : List Upload) → AreUploadsOf texts xs → AreUploadsOf texts ys → xs ≡ ys

-- whatever waits, a part in agreement stands where it stood
has_whatever : (state : AgreementState) (views : Views) (left : List (List ℕ)) → Has state views → Has state (with_waiting views left)
has_whatever state views left has = record {
  restored = has.restored;
  begun = has.begun;
  first_round = has.first_round;
  proposer_calls = has.proposer_calls;
  learner_calls = has.learner_calls;
  logged = has.logged;
  log_is = has.log_is;
  beyond = has.beyond;
  seen = has.seen;
  slots = has.slots;
}

abbrev pub node_of : AgreementState → TablesState → Waiting → NodeState
node_of agreement tables waiting = record { agreement = agreement; tables = tables; waiting = waiting }

-- one upload is told of at one list of uploads
told_of_it : OneEncoding → (xs ys : List Upload) (text : List ℕ) → xs ≡ ys → (upload : Upload) × IsTextOf text upload × (outcome_of xs upload ≡ unknown)
    → (upload : Upload) × IsTextOf text upload × (outcome_of ys upload ≡ unknown)
told_of_it encoding xs ys text same (upload, is, told) = (upload, is, subst (λ (us : List Upload). outcome_of us upload ≡ unknown) same told)

pub then_waits : OnePrefix → OneLearned → OneEncoding → OneList → (agreement : AgreementState) (tables : TablesState) (old new : Waiting) (text : List ℕ)
    → new.texts ≡ old.texts ++ text ∷ [] → (views after : Views) → NodeHas (node_of agreement tables old) views
    → LeadsTo agreement.config views (Waits text) after → NodeHas (node_of agreement tables new) after
then_waits one learned encoding list agreement tables old new text waiting views after has leads =
    let is = leads.0 in
    let are = same_uploads one learned agreement.config.members views.learner_calls has.values is.1 has.prefix is.3 in
    let unknown = told_of_it encoding is.1 has.taken.uploads text (list (map value_bytes has.values) is.1 has.taken.uploads are has.taken.are) (is.0, is.2, is.4) in
    subst (NodeHas (node_of agreement tables new)) (sym leads.1) (record {
      agrees = has_whatever agreement views (views.waiting ++ text ∷ []) has.agrees;
      values = has.values;
      prefix = has.prefix;
      taken = has.taken;
      waits = waiting ∙ ap (λ (l : List (List ℕ)). l ++ text ∷ []) has.waits;
      unknown = still_behind has.taken.uploads views.waiting views.waiting text unknown.0 unknown.1 unknown.2 has.unknown;
    })

-- a part in agreement takes this step
pub record StepTaken (old new : AgreementState) (step : Step) : Type 0 where
  pub stands : (views : Views) → Has old views → Has new (left_by views step.seen_round step.change)
  pub config : new.config ≡ old.config

pub then_steps : (old new : AgreementState) (tables : TablesState) (waiting : Waiting) (step : Step)
    → StepTaken old new step
    → (views after : Views) → NodeHas (node_of old tables waiting) views
    → LeadsTo old.config views (Steps step) after → NodeHas (node_of new tables waiting) after
then_steps old new tables waiting step taken views after has leads =
    subst (NodeHas (node_of new tables waiting)) (sym leads.1) (record {
      agrees = taken.stands views has.agrees;
      values = has.values;
      prefix = subst (λ (config : AgreementConfig). HasPrefix config.members (learner_calls_with views step.change) has.values) (sym taken.config)
          (subst (HasPrefix old.config.members (learner_calls_with views step.change)) (append-nil has.values) (leads.0 has.values has.prefix));
      taken = has.taken;
      waits = has.waits;
      unknown = has.unknown;
    })

pub then_learns : OnePrefix → OneLearned → OneEncoding → OneList → (old new : AgreementState) (tables full : TablesState)
    (waiting left : Waiting) (step : Step) (ready : ReadyState)
    → IsReadyFor ready step.grown.items → StepTaken old new step
    → ((taken values : List Value) → HasTaken tables taken → IsReadyFor ready values → HasTaken full (taken ++ values))
    → ((values : List Value) (uploads : List Upload) → HasTaken full values → AreUploadsIn values uploads
    → AreStillWaiting uploads waiting.texts left.texts)
    → (views after : Views) → NodeHas (node_of old tables waiting) views
    → LeadsTo old.config views (Learns step ready) after → NodeHas (node_of new full left) after
then_learns one learned encoding list old new tables full waiting left step ready is-ready stepped takes keeps views after has (grows, (uploads, still, of-uploads, are-still, is)) =
    let told = learner_calls_with views step.change in
    let values = has.values ++ step.grown.items in
    let prefix = grows has.values has.prefix in
    let taken = takes has.values step.grown.items has.taken is-ready in
    let are = subst (λ (vs : List Value). AreUploadsIn vs uploads) (prefix_is_one old.config.members told one learned of-uploads.values values of-uploads.prefix prefix) of-uploads.are in
    let kept = subst (λ (l : List (List ℕ)). AreStillWaiting uploads l left.texts) has.waits (keeps values uploads taken are) in
    subst (NodeHas (node_of new full left)) (sym is) (record {
      agrees = has_whatever new (left_by views step.seen_round step.change) still (stepped.stands views has.agrees);
      values = values;
      prefix = subst (λ (config : AgreementConfig). HasPrefix config.members told values) (sym stepped.config) prefix;
      taken = taken;
      waits = still_one encoding uploads views.waiting left.texts still kept are-still;
      unknown = subst (λ (us : List Upload). AreStillWaiting us still still) (list (map value_bytes values) uploads taken.uploads are taken.are)
          (still_still uploads views.waiting still are-still);
    })

-- a plan that is told by its parts leads where it leads
pub leads_as : {step : Step} {ready : ReadyState} (config : AgreementConfig) (views after : Views) (taken : Step) (made : ReadyState) → step ≡ taken → ready ≡ made
    → LeadsTo config views (Learns taken made) after → LeadsTo config views (Learns step ready) after
leads_as {step} {ready} config views after taken made same-step same-ready leads =
    subst (λ (s : Step). LeadsTo config views (Learns s ready) after) (sym same-step)
    (subst (λ (r : ReadyState). LeadsTo config views (Learns taken r) after) (sym same-ready) leads)
