-- A node whose parts stand as before stands as before, whatever room was made.
use Rattle.std.proofs.Common.{◌≡◌, List, refl, sym, subst, ◌∙◌}
use Rattle.ballots.specs.declared.value.Value.{Value}
use Rattle.agreement_rules.specs.Views.{AgreementConfig, Views, HasPrefix}
use Rattle.table_versions.specs.Ledger.{FirstEntries, TableEntries, FrameEntries, IsLedger}
use Rattle.table_versions.specs.State.{TablesState, HasTaken, IsSame}
use Rattle.pending_uploads.specs.Waiting.{Waiting}
use Rattle.agreement.specs.State.{AgreementState, Has}
use Rattle.histories.specs.Due.{Input}
use Rattle.node_core.specs.declared.input.Input.{Input as Comes}
use Rattle.node_core.specs.Inputs.{input_of}
use Rattle.node_core.specs.declared.plan.Planned.{Planned}
use Rattle.node_core.specs.State.{NodeState, NodeHas}
use Rattle.node_core.specs.Plans.{LeadsTo, HasRoom, CanCommit, IsPlanned}
use Rattle.node_core.proofs.Leading.{node_of}

abbrev pub same_tables : (old new : TablesState) (values : List Value) → IsSame old new → HasTaken old values → HasTaken new values
same_tables old new values same taken = record {
  uploads = taken.uploads;
  are = taken.are;
  taken_is = same.taken ∙ taken.taken_is;
  few = taken.few;
  ledger = subst (λ (f : FirstEntries). IsLedger f new.tables new.frames taken.uploads) (sym same.firsts)
      (subst (λ (t : TableEntries). IsLedger old.firsts t new.frames taken.uploads) (sym same.tables)
      (subst (λ (f : FrameEntries). IsLedger old.firsts old.tables f taken.uploads) (sym same.frames) taken.ledger));
}

pub stands_on : (a b : AgreementState) (s t : TablesState) (v w : Waiting) → ((views : Views) → Has a views → Has b views)
    → b.config ≡ a.config → IsSame s t → w.texts ≡ v.texts → (views : Views) → NodeHas (node_of a s v) views
    → NodeHas (node_of b t w) views
stands_on a b s t v w agrees config same texts views has = record {
  agrees = agrees views has.agrees;
  values = has.values;
  prefix = subst (λ (c : AgreementConfig). HasPrefix c.members views.learner_calls has.values) (sym config) has.prefix;
  taken = same_tables s t has.values same has.taken;
  waits = texts ∙ has.waits;
  unknown = has.unknown;
}

pub same_as_it_is : (tables : TablesState) → IsSame tables tables
same_as_it_is tables = record { firsts = refl; tables = refl; frames = refl; taken = refl }

-- what was planned of the node as it was can be committed by the node that has the room
pub can_commit : (a b : AgreementState) (s t : TablesState) (v w : Waiting) → ((views : Views) → Has a views → Has b views)
    → b.config ≡ a.config → IsSame s t → w.texts ≡ v.texts → (views : Views) → NodeHas (node_of a s v) views
    → (input : Input) (planned : Planned) → IsPlanned (node_of a s v) views input planned → HasRoom (node_of b t w) planned
    → CanCommit (node_of b t w) planned
can_commit a b s t v w agrees config same texts views has input planned is room = record {
  room = room;
  views = views;
  has = stands_on a b s t v w agrees config same texts views has;
  after = is.plan.after;
  leads = subst (λ (c : AgreementConfig). LeadsTo c views planned is.plan.after) (sym config) is.leads;
}

-- an input and what is planned of it, told by their parts
pub planned_as : {from : Comes} {made : Planned} (state : NodeState) (views : Views) (input : Comes) (planned : Planned) → input ≡ from
    → planned ≡ made → IsPlanned state views (input_of from) made → IsPlanned state views (input_of input) planned
planned_as {from} {made} state views input planned same-input same-planned is =
    subst (λ (i : Comes). IsPlanned state views (input_of i) planned) (sym same-input)
    (subst (λ (p : Planned). IsPlanned state views (input_of from) p) (sym same-planned) is)
