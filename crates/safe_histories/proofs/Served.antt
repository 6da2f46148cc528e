-- What is answered to queries comes from the tables of the asked node's prefix.
use Rattle.std.proofs.Common.{◌≡◌, ℕ, ◌<◌, inl, inr, Bool, true≢false, List, Some, sym, subst, ◌∙◌, arith}
use Rattle.ballots.specs.declared.message.Message.{Message}
use Rattle.lawful_histories.specs.Lawful.{IsLawful}
use Rattle.table_types.specs.Uploads.{Upload}
use Rattle.table_types.specs.Tables.{Version, version_of, Outcome, outcome_of}
use Rattle.table_types.specs.Answers.{answer_of}
use Rattle.histories.specs.Texts.{IsTextOf, HasUploads}
use Rattle.agreement_rules.specs.Views.{AgreementConfig, Views, HasPrefix}
use Rattle.histories.specs.Event.{Event, node_of}
use Rattle.histories.specs.Event as event
use Rattle.histories.specs.EventResult.{EventResult}
use Rattle.histories.specs.EventResult as results
use Rattle.histories.specs.History.{Step}
use Rattle.histories.specs.Following.{UpOrDown, IsUp, IsDown, UpGives, NodeGives, StepFollows, QueryGives, GetGives, GetGivesIfAble, InfoGivesIfAble, OutcomeGives}
use Rattle.safe_histories.specs.Learning.{heard_since_restart, Runs, HasTables}
use Rattle.safe_histories.specs.Safe.{AnswersFrom}
use Rattle.safe_histories.proofs.Heard.{calls_of, ChoiceLaws, LearnerLaws, prefix_is_learned}
use Rattle.safe_histories.proofs.Restarts.{step_of}
use Rattle.safe_histories.proofs.Running.{Agrees}
use Rattle.safe_histories.proofs.Seats.{AllAgree}

module _ (config : AgreementConfig) (sent : List Message) (lawful : IsLawful config.members sent) (laws : ChoiceLaws) (learner : LearnerLaws) (done : List Step) where
  abbrev Tables : ℕ → List Upload → Type 0
  Tables node uploads = HasTables config.members sent done node uploads

  tables_shown : (node : ℕ) (views : Views) (uploads : List Upload) → views.learner_calls ≡ calls_of (heard_since_restart sent done node) → HasUploads config.members views.learner_calls uploads
      → Tables node uploads
  tables_shown node views uploads told has = record {
    values = has.values;
    prefix = prefix_is_learned config.members sent lawful laws learner done node has.values
        (subst (λ calls. HasPrefix config.members calls has.values) told has.prefix);
    are = has.are;
  }

  from_question : (node : ℕ) (views : Views) (given : EventResult) (seat : UpOrDown) (Gives : List Upload → EventResult → Type 0) → views.learner_calls ≡ calls_of (heard_since_restart sent done node)
      → QueryGives config views Gives given seat → (uploads : List Upload) × Tables node uploads × Gives uploads given
  from_question node views given seat Gives told (uploads, has, gives, stays) = (uploads, tables_shown node views uploads told has, gives)

  up_answers : (next : ℕ) (recovered : Bool) (views : Views) (e : Event) (given : EventResult) (seat : UpOrDown) → views.learner_calls ≡ calls_of (heard_since_restart sent done (node_of e))
      → UpGives config sent next recovered views e given seat → AnswersFrom (Tables (node_of e)) e given
  up_answers next recovered views (event.Put node text) given seat told gives = tt
  up_answers next recovered views (event.Tick node left) given seat told gives = tt
  up_answers next recovered views (event.Deliver node number) given seat told gives = tt
  up_answers next recovered views (event.TickCut node left) given seat told gives = tt
  up_answers next recovered views (event.DeliverCut node number) given seat told gives = tt
  up_answers next recovered views (event.Restart node) given seat told gives = tt
  up_answers next recovered views (event.Get node table version) given seat told gives =
      from_question node views given seat (λ uploads. GetGivesIfAble uploads table version) told gives
  up_answers next recovered views (event.Info node table) given seat told gives =
      from_question node views given seat (λ uploads. InfoGivesIfAble uploads table) told gives
  up_answers next recovered views (event.Outcome node text) given seat told gives =
      from_question node views given seat (λ uploads. OutcomeGives uploads text) told gives

  seat_answers : (next : ℕ) (recovered : Bool) (old : UpOrDown) (e : Event) (given : EventResult) (seat : UpOrDown) → Agrees sent done (node_of e) old → Runs (node_of e) done
      → NodeGives config sent next recovered old e given seat → AnswersFrom (Tables (node_of e)) e given
  seat_answers next recovered (IsUp views) e given seat agrees runs gives = up_answers next recovered views e given seat agrees.1 gives
  seat_answers next recovered (IsDown records due) e given seat agrees runs gives = absurd (true≢false (sym agrees ∙ runs))

  pub step_answers : (next : ℕ) (recovered : Bool) (old new : ℕ → UpOrDown) (step : Step) → AllAgree sent done config.members done old
      → StepFollows config sent next old step recovered new → node_of step.event < config.members → Runs (node_of step.event) done
      → AnswersFrom (Tables (node_of step.event)) step.event step.result
  step_answers next recovered old new step all (inl (member, gives, others)) within runs =
      seat_answers next recovered (old (node_of step.event)) step.event step.result (new (node_of step.event)) (all (node_of step.event) within) runs gives
  step_answers next recovered old new step all (inr (past, gives, same)) within runs = absurd (omega (arith, past, within))

  -- ---- answers that are no refusals

  -- the node is a member that runs
  abbrev pub IsServing : ℕ → Type 0
  IsServing node = (node < config.members) × Runs node done

  got_up : (next : ℕ) (recovered : Bool) (old : UpOrDown) (node version : ℕ) (table bytes : List ℕ) (seat : UpOrDown) → Agrees sent done node old
      → NodeGives config sent next recovered old (event.Get node table version) (results.Answer bytes) seat → Runs node done
  got_up next recovered (IsUp views) node version table bytes seat agrees gives = agrees.0
  got_up next recovered (IsDown records due) node version table bytes seat agrees (gives, stays) = absurd (cc gives)

  told_up : (next : ℕ) (recovered : Bool) (old : UpOrDown) (node : ℕ) (text : List ℕ) (outcome : Outcome) (seat : UpOrDown) → Agrees sent done node old
      → NodeGives config sent next recovered old (event.Outcome node text) (results.Outcome outcome) seat → Runs node done
  told_up next recovered (IsUp views) node text outcome seat agrees gives = agrees.0
  told_up next recovered (IsDown records due) node text outcome seat agrees (gives, stays) = absurd (cc gives)

  pub get_is_served : (next : ℕ) (recovered : Bool) (old new : ℕ → UpOrDown) (node version : ℕ) (table bytes : List ℕ) → AllAgree sent done config.members done old
      → StepFollows config sent next old (step_of (event.Get node table version) (results.Answer bytes)) recovered new → IsServing node
  get_is_served next recovered old new node version table bytes all (inl (member, gives, others)) =
      (member, got_up next recovered (old node) node version table bytes (new node) (all node member) gives)
  get_is_served next recovered old new node version table bytes all (inr (past, gives, same)) = absurd (cc gives)

  pub outcome_is_served : (next : ℕ) (recovered : Bool) (old new : ℕ → UpOrDown) (node : ℕ) (text : List ℕ) (outcome : Outcome) → AllAgree sent done config.members done old
      → StepFollows config sent next old (step_of (event.Outcome node text) (results.Outcome outcome)) recovered new → IsServing node
  outcome_is_served next recovered old new node text outcome all (inl (member, gives, others)) =
      (member, told_up next recovered (old node) node text outcome (new node) (all node member) gives)
  outcome_is_served next recovered old new node text outcome all (inr (past, gives, same)) = absurd (cc gives)

  -- what a get was answered with
  pub record IsServed (node version : ℕ) (table bytes : List ℕ) : Type 0 where
    pub uploads : List Upload
    pub tables : Tables node uploads
    pub found : Version
    pub found_is : version_of table version uploads ≡ Some found
    pub bytes_are : bytes ≡ answer_of found

  answer_same : (x y : List ℕ) → results.Answer x ≡ results.Answer y → x ≡ y
  answer_same x y same = cc

  outcome_same : (x y : Outcome) → results.Outcome x ≡ results.Outcome y → x ≡ y
  outcome_same x y same = cc

  served_version : (node version : ℕ) (table bytes : List ℕ) (uploads : List Upload) → Tables node uploads → GetGives uploads table version (results.Answer bytes)
      → IsServed node version table bytes
  served_version node version table bytes uploads tables (inl (found, is, same)) =
      record { uploads = uploads; tables = tables; found = found; found_is = is; bytes_are = answer_same bytes (answer_of found) same }
  served_version node version table bytes uploads tables (inr (none, same)) = absurd (cc same)

  pub get_served : (node version : ℕ) (table bytes : List ℕ) → AnswersFrom (Tables node) (event.Get node table version) (results.Answer bytes)
      → IsServed node version table bytes
  get_served node version table bytes (uploads, tables, inl gives) = served_version node version table bytes uploads tables gives
  get_served node version table bytes (uploads, tables, inr (some, refused)) = absurd (cc refused)

  -- what was told of an upload
  pub record IsTold (node : ℕ) (text : List ℕ) (outcome : Outcome) : Type 0 where
    pub uploads : List Upload
    pub tables : Tables node uploads
    pub upload : Upload
    pub text_is : IsTextOf text upload
    pub outcome_is : outcome_of uploads upload ≡ outcome

  pub outcome_told : (node : ℕ) (text : List ℕ) (outcome : Outcome) → AnswersFrom (Tables node) (event.Outcome node text) (results.Outcome outcome)
      → IsTold node text outcome
  outcome_told node text outcome (uploads, tables, (upload, is, same)) =
      record { uploads = uploads; tables = tables; upload = upload; text_is = is; outcome_is = sym (outcome_same outcome (outcome_of uploads upload) same) }
