-- A node that told that an upload was applied answers for that version as long as nothing brings it up or down: what it has
-- learned only grows.
use Rattle.std.proofs.Common.{◌≡◌, ℕ, zero, suc, ◌+◌, ◌-◌, ◌<◌, ◌≤◌, ◌⊎◌, inl, inr, ◌||◌, false, List, [], ◌∷◌, ◌++◌, length, take, Some, slice_get, sym, ap, ap₂, subst, ◌∙◌, arith}
use Rattle.std.specs.List.{Contains, cons_option, list_any}
use Rattle.std.proofs.lemmas.Bool.{cases_eq}
use Rattle.std.proofs.lemmas.List.{append-nil, append_assoc}
use Rattle.std.proofs.lemmas.Option.{slice_get_within}
use Rattle.ballots.specs.declared.value.Value.{Value}
use Rattle.ballots.specs.declared.message.Message.{Message}
use Rattle.lawful_histories.specs.Lawful.{IsLawful}
use Rattle.lawful_histories.specs.Messages.{accepted, decided}
use Rattle.table_types.specs.Uploads.{Upload}
use Rattle.table_types.specs.Tables.{Version, version_of, effective, applied, outcome_of}
use Rattle.table_types.specs.Answers.{answer_of}
use Rattle.histories.specs.Texts.{IsTextOf}
use Rattle.histories.specs.Event as event
use Rattle.histories.specs.EventResult.{EventResult}
use Rattle.histories.specs.EventResult as results
use Rattle.histories.specs.History.{Step, History}
use Rattle.histories.specs.Following.{GetGivesIfAble, Follows}
use Rattle.safe_histories.specs.Learning.{brings_up, brings_down, since_restart, Runs, delivered_in, heard_since_restart, HasLearnedPrefix, HasTables}
use Rattle.safe_histories.specs.Safe.{IsStep}
use Rattle.safe_histories.proofs.Lists.{In, Begins, some_same, none_is_some, in_from_contains, contains_from_in, in_left, some_at, take_one_more, at_end}
use Rattle.safe_histories.proofs.Texts.{OneEncoding, one_text}
use Rattle.safe_histories.proofs.Placing.{Placed}
use Rattle.safe_histories.proofs.Heard.{ChoiceLaws, LearnerLaws, Learned}
use Rattle.safe_histories.proofs.Restarts.{step_of, heard_more, downs_more}
use Rattle.safe_histories.proofs.Prefixes.{TableLaws, prefixes_begin, longer_tables, applied_later}
use Rattle.safe_histories.proofs.Answered.{first_so_many}
use Rattle.safe_histories.proofs.Safety.{serves, told, told_by}

-- ---- what a node has heard_since_restart grows while nothing brings it up or down

module _ (sent : List Message) (node : ℕ) (steps : List Step) (from : ℕ) where
  -- it runs, and has heard_since_restart what it had heard_since_restart
  record GoesOn (place : ℕ) : Type 0 where
    pub runs : Runs node (take place steps)
    pub has_heard : Begins (heard_since_restart sent (take from steps) node) (heard_since_restart sent (take place steps) node)

  one_more : (place : ℕ) (step : Step) → slice_get steps place ≡ Some step → brings_up node step ≡ false → brings_down node step ≡ false → GoesOn place
      → GoesOn (suc place)
  one_more place step is no_up no_down on =
      let done = take place steps in
      let more = take_one_more place steps step is in
      let new = cons_option (delivered_in sent node step) [] in
      let front = heard_since_restart sent (take from steps) node in
      record {
        runs = ap (λ l. list_any (brings_down node) (since_restart node l)) more ∙ downs_more node done step no_up ∙ ap₂ (λ a b. a || b) on.runs no_down;
        has_heard = (
          on.has_heard.0 ++ new,
          ap (λ l. heard_since_restart sent l node) more ∙ heard_more sent node done step no_up ∙ ap (λ l. l ++ new) on.has_heard.1 ∙ append_assoc front on.has_heard.0 new,
        );
      }

  module _ (to : ℕ) (within : to < length steps)
      (quiet : (k : ℕ) (step : Step) → from ≤ k → k < to → slice_get steps k ≡ Some step → (brings_up node step ≡ false) × (brings_down node step ≡ false)) where
    after : Runs node (take from steps) → (d : ℕ) → from + d ≤ to → GoesOn (from + d)
    after runs zero le =
        let same : from ≡ from + 0 = omega arith in
        subst GoesOn same (record { runs = runs; has_heard = ([], sym (append-nil (heard_since_restart sent (take from steps) node))) })
    after runs (suc d) le =
        let place = from + d in
        let at = some_at steps place (omega (arith, within, le)) in
        let calm = quiet place at.0 (omega arith) (omega (arith, le)) at.1 in
        let same : suc place ≡ from + suc d = omega arith in
        subst GoesOn same (one_more place at.0 at.1 calm.0 calm.1 (after runs d (omega (arith, le))))

    goes_on : Runs node (take from steps) → from ≤ to → GoesOn to
    goes_on runs le =
        let same : from + (to - from) ≡ to = omega (arith, le) in
        subst GoesOn same (after runs (to - from) (omega (arith, le)))

-- ---- what it has learned grows too

contains_more : (before later : List Message) (m : Message) → Begins before later → Contains before m → Contains later m
contains_more before later m (rest, is) there =
    contains_from_in later m (subst (λ (l : List Message). In l m) (sym is) (in_left before rest m (in_from_contains before m there)))

learned_more : (members : ℕ) (before later : List Message) (slot : ℕ) (value : Value) → Begins before later → Learned members before slot value
    → Learned members later slot value
learned_more members before later slot value begins (inl (sender, there)) = inl (sender, contains_more before later (decided sender slot value) begins there)
learned_more members before later slot value begins (inr (ballot, most)) = inr (
  ballot,
  record {
    is_in = most.is_in;
    majority = most.majority;
    each = λ a lt is. contains_more before later (accepted a slot ballot value) begins (most.each a lt is);
  },
)

module _ (members : ℕ) (sent : List Message) (lawful : IsLawful members sent) (laws : ChoiceLaws) (steps later : List Step) (node : ℕ)
    (grown : Begins (heard_since_restart sent steps node) (heard_since_restart sent later node)) where
  no_shorter : (xs ys rest : List Value) → HasLearnedPrefix members sent steps node xs → HasLearnedPrefix members sent later node ys → xs ≡ ys ++ rest
      → Begins xs ys
  no_shorter xs ys [] is also more = ([], sym (more ∙ append-nil ys) ∙ sym (append-nil xs))
  no_shorter xs ys (v ∷ rest) is also more =
      absurd (also.gap v (learned_more members (heard_since_restart sent steps node) (heard_since_restart sent later node) (length ys) v grown
      (is.learned (length ys) v (ap (λ l. slice_get l (length ys)) more ∙ at_end ys rest v))))

  longer_prefix : (xs ys : List Value) → HasLearnedPrefix members sent steps node xs → HasLearnedPrefix members sent later node ys → Begins xs ys
  longer_prefix xs ys is also = elim (prefixes_begin members sent lawful laws steps later node node xs ys is also) as (λ _. Begins xs ys) [
    | inl begins ↦ begins
    | inr begins ↦ no_shorter xs ys begins.0 is also begins.1
  ]

  tables_grow_on : OneEncoding → (us ws : List Upload) → HasTables members sent steps node us → HasTables members sent later node ws → Begins us ws
  tables_grow_on one us ws is also =
      longer_tables members sent lawful laws one steps later node node us ws is also (longer_prefix is.values also.values is.prefix also.prefix)

-- ---- an answer there is

-- an answer, or memory for it was refused
abbrev pub IsAnswered : EventResult → Type 0
IsAnswered given = ((bytes : List ℕ) × (given ≡ results.Answer bytes)) ⊎ (given ≡ results.Refused results.OutOfMemory)

answered : (uploads : List Upload) (table : List ℕ) (version : ℕ) (given : EventResult) (found : Version) → version_of table version uploads ≡ Some found
    → GetGivesIfAble uploads table version given → IsAnswered given
answered uploads table version given found is (inl (inl (same, also, gives))) = inl (answer_of same, gives)
answered uploads table version given found is (inl (inr (none, gives))) = absurd (none_is_some found (sym none ∙ is))
answered uploads table version given found is (inr (some, gives)) = inr gives

module _ (history : History) (follows : Follows history) (lawful : IsLawful history.config.members history.sent) (laws : ChoiceLaws) (learner : LearnerLaws)
    (tables : TableLaws) (one : OneEncoding) (placed : Placed) where
  -- from this place to the other nothing brings the node up or down
  abbrev IsQuiet : ℕ → ℕ → ℕ → Type 0
  IsQuiet node i j = (k : ℕ) (step : Step) → i < k → k < j → slice_get history.steps k ≡ Some step
      → (brings_up node step ≡ false) × (brings_down node step ≡ false)

  quiet_from : (i j node number : ℕ) (text : List ℕ) → IsStep history.steps i (event.Outcome node text) (results.Outcome (applied number)) → IsQuiet node i j
      → (k : ℕ) (step : Step) → i ≤ k → k < j → slice_get history.steps k ≡ Some step → (brings_up node step ≡ false) × (brings_down node step ≡ false)
  quiet_from i j node number text first quiet k step le lt is =
      elim (cases_eq i k) as (λ _. (brings_up node step ≡ false) × (brings_down node step ≡ false)) [
        | inl same ↦
            let this = step_of (event.Outcome node text) (results.Outcome (applied number)) in
            let equal : this ≡ step = some_same this step (sym first ∙ ap (slice_get history.steps) same ∙ is) in
            (ap (brings_up node) (sym equal), ap (brings_down node) (sym equal))
        | inr apart ↦ quiet k step (omega (arith, le, apart)) lt is
      ]

  pub fresh : (i j node number version : ℕ) (text : List ℕ) (upload : Upload) (given : EventResult) → IsTextOf text upload
      → IsStep history.steps i (event.Outcome node text) (results.Outcome (applied number)) → i < j → IsQuiet node i j → version ≤ number
      → IsStep history.steps j (event.Get node upload.table version) given → IsAnswered given
  fresh i j node number version text upload given text_is first lt quiet le second =
      let step = step_of (event.Get node upload.table version) given in
      let serving = told_by history follows lawful laws learner i node number text first in
      let known = told history follows lawful laws learner i node number text first in
      let on = goes_on history.sent node history.steps i j (slice_get_within history.steps j step second)
      (quiet_from i j node number text first quiet) serving.1 (omega (arith, lt)) in
      let answer = serves history follows lawful laws learner j step second serving.0 on.runs in
      let grown = tables_grow_on history.config.members history.sent lawful laws (take i history.steps) (take j history.steps) node on.has_heard one
      known.uploads answer.0 known.tables answer.1 in
      let same : known.upload ≡ upload = one_text one text known.upload upload known.text_is text_is in
      let was : outcome_of known.uploads upload ≡ applied number = ap (outcome_of known.uploads) (sym same) ∙ known.outcome_is in
      let place = placed answer.0 upload upload number (applied_later tables known.uploads answer.0 upload number grown was) in
      let found = first_so_many version (effective upload.table answer.0) (omega (arith, place.0, place.1)) (omega (arith, place.0, le)) in
      answered answer.0 upload.table version given found.0 found.1 answer.2
