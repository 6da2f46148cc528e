-- What is promised to clients of a history that follows, but for what was put: see `Putting`.
use Rattle.std.proofs.Common.{◌≡◌, ℕ, List, [], take, Some, slice_get, sym, ap, ◌∙◌}
use Rattle.lawful_histories.specs.Lawful.{IsLawful}
use Rattle.table_types.specs.Tables.{applied, outcome_of}
use Rattle.table_types.specs.Answers.{answer_of}
use Rattle.histories.specs.Event as event
use Rattle.histories.specs.EventResult as results
use Rattle.histories.specs.History.{Step, History}
use Rattle.histories.specs.Following.{UpOrDown, at_first, Follows}
use Rattle.safe_histories.specs.Safe.{IsStep, SameTicketSameBytes, AcknowledgedStandsOnce, ServesItsPrefix}
use Rattle.safe_histories.proofs.Lists.{some_same}
use Rattle.safe_histories.proofs.Texts.{OneEncoding, one_text}
use Rattle.safe_histories.proofs.Versions.{Apart}
use Rattle.safe_histories.proofs.Placing.{Placed, stands_in}
use Rattle.safe_histories.proofs.Heard.{ChoiceLaws, LearnerLaws}
use Rattle.safe_histories.proofs.Restarts.{step_of}
use Rattle.safe_histories.proofs.Seats.{AllAgree, step_agrees, agree_at_first}
use Rattle.safe_histories.proofs.Steps.{Reached, reach}
use Rattle.safe_histories.proofs.Prefixes.{TableLaws, within_one, version_later, applied_later}
use Rattle.safe_histories.proofs.Served.{step_answers, IsServing, get_is_served, outcome_is_served, IsServed, get_served, IsTold, outcome_told}

module _ (history : History) (follows : Follows history) where
  abbrev pub Shown : List Step → (ℕ → UpOrDown) → ℕ → Type 0
  Shown done seats next = AllAgree history.sent done history.config.members done seats

  -- each step, with what was before it
  pub at_place : (place : ℕ) (step : Step) → slice_get history.steps place ≡ Some step → Reached history.config history.sent Shown (take place history.steps) step
  at_place place step is =
      reach history.config history.sent Shown
      (λ done seats after next x recovered holds one. step_agrees history.sent done history.config next recovered seats after x holds one)
      follows.seats [] at_first 0 history.steps follows.recovered (agree_at_first history.sent history.config.members) follows.reached place step is

  module _ (lawful : IsLawful history.config.members history.sent) (laws : ChoiceLaws) (learner : LearnerLaws) where
    pub serves : ServesItsPrefix history
    serves place step is within runs =
        let at = at_place place step is in
        step_answers history.config history.sent lawful laws learner (take place history.steps) at.next at.recovered at.seats at.after step at.holds at.follows within runs

    -- a node that tells that an upload was applied runs
    pub told_by : (place node number : ℕ) (text : List ℕ) → IsStep history.steps place (event.Outcome node text) (results.Outcome (applied number))
        → IsServing history.config history.sent lawful laws learner (take place history.steps) node
    told_by place node number text is =
        let at = at_place place (step_of (event.Outcome node text) (results.Outcome (applied number))) is in
        outcome_is_served history.config history.sent lawful laws learner (take place history.steps) at.next at.recovered at.seats at.after node text (applied number)
        at.holds at.follows

    -- what a get was answered with, and what was told of an upload
    abbrev pub Served : ℕ → (node version : ℕ) → (table bytes : List ℕ) → Type 0
    Served place node version table bytes =
        IsServed history.config history.sent lawful laws learner (take place history.steps) node version table bytes

    pub got : (place node version : ℕ) (table bytes : List ℕ) → IsStep history.steps place (event.Get node table version) (results.Answer bytes)
        → Served place node version table bytes
    got place node version table bytes is =
        let step = step_of (event.Get node table version) (results.Answer bytes) in
        let at = at_place place step is in
        let serving = get_is_served history.config history.sent lawful laws learner (take place history.steps) at.next at.recovered at.seats at.after node version table bytes at.holds at.follows in
        get_served history.config history.sent lawful laws learner (take place history.steps) node version table bytes (serves place step is serving.0 serving.1)

    pub told : (place node number : ℕ) (text : List ℕ) → IsStep history.steps place (event.Outcome node text) (results.Outcome (applied number))
        → IsTold history.config history.sent lawful laws learner (take place history.steps) node text (applied number)
    told place node number text is =
        let step = step_of (event.Outcome node text) (results.Outcome (applied number)) in
        let serving = told_by place node number text is in
        outcome_told history.config history.sent lawful laws learner (take place history.steps) node text (applied number) (serves place step is serving.0 serving.1)

    module _ (tables : TableLaws) (one : OneEncoding) where
      pub same_bytes : SameTicketSameBytes history.steps
      same_bytes i j k l version table x y first second =
          let here = got i k version table x first in
          let there = got j l version table y second in
          let both = within_one history.config.members history.sent lawful laws one (take i history.steps) (take j history.steps) k l here.uploads there.uploads here.tables there.tables in
          let version_here = version_later tables table version here.uploads both.whole here.found both.first here.found_is in
          let version_there = version_later tables table version there.uploads both.whole there.found both.second there.found_is in
          here.bytes_are ∙ ap answer_of (some_same here.found there.found (sym version_here ∙ version_there)) ∙ sym there.bytes_are

      module _ (apart : Apart) (placed : Placed) where
        pub stands_once : AcknowledgedStandsOnce history.steps
        stands_once i j k l number version text y upload text_is first le second =
            let known = told i k number text first in
            let there = got j l version upload.table y second in
            let both = within_one history.config.members history.sent lawful laws one (take i history.steps) (take j history.steps) k l known.uploads there.uploads known.tables there.tables in
            let found = version_later tables upload.table version there.uploads both.whole there.found both.second there.found_is in
            let same : known.upload ≡ upload = one_text one text known.upload upload known.text_is text_is in
            let is : outcome_of known.uploads upload ≡ applied number = ap (outcome_of known.uploads) (sym same) ∙ known.outcome_is in
            stands_in apart placed one both.whole upload number version there.found y both.taken text_is.0
            (applied_later tables known.uploads both.whole upload number both.first is) le found there.bytes_are
