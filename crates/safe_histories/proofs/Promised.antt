-- What a member that runs answers, by what is promised to clients alone.
use Rattle.std.proofs.Common.{◌≡◌, ◌≢◌, ℕ, ◌<◌, ◌⊎◌, inl, inr, true≢false, List, [], ◌∷◌, length, take, Option, Some, None, IsSome, refl, sym, arith}
use Rattle.std.specs.List.{Contains}
use Rattle.table_types.specs.Uploads.{Upload, upload_text}
use Rattle.table_types.specs.Tables.{Version, version_of, effective, outcome_of}
use Rattle.table_types.specs.Answers.{answer_of}
use Rattle.histories.specs.Texts.{IsTextOf}
use Rattle.histories.specs.Event as event
use Rattle.histories.specs.EventResult.{EventResult}
use Rattle.histories.specs.EventResult as results
use Rattle.histories.specs.History.{History}
use Rattle.histories.specs.Following.{GetGivesIfAble, InfoGivesIfAble}
use Rattle.safe_histories.specs.Learning.{Runs, HasTables}
use Rattle.safe_histories.specs.Safe.{IsStep, IsSafe}
use Rattle.safe_histories.proofs.Restarts.{step_of}

-- ---- answers from tables, by cases

-- a version there is, or none
abbrev pub GetIs : List Upload → List ℕ → ℕ → EventResult → Type 0
GetIs uploads table version given =
    ((found : Version) × (version_of table version uploads ≡ Some found)
    × ((given ≡ results.Answer (answer_of found)) ⊎ (given ≡ results.Refused results.OutOfMemory)))
    ⊎ ((version_of table version uploads ≡ None) × (given ≡ results.Unavailable))

refused_get : (uploads : List Upload) (table : List ℕ) (version : ℕ) (given : EventResult) (o : Option Version) → version_of table version uploads ≡ o → IsSome o
    → given ≡ results.Refused results.OutOfMemory → GetIs uploads table version given
refused_get uploads table version given None is some refused = absurd (true≢false (sym some))
refused_get uploads table version given (Some found) is some refused = inl (found, is, inr refused)

get_is : (uploads : List Upload) (table : List ℕ) (version : ℕ) (given : EventResult) → GetGivesIfAble uploads table version given → GetIs uploads table version given
get_is uploads table version given (inl (inl (found, is, gives))) = inl (found, is, inl gives)
get_is uploads table version given (inl (inr none)) = inr none
get_is uploads table version given (inr (some, refused)) = refused_get uploads table version given (version_of table version uploads) refl some refused

-- effective uploads there are, or none
abbrev pub InfoIs : List Upload → List ℕ → EventResult → Type 0
InfoIs uploads table given =
    ((0 < length (effective table uploads))
    × ((given ≡ results.Info (length (effective table uploads))) ⊎ (given ≡ results.Refused results.OutOfMemory)))
    ⊎ ((effective table uploads ≡ []) × (given ≡ results.NoTable))

some_counted : (counted : List Upload) → counted ≢ [] → 0 < length counted
some_counted [] some = absurd (some refl)
some_counted (x ∷ rest) some = omega arith

info_is : (uploads : List Upload) (table : List ℕ) (given : EventResult) → InfoGivesIfAble uploads table given → InfoIs uploads table given
info_is uploads table given (inl (inl (some, gives))) = inl (some, inl gives)
info_is uploads table given (inl (inr none)) = inr none
info_is uploads table given (inr (some, refused)) = inl (some_counted (effective table uploads) some, inr refused)

-- ---- what is promised to clients

module _ (history : History) (safe : IsSafe history) where
  -- the tables that the history shows of the node before a place
  abbrev pub Tables : ℕ → ℕ → List Upload → Type 0
  Tables place node uploads = HasTables history.config.members history.sent (take place history.steps) node uploads

  module _ (place node : ℕ) (within : node < history.config.members) (runs : Runs node (take place history.steps)) where
    pub get_tells : (version : ℕ) (table : List ℕ) (given : EventResult) → IsStep history.steps place (event.Get node table version) given
        → (uploads : List Upload) × Tables place node uploads × GetIs uploads table version given
    get_tells version table given is =
        let answer = safe.serves_its_prefix place (step_of (event.Get node table version) given) is within runs in
        (answer.0, answer.1, get_is answer.0 table version given answer.2)

    pub info_tells : (table : List ℕ) (given : EventResult) → IsStep history.steps place (event.Info node table) given
        → (uploads : List Upload) × Tables place node uploads × InfoIs uploads table given
    info_tells table given is =
        let answer = safe.serves_its_prefix place (step_of (event.Info node table) given) is within runs in
        (answer.0, answer.1, info_is answer.0 table given answer.2)

    pub outcome_tells : (text : List ℕ) (given : EventResult) → IsStep history.steps place (event.Outcome node text) given
        → (uploads : List Upload) × (upload : Upload) × Tables place node uploads × IsTextOf text upload
        × (given ≡ results.Outcome (outcome_of uploads upload))
    outcome_tells text given is =
        let answer = safe.serves_its_prefix place (step_of (event.Outcome node text) given) is within runs in
        (answer.0, answer.2.0, answer.1, answer.2.1, answer.2.2)

    -- what was answered, all of which was put before
    abbrev pub WasPut : List ℕ → Type 0
    WasPut bytes = (found : Version) × (bytes ≡ answer_of found)
        × ((upload : Upload) → Contains found.uploads upload
        → (earlier : ℕ) × (other : ℕ) × (earlier < place) × IsStep history.steps earlier (event.Put other (upload_text upload)) results.Done)

    answer_same : (x y : List ℕ) → results.Answer x ≡ results.Answer y → x ≡ y
    answer_same x y same = cc

    answer_put : (version : ℕ) (table bytes : List ℕ) (uploads : List Upload) → IsStep history.steps place (event.Get node table version) (results.Answer bytes)
        → Tables place node uploads → GetIs uploads table version (results.Answer bytes) → WasPut bytes
    answer_put version table bytes uploads is tables (inl (found, found_is, inl gives)) = (
      found,
      answer_same bytes (answer_of found) gives,
      λ upload there. safe.served_was_put place node version table bytes uploads found upload is tables found_is there,
    )
    answer_put version table bytes uploads is tables (inl (found, found_is, inr refused)) = absurd (cc refused)
    answer_put version table bytes uploads is tables (inr (none, unavailable)) = absurd (cc unavailable)

    pub answer_was_put : (version : ℕ) (table bytes : List ℕ) → IsStep history.steps place (event.Get node table version) (results.Answer bytes) → WasPut bytes
    answer_was_put version table bytes is =
        let answer = get_tells version table (results.Answer bytes) is in
        answer_put version table bytes answer.0 is answer.1 answer.2
