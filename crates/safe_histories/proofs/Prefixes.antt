-- Prefixes and tables of any two nodes, at any two times: one begins the other.
use Rattle.std.proofs.Common.{◌≡◌, ◌≢◌, ℕ, ◌⊎◌, inl, inr, List, [], ◌++◌, map, Some, slice_get, sym, ap, subst, ◌∙◌}
use Rattle.std.proofs.lemmas.List.{append-nil, map-append}
use Rattle.ballots.specs.declared.value.Value.{Value}
use Rattle.ballots.specs.declared.message.Message.{Message}
use Rattle.ballots.specs.Message.{value_bytes}
use Rattle.lawful_histories.specs.Lawful.{IsLawful}
use Rattle.table_types.specs.Uploads.{Upload}
use Rattle.table_types.specs.Valid.{IsUpload}
use Rattle.table_types.specs.Tables.{Version, version_of, Outcome, applied, unknown, outcome_of}
use Rattle.histories.specs.Texts.{AreUploadsOf}
use Rattle.histories.specs.History.{Step}
use Rattle.safe_histories.specs.Learning.{heard_since_restart, HasLearnedPrefix, HasTables}
use Rattle.safe_histories.proofs.Lists.{In, Begins, one_begins}
use Rattle.safe_histories.proofs.Texts.{OneEncoding, are_of_texts, uploads_begin}
use Rattle.safe_histories.proofs.Heard.{ChoiceLaws, heard_was_sent, learned_is_chosen}

-- laws of tables
pub record TableLaws : Type 0 where
  pub versions : (table : List ℕ) (number : ℕ) (before after : List Upload) (version : Version)
      → version_of table number before ≡ Some version → version_of table number (before ++ after) ≡ Some version
  pub outcomes : (before after : List Upload) (upload : Upload) (outcome : Outcome)
      → outcome_of before upload ≡ outcome → outcome ≢ unknown → outcome_of (before ++ after) upload ≡ outcome

module _ (members : ℕ) (sent : List Message) (lawful : IsLawful members sent) (laws : ChoiceLaws) where
  -- what two nodes learned for one slot is one value
  learned_is_one : (steps later : List Step) (node other : ℕ) (xs ys : List Value) → HasLearnedPrefix members sent steps node xs
      → HasLearnedPrefix members sent later other ys → (slot : ℕ) (x y : Value) → slice_get xs slot ≡ Some x → slice_get ys slot ≡ Some y → x ≡ y
  learned_is_one steps later node other xs ys is also slot x y at there =
      laws.one members sent slot x y lawful
      (learned_is_chosen members sent lawful laws (heard_since_restart sent steps node) (heard_was_sent sent steps node) slot x (is.learned slot x at))
      (learned_is_chosen members sent lawful laws (heard_since_restart sent later other) (heard_was_sent sent later other) slot y (also.learned slot y there))

  pub prefixes_begin : (steps later : List Step) (node other : ℕ) (xs ys : List Value) → HasLearnedPrefix members sent steps node xs
      → HasLearnedPrefix members sent later other ys → Begins xs ys ⊎ Begins ys xs
  prefixes_begin steps later node other xs ys is also = one_begins xs ys (learned_is_one steps later node other xs ys is also)

  -- ---- tables

  uploads_are_taken : (steps : List Step) (node : ℕ) (uploads : List Upload) → HasTables members sent steps node uploads → (upload : Upload) → In uploads upload
      → IsUpload upload
  uploads_are_taken steps node uploads has upload there = (are_of_texts (map value_bytes has.values) uploads upload has.are there).0

  module _ (one : OneEncoding) where
    pub longer_tables : (steps later : List Step) (node other : ℕ) (us ws : List Upload) (is : HasTables members sent steps node us)
        (also : HasTables members sent later other ws) → Begins is.values also.values → Begins us ws
    longer_tables steps later node other us ws is also (rest, more) =
        uploads_begin one (map value_bytes is.values) (map value_bytes rest) us ws is.are
        (subst (λ texts. AreUploadsOf texts ws) (ap (map value_bytes) more ∙ map-append value_bytes is.values rest) also.are)

    pub tables_begin : (steps later : List Step) (node other : ℕ) (us ws : List Upload) → HasTables members sent steps node us
        → HasTables members sent later other ws → Begins us ws ⊎ Begins ws us
    tables_begin steps later node other us ws is also =
        elim (prefixes_begin steps later node other is.values also.values is.prefix also.prefix) [
          | inl begins ↦ inl (longer_tables steps later node other us ws is also begins)
          | inr begins ↦ inr (longer_tables later steps other node ws us also is begins)
        ]

    -- tables that both begin
    pub record AreWithin (us ws : List Upload) : Type 0 where
      pub whole : List Upload
      pub first : Begins us whole
      pub second : Begins ws whole
      pub taken : (upload : Upload) → In whole upload → IsUpload upload

    pub within_one : (steps later : List Step) (node other : ℕ) (us ws : List Upload) → HasTables members sent steps node us
        → HasTables members sent later other ws → AreWithin us ws
    within_one steps later node other us ws is also = by_cases (tables_begin steps later node other us ws is also)
      where
        by_cases : Begins us ws ⊎ Begins ws us → AreWithin us ws
        by_cases (inl begins) =
            record { whole = ws; first = begins; second = ([], sym (append-nil ws)); taken = uploads_are_taken later other ws also }
        by_cases (inr begins) =
            record { whole = us; first = ([], sym (append-nil us)); second = begins; taken = uploads_are_taken steps node us is }

-- ---- what longer tables tell

module _ (tables : TableLaws) where
  pub version_later : (table : List ℕ) (number : ℕ) (us whole : List Upload) (version : Version) → Begins us whole → version_of table number us ≡ Some version
      → version_of table number whole ≡ Some version
  version_later table number us whole version (rest, more) is =
      subst (λ l. version_of table number l ≡ Some version) (sym more) (tables.versions table number us rest version is)

  applied_is_known : (number : ℕ) → applied number ≢ unknown
  applied_is_known number same = cc

  pub applied_later : (us whole : List Upload) (upload : Upload) (number : ℕ) → Begins us whole → outcome_of us upload ≡ applied number
      → outcome_of whole upload ≡ applied number
  applied_later us whole upload number (rest, more) is =
      subst (λ l. outcome_of l upload ≡ applied number) (sym more) (tables.outcomes us rest upload (applied number) is (applied_is_known number))
