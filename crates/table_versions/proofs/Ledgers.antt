-- What is kept of uploads is, after each step, what is kept of these and one upload more.
use Rattle.std.proofs.Common.{◌≡◌, ◌≢◌, refl, sym, ap, ap₂, subst, ◌∙◌, ℕ, ◌+◌, ◌<◌, Bool, true, false, true≢false, Some, None, List, [], ◌∷◌, ◌++◌, length, slice_get, arith}
use Rattle.std.specs.List.{AllByRecursion, list_any}
use Rattle.std.specs.Option.{option_map}
use Rattle.std.specs.Str.{bytes_eq}
use Rattle.std.proofs.lemmas.List.{append-nil}
use Rattle.table_types.specs.Uploads.{Upload, upload_text}
use Rattle.table_types.specs.Valid.{IsUpload}
use Rattle.table_types.specs.Tables.{has_id, is_to, shape_text, has_shape, effective}
use Rattle.table_types.specs.Tables.{Outcome, applied, mismatched, first_with_id, place_from, outcome_of}
use Rattle.table_versions.specs.declared.first.First.{First}
use Rattle.table_versions.specs.declared.frame_key.FrameKey.{FrameKey}
use Rattle.table_versions.specs.declared.table.Table.{Table}
use Rattle.table_versions.specs.declared.prepared.Part.{Part}
use Rattle.table_versions.specs.Ledger.{frames_of, FirstEntries, TableEntries, FrameEntries, first_in, told_of_first, table_in, frames_in, names_in}
use Rattle.table_versions.specs.Ledger.{seen_first, IsTableOf, IsTable, HasFrames, IsLedger, IsPartOf}
use Rattle.table_versions.specs.Steps.{PutsFirst, PutsTable, PutsFrames, IsOpened, IsGrown}
use Rattle.table_versions.proofs.Growing.{same_bytes, bytes_same, none_any, some_any, like_more, one_if, effective_named, effective_other, effective_new, effective_none, place_none, place_last, told_first, new_is_first}
use Rattle.table_versions.proofs.Taking.{OutcomesStay, firsts_repeat, firsts_new, is_no_table, is_a_table, names_named, names_same, names_more}
use Rattle.table_versions.proofs.Adding.{table_opened, table_grown, tables_put, get_there, get_within, get_last, numbers_put, frames_stay, frames_push, other_number, other_version}

some_is : {X : Type 0} (x y : X) → Some x ≡ Some y → x ≡ y
some_is x y same = cc

all_push : (P : Upload → Type 0) (xs : List Upload) (u : Upload) → AllByRecursion P xs → P u → AllByRecursion P (xs ++ u ∷ [])
all_push P [] u all one = (one, tt)
all_push P (x ∷ xs) u all one = (all.0, all_push P xs u all.1 one)

module _ (stay : OutcomesStay) (first_uploads : FirstEntries) (tables : TableEntries) (frames : FrameEntries) (uploads : List Upload)
    (ledger : IsLedger first_uploads tables frames uploads) (u : Upload) (valid : IsUpload u) where
  abbrev after : List Upload
  after = uploads ++ u ∷ []

  -- an upload whose id has come
  pub ledger_repeat : (first : Upload) → first_with_id u.id uploads ≡ Some first → IsLedger first_uploads tables frames (uploads ++ u ∷ [])
  ledger_repeat first named =
      let any : list_any (has_id u.id) uploads ≡ true = some_any u.id uploads first named in
      record {
        valid = all_push IsUpload uploads u ledger.valid valid;
        firsts_are = firsts_repeat stay uploads u first_uploads first named ledger.firsts_are;
        tables_are = λ name. subst (IsTable (table_in tables name)) (sym (effective_named name uploads u any)) (ledger.tables_are name);
        numbers_are = ledger.numbers_are;
        frames_are = λ name table is. subst (HasFrames frames table.number 1) (sym (effective_named name uploads u any)) (ledger.frames_are name table is);
        names_are = ledger.names_are ∙ sym (names_named uploads u any);
      }

  module _ (named : first_with_id u.id uploads ≡ None) where
    any : list_any (has_id u.id) uploads ≡ false
    any = none_any u.id uploads named

    none_counted : list_any (has_id u.id) (effective u.table uploads) ≡ false
    none_counted = effective_none (has_id u.id) u.table uploads any

    told_new : (counted : List Upload) (outcome : Outcome) → effective u.table after ≡ counted → place_from 1 u.id counted ≡ outcome
        → outcome_of after u ≡ outcome
    told_new counted outcome is placed =
        told_first after u (new_is_first uploads u named) ∙ ap (place_from 1 u.id) is ∙ placed

    firsts_after : (new : FirstEntries) (entry : First) (outcome : Outcome) → PutsFirst first_uploads new u.id entry → seen_first entry ≡ (upload_text u, outcome)
        → outcome_of after u ≡ outcome
        → (id : List ℕ) → option_map seen_first (first_in new id) ≡ option_map (told_of_first after) (first_with_id id after)
    firsts_after new entry outcome puts seen told =
        firsts_new stay uploads u first_uploads new entry puts named (seen ∙ ap (λ o. (upload_text u, o)) (sym told)) ledger.firsts_are

    -- a new one of another shape than its table
    module _ (head : Upload) (rest : List Upload) (counted : effective u.table uploads ≡ head ∷ rest) (unlike : has_shape (shape_text head) u ≡ false) where
      same_here : effective u.table after ≡ effective u.table uploads
      same_here =
          effective_new u.table uploads u any (same_bytes u.table)
          ∙ ap (λ l. effective u.table uploads ++ like_more l u) counted
          ∙ ap (λ b. effective u.table uploads ++ one_if b u) unlike
          ∙ append-nil (effective u.table uploads)

      same_one : (name : List ℕ) (b : Bool) → is_to name u ≡ b → effective name after ≡ effective name uploads
      same_one name true is = subst (λ n. effective n after ≡ effective n uploads) (bytes_same u.table name is) same_here
      same_one name false is = effective_other name uploads u is

      same_all : (name : List ℕ) → effective name after ≡ effective name uploads
      same_all name = same_one name (is_to name u) refl

      pub ledger_unlike : (new : FirstEntries) (entry : First) → PutsFirst first_uploads new u.id entry → seen_first entry ≡ (upload_text u, mismatched)
          → IsLedger new tables frames (uploads ++ u ∷ [])
      ledger_unlike new entry puts seen = record {
        valid = all_push IsUpload uploads u ledger.valid valid;
        firsts_are =
            firsts_after new entry mismatched puts seen
            (told_new (effective u.table uploads) mismatched same_here (place_none 1 u.id (effective u.table uploads) none_counted));
        tables_are = λ name. subst (IsTable (table_in tables name)) (sym (same_all name)) (ledger.tables_are name);
        numbers_are = ledger.numbers_are;
        frames_are = λ name table is. subst (HasFrames frames table.number 1) (sym (same_all name)) (ledger.frames_are name table is);
        names_are = ledger.names_are ∙ sym (names_same uploads u any (is_a_table uploads u head rest counted));
      }

    -- a new one that is the first to its table
    module _ (new : FirstEntries) (more : TableEntries) (served : FrameEntries) (entry : First) (table : Table) (part : Part) (place : FrameKey)
        (puts : PutsFirst first_uploads new u.id entry) (opens : PutsTable tables more u.table table) (serves : PutsFrames frames served place part.frames)
        (counted : effective u.table uploads ≡ []) (names : names_in more ≡ names_in tables ++ u.table ∷ []) (opened : IsOpened table (length (names_in tables)) part)
        (is_part : IsPartOf part u) (place_table : place.table ≡ length (names_in tables)) (place_version : place.version ≡ 1)
        (seen : seen_first entry ≡ (upload_text u, applied 1)) where
      one : effective u.table after ≡ u ∷ []
      one = effective_new u.table uploads u any (same_bytes u.table) ∙ ap (λ l. l ++ like_more l u) counted

      number_open : slice_get (names_in more) table.number ≡ Some u.table
      number_open = ap₂ (λ l n. slice_get l n) names opened.number_is ∙ get_last (names_in tables) u.table

      served_here : frames_in served table.number 1 ≡ Some (frames_of u)
      served_here =
          ap₂ (λ n v. frames_in served n v) (opened.number_is ∙ sym place_table) (sym place_version) ∙ serves.here ∙ ap Some is_part.frames

      frames_open : (name : List ℕ) (found : Table) → table_in more name ≡ Some found → (b : Bool) → bytes_eq u.table name ≡ b
          → HasFrames served found.number 1 (effective name after)
      frames_open name found is true same =
          let here : u.table ≡ name = bytes_same u.table name same in
          let this : table ≡ found = some_is table found (sym opens.here ∙ ap (table_in more) here ∙ is) in
          subst (λ n. HasFrames served found.number 1 (effective n after)) here
          (subst (λ t. HasFrames served t.number 1 (effective u.table after)) this
          (subst (HasFrames served table.number 1) (sym one) (served_here, tt)))
      frames_open name found is false other =
          let before : table_in tables name ≡ Some found = sym (opens.others name other) ∙ is in
          let within : found.number < length (names_in tables) = get_within (names_in tables) found.number name (ledger.numbers_are name found before) in
          let differ : place.table ≢ found.number = λ same. absurd (omega (arith, within, same, place_table)) in
          subst (HasFrames served found.number 1) (sym (effective_other name uploads u other))
          (frames_stay frames served place part.frames serves found.number 1 (effective name uploads) (λ k below. other_number place found.number k differ)
          (ledger.frames_are name found before))

      pub ledger_open : IsLedger new more served (uploads ++ u ∷ [])
      ledger_open = record {
        valid = all_push IsUpload uploads u ledger.valid valid;
        firsts_are = firsts_after new entry (applied 1) puts seen (told_new (u ∷ []) (applied 1) one (place_last 1 [] u refl));
        tables_are = tables_put uploads u tables more table opens (subst (IsTable (Some table)) (sym one) (table_opened table (length (names_in tables)) part u opened is_part)) ledger.tables_are;
        numbers_are = numbers_put tables more u.table table opens number_open
            (λ n name is. ap (λ l. slice_get l n) names ∙ get_there (names_in tables) (u.table ∷ []) n name is) ledger.numbers_are;
        frames_are = λ name found is. frames_open name found is (bytes_eq u.table name) refl;
        names_are = names ∙ ap (λ l. l ++ u.table ∷ []) ledger.names_are ∙ sym (names_more uploads u any (is_no_table uploads u counted));
      }

    -- a new one of the shape of its table
    module _ (new : FirstEntries) (more : TableEntries) (served : FrameEntries) (entry : First) (old grown : Table) (part : Part) (place : FrameKey) (head : Upload) (rest : List Upload)
        (puts : PutsFirst first_uploads new u.id entry) (grows : PutsTable tables more u.table grown) (serves : PutsFrames frames served place part.frames)
        (counted : effective u.table uploads ≡ head ∷ rest) (like : has_shape (shape_text head) u ≡ true) (names : names_in more ≡ names_in tables)
        (there : table_in tables u.table ≡ Some old) (is_grown : IsGrown old grown part.records part.bytes) (is_part : IsPartOf part u)
        (place_table : place.table ≡ old.number) (place_version : place.version ≡ grown.version) (seen : seen_first entry ≡ (upload_text u, applied grown.version)) where
      abbrev counted_after : List Upload
      counted_after = effective u.table uploads ++ u ∷ []

      grown_by : effective u.table after ≡ counted_after
      grown_by =
          effective_new u.table uploads u any (same_bytes u.table)
          ∙ ap (λ l. effective u.table uploads ++ like_more l u) counted
          ∙ ap (λ b. effective u.table uploads ++ one_if b u) like

      is_old : IsTableOf old head (head ∷ rest)
      is_old =
          subst (IsTable (Some old)) counted (subst (λ o. IsTable o (effective u.table uploads)) there (ledger.tables_are u.table))

      is_new : IsTable (Some grown) (effective u.table after)
      is_new =
          subst (IsTable (Some grown)) (sym (grown_by ∙ ap (λ l. l ++ u ∷ []) counted))
          (table_grown old grown part.records part.bytes head u (head ∷ rest) is_grown is_part.records is_part.bytes is_old)

      version_is : 1 + length (effective u.table uploads) ≡ grown.version
      version_is = omega (arith, is_grown.version, is_old.version, ap length counted)

      number_stays : slice_get (names_in more) grown.number ≡ Some u.table
      number_stays = ap₂ (λ l n. slice_get l n) names is_grown.number_is ∙ ledger.numbers_are u.table old there

      served_last : frames_in served old.number (1 + length (effective u.table uploads)) ≡ Some (frames_of u)
      served_last =
          ap₂ (λ n v. frames_in served n v) (sym place_table) (version_is ∙ sym place_version) ∙ serves.here ∙ ap Some is_part.frames

      served_all : HasFrames served old.number 1 counted_after
      served_all =
          frames_push served old.number 1 (effective u.table uploads) u
          (frames_stay frames served place part.frames serves old.number 1 (effective u.table uploads)
          (λ k below. other_version place old.number k (omega (arith, below, version_is, place_version))) (ledger.frames_are u.table old there))
          served_last

      frames_add : (name : List ℕ) (found : Table) → table_in more name ≡ Some found → (b : Bool) → bytes_eq u.table name ≡ b
          → HasFrames served found.number 1 (effective name after)
      frames_add name found is true same =
          let here : u.table ≡ name = bytes_same u.table name same in
          let this : grown ≡ found = some_is grown found (sym grows.here ∙ ap (table_in more) here ∙ is) in
          subst (λ n. HasFrames served found.number 1 (effective n after)) here
          (subst (λ t. HasFrames served t.number 1 (effective u.table after)) this
          (subst (λ n. HasFrames served n 1 (effective u.table after)) (sym is_grown.number_is)
          (subst (HasFrames served old.number 1) (sym grown_by) served_all)))
      frames_add name found is false other =
          let before : table_in tables name ≡ Some found = sym (grows.others name other) ∙ is in
          let differ : place.table ≢ found.number = λ same.
          let named_same : u.table ≡ name = some_is u.table name
          (sym (ledger.numbers_are u.table old there) ∙ ap (slice_get (names_in tables)) (sym place_table ∙ same) ∙ ledger.numbers_are name found before) in
          true≢false (sym (same_bytes u.table) ∙ ap (bytes_eq u.table) named_same ∙ other)
          in
          subst (HasFrames served found.number 1) (sym (effective_other name uploads u other))
          (frames_stay frames served place part.frames serves found.number 1 (effective name uploads) (λ k below. other_number place found.number k differ)
          (ledger.frames_are name found before))

      pub ledger_add : IsLedger new more served (uploads ++ u ∷ [])
      ledger_add = record {
        valid = all_push IsUpload uploads u ledger.valid valid;
        firsts_are =
            firsts_after new entry (applied grown.version) puts seen
            (told_new counted_after (applied grown.version) grown_by
            (place_last 1 (effective u.table uploads) u none_counted ∙ ap applied version_is));
        tables_are = tables_put uploads u tables more grown grows is_new ledger.tables_are;
        numbers_are = numbers_put tables more u.table grown grows number_stays (λ n name is. ap (λ l. slice_get l n) names ∙ is) ledger.numbers_are;
        frames_are = λ name found is. frames_add name found is (bytes_eq u.table name) refl;
        names_are = names ∙ ledger.names_are ∙ sym (names_same uploads u any (is_a_table uploads u head rest counted));
      }
