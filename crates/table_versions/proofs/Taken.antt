-- An upload that is ready is taken as the definitions say.
use Rattle.std.proofs.Common.{◌≡◌, ◌≢◌, refl, sym, ap, ap₂, subst, ◌∙◌, ◌<◌, ◌≤◌, Bool, true, false, true≢false, Option, Some, None, is_some, List, [], ◌∷◌, ◌++◌, length, string_bytes, arith}
use Rattle.std.specs.List.{AllByRecursion}
use Rattle.std.specs.Option.{option_map}
use Rattle.std.specs.Str.{bytes_eq}
use Rattle.table_types.specs.Uploads.{Upload, upload_text}
use Rattle.table_types.specs.Valid.{IsUpload}
use Rattle.table_types.specs.Served.{schema_message}
use Rattle.table_types.specs.Tables.{Outcome, applied, mismatched, first_with_id, has_shape, shape_text, effective}
use Rattle.table_versions.specs.declared.first.First.{First}
use Rattle.table_versions.specs.declared.table.Table.{Table}
use Rattle.table_versions.specs.declared.prepared.Part.{Part}
use Rattle.table_versions.specs.declared.prepared.Prepared.{Prepared}
use Rattle.table_versions.specs.Outcomes.{told}
use Rattle.table_versions.specs.Ledger.{seen_first, told_of_first, FirstEntries, TableEntries, FrameEntries, first_in, table_in, IsTableOf, IsTable, IsLedger, IsPartOf, IsPrepared}
use Rattle.table_versions.specs.Steps.{PutsFirst}
use Rattle.table_versions.specs.Steps.{HasRoomToGrow, Places}
use Rattle.table_versions.proofs.Taking.{OutcomesStay}
use Rattle.table_versions.proofs.Growing.{same_bytes, bytes_same}
use Rattle.table_types.proofs.Filtered.{all_effective, few_effective}
use Rattle.table_versions.proofs.Sizes.{framed, frames_long, rows_few, records_few, answer_few}
use Rattle.table_versions.proofs.Ledgers.{ledger_repeat, ledger_unlike, ledger_open, ledger_add}

none_is_some : {X : Type 0} (x : X) → None ≡ Some x → ⊥
none_is_some x same = cc

-- ---- whether the name has come

some_told : (uploads : List Upload) (found : Option First) (first : Option Upload) → is_some found ≡ true
    → option_map seen_first found ≡ option_map (told_of_first uploads) first → (named : Upload) × (first ≡ Some named)
some_told uploads found (Some named) come same = (named, refl)
some_told uploads (Some found) None come same = absurd cc
some_told uploads None None come same = absurd cc

none_told : (uploads : List Upload) (found : Option First) (first : Option Upload) → is_some found ≡ false
    → option_map seen_first found ≡ option_map (told_of_first uploads) first → first ≡ None
none_told uploads found None come same = refl
none_told uploads (Some found) (Some named) come same = absurd cc
none_told uploads None (Some named) come same = absurd cc

-- ---- which table it is for

-- a table's first effective upload, and all its others
no_table : (counted : List Upload) → IsTable None counted → counted ≡ []
no_table [] is = refl
no_table (first ∷ rest) is = absurd is

a_table : (table : Table) (counted : List Upload) → IsTable (Some table) counted
    → (first : Upload) × (rest : List Upload) × (counted ≡ first ∷ rest) × IsTableOf table first (first ∷ rest)
a_table table [] is = absurd is
a_table table (first ∷ rest) is = (first, rest, refl, is)

module _ (firsts : FirstEntries) (tables : TableEntries) (frames : FrameEntries) (uploads : List Upload) (ledger : IsLedger firsts tables frames uploads) (u : Upload) where
  empty_here : table_in tables u.table ≡ None → effective u.table uploads ≡ []
  empty_here none =
      no_table (effective u.table uploads) (subst (λ o. IsTable o (effective u.table uploads)) none (ledger.tables_are u.table))

  table_here : (table : Table) → table_in tables u.table ≡ Some table
      → (first : Upload) × (rest : List Upload) × (effective u.table uploads ≡ first ∷ rest) × IsTableOf table first (first ∷ rest)
  table_here table some =
      a_table table (effective u.table uploads) (subst (λ o. IsTable o (effective u.table uploads)) some (ledger.tables_are u.table))

  -- ---- there is room for the numbers

  pub room_here : (part : Part) → IsPartOf part u → IsUpload u → length uploads < 1000000 → (found : Option Table) → table_in tables u.table ≡ found → HasRoomToGrow found part
  room_here part is valid few None none =
      omega (
        arith,
        ap length is.schema_frame,
        is.bytes,
        framed (schema_message u.schema) valid.schema_served,
        frames_long u valid,
      )
  room_here part is valid few (Some table) some =
      let here = table_here table some in
      let all : AllByRecursion IsUpload (here.0 ∷ here.1) = subst (AllByRecursion IsUpload) here.2 (all_effective IsUpload u.table uploads ledger.valid) in
      let few_here : length (here.0 ∷ here.1) ≤ length uploads = subst (λ l. length l ≤ length uploads) here.2 (few_effective u.table uploads) in
      let rows = records_few (here.0 ∷ here.1) all in
      let bytes = answer_few here.0 (here.0 ∷ here.1) all.0 all in (
        omega (arith, here.3.version, few_here, few),
        omega (arith, here.3.records, rows, few_here, few, is.records, rows_few u valid),
        omega (arith, here.3.total_bytes, bytes, few_here, few, is.bytes, frames_long u valid),
      )

-- ---- it is taken

module _ (stay : OutcomesStay) (firsts new : FirstEntries) (tables more : TableEntries) (frames served : FrameEntries) (uploads : List Upload)
    (prepared : Prepared) (u : Upload) (ledger : IsLedger firsts tables frames uploads) (ready : IsPrepared prepared u) where
  pub taken_repeat : is_some (first_in firsts prepared.id) ≡ true → IsLedger firsts tables frames (uploads ++ u ∷ [])
  taken_repeat come =
      let here : is_some (first_in firsts u.id) ≡ true = ap (λ n. is_some (first_in firsts n)) (sym ready.id) ∙ come in
      let named = some_told uploads (first_in firsts u.id) (first_with_id u.id uploads) here (ledger.firsts_are u.id) in
      ledger_repeat stay firsts tables frames uploads ledger u ready.valid named.0 named.1

  module _ (come : is_some (first_in firsts prepared.id) ≡ false) (entry : First) (text : entry.text ≡ prepared.text)
      (puts_entry : PutsFirst firsts new prepared.id entry)
      (places_it : Places tables more frames served (string_bytes prepared.table) prepared.part (told entry.outcome)) where
    named : first_with_id u.id uploads ≡ None
    named =
        none_told uploads (first_in firsts u.id) (first_with_id u.id uploads) (ap (λ n. is_some (first_in firsts n)) (sym ready.id) ∙ come)
        (ledger.firsts_are u.id)

    puts : PutsFirst firsts new u.id entry
    puts = subst (λ n. PutsFirst firsts new n entry) ready.id puts_entry

    places : Places tables more frames served u.table prepared.part (told entry.outcome)
    places = subst (λ n. Places tables more frames served n prepared.part (told entry.outcome)) ready.table places_it

    seen : (outcome : Outcome) → told entry.outcome ≡ outcome → seen_first entry ≡ (upload_text u, outcome)
    seen outcome is = ap₂ (λ t o. (t, o)) (text ∙ ready.text) is

    opened_it : table_in tables u.table ≡ None → IsLedger new more served (uploads ++ u ∷ [])
    opened_it none =
        let o = places.first none in
        let opens = o.0 in
        ledger_open stay firsts tables frames uploads ledger u ready.valid named new more served entry opens.table prepared.part opens.place puts opens.opens opens.serves
        (empty_here firsts tables frames uploads ledger u none) opens.names opens.opened ready.part opens.place_table opens.place_version
        (seen (applied 1) o.1)

    module _ (old : Table) (there : table_in tables u.table ≡ Some old) where
      first_of : (first : Upload) × (rest : List Upload) × (effective u.table uploads ≡ first ∷ rest) × IsTableOf old first (first ∷ rest)
      first_of = table_here firsts tables frames uploads ledger u old there

      to_program : has_shape (shape_text first_of.0) u ≡ true → old.shape ≡ prepared.part.shape
      to_program like =
          first_of.3.shape ∙ sym (bytes_same (shape_text u) (shape_text first_of.0) like) ∙ sym ready.part.shape

      from_program : old.shape ≡ prepared.part.shape → has_shape (shape_text first_of.0) u ≡ true
      from_program like =
          ap (bytes_eq (shape_text u)) (sym first_of.3.shape ∙ like ∙ ready.part.shape) ∙ same_bytes (shape_text u)

      by_shape : (b : Bool) → has_shape (shape_text first_of.0) u ≡ b → IsLedger new more served (uploads ++ u ∷ [])
      by_shape true like =
          let o = places.like old there (to_program like) in
          let adds = o.1 in
          let grows = adds.grows in
          ledger_add stay firsts tables frames uploads ledger u ready.valid named new more served entry old grows.grown prepared.part adds.place first_of.0 first_of.1
          puts grows.grows adds.serves first_of.2 like adds.names there grows.is_grown ready.part grows.place_table grows.place_version
          (seen (applied grows.grown.version) (o.2 ∙ ap applied (adds.version_is ∙ grows.place_version)))
      by_shape false unlike =
          let differ : old.shape ≢ prepared.part.shape = λ like. true≢false (sym (from_program like) ∙ unlike) in
          let o = places.unlike old there differ in
          subst (λ t. IsLedger new t served (uploads ++ u ∷ [])) (sym o.0.tables_stay)
          (subst (λ f. IsLedger new tables f (uploads ++ u ∷ [])) (sym o.0.frames_stay)
          (ledger_unlike stay firsts tables frames uploads ledger u ready.valid named first_of.0 first_of.1 first_of.2 unlike new entry puts (seen mismatched o.1)))

      pub added_it : IsLedger new more served (uploads ++ u ∷ [])
      added_it = by_shape (has_shape (shape_text first_of.0) u) refl

    by_table : (found : Option Table) → table_in tables u.table ≡ found → IsLedger new more served (uploads ++ u ∷ [])
    by_table None none = opened_it none
    by_table (Some old) there = added_it old there

    pub taken_new : IsLedger new more served (uploads ++ u ∷ [])
    taken_new = by_table (table_in tables u.table) refl
