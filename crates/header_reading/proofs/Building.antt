-- What was built, one part more at a time.
use Rattle.std.proofs.Common.{◌≡◌, ◌⊎◌, inl, inr, ℕ, suc, ◌+◌, ◌*◌, String, List, [], ◌∷◌, ◌++◌, map, length, arith}
use Rattle.std.proofs.Common.{refl, sym, ap, ◌∙◌, subst}
use Rattle.std.proofs.lemmas.List.{map_push, length_push, length-map}
use Rattle.std.specs.declared.alloc.Global.{Global}
use Rattle.flat_places.specs.Number.{ShowsReference}
use Rattle.header_types.specs.declared.fault.MetaFault.{MetaFault}
use Rattle.header_types.specs.declared.fault.MetaFault.TheVariants.{OutOfMemory}
use Rattle.header_types.specs.declared.schema.Field.{Field}
use Rattle.header_types.specs.Fields.{Entry, FieldHead, Tree, tree, Forest, more, width, SchemaTree}
use Rattle.header_types.specs.Views.{entry_of, tree_of, forest_of}
use Rattle.header_types.specs.Slots.{VectorRef, ShowsNumber, ShowsVectorRef}
use Rattle.header_types.specs.Shown.{ShowsEntry, ShowsEntries, ShowsTree, ShowsForest}
use Rattle.header_types.specs.Header.{ShowsSchema}
use Rattle.header_types.specs.Limits.{SchemaTotals, no_totals, add_totals, entries_totals, forest_totals, IsWithin}
use Rattle.header_reading.specs.Walking.{PassesForest, ForestEnd, PassesEntries, EntriesEnd}
use Rattle.header_reading.specs.Faults.{SchemaFault}
use Rattle.header_reading.specs.Building.{BuildsField, ShowsSchemaOf}
use Rattle.header_types.proofs.Beyond.{beyond_more}
use Rattle.header_reading.proofs.EntryWalks.{entries_append}
use Rattle.header_reading.proofs.Walking.{followed_by, forest_more, forest_is_part}
use Rattle.header_types.proofs.FieldTrees.{width_forest_of}
use Rattle.header_types.proofs.Unique.{vector_ref_same, entries_same, forest_same}

abbrev Pair : Type 0
Pair = String Global × String Global

pub entries_built : (text : List ℕ) (place i table : ℕ) (xs new : List Pair) (x : Pair)
    → ShowsEntries text place (map entry_of xs) → length xs ≡ i
    → ShowsReference text (place + 4 * i) table → ShowsEntry text table (entry_of x) → new ≡ xs ++ x ∷ []
    → ShowsEntries text place (map entry_of new) × (length new ≡ i + 1)
entries_built text place i table xs new x shown all refers there is =
    let there_at : ShowsReference text (place + 4 * length (map entry_of xs)) table =
    subst (λ k. ShowsReference text (place + 4 * k) table) (sym all ∙ sym (length-map xs entry_of)) refers in
    let built : ShowsEntries text place (map entry_of xs ++ entry_of x ∷ []) =
    entries_append text place (map entry_of xs) table (entry_of x) shown there_at there in (
      subst (λ entries. ShowsEntries text place entries) (sym (ap (map entry_of) is ∙ map_push entry_of xs x)) built,
      ap length is ∙ length_push xs x ∙ ap (λ k. k + 1) all,
    )

-- memory apart, one fault follows from another
pub or_memory : {P Q : Type 0} (e : MetaFault) → (P → Q) → (e ≡ OutOfMemory) ⊎ P → (e ≡ OutOfMemory) ⊎ Q
or_memory e follows (inl memory) = inl memory
or_memory e follows (inr fault) = inr (follows fault)

forest_of_more : (ts : List Tree) (t : Tree) → forest_of (ts ++ t ∷ []) ≡ followed_by (forest_of ts) t
forest_of_more [] t = refl
forest_of_more (u ∷ ts) t = ap (more u) (forest_of_more ts t)

pub fields_built : (text : List ℕ) (place i table : ℕ) (xs new : List Field) (x : Field)
    → ShowsForest text place (forest_of (map tree_of xs)) → length xs ≡ i
    → ShowsReference text (place + 4 * i) table → new ≡ xs ++ x ∷ [] → (t : Tree) → tree_of x ≡ t
    → ShowsTree text table t
    → ShowsForest text place (forest_of (map tree_of new)) × (length new ≡ i + 1)
fields_built text place i table xs new x shown all refers is t seen shown_tree =
    let there : ShowsTree text table (tree_of x) = subst (λ u. ShowsTree text table u) (sym seen) shown_tree in
    let wide : width (forest_of (map tree_of xs)) ≡ i = width_forest_of (map tree_of xs) ∙ length-map xs tree_of
    ∙ all in
    let there_at : ShowsReference text (place + 4 * width (forest_of (map tree_of xs))) table =
    subst (λ k. ShowsReference text (place + 4 * k) table) (sym wide) refers in
    let built : ShowsForest text place (followed_by (forest_of (map tree_of xs)) (tree_of x)) =
    forest_more (λ told count. told ≡ count) text place (forest_of (map tree_of xs)) table
    (tree_of x) shown there_at there in
    let same : forest_of (map tree_of new) ≡ followed_by (forest_of (map tree_of xs)) (tree_of x) =
    ap (λ l. forest_of (map tree_of l)) is ∙ ap forest_of (map_push tree_of xs x)
    ∙ forest_of_more (map tree_of xs) (tree_of x) in (
      subst (λ f. ShowsForest text place f) (sym same) built,
      ap length is ∙ length_push xs x ∙ ap (λ k. k + 1) all,
    )

pub tree_built : (text : List ℕ) (table : ℕ) (field : FieldHead) (entries : List Entry) (children : VectorRef)
    (fields : List Field)
    → BuildsField text table field entries children → ShowsForest text children.first (forest_of (map tree_of fields))
    → length fields ≡ children.count
    → ShowsTree text table (tree field entries (forest_of (map tree_of fields)))
tree_built text table field entries children fields built shown all = (
  children,
  built.metadata,
  built.shown,
  built.all,
  built.entries_shown,
  width_forest_of (map tree_of fields)
      ∙ length-map fields tree_of ∙ all,
  shown,
)

-- ---- the whole schema

pub verify_refused : (text : List ℕ) (table : ℕ) (fields metadata : VectorRef) (e : MetaFault)
    → ShowsVectorRef text table 1 4 fields → ShowsVectorRef text table 2 4 metadata
    → ForestEnd text 16 fields no_totals e → SchemaFault text table e
verify_refused text table fields metadata e fields_shown metadata_shown (inl fault) =
    inr (inr (inl (fields, fields_shown, fault)))
verify_refused text table fields metadata e fields_shown metadata_shown (inr (is, some)) =
    subst (λ k. SchemaFault text table k) (sym is) (inr (inr (inr (inr record {
      fields = fields;
      fields_shown = fields_shown;
      part = some.part;
      part_of_fields = some.some;
      part_shown = some.shown;
      metadata = metadata;
      metadata_shown = metadata_shown;
      entries = [];
      some_entries = omega arith;
      entries_shown = tt;
      beyond = beyond_more (add_totals no_totals (forest_totals some.part))
          (add_totals (forest_totals some.part) (entries_totals [])) some.beyond (omega arith) (omega arith)
          (omega arith);
    }))))

pub entries_too_many : (text : List ℕ) (table : ℕ) (fields metadata : VectorRef) (seen : SchemaTotals) (e : MetaFault)
    → ShowsVectorRef text table 1 4 fields → ShowsVectorRef text table 2 4 metadata
    → PassesForest text fields.first fields.count 16 no_totals seen → EntriesEnd text metadata seen e
    → SchemaFault text table e
entries_too_many text table fields metadata seen e fields_shown metadata_shown before (inl fault) =
    inr (inr (inr (inl (inr (metadata, metadata_shown, fault)))))
entries_too_many text table fields metadata seen e fields_shown metadata_shown before (inr (is, some)) =
    let (p, q, r) = before.added in
    let all = before.all in
    subst (λ k. SchemaFault text table k) (sym is) (inr (inr (inr (inr record {
      fields = fields;
      fields_shown = fields_shown;
      part = before.forest;
      part_of_fields = omega arith;
      part_shown = forest_is_part text fields.first before.forest before.shown;
      metadata = metadata;
      metadata_shown = metadata_shown;
      entries = some.entries;
      some_entries = some.some;
      entries_shown = some.shown;
      beyond = beyond_more (add_totals seen (entries_totals some.entries))
          (add_totals (forest_totals before.forest) (entries_totals some.entries)) some.beyond (omega arith)
          (omega arith) (omega arith);
    }))))

pub schema_shown : (text : List ℕ) (table : ℕ) (fields metadata : VectorRef) (seen new : SchemaTotals)
    → ShowsNumber text table 0 2 0 0 → ShowsVectorRef text table 1 4 fields → ShowsVectorRef text table 2 4 metadata
    → PassesForest text fields.first fields.count 16 no_totals seen
    → PassesEntries text metadata.first metadata.count seen new → IsWithin new
    → ShowsSchemaOf text table fields metadata
schema_shown text table fields metadata seen new little fields_shown metadata_shown walked entries within =
    let (p, q, r) = walked.added in
    let (p', q', r') = entries.added in
    let some = within.fields_within in
    let few = within.entries_within in
    let short = within.bytes_within in
    record {
      schema = record { fields = walked.forest; metadata = entries.entries };
      shown = record {
        little_endian = little;
        fields = fields;
        fields_shown = fields_shown;
        all = walked.all;
        shown = walked.shown;
        metadata_shown = record {
          vector = metadata;
          vector_shown = metadata_shown;
          all = entries.all;
          shown =
              entries.shown;
        };
        not_deep = walked.not_deep;
        within = record { fields_within = omega arith; entries_within = omega arith; bytes_within = omega arith };
      };
      fields_shown = fields_shown;
      metadata_shown = metadata_shown;
    }

abbrev schema_with : Forest → List Entry → SchemaTree
schema_with f m = record { fields = f; metadata = m }

-- what was built is what was found to be shown
pub schema_built : (text : List ℕ) (table : ℕ) (fields metadata : VectorRef) (built : List Field) (entries : List Pair)
    → ShowsSchemaOf text table fields metadata
    → ShowsForest text fields.first (forest_of (map tree_of built)) → length built ≡ fields.count
    → ShowsEntries text metadata.first (map entry_of entries) → length entries ≡ metadata.count
    → ShowsSchema text table (record { fields = forest_of (map tree_of built); metadata = map entry_of entries })
schema_built text table fields metadata built entries of built_shown built_all entries_shown entries_all =
    let shown = of.shown in
    let vector_is : shown.fields ≡ fields = vector_ref_same text table 1 4 shown.fields fields shown.fields_shown
    of.fields_shown in
    let other_is : shown.metadata_shown.vector ≡ metadata =
    vector_ref_same text table 2 4 shown.metadata_shown.vector metadata shown.metadata_shown.vector_shown
    of.metadata_shown in
    let wide : width (forest_of (map tree_of built)) ≡ fields.count = width_forest_of (map tree_of built)
    ∙ length-map built tree_of ∙ built_all in
    let long : length (map entry_of entries) ≡ metadata.count = length-map entries entry_of ∙ entries_all in
    let there : ShowsForest text fields.first of.schema.fields =
    subst (λ k. ShowsForest text k.first of.schema.fields) vector_is shown.shown in
    let those : ShowsEntries text metadata.first of.schema.metadata =
    subst (λ k. ShowsEntries text k.first of.schema.metadata) other_is shown.metadata_shown.shown in
    let same : of.schema.fields ≡ forest_of (map tree_of built) =
    forest_same text fields.first of.schema.fields (forest_of (map tree_of built)) there built_shown
    (shown.all ∙ ap (λ k. k.count) vector_is ∙ sym wide) in
    let alike : of.schema.metadata ≡ map entry_of entries =
    entries_same text metadata.first of.schema.metadata (map entry_of entries) those entries_shown
    (shown.metadata_shown.all ∙ ap (λ k. k.count) other_is ∙ sym long) in
    let both : of.schema ≡ record { fields = forest_of (map tree_of built); metadata = map entry_of entries } =
    ap (λ f. schema_with f of.schema.metadata) same ∙ ap (λ m. schema_with (forest_of (map tree_of built)) m) alike in
    subst (λ x. ShowsSchema text table x) both shown
