-- Fields without their metadata, one field at a time.
use Rattle.std.proofs.Common.{◌≡◌, refl, ap, ap₂, ◌∙◌, sym, subst, ℕ, zero, suc, ◌<◌, ◌≤◌, List, [], ◌∷◌, ◌++◌, map, length, drop, get_or, true, ◌==◌, string_bytes, eqb-true, arith}
use Rattle.std.proofs.lemmas.List.{map-append, drop_all}
use Rattle.header_types.specs.declared.schema.Field.{Field, out-Field, roll-Field, fold-roll-Field}
use Rattle.header_types.specs.declared.schema.Field.TheOpen.{Field-F}
use Rattle.header_types.specs.declared.schema.Schema.{Schema}
use Rattle.header_types.specs.Fields.{Entry, Tree, tree, Forest, more, SchemaTree}
use Rattle.header_types.specs.FieldView.{field_head_of}
use Rattle.header_types.specs.SameShape.{bare_tree, bare_forest}
use Rattle.header_types.specs.Views.{data_type_of, entry_of, tree_step, tree_of, forest_of, schema_of}
use Rattle.table_types.specs.Tables.{bare_schema}
use Rattle.header_types.proofs.FieldTrees.{tree_out}

pub forest_bare : (ts : List Tree) → forest_of (map bare_tree ts) ≡ bare_forest (forest_of ts)
forest_bare [] = refl
forest_bare (t ∷ ts) = ap (λ f. more (bare_tree t) f) (forest_bare ts)

bare_one : (x : Field) (y : Field-F Field) → string_bytes y.name ≡ string_bytes (out-Field x).name → y.nullable ≡ (out-Field x).nullable
    → data_type_of y.ty ≡ data_type_of (out-Field x).ty → y.metadata.items ≡ []
    → map tree_of y.children.items ≡ map bare_tree (map tree_of (out-Field x).children.items) → tree_of (roll-Field y) ≡ bare_tree (tree_of x)
bare_one x y name nullable type none inner =
    fold-roll-Field Tree tree_step y
    ∙ ap (λ n. tree (record { name = n; nullable = y.nullable; data_type = data_type_of y.ty }) (map entry_of y.metadata.items) (forest_of (map tree_of y.children.items))) name
    ∙ ap (λ n. tree (record { name = string_bytes (out-Field x).name; nullable = n; data_type = data_type_of y.ty }) (map entry_of y.metadata.items) (forest_of (map tree_of y.children.items))) nullable
    ∙ ap (λ d. tree (record { name = string_bytes (out-Field x).name; nullable = (out-Field x).nullable; data_type = d }) (map entry_of y.metadata.items) (forest_of (map tree_of y.children.items))) type
    ∙ ap (λ e. tree (field_head_of x) (map entry_of e) (forest_of (map tree_of y.children.items))) none
    ∙ ap (λ f. tree (field_head_of x) [] f) (ap forest_of inner ∙ forest_bare (map tree_of (out-Field x).children.items))
    ∙ ap bare_tree (sym (tree_out x))

pub bare_push : (done : List Field) (x : Field) (y : Field-F Field) (bare new : List Field) → new ≡ bare ++ roll-Field y ∷ [] → map tree_of bare ≡ map bare_tree (map tree_of done)
    → string_bytes y.name ≡ string_bytes (out-Field x).name → y.nullable ≡ (out-Field x).nullable
    → data_type_of y.ty ≡ data_type_of (out-Field x).ty → y.metadata.items ≡ []
    → map tree_of y.children.items ≡ map bare_tree (map tree_of (out-Field x).children.items)
    → map tree_of new ≡ map bare_tree (map tree_of (done ++ x ∷ []))
bare_push done x y bare new pushed is name nullable type none inner =
    ap (map tree_of) pushed
    ∙ map-append tree_of bare (roll-Field y ∷ []) ∙ ap₂ (λ l t. l ++ t ∷ []) is (bare_one x y name nullable type none inner)
    ∙ sym (ap (map bare_tree) (map-append tree_of done (x ∷ [])) ∙ map-append bare_tree (map tree_of done) (tree_of x ∷ []))

-- ---- fields that have none

pub no_entries : {X : Type 0} (xs : List X) (n : ℕ) → n ≡ length xs → true ≡ (n == 0) → xs ≡ []
no_entries [] n all none = refl
no_entries (x ∷ xs) n all none = absurd (omega (arith, all, eqb-true n 0 (sym none)))

one_is_bare : (x : Field) → (out-Field x).metadata.items ≡ []
    → map bare_tree (map tree_of (out-Field x).children.items) ≡ map tree_of (out-Field x).children.items → bare_tree (tree_of x) ≡ tree_of x
one_is_bare x none inner =
    ap bare_tree (tree_out x)
    ∙ ap (λ f. tree (field_head_of x) [] f) (sym (forest_bare (map tree_of (out-Field x).children.items)) ∙ ap forest_of inner)
    ∙ ap (λ e. tree (field_head_of x) (map entry_of e) (forest_of (map tree_of (out-Field x).children.items))) (sym none)
    ∙ sym (tree_out x)

-- these fields have no metadata at any level
abbrev pub IsBare : List Field → Type 0
IsBare fields = map bare_tree (map tree_of fields) ≡ map tree_of fields

pub bare_then : (fields : List Field) (i : ℕ) (x : Field) → i < length fields → x ≡ get_or fields i x → (out-Field x).metadata.items ≡ []
    → IsBare (out-Field x).children.items → IsBare (drop (suc i) fields) → IsBare (drop i fields)
bare_then [] i x there is none inner rest = absurd (omega (arith, there))
bare_then (field ∷ fields) zero x there is none inner rest =
    ap₂ (λ t ts. t ∷ ts) (subst (λ y. bare_tree (tree_of y) ≡ tree_of y) is (one_is_bare x none inner)) rest
bare_then (field ∷ fields) (suc i) x there is none inner rest = bare_then fields i x (omega (arith, there)) is none inner rest

pub bare_at_end : (fields : List Field) (i : ℕ) → length fields ≤ i → IsBare (drop i fields)
bare_at_end [] i end = subst IsBare (sym (drop_all i [] end)) refl
bare_at_end (field ∷ fields) zero end = absurd (omega (arith, end))
bare_at_end (field ∷ fields) (suc i) end = bare_at_end fields i (omega (arith, end))

pub bare_itself : (s : Schema) → s.metadata.items ≡ [] → IsBare s.fields.items → bare_schema (schema_of s) ≡ schema_of s
bare_itself s none bare =
    ap₂ (λ (f : Forest) (e : List Entry). let found : SchemaTree = record { fields = f; metadata = e } in found)
    (sym (forest_bare (map tree_of s.fields.items)) ∙ ap forest_of bare) (ap (map entry_of) (sym none))

-- ---- fields that are left without theirs

pub bare_schema_is : (s bare : Schema) → map tree_of bare.fields.items ≡ map bare_tree (map tree_of s.fields.items) → bare.metadata.items ≡ []
    → schema_of bare ≡ bare_schema (schema_of s)
bare_schema_is s bare fields none =
    ap₂ (λ (f : Forest) (e : List Entry). let found : SchemaTree = record { fields = f; metadata = e } in found)
    (ap forest_of fields ∙ forest_bare (map tree_of s.fields.items)) (ap (map entry_of) none)
