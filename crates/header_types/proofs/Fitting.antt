-- The walk over fields that can be written, step by step.
use Rattle.std.proofs.Common.{◌≡◌, ◌≢◌, ◌-◌, ◌<◌, inl, inr, ℕ, ◌+◌, List, map, drop, length, slice_index_or, arith, sym}
use Rattle.std.proofs.Common.{ap, ◌∙◌, subst}
use Rattle.header_types.specs.declared.schema.Field.{Field, out-Field}
use Rattle.header_types.specs.Fields.{Entry, FieldHead, Tree, tree, Forest, no_more, more, width}
use Rattle.header_types.specs.Views.{tree_of, forest_of}
use Rattle.header_types.specs.Limits.{SchemaTotals, add_totals, forest_totals, tree_totals, IsBeyond}
use Rattle.header_types.specs.FieldView.{field_head_of, entries_in, fields_in, own_tree}
use Rattle.header_types.specs.Adding.{Adds}
use Rattle.header_types.specs.Fitting.{IsProper, FitsForest, ForestIsRefused, Leaves}
use Rattle.header_types.proofs.Beyond.{beyond_more}
use Rattle.header_types.proofs.FieldTrees.{forest_next, width_in}

abbrev totals : ℕ → ℕ → ℕ → SchemaTotals
totals f e b = record { fields = f; entries = e; bytes = b }

totals_with : (x y : SchemaTotals) → x.fields ≡ y.fields → x.entries ≡ y.entries → x.bytes ≡ y.bytes → x ≡ y
totals_with x y f e b =
    ap (λ n. totals n x.entries x.bytes) f ∙ ap (λ n. totals y.fields n x.bytes) e
    ∙ ap (λ n. totals y.fields y.entries n) b

-- ---- a field and those behind it

abbrev own : FieldHead → List Entry → SchemaTotals
own field entries = tree_totals (tree field entries no_more)

one_passed : (levels : ℕ) (old seen after new : SchemaTotals) (fields rest : Forest) (field : FieldHead)
    (entries : List Entry) (inner : Forest) → levels ≢ 0
    → Leaves levels old fields seen (more (tree field entries inner) rest) → IsProper field.data_type (width inner)
    → Adds seen (own field entries) after → FitsForest (levels - 1) after new inner → Leaves levels old fields new rest
one_passed levels old seen after new fields rest field entries inner left before (allowed, sized) (p, q, r) inside =
    let (p', q', r') = inside.added in
    let depth = inside.not_deep in
    record {
      within = inside.within;
      sums = totals_with (add_totals new (forest_totals rest))
          (add_totals seen (forest_totals (more (tree field entries inner) rest))) (omega arith) (omega arith)
          (omega arith) ∙ before.sums;
      not_deep = λ shallow. before.not_deep (omega arith);
      deep = λ deep. before.deep (omega arith);
      well_formed = λ others. before.well_formed ((allowed, sized, inside.well_formed), others);
      rest_well_formed = λ all. (before.rest_well_formed all).1;
    }

-- what refuses the rest refuses them all
rest_refused : (levels : ℕ) (old seen : SchemaTotals) (fields rest : Forest) → Leaves levels old fields seen rest
    → ForestIsRefused levels seen rest → ForestIsRefused levels old fields
rest_refused levels old seen fields rest before (inl deep) = inl (before.deep deep)
rest_refused levels old seen fields rest before (inr (inl beyond)) = inr (inl (subst IsBeyond before.sums beyond))
rest_refused levels old seen fields rest before (inr (inr wrong)) =
    inr (inr (λ all. wrong (before.rest_well_formed all)))

no_level : (seen : SchemaTotals) (levels : ℕ) (t : Tree) (rest : Forest) → levels ≡ 0
    → ForestIsRefused levels seen (more t rest)
no_level seen levels (tree field entries inner) rest none = inl (omega arith)

improper : (levels : ℕ) (seen : SchemaTotals) (rest : Forest) (field : FieldHead) (entries : List Entry)
    (inner : Forest) → (¬ IsProper field.data_type (width inner))
    → ForestIsRefused levels seen (more (tree field entries inner) rest)
improper levels seen rest field entries inner wrong = inr (inr (λ all. wrong (all.0.0, all.0.1)))

own_beyond : (levels : ℕ) (seen : SchemaTotals) (rest : Forest) (field : FieldHead) (entries : List Entry)
    (inner : Forest)
    → IsBeyond (add_totals seen (own field entries))
    → ForestIsRefused levels seen (more (tree field entries inner) rest)
own_beyond levels seen rest field entries inner beyond =
    inr (inl (beyond_more (add_totals seen (own field entries))
    (add_totals seen (forest_totals (more (tree field entries inner) rest))) beyond (omega arith) (omega arith)
    (omega arith)))

inner_refused : (levels : ℕ) (seen after : SchemaTotals) (rest : Forest) (field : FieldHead) (entries : List Entry)
    (inner : Forest) → levels ≢ 0
    → Adds seen (own field entries) after → ForestIsRefused (levels - 1) after inner
    → ForestIsRefused levels seen (more (tree field entries inner) rest)
inner_refused levels seen after rest field entries inner left added (inl deep) = inl (omega arith)
inner_refused levels seen after rest field entries inner left (p, q, r) (inr (inl beyond)) =
    inr (inl (beyond_more (add_totals after (forest_totals inner))
    (add_totals seen (forest_totals (more (tree field entries inner) rest))) beyond (omega arith) (omega arith)
    (omega arith)))
inner_refused levels seen after rest field entries inner left added (inr (inr wrong)) = inr (inr (λ all. wrong all.0.2))

-- ---- the same of the program's fields

abbrev Left : ℕ → SchemaTotals → List Field → SchemaTotals → ℕ → Type 0
Left levels old fields seen i = Leaves levels old (forest_of (map tree_of fields)) seen
    (forest_of (map tree_of (drop i fields)))

abbrev Refused : ℕ → SchemaTotals → List Field → Type 0
Refused levels old fields = ForestIsRefused levels old (forest_of (map tree_of fields))

-- the fields that are left, with the first of them seen
abbrev next : List Field → ℕ → Field → Forest
next fields i x = more (tree (field_head_of x) (entries_in x) (fields_in x))
    (forest_of (map tree_of (drop (i + 1) fields)))

left_next : (levels : ℕ) (old seen : SchemaTotals) (fields : List Field) (i : ℕ) (x : Field) → i < length fields
    → x ≡ slice_index_or fields i x
    → Left levels old fields seen i → Leaves levels old (forest_of (map tree_of fields)) seen (next fields i x)
left_next levels old seen fields i x there is before =
    subst (λ rest. Leaves levels old (forest_of (map tree_of fields)) seen rest)
    (forest_next fields i x there is) before

proper_in : (x : Field) → IsProper (field_head_of x).data_type (length (out-Field x).children.items)
    → IsProper (field_head_of x).data_type (width (fields_in x))
proper_in x proper = subst (IsProper (field_head_of x).data_type) (sym (width_in x)) proper

pub field_fitted : (levels : ℕ) (old seen after new : SchemaTotals) (fields : List Field) (i : ℕ) (x : Field)
    → i < length fields → x ≡ slice_index_or fields i x
    → levels ≢ 0 → Left levels old fields seen i
    → IsProper (field_head_of x).data_type (length (out-Field x).children.items)
    → Adds seen (tree_totals (own_tree x)) after → FitsForest (levels - 1) after new (fields_in x)
    → Left levels old fields new (i + 1)
field_fitted levels old seen after new fields i x there is left before proper added inside =
    one_passed levels old seen after new (forest_of (map tree_of fields))
    (forest_of (map tree_of (drop (i + 1) fields))) (field_head_of x) (entries_in x) (fields_in x) left
    (left_next levels old seen fields i x there is before) (proper_in x proper) added inside

pub level_refused : (levels : ℕ) (old seen : SchemaTotals) (fields : List Field) (i : ℕ) (x : Field) → i < length fields
    → x ≡ slice_index_or fields i x
    → Left levels old fields seen i → levels ≡ 0 → Refused levels old fields
level_refused levels old seen fields i x there is before none =
    rest_refused levels old seen (forest_of (map tree_of fields)) (next fields i x)
    (left_next levels old seen fields i x there is before)
    (no_level seen levels (tree (field_head_of x) (entries_in x) (fields_in x))
    (forest_of (map tree_of (drop (i + 1) fields))) none)

pub improper_refused : (levels : ℕ) (old seen : SchemaTotals) (fields : List Field) (i : ℕ) (x : Field)
    → i < length fields → x ≡ slice_index_or fields i x
    → Left levels old fields seen i → (¬ IsProper (field_head_of x).data_type (length (out-Field x).children.items))
    → Refused levels old fields
improper_refused levels old seen fields i x there is before wrong =
    rest_refused levels old seen (forest_of (map tree_of fields)) (next fields i x)
    (left_next levels old seen fields i x there is before)
    (improper levels seen (forest_of (map tree_of (drop (i + 1) fields))) (field_head_of x) (entries_in x) (fields_in x)
    (λ proper. wrong (subst (IsProper (field_head_of x).data_type) (width_in x) proper)))

pub field_refused : (levels : ℕ) (old seen : SchemaTotals) (fields : List Field) (i : ℕ) (x : Field) → i < length fields
    → x ≡ slice_index_or fields i x
    → Left levels old fields seen i → IsBeyond (add_totals seen (tree_totals (own_tree x))) → Refused levels old fields
field_refused levels old seen fields i x there is before beyond =
    rest_refused levels old seen (forest_of (map tree_of fields)) (next fields i x)
    (left_next levels old seen fields i x there is before)
    (own_beyond levels seen (forest_of (map tree_of (drop (i + 1) fields))) (field_head_of x) (entries_in x)
    (fields_in x) beyond)

pub below_refused : (levels : ℕ) (old seen after : SchemaTotals) (fields : List Field) (i : ℕ) (x : Field)
    → i < length fields → x ≡ slice_index_or fields i x
    → levels ≢ 0 → Left levels old fields seen i → Adds seen (tree_totals (own_tree x)) after
    → ForestIsRefused (levels - 1) after (fields_in x) → Refused levels old fields
below_refused levels old seen after fields i x there is left before added refused =
    rest_refused levels old seen (forest_of (map tree_of fields)) (next fields i x)
    (left_next levels old seen fields i x there is before)
    (inner_refused levels seen after (forest_of (map tree_of (drop (i + 1) fields))) (field_head_of x) (entries_in x)
    (fields_in x) left added refused)
