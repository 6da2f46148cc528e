-- Walks over fields, step by step.
use Rattle.std.proofs.Common.{◌≡◌, ◌≢◌, ◌-◌, ◌≤◌, ◌<◌, inl, inr, ℕ, zero, suc, ◌+◌, ◌*◌, Option, Some, None, List, []}
use Rattle.std.proofs.Common.{◌++◌, length, arith, refl, sym, ap, subst}
use Rattle.std.proofs.lemmas.List.{length-append}
use Rattle.flat_places.specs.Number.{ShowsReference}
use Rattle.flat_places.specs.Held.{Holds}
use Rattle.flat_places.specs.Vector.{ShowsVector}
use Rattle.header_types.specs.declared.fault.MetaFault.{MetaFault}
use Rattle.header_types.specs.declared.fault.MetaFault.TheVariants.{TooManyFields, TooDeep}
use Rattle.header_types.specs.Fields.{Entry, FieldHead, Tree, tree, Forest, no_more, more, width}
use Rattle.header_types.specs.Slots.{VectorRef, VectorAt, ShowsVectorRef}
use Rattle.header_types.specs.Shown.{ShowsFieldHead, ShowsTree, ShowsForest, ShowsPart}
use Rattle.header_types.specs.Shown.{ShowsForestPart, ShowsTreeBy, ShowsForestBy}
use Rattle.header_types.specs.Limits.{SchemaTotals, add_totals, entries_totals, entry_bytes, forest_totals, tree_totals}
use Rattle.header_types.specs.Limits.{field_bytes, forest_depth, tree_depth, tree_sum, forest_sum, IsBeyond}
use Rattle.header_reading.specs.Faults.{FieldFault}
use Rattle.header_types.specs.Adding.{Adds}
use Rattle.header_reading.specs.Walking.{IsInside, PassesEntries}
use Rattle.header_reading.specs.Walking.{EntriesEnd, field_totals, PassesField, FieldEnd, PassesForest, ForestIsBeyond}
use Rattle.header_reading.specs.Walking.{ForestEnd}
use Rattle.header_types.proofs.Beyond.{beyond_more}

-- ---- one field

elements_inside : (text : List ℕ) (place size first count : ℕ) → ShowsVector text place size first count
    → first + count * size ≤ length text
elements_inside text place size first count v = held_inside text first (count * size) v.elements v.held v.whole where
  held_inside : (text : List ℕ) (first size : ℕ) (elements : List ℕ) → Holds text first elements
      → length elements ≡ size → first + size ≤ length text
  held_inside text first size elements held whole =
      let stands : length held.before ≡ first = held.stands in
      let front : length (held.before ++ elements) ≡ length held.before + length elements =
      length-append held.before elements in
      let all : length (held.before ++ elements ++ held.after) ≡ length (held.before ++ elements) + length held.after =
      length-append (held.before ++ elements) held.after in
      let total : length text ≡ length (held.before ++ elements ++ held.after) = ap length held.parts in
      omega (arith, stands, front, all, total, whole)

vector_inside_at : (text : List ℕ) (size : ℕ) (vector : VectorRef) (target : Option ℕ)
    → VectorAt text size vector target → IsInside text vector size
vector_inside_at text size vector None none = rw none (omega arith)
vector_inside_at text size vector (Some place) v = elements_inside text place size vector.first vector.count v

pub vector_inside : (text : List ℕ) (table n size : ℕ) (vector : VectorRef) → ShowsVectorRef text table n size vector
    → IsInside text vector size
vector_inside text table n size vector shown = vector_inside_at text size vector shown.target shown.shown

pub field_passes : (text : List ℕ) (table : ℕ) (field : FieldHead) (children metadata : VectorRef)
    (old mid new : SchemaTotals)
    → ShowsFieldHead text table field children metadata → Adds old (field_totals field) mid
    → PassesEntries text metadata.first metadata.count mid new → PassesField text table children old new
field_passes text table field children metadata old mid new shown (p, q, r) entries =
    let (p', q', r') = entries.added in
    record {
      field = field;
      metadata = metadata;
      entries = entries.entries;
      shown = shown;
      all = entries.all;
      entries_shown = entries.shown;
      added = (omega arith, omega arith, omega arith);
    }

pub field_fault : (text : List ℕ) (table : ℕ) (old : SchemaTotals) (e : MetaFault) → FieldFault text table e
    → FieldEnd text table old e
field_fault text table old e fault = inl fault

pub field_too_much : (text : List ℕ) (table : ℕ) (field : FieldHead) (children metadata : VectorRef)
    (old : SchemaTotals) (e : MetaFault)
    → ShowsFieldHead text table field children metadata → e ≡ TooManyFields
    → IsBeyond (add_totals old (field_totals field))
    → FieldEnd text table old e
field_too_much text table field children metadata old e shown is beyond =
    inr (
      is,
      record {
        part = tree field [] no_more;
        shown = (children, metadata, shown, omega arith, tt, omega arith, tt);
        beyond = beyond_more (add_totals old (field_totals field))
            (add_totals old (tree_totals (tree field [] no_more))) beyond (omega arith) (omega arith) (omega arith);
      },
    )

pub field_ends : (text : List ℕ) (table : ℕ) (field : FieldHead) (children metadata : VectorRef)
    (old mid : SchemaTotals) (e : MetaFault)
    → ShowsFieldHead text table field children metadata → Adds old (field_totals field) mid
    → EntriesEnd text metadata mid e
    → FieldEnd text table old e
field_ends text table field children metadata old mid e shown added (inl fault) =
    inl (inr (inr (inr (inr (inr (inl (inr (metadata, shown.metadata_shown, fault))))))))
field_ends text table field children metadata old mid e shown (p, q, r) (inr (is, some)) =
    inr (
      is,
      record {
        part = tree field some.entries no_more;
        shown = (children, metadata, shown, some.some, some.shown, omega arith, tt);
        beyond = beyond_more (add_totals mid (entries_totals some.entries))
            (add_totals old (tree_totals (tree field some.entries no_more))) some.beyond (omega arith) (omega arith)
            (omega arith);
      },
    )

-- ---- fields

-- one tree more, behind the others
abbrev pub followed_by : Forest → Tree → Forest
followed_by no_more t = more t no_more
followed_by (more u rest) t = more u (followed_by rest t)

width_more : (f : Forest) (t : Tree) → width (followed_by f t) ≡ suc (width f)
width_more no_more t = refl
width_more (more u rest) t = ap suc (width_more rest t)

depth_more : (f : Forest) (t : Tree) (levels : ℕ) → forest_depth f ≤ levels → tree_depth t ≤ levels
    → forest_depth (followed_by f t) ≤ levels
depth_more no_more t levels p q = omega arith
depth_more (more u rest) t levels p q =
    let inner = depth_more rest t levels (omega arith) q in omega arith

sum_more : (weight : FieldHead → List Entry → ℕ) (f : Forest) (t : Tree)
    → forest_sum weight (followed_by f t) ≡ forest_sum weight f + tree_sum weight t
sum_more weight no_more t = omega arith
sum_more weight (more u rest) t = let inner = sum_more weight rest t in omega arith

-- what a tree more adds
totals_more : (f : Forest) (t : Tree) → Adds (forest_totals f) (tree_totals t) (forest_totals (followed_by f t))
totals_more f t = (
  sum_more (λ field entries. 1) f t,
  sum_more (λ field entries. length entries) f t,
  sum_more (λ field entries. field_bytes field + entry_bytes entries) f t,
)

pub forest_more : (Fits : ℕ → ℕ → Type 0) (text : List ℕ) (place : ℕ) (f : Forest) (table : ℕ) (t : Tree)
    → ShowsForestBy Fits text place f
    → ShowsReference text (place + 4 * width f) table → ShowsTreeBy Fits text table t
    → ShowsForestBy Fits text place (followed_by f t)
forest_more Fits text place no_more table t shown refers there =
    ((table, subst (λ k. ShowsReference text k table) (omega arith) refers, there), tt)
forest_more Fits text place (more u rest) table t shown refers there = (
  shown.0,
  forest_more Fits text (place + 4) rest table t shown.1
      (subst (λ k. ShowsReference text k table) (omega arith) refers) there,
)

-- all of a tree is some of it
mutual
  tree_is_part : (text : List ℕ) (table : ℕ) (t : Tree) → ShowsTree text table t → ShowsPart text table t
  tree_is_part text table (tree field entries inner)
      (children, metadata, shown, all, entries_shown, every, inner_shown) = (
        children,
        metadata,
        shown,
        omega arith,
        entries_shown,
        omega arith,
        forest_is_part text children.first inner
            inner_shown,
      )

  pub forest_is_part : (text : List ℕ) (place : ℕ) (f : Forest) → ShowsForest text place f
      → ShowsForestPart text place f
  forest_is_part text place no_more shown = tt
  forest_is_part text place (more t rest) ((table, refers, there), others) =
      ((table, refers, tree_is_part text table t there), forest_is_part text (place + 4) rest others)

pub no_fields : (text : List ℕ) (first levels : ℕ) (old : SchemaTotals) → PassesForest text first 0 levels old old
no_fields text first levels old =
    record {
      forest = no_more;
      shown = tt;
      all = refl;
      not_deep = omega arith;
      added =
          (omega arith, omega arith, omega arith);
    }

pub fields_pass : (text : List ℕ) (first i levels table : ℕ) (children : VectorRef) (old mid after new : SchemaTotals)
    → PassesForest text first i (suc levels) old mid
    → ShowsReference text (first + 4 * i) table → PassesField text table children mid after
    → PassesForest text children.first children.count levels after new
    → PassesForest text first (i + 1) (suc levels) old new
fields_pass text first i levels table children old mid after new before refers one inside =
    let t : Tree = tree one.field one.entries inside.forest in
    let (p, q, r) = before.added in
    let (p', q', r') = one.added in
    let (p'', q'', r'') = inside.added in
    let (f, g, h) = totals_more before.forest t in
    let wide = width_more before.forest t in
    let all = before.all in
    let depth = inside.not_deep in
    let there : ShowsTree text table t = (
      children,
      one.metadata,
      one.shown,
      one.all,
      one.entries_shown,
      inside.all,
      inside.shown,
    ) in
    record {
      forest = followed_by before.forest t;
      shown = forest_more (λ told count. told ≡ count) text first before.forest table t before.shown
          (subst (λ k. ShowsReference text (first + 4 * k) table) (sym before.all) refers) there;
      all = omega arith;
      not_deep = depth_more before.forest t (suc levels) before.not_deep (omega arith);
      added = (omega arith, omega arith, omega arith);
    }

-- the part that ends with a tree more
part_more : (text : List ℕ) (vector : VectorRef) (i levels table : ℕ) (old mid : SchemaTotals) (t : Tree)
    → PassesForest text vector.first i levels old mid → i < vector.count
    → ShowsReference text (vector.first + 4 * i) table → ShowsPart text table t
    → IsBeyond (add_totals mid (tree_totals t)) → ForestIsBeyond text vector old
part_more text vector i levels table old mid t before there refers shown beyond =
    let (p, q, r) = before.added in
    let (f, g, h) = totals_more before.forest t in
    let wide = width_more before.forest t in
    let all = before.all in
    record {
      part = followed_by before.forest t;
      shown = forest_more (λ told count. told ≤ count) text vector.first before.forest table t
          (forest_is_part text vector.first before.forest before.shown)
          (subst (λ k. ShowsReference text (vector.first + 4 * k) table) (sym before.all) refers) shown;
      some = omega arith;
      beyond = beyond_more (add_totals mid (tree_totals t))
          (add_totals old (forest_totals (followed_by before.forest t))) beyond (omega arith) (omega arith)
          (omega arith);
    }

pub fields_end : (text : List ℕ) (vector : VectorRef) (i levels table : ℕ) (old mid : SchemaTotals) (e : MetaFault)
    → PassesForest text vector.first i (suc levels) old mid
    → i < vector.count → ShowsReference text (vector.first + 4 * i) table → FieldEnd text table mid e
    → ForestEnd text (suc levels) vector old e
fields_end text vector i levels table old mid e before there refers (inl fault) =
    inl (table, 0, (i, there, refers), inl (omega arith, fault))
fields_end text vector i levels table old mid e before there refers (inr (is, some)) =
    inr (is, part_more text vector i (suc levels) table old mid some.part before there refers some.shown some.beyond)

pub too_deep : (text : List ℕ) (vector : VectorRef) (i table : ℕ) (old : SchemaTotals) → i < vector.count
    → ShowsReference text (vector.first + 4 * i) table
    → ForestEnd text 0 vector old TooDeep
too_deep text vector i table old there refers = inl (table, 0, (i, there, refers), inr (refl, tt))

pub inner_ends : (text : List ℕ) (vector : VectorRef) (i levels table : ℕ) (children : VectorRef)
    (old mid after : SchemaTotals) (e : MetaFault)
    → PassesForest text vector.first i (suc levels) old mid → i < vector.count
    → ShowsReference text (vector.first + 4 * i) table
    → PassesField text table children mid after → ForestEnd text levels children after e
    → ForestEnd text (suc levels) vector old e
inner_ends text vector i levels table children old mid after e before there refers one
    (inl (child, level, element, inl (within, below))) =
    inl (
      table,
      suc level,
      (i, there, refers),
      inl
          (omega arith, (child, (children, one.shown.children_shown, element), below)),
    )
inner_ends text vector i levels table children old mid after e before there refers one
    (inl (child, level, element, inr (deep, below))) =
    inl (table, level, (i, there, refers), inr (deep, (child, (children, one.shown.children_shown, element), below)))
inner_ends text vector i levels table children old mid after e before there refers one (inr (is, some)) =
    let (p', q', r') = one.added in
    inr (
      is,
      part_more text vector i (suc levels) table old mid (tree one.field one.entries some.part) before there refers
          (children, one.metadata, one.shown, omega arith, one.entries_shown, some.some, some.shown)
          (beyond_more (add_totals after (forest_totals some.part))
          (add_totals mid (tree_totals (tree one.field one.entries some.part))) some.beyond (omega arith) (omega arith)
          (omega arith)),
    )

-- ---- the same where a level is left

pub level_left : (levels : ℕ) → levels ≢ 0 → suc (levels - 1) ≡ levels
level_left zero left = absurd (left refl)
level_left (suc n) left = omega arith

pub fields_pass_within : (text : List ℕ) (first i levels table : ℕ) (children : VectorRef)
    (old mid after new : SchemaTotals) → levels ≢ 0
    → PassesForest text first i levels old mid → ShowsReference text (first + 4 * i) table
    → PassesField text table children mid after
    → PassesForest text children.first children.count (levels - 1) after new
    → PassesForest text first (i + 1) levels old new
fields_pass_within text first i levels table children old mid after new left before refers one inside =
    subst (λ k. PassesForest text first (i + 1) k old new) (level_left levels left)
    (fields_pass text first i (levels - 1) table children old mid after new
    (subst (λ k. PassesForest text first i k old mid) (sym (level_left levels left)) before) refers one inside)

pub fields_end_within : (text : List ℕ) (vector : VectorRef) (i levels table : ℕ) (old mid : SchemaTotals)
    (e : MetaFault) → levels ≢ 0
    → PassesForest text vector.first i levels old mid → i < vector.count
    → ShowsReference text (vector.first + 4 * i) table
    → FieldEnd text table mid e → ForestEnd text levels vector old e
fields_end_within text vector i levels table old mid e left before there refers ends =
    subst (λ k. ForestEnd text k vector old e) (level_left levels left)
    (fields_end text vector i (levels - 1) table old mid e
    (subst (λ k. PassesForest text vector.first i k old mid) (sym (level_left levels left)) before) there refers ends)

pub inner_ends_within : (text : List ℕ) (vector : VectorRef) (i levels table : ℕ) (children : VectorRef)
    (old mid after : SchemaTotals) (e : MetaFault) → levels ≢ 0
    → PassesForest text vector.first i levels old mid → i < vector.count
    → ShowsReference text (vector.first + 4 * i) table
    → PassesField text table children mid after → ForestEnd text (levels - 1) children after e
    → ForestEnd text levels vector old e
inner_ends_within text vector i levels table children old mid after e left before there refers one ends =
    subst (λ k. ForestEnd text k vector old e) (level_left levels left)
    (inner_ends text vector i (levels - 1) table children old mid after e
    (subst (λ k. PassesForest text vector.first i k old mid) (sym (level_left levels left)) before) there refers one
    ends)
