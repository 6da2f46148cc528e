-- What is shown of some fields and entries sums up to no more than what is shown of all.
use Rattle.std.proofs.Common.{◌≡◌, ℕ, ◌+◌, ◌≤◌, List, [], ◌∷◌, length, arith, ap, subst}
use Rattle.flat_places.proofs.Numbers.{reference_same}
use Rattle.header_types.specs.Fields.{Entry, FieldHead, Tree, tree, Forest, no_more, more, width}
use Rattle.header_types.specs.Slots.{VectorRef}
use Rattle.header_types.specs.Shown.{ShowsEntry, ShowsEntries, ShowsTree, ShowsForest, ShowsPart, ShowsForestPart}
use Rattle.header_types.specs.Limits.{tree_sum, forest_sum, entry_bytes, field_bytes}
use Rattle.header_types.proofs.Unique.{entry_same, field_head_same}

pub some_entry_bytes : (text : List ℕ) (place : ℕ) (xs ys : List Entry) → ShowsEntries text place xs
    → ShowsEntries text place ys
    → length xs ≤ length ys → entry_bytes xs ≤ entry_bytes ys
some_entry_bytes text place [] ys p q few = omega arith
some_entry_bytes text place (x ∷ xs) [] p q few = absurd (omega arith)
some_entry_bytes text place (x ∷ xs) (y ∷ ys) ((table, reference, shown), rest)
    ((table', reference', shown'), rest') few =
    let same : table ≡ table' = reference_same text place table table' reference reference' in
    let here : x ≡ y = entry_same text table' x y (subst (λ k. ShowsEntry text k x) same shown) shown' in
    let bytes : length x.0 + length x.1 ≡ length y.0 + length y.1 = ap (λ (e : Entry). length e.0 + length e.1) here in
    let others : entry_bytes xs ≤ entry_bytes ys = some_entry_bytes text (place + 4) xs ys rest rest' (omega arith) in
    omega arith

-- some of a field's entries weigh no more than all of them
abbrev Grows : (FieldHead → List Entry → ℕ) → Type 0
Grows weight =
    (text : List ℕ) (place : ℕ) (c : FieldHead) (xs ys : List Entry) → ShowsEntries text place xs
    → ShowsEntries text place ys
    → length xs ≤ length ys → weight c xs ≤ weight c ys

mutual
  some_of_tree : (weight : FieldHead → List Entry → ℕ) → Grows weight → (text : List ℕ) (table : ℕ) (x y : Tree)
      → ShowsPart text table x
      → ShowsTree text table y → tree_sum weight x ≤ tree_sum weight y
  some_of_tree weight grows text table (tree c es inner) (tree c' es' inner')
      (r, s, field, few, entries, narrow, forest) (r', s', field', all, entries', wide, forest') =
      let same = field_head_same text table c c' r r' s s' field field' in
      let moved : ShowsEntries text s'.first es =
      subst (λ (vector : VectorRef). ShowsEntries text vector.first es) same.2 entries in
      let vectors : s.count ≡ s'.count = ap (λ (vector : VectorRef). vector.count) same.2 in
      let here : weight c es ≤ weight c es' = grows text s'.first c es es' moved entries' (omega arith) in
      let heads : weight c es' ≡ weight c' es' = ap (λ (k : FieldHead). weight k es') same.0 in
      let trees : ShowsForestPart text r'.first inner =
      subst (λ (vector : VectorRef). ShowsForestPart text vector.first inner) same.1 forest in
      let widths : r.count ≡ r'.count = ap (λ (vector : VectorRef). vector.count) same.1 in
      let inside : forest_sum weight inner ≤ forest_sum weight inner' =
      some_of_forest weight grows text r'.first inner inner' trees forest' (omega arith) in
      omega arith

  some_of_forest : (weight : FieldHead → List Entry → ℕ) → Grows weight → (text : List ℕ) (place : ℕ) (x y : Forest)
      → ShowsForestPart text place x
      → ShowsForest text place y → width x ≤ width y → forest_sum weight x ≤ forest_sum weight y
  some_of_forest weight grows text place no_more y p q narrow = omega arith
  some_of_forest weight grows text place (more x xs) no_more p q narrow = absurd (omega arith)
  some_of_forest weight grows text place (more x xs) (more y ys) ((table, reference, shown), rest)
      ((table', reference', shown'), rest') narrow =
      let same : table ≡ table' = reference_same text place table table' reference reference' in
      let moved : ShowsPart text table' x = subst (λ k. ShowsPart text k x) same shown in
      let first : tree_sum weight x ≤ tree_sum weight y = some_of_tree weight grows text table' x y moved shown' in
      let others : forest_sum weight xs ≤ forest_sum weight ys =
      some_of_forest weight grows text (place + 4) xs ys rest rest' (omega arith) in
      omega arith

pub some_fields : (text : List ℕ) (place : ℕ) (x y : Forest) → ShowsForestPart text place x → ShowsForest text place y
    → width x ≤ width y
    → forest_sum (λ field entries. 1) x ≤ forest_sum (λ field entries. 1) y
some_fields = some_of_forest (λ field entries. 1) (λ text place c xs ys p q few. omega arith)

pub some_entries : (text : List ℕ) (place : ℕ) (x y : Forest) → ShowsForestPart text place x → ShowsForest text place y
    → width x ≤ width y
    → forest_sum (λ field entries. length entries) x ≤ forest_sum (λ field entries. length entries) y
some_entries = some_of_forest (λ field entries. length entries) (λ text place c xs ys p q few. few)

bytes_grow : Grows (λ field entries. field_bytes field + entry_bytes entries)
bytes_grow text place c xs ys p q few =
    let less : entry_bytes xs ≤ entry_bytes ys = some_entry_bytes text place xs ys p q few in omega arith

pub some_bytes : (text : List ℕ) (place : ℕ) (x y : Forest) → ShowsForestPart text place x → ShowsForest text place y
    → width x ≤ width y
    → forest_sum (λ field entries. field_bytes field + entry_bytes entries) x
    ≤ forest_sum (λ field entries. field_bytes field + entry_bytes entries) y
some_bytes = some_of_forest (λ field entries. field_bytes field + entry_bytes entries) bytes_grow
