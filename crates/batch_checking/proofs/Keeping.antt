-- The rules of what is read of a column are those of the column.
use Rattle.std.proofs.Common.{◌≡◌, inl, inr, refl, sym, subst, ℕ, ◌<◌, true, ℤ, pos, nat_abs, List, [], ◌∷◌, map, length, get_or}
use Rattle.std.specs.List.{filter}
use Rattle.std.specs.Str.{IsUtf8}
use Rattle.batch_types.specs.declared.fault.BatchFault.{BatchFault}
use Rattle.batch_types.specs.declared.fault.BatchFault.TheVariants as fault
use Rattle.batch_types.specs.Layouts.{Layout, null_layout, bits_layout, bytes_layout, binary_layout, utf8_layout}
use Rattle.batch_types.specs.Layouts.{list_layout, fixed_size_list_layout, struct_layout}
use Rattle.batch_types.specs.Laid.{Node, Range, LaidColumn, laid, LaidColumns}
use Rattle.batch_types.specs.Order.{column_order, AreKept, IsFirstBroken}
use Rattle.batch_types.specs.Placed.{bytes_at, buffer_at, is_valid, value_bytes}
use Rattle.batch_types.specs.Rules.{IsInside, AreLong, HasNullCount, HasOffsets, AreUtf8, first_length}
use Rattle.batch_types.specs.LaysOut.{KeepsRule}
use Rattle.batch_columns.specs.Buffers.{behind_validity, behind_validity_is}
use Rattle.batch_columns.specs.Held.{layout_named}
use Rattle.batch_columns.specs.declared.encoded_column.EncodedColumn.{EncodedColumn}
use Rattle.batch_columns.specs.Read.{IsSource, IsSourceOf, LiesInside, offsets_at, values_at}
use Rattle.batch_checking.specs.SourceRules.{OffsetsHold}
use Rattle.batch_checking.specs.Around.{Holds, TextsHold}
use Rattle.batch_checking.specs.Checked.{PartsKeep, SourceKeeps, KeepsOwn, BreaksOwn}
use Rattle.batch_checking.proofs.Held.{held_filter, filter_held, held_at, place_held}

abbrev Both : Type 0 → Type 0 → Type 0
Both A B = (A → B) × (B → A)

same : (A : Type 0) → Both A A
same A = (λ a. a, λ a. a)

-- ---- rule by rule

texts : (validity offsets values : List ℕ) (offset : ℕ) (places : List ℕ)
    → Both ((row : ℕ) → Holds places row → is_valid (utf8_layout offset) validity row ≡ true → IsUtf8 (value_bytes offset offsets values row))
    ((k : ℕ) → k < length (filter (is_valid (utf8_layout offset) validity) places)
    → IsUtf8 (value_bytes offset offsets values (get_or (filter (is_valid (utf8_layout offset) validity) places) k 0)))
texts validity offsets values offset places = (
  λ each k below.
      let found = filter_held (is_valid (utf8_layout offset) validity) places
      (get_or (filter (is_valid (utf8_layout offset) validity) places) k 0) (held_at (filter (is_valid (utf8_layout offset) validity) places) k below) in
      each (get_or (filter (is_valid (utf8_layout offset) validity) places) k 0) found.0 found.1,
  λ all row there valid.
      let (k, below, is) = place_held (filter (is_valid (utf8_layout offset) validity) places) row
      (held_filter (is_valid (utf8_layout offset) validity) places row there valid) in
      subst (λ j. IsUtf8 (value_bytes offset offsets values j)) is (all k below),
)

module _ (body : List ℕ) (node : Node) (ranges : List Range) (inner : LaidColumns) (asked : ℕ) (places : List ℕ)
    (lies : (n : ℕ) → n < length ranges → IsInside (length body) (get_or ranges n (pos 0, pos 0))) where
  lengths_rule : (l : Layout) → Both
      (AreLong l (nat_abs node.0) node.1 (length (buffer_at body ranges 0)) (length (behind_validity l (offsets_at body l ranges) (values_at body l ranges))))
      (AreLong l (nat_abs node.0) node.1 (length (buffer_at body ranges 0)) (length (buffer_at body ranges 1)))
  lengths_rule l = (
    subst (λ (b : List ℕ). AreLong l (nat_abs node.0) node.1 (length (buffer_at body ranges 0)) (length b)) (behind_validity_is l (map (bytes_at body) ranges)),
    subst (λ (b : List ℕ). AreLong l (nat_abs node.0) node.1 (length (buffer_at body ranges 0)) (length b)) (sym (behind_validity_is l (map (bytes_at body) ranges))),
  )

  nulls_rule : (l : Layout) → Both (HasNullCount l (buffer_at body ranges 0) (pos (nat_abs node.0), node.1)) (HasNullCount l (buffer_at body ranges 0) node)
  nulls_rule null_layout = same _
  nulls_rule bits_layout = same _
  nulls_rule (bytes_layout size) = same _
  nulls_rule (binary_layout offset) = same _
  nulls_rule (utf8_layout offset) = same _
  nulls_rule (list_layout offset) = same _
  nulls_rule (fixed_size_list_layout size) = same _
  nulls_rule struct_layout = same _

  offsets_rule : (l : Layout)
      → Both (OffsetsHold l (nat_abs node.0) (offsets_at body l ranges) (values_at body l ranges) (first_length inner)) (HasOffsets body l node ranges inner)
  offsets_rule null_layout = same _
  offsets_rule bits_layout = same _
  offsets_rule (bytes_layout size) = same _
  offsets_rule (binary_layout offset) = same _
  offsets_rule (utf8_layout offset) = same _
  offsets_rule (list_layout offset) = same _
  offsets_rule (fixed_size_list_layout size) = same _
  offsets_rule struct_layout = same _

  texts_rule : (l : Layout)
      → Both (TextsHold l (buffer_at body ranges 0) (offsets_at body l ranges) (values_at body l ranges) places) (AreUtf8 body l ranges places)
  texts_rule null_layout = same _
  texts_rule bits_layout = same _
  texts_rule (bytes_layout size) = same _
  texts_rule (binary_layout offset) = same _
  texts_rule (utf8_layout offset) = texts (buffer_at body ranges 0) (buffer_at body ranges 1) (buffer_at body ranges 2) offset places
  texts_rule (list_layout offset) = same _
  texts_rule (fixed_size_list_layout size) = same _
  texts_rule struct_layout = same _

  abbrev Parts : Layout → BatchFault → Type 0
  Parts l told =
      PartsKeep l (nat_abs node.0) node.1 (buffer_at body ranges 0) (offsets_at body l ranges) (values_at body l ranges) (first_length inner) asked places told

  rule_same : (l : Layout) (told : BatchFault) → Both (Parts l told) (KeepsRule body l node ranges inner asked places told)
  rule_same l fault.Compressed = same _
  rule_same l fault.TooManyRows = same _
  rule_same l fault.NodeCount = same _
  rule_same l fault.BufferCount = same _
  rule_same l fault.BufferRange = (λ long. record { within = lies; long_enough = (lengths_rule l).0 long }, λ has. (lengths_rule l).1 has.long_enough)
  rule_same l fault.NullCount = nulls_rule l
  rule_same l fault.OffsetsFall = offsets_rule l
  rule_same l fault.ChildShort = same _
  rule_same l fault.NotUtf8 = texts_rule l
  rule_same l fault.OutOfMemory = same _

-- ---- all rules, in order

module _ (P Q : BatchFault → Type 0) (both : (told : BatchFault) → Both (P told) (Q told)) where
  kept_too : (rules : List BatchFault) → AreKept P rules → AreKept Q rules
  kept_too [] kept = tt
  kept_too (rule ∷ rest) kept = ((both rule).0 kept.0, kept_too rest kept.1)

  broken_too : (rules : List BatchFault) (told : BatchFault) → IsFirstBroken P rules told → IsFirstBroken Q rules told
  broken_too [] told broken = broken
  broken_too (rule ∷ rest) told (inl here) = inl (here.0, λ holds. here.1 ((both rule).1 holds))
  broken_too (rule ∷ rest) told (inr later) = inr ((both rule).0 later.0, broken_too rest told later.1)

-- ---- what is read of a column

module _ (P : Layout → ℕ → ℤ → List ℕ → List ℕ → List ℕ → Type 0) (body : List ℕ) (layout : Layout) (node : Node) (ranges : List Range) (s : EncodedColumn) where
  moved : IsSource body layout node ranges s → P (layout_named s.layout) s.length s.nulls s.validity.now s.offsets.now s.values.now
      → P layout (nat_abs node.0) node.1 (buffer_at body ranges 0) (offsets_at body layout ranges) (values_at body layout ranges)
  moved is h =
      subst (λ t. P layout (nat_abs node.0) node.1 (buffer_at body ranges 0) (offsets_at body layout ranges) t) is.values_is
      (subst (λ t. P layout (nat_abs node.0) node.1 (buffer_at body ranges 0) t s.values.now) is.offsets_is
      (subst (λ t. P layout (nat_abs node.0) node.1 t s.offsets.now s.values.now) is.validity_is
      (subst (λ (n : Node). P layout (nat_abs n.0) n.1 s.validity.now s.offsets.now s.values.now) (sym is.node_is)
      (subst (λ l. P l s.length s.nulls s.validity.now s.offsets.now s.values.now) is.layout_is h))))

module _ (body : List ℕ) (asked : ℕ) (places : List ℕ) (s : EncodedColumn) (first : ℕ) where
  pub source_kept : (column : LaidColumn) (inner : LaidColumns) → IsSourceOf body column s → LiesInside body column
      → (layout : Layout) (node : Node) (ranges : List Range) → column ≡ laid layout node ranges inner → first ≡ first_length inner
      → AreKept (SourceKeeps s first asked places) column_order → KeepsOwn body (laid layout node ranges inner) asked places
  source_kept column inner of lies layout node ranges is same kept =
      let reads : IsSource body layout node ranges s = subst (λ c. IsSourceOf body c s) is of in
      kept_too _ _ (rule_same body node ranges inner asked places (subst (LiesInside body) is lies) layout) column_order
      (subst (λ f. AreKept (PartsKeep layout (nat_abs node.0) node.1 (buffer_at body ranges 0) (offsets_at body layout ranges) (values_at body layout ranges) f asked places) column_order) same
      (moved (λ l c n v t u. AreKept (PartsKeep l c n v t u first asked places) column_order) body layout node ranges s reads kept))

  pub source_breaks : (column : LaidColumn) (inner : LaidColumns) → IsSourceOf body column s → LiesInside body column
      → (layout : Layout) (node : Node) (ranges : List Range) → column ≡ laid layout node ranges inner → first ≡ first_length inner
      → (told : BatchFault) → IsFirstBroken (SourceKeeps s first asked places) column_order told → BreaksOwn body (laid layout node ranges inner) asked places told
  source_breaks column inner of lies layout node ranges is same told broken =
      let reads : IsSource body layout node ranges s = subst (λ c. IsSourceOf body c s) is of in
      broken_too _ _ (rule_same body node ranges inner asked places (subst (LiesInside body) is lies) layout) column_order told
      (subst (λ f. IsFirstBroken (PartsKeep layout (nat_abs node.0) node.1 (buffer_at body ranges 0) (offsets_at body layout ranges) (values_at body layout ranges) f asked places) column_order told) same
      (moved (λ l c n v t u. IsFirstBroken (PartsKeep l c n v t u first asked places) column_order told) body layout node ranges s reads broken))

-- buffers that do not all lie inside the body
pub not_inside : (body : List ℕ) (column : LaidColumn) (asked : ℕ) (places : List ℕ) → (LiesInside body column → ⊥) → BreaksOwn body column asked places fault.BufferRange
not_inside body (laid layout node ranges inner) asked places out = inl (refl, λ has. out has.within)
