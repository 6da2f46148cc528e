-- A header and a body lay out at most one batch, and at most one fault is told of them.
use Rattle.std.proofs.Common.{◌≡◌, inl, inr, refl, sym, ap, ap₂, subst, ◌∙◌, ℕ, nat_abs, List, [], ◌∷◌, ◌++◌, length, take, drop, get_or, append_assoc}
use Rattle.std.proofs.Math.Seq.{take-append_seam, drop-append_seam}
use Rattle.std.specs.List.{range_with_len}
use Rattle.header_types.specs.Fields.{Tree, tree, Forest, no_more, more, SchemaTree}
use Rattle.header_types.specs.Header.{Head}
use Rattle.batch_types.specs.declared.fault.BatchFault.{BatchFault}
use Rattle.batch_types.specs.Cells.{Rows}
use Rattle.batch_types.specs.Layouts.{buffers_in_layout}
use Rattle.batch_types.specs.Laid.{Node, Range, LaidColumn, laid, LaidColumns, no_column, column_then}
use Rattle.batch_types.specs.Laid.{nodes_of, nodes_in, buffers_of, buffers_in, IsColumnOf, AreColumnsOf}
use Rattle.batch_types.specs.Order.{AreKept, IsFirstBroken, head_order, column_order}
use Rattle.batch_types.specs.LaysOut.{KeepsRule, KeepsHeadRule, IsSound, AreSound, HasFault, HaveFault, HasColumns, LaysOut, IsFaultOf, body_of, columns_at}

-- ---- the columns of a header

-- lists that are equal as wholes, and as long at the front
fronts : {X : Type 0} (xs ys us vs : List X) → length xs ≡ length ys → xs ++ us ≡ ys ++ vs → (xs ≡ ys) × (us ≡ vs)
fronts xs ys us vs all same = (
  sym (take-append_seam xs us) ∙ ap (λ l. take (length xs) l) same ∙ ap (λ n. take n (ys ++ vs)) all ∙ take-append_seam ys vs,
  sym (drop-append_seam xs us) ∙ ap (λ l. drop (length xs) l) same ∙ ap (λ n. drop n (ys ++ vs)) all ∙ drop-append_seam ys vs,
)

mutual
  pub same_column : (t : Tree) (c d : LaidColumn) (ns ms : List Node) (ps qs : List Range) → IsColumnOf t c → IsColumnOf t d
      → nodes_of c ++ ns ≡ nodes_of d ++ ms → buffers_of c ++ ps ≡ buffers_of d ++ qs
      → (c ≡ d) × (ns ≡ ms) × (ps ≡ qs)
  same_column (tree field entries inside) (laid l n r i) (laid k m s j) ns ms ps qs of also nodes buffers =
      let layouts : l ≡ k = of.0 ∙ sym also.0 in
      let heads = fronts (n ∷ []) (m ∷ []) (nodes_in i ++ ns) (nodes_in j ++ ms) refl nodes in
      let node : n ≡ m = ap (λ list. get_or list 0 n) heads.0 in
      let lengths : length r ≡ length s = of.1 ∙ ap buffers_in_layout layouts ∙ sym also.1 in
      let ranges = fronts r s (buffers_in i ++ ps) (buffers_in j ++ qs) lengths
      (sym (append_assoc r (buffers_in i) ps) ∙ buffers ∙ append_assoc s (buffers_in j) qs) in
      let rest = same_columns inside i j ns ms ps qs of.2 also.2 heads.1 ranges.1 in (
        ap (λ x. laid x n r i) layouts ∙ ap (λ x. laid k x r i) node ∙ ap (λ x. laid k m x i) ranges.0 ∙ ap (λ x. laid k m s x) rest.0,
        rest.1,
        rest.2,
      )

  pub same_columns : (f : Forest) (cs ds : LaidColumns) (ns ms : List Node) (ps qs : List Range) → AreColumnsOf f cs → AreColumnsOf f ds
      → nodes_in cs ++ ns ≡ nodes_in ds ++ ms → buffers_in cs ++ ps ≡ buffers_in ds ++ qs
      → (cs ≡ ds) × (ns ≡ ms) × (ps ≡ qs)
  same_columns no_more no_column no_column ns ms ps qs of also nodes buffers = (refl, nodes, buffers)
  same_columns no_more no_column (column_then d ds) ns ms ps qs of also nodes buffers = absurd also
  same_columns no_more (column_then c cs) ds ns ms ps qs of also nodes buffers = absurd of
  same_columns (more t ts) no_column ds ns ms ps qs of also nodes buffers = absurd of
  same_columns (more t ts) (column_then c cs) no_column ns ms ps qs of also nodes buffers = absurd also
  same_columns (more t ts) (column_then c cs) (column_then d ds) ns ms ps qs of also nodes buffers =
      let first = same_column t c d (nodes_in cs ++ ns) (nodes_in ds ++ ms) (buffers_in cs ++ ps) (buffers_in ds ++ qs) of.0 also.0
      (sym (append_assoc (nodes_of c) (nodes_in cs) ns) ∙ nodes ∙ append_assoc (nodes_of d) (nodes_in ds) ms)
      (sym (append_assoc (buffers_of c) (buffers_in cs) ps) ∙ buffers ∙ append_assoc (buffers_of d) (buffers_in ds) qs) in
      let rest = same_columns ts cs ds ns ms ps qs of.1 also.1 first.1 first.2 in
      (ap₂ column_then first.0 rest.0, rest.1, rest.2)

pub columns_are_one : (schema : SchemaTree) (head : Head) (cs ds : LaidColumns) → HasColumns schema head cs → HasColumns schema head ds → cs ≡ ds
columns_are_one schema head cs ds of also =
    (same_columns schema.fields cs ds [] [] [] [] of.of_schema also.of_schema
    (ap (λ l. l ++ []) (sym of.nodes ∙ also.nodes)) (ap (λ l. l ++ []) (sym of.buffers ∙ also.buffers))).0

-- ---- one batch

pub one_batch : (schema : SchemaTree) (head : Head) (body : List ℕ) (x y : Rows) → LaysOut schema head body x → LaysOut schema head body y → x ≡ y
one_batch schema head body x y p q =
    let columns : p.columns ≡ q.columns = columns_are_one schema head p.columns q.columns p.columns_are q.columns_are in
    let count : x.count ≡ y.count = ap nat_abs (sym p.count ∙ q.count) in
    let cells : x.columns ≡ y.columns = p.cells ∙ ap₂ (columns_at (body_of head body)) columns count ∙ sym q.cells in
    ap₂ (λ n cs. record { count = n; columns = cs }) count cells

-- ---- one fault

first_is_one : (Keeps : BatchFault → Type 0) (rules : List BatchFault) (f g : BatchFault) → IsFirstBroken Keeps rules f → IsFirstBroken Keeps rules g → f ≡ g
first_is_one Keeps [] f g p q = absurd p
first_is_one Keeps (rule ∷ rest) f g (inl p) (inl q) = p.0 ∙ sym q.0
first_is_one Keeps (rule ∷ rest) f g (inl p) (inr q) = absurd (p.1 q.0)
first_is_one Keeps (rule ∷ rest) f g (inr p) (inl q) = absurd (q.1 p.0)
first_is_one Keeps (rule ∷ rest) f g (inr p) (inr q) = first_is_one Keeps rest f g p.1 q.1

none_is_broken : (Keeps : BatchFault → Type 0) (rules : List BatchFault) (f : BatchFault) → AreKept Keeps rules → IsFirstBroken Keeps rules f → ⊥
none_is_broken Keeps [] f kept p = p
none_is_broken Keeps (rule ∷ rest) f kept (inl p) = p.1 kept.0
none_is_broken Keeps (rule ∷ rest) f kept (inr p) = none_is_broken Keeps rest f kept.1 p.1

mutual
  sound_has_none : (body : List ℕ) (c : LaidColumn) (asked : ℕ) (places : List ℕ) (f : BatchFault) → IsSound body c asked places → HasFault body c asked places f → ⊥
  sound_has_none body (laid l n r i) asked places f sound (inl p) = none_is_broken (KeepsRule body l n r i asked places) column_order f sound.0 p
  sound_has_none body (laid l n r i) asked places f sound (inr p) = sound_have_none body i _ _ f sound.1 p.1

  sound_have_none : (body : List ℕ) (cs : LaidColumns) (asked : ℕ) (places : List ℕ) (f : BatchFault) → AreSound body cs asked places → HaveFault body cs asked places f → ⊥
  sound_have_none body no_column asked places f sound p = p
  sound_have_none body (column_then c cs) asked places f sound (inl p) = sound_has_none body c asked places f sound.0 p
  sound_have_none body (column_then c cs) asked places f sound (inr p) = sound_have_none body cs asked places f sound.1 p.1

mutual
  fault_is_one : (body : List ℕ) (c : LaidColumn) (asked : ℕ) (places : List ℕ) (f g : BatchFault) → HasFault body c asked places f → HasFault body c asked places g → f ≡ g
  fault_is_one body (laid l n r i) asked places f g (inl p) (inl q) = first_is_one (KeepsRule body l n r i asked places) column_order f g p q
  fault_is_one body (laid l n r i) asked places f g (inl p) (inr q) = absurd (none_is_broken (KeepsRule body l n r i asked places) column_order f q.0 p)
  fault_is_one body (laid l n r i) asked places f g (inr p) (inl q) = absurd (none_is_broken (KeepsRule body l n r i asked places) column_order g p.0 q)
  fault_is_one body (laid l n r i) asked places f g (inr p) (inr q) = faults_are_one body i _ _ f g p.1 q.1

  faults_are_one : (body : List ℕ) (cs : LaidColumns) (asked : ℕ) (places : List ℕ) (f g : BatchFault) → HaveFault body cs asked places f → HaveFault body cs asked places g → f ≡ g
  faults_are_one body no_column asked places f g p q = absurd p
  faults_are_one body (column_then c cs) asked places f g (inl p) (inl q) = fault_is_one body c asked places f g p q
  faults_are_one body (column_then c cs) asked places f g (inl p) (inr q) = absurd (sound_has_none body c asked places f q.0 p)
  faults_are_one body (column_then c cs) asked places f g (inr p) (inl q) = absurd (sound_has_none body c asked places g p.0 q)
  faults_are_one body (column_then c cs) asked places f g (inr p) (inr q) = faults_are_one body cs asked places f g p.1 q.1

pub one_fault : (schema : SchemaTree) (head : Head) (body : List ℕ) (f g : BatchFault) → IsFaultOf schema head body f → IsFaultOf schema head body g → f ≡ g
one_fault schema head body f g (inl p) (inl q) = first_is_one (KeepsHeadRule schema head body) head_order f g p q
one_fault schema head body f g (inl p) (inr q) = absurd (none_is_broken (KeepsHeadRule schema head body) head_order f q.0 p)
one_fault schema head body f g (inr p) (inl q) = absurd (none_is_broken (KeepsHeadRule schema head body) head_order g p.0 q)
one_fault schema head body f g (inr p) (inr q) =
    let same : p.1.0 ≡ q.1.0 = columns_are_one schema head p.1.0 q.1.0 p.1.1 q.1.1 in
    faults_are_one (body_of head body) q.1.0 _ _ f g (subst (λ cs. HaveFault (body_of head body) cs (nat_abs head.length) (range_with_len 0 (nat_abs head.length)) f) same p.1.2) q.1.2

-- ---- no fault of what is laid out

pub no_fault_of_a_batch : (schema : SchemaTree) (head : Head) (body : List ℕ) (rows : Rows) (f : BatchFault) → LaysOut schema head body rows → IsFaultOf schema head body f → ⊥
no_fault_of_a_batch schema head body rows f laid_out (inl p) = none_is_broken (KeepsHeadRule schema head body) head_order f laid_out.head_kept p
no_fault_of_a_batch schema head body rows f laid_out (inr p) =
    let same : laid_out.columns ≡ p.1.0 = columns_are_one schema head laid_out.columns p.1.0 laid_out.columns_are p.1.1 in
    let count : rows.count ≡ nat_abs head.length = ap nat_abs (sym laid_out.count) in
    let sound : AreSound (body_of head body) p.1.0 (nat_abs head.length) (range_with_len 0 (nat_abs head.length)) =
    subst (λ n. AreSound (body_of head body) p.1.0 n (range_with_len 0 n)) count
    (subst (λ cs. AreSound (body_of head body) cs rows.count (range_with_len 0 rows.count)) same laid_out.sound) in
    sound_have_none (body_of head body) p.1.0 _ _ f sound p.1.2
