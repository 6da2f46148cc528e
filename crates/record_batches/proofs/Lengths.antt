-- How many bytes columns have in a body, counted up to a largest number.
use Rattle.std.proofs.Common.{◌≡◌, sym, ap, ◌∙◌, ℕ, ◌+◌, ◌<◌, ◌≤◌, ◌^◌, min, List, [], ◌∷◌, ◌++◌, length, take, drop, slice_index_or, arith, length-append}
use Rattle.std.proofs.lemmas.List.{append-nil, take_more}
use Rattle.std.proofs.Math.ListN.{drop_of_length-le}
use Rattle.header_types.specs.Fields.{SchemaTree}
use Rattle.batch_types.specs.Canonical.{Parts, both_parts, own_buffers, own_parts, parts_inside, elements_parts, fields_parts, parts_of, columns_parts, body_with, canonical_parts, canonical_body}
use Rattle.batch_types.specs.Shapes.{shapes_of}
use Rattle.batch_columns.specs.Batches.{rows_of}
use Rattle.batch_columns.specs.Few.{columns_cells}
use Rattle.batch_columns.specs.Contents.{Contents, layout_in, shapes_in}
use Rattle.batch_columns.specs.Held.{shapes_held}
use Rattle.batch_columns.specs.Kept.{HaveInside}
use Rattle.batch_columns.specs.declared.batch.Batch.{Batch}
use Rattle.record_batches.specs.Parts.{parts_held}
use Rattle.record_batches.proofs.Adding.{body_both, appended_both, appended_part}
use Rattle.record_batches.proofs.Inside.{parts_by_shape, column_parts, columns_next, held_parts}

abbrev size : Parts → ℕ
size parts = length (body_with parts.buffers)

size_both : (p q : Parts) → size (both_parts p q) ≡ size p + size q
size_both p q = ap length (body_both p.buffers q.buffers) ∙ length-append (body_with p.buffers) (body_with q.buffers)

size_push : (columns : List Contents) (x : Contents) → size (parts_held (columns ++ x ∷ [])) ≡ size (parts_held columns) + size (parts_of x.shape x.cells)
size_push [] x = let both = size_both (parts_of x.shape x.cells) (parts_held []) in omega (arith, both)
size_push (column ∷ columns) x =
    let both = size_both (parts_of column.shape column.cells) (parts_held (columns ++ x ∷ [])) in
    let less = size_both (parts_of column.shape column.cells) (parts_held columns) in
    omega (arith, both, less, size_push columns x)

-- ---- up to a largest number

saturated : (most a b x y z : ℕ) → x ≡ min a most → y ≡ min b most → z ≡ min (x + y) most → z ≡ min (a + b) most
saturated most a b x y z p q r = omega arith

module _ (most : ℕ) (columns : List Contents) (i : ℕ) (x : Contents) (there : i < length columns) (is : x ≡ slice_index_or columns i x)
    (inside : List Contents) (shapes : shapes_held inside ≡ shapes_in x) (have : HaveInside (layout_in x) x.cells inside) where
  size_next : size (parts_held (take (i + 1) columns))
      ≡ size (parts_held (take i columns)) + length (body_with (own_buffers (layout_in x) x.cells)) + size (parts_held inside)
  size_next =
      let pushed =
      ap (λ l. size (parts_held l)) (take_more columns i x there ∙ ap (λ y. take i columns ++ y ∷ []) (sym is)) ∙ size_push (take i columns) x in
      let parts = ap size (column_parts x inside shapes have) ∙ size_both (own_parts (layout_in x) x.cells) (parts_held inside) in
      omega (arith, pushed, parts)

  pub length_next : (total own first inner next : ℕ) → total ≡ min (size (parts_held (take i columns))) most
      → own ≡ min (length (body_with (own_buffers (layout_in x) x.cells))) most → first ≡ min (total + own) most → inner ≡ min (size (parts_held inside)) most
      → next ≡ min (first + inner) most → next ≡ min (size (parts_held (take (i + 1) columns))) most
  length_next total own first inner next t o f n e =
      saturated most (size (parts_held (take i columns)) + length (body_with (own_buffers (layout_in x) x.cells))) (size (parts_held inside)) first inner next
      (saturated most (size (parts_held (take i columns))) (length (body_with (own_buffers (layout_in x) x.cells))) total own first t o f) n e
      ∙ ap (λ s. min s most) (sym size_next)

-- ---- what is left of a short body is short

module _ (columns : List Contents) (i : ℕ) (x : Contents) (there : i < length columns) (is : x ≡ slice_index_or columns i x)
    (end : ℕ) (short : end + length (body_with (parts_held (drop i columns)).buffers) < 2 ^ 63) where
  left_long : size (parts_held (drop i columns)) ≡ size (parts_of x.shape x.cells) + size (parts_held (drop (i + 1) columns))
  left_long =
      ap size (columns_next columns i x there is) ∙ size_both (parts_of x.shape x.cells) (parts_held (drop (i + 1) columns))

  pub short_own : end + length (body_with (own_buffers (layout_in x) x.cells)) < 2 ^ 63
  short_own =
      let whole = ap size (parts_by_shape x.shape x.cells) in
      let both =
      size_both (own_parts (layout_in x) x.cells)
      (parts_inside (layout_in x) (elements_parts (shapes_in x) x.cells) (fields_parts (shapes_in x) 0 x.cells)) in
      omega (arith, short, left_long, whole, both)

  module _ (inside : List Contents) (shapes : shapes_held inside ≡ shapes_in x) (have : HaveInside (layout_in x) x.cells inside) where
    column_long : size (parts_of x.shape x.cells) ≡ length (body_with (own_buffers (layout_in x) x.cells)) + size (parts_held inside)
    column_long = ap size (column_parts x inside shapes have) ∙ size_both (own_parts (layout_in x) x.cells) (parts_held inside)

    pub short_inside : (then : ℕ) → then ≡ end + length (body_with (own_buffers (layout_in x) x.cells))
        → then + length (body_with (parts_held inside).buffers) < 2 ^ 63
    short_inside then own = omega (arith, short, left_long, column_long, own)

    pub short_rest : (then last : ℕ) → then ≡ end + length (body_with (own_buffers (layout_in x) x.cells))
        → last ≡ then + length (body_with (parts_held inside).buffers)
        → last + length (body_with (parts_held (drop (i + 1) columns)).buffers) < 2 ^ 63
    short_rest then last own inner = omega (arith, short, left_long, column_long, own, inner)

-- ---- the columns appended to a text

module _ (columns : List Contents) (i : ℕ) where
  pub columns_appended : (x : Contents) → i < length columns → x ≡ slice_index_or columns i x → (inside : List Contents)
      → shapes_held inside ≡ shapes_in x → HaveInside (layout_in x) x.cells inside → (a b c whole : List ℕ)
      → b ≡ a ++ body_with (own_buffers (layout_in x) x.cells) → c ≡ b ++ body_with (parts_held inside).buffers
      → a ++ body_with (parts_held (drop i columns)).buffers ≡ whole → c ++ body_with (parts_held (drop (i + 1) columns)).buffers ≡ whole
  columns_appended x there is inside shapes have a b c whole own inner still =
      let rest : Parts = parts_held (drop (i + 1) columns) in
      let left = columns_next columns i x there is ∙ ap (λ p. both_parts p rest) (column_parts x inside shapes have) in
      appended_part a c whole (own_buffers (layout_in x) x.cells ++ (parts_held inside).buffers) rest.buffers
      (appended_both a b c (own_buffers (layout_in x) x.cells) (parts_held inside).buffers own inner)
      (ap (λ p. a ++ body_with p.buffers) (sym left) ∙ still)

  pub columns_end : (a whole : List ℕ) → length columns ≤ i → a ++ body_with (parts_held (drop i columns)).buffers ≡ whole → a ≡ whole
  columns_end a whole over still =
      sym (append-nil a) ∙ ap (λ l. a ++ body_with (parts_held l).buffers) (sym (drop_of_length-le columns over)) ∙ still

-- ---- a batch

pub parts_are : (schema : SchemaTree) (batch : Batch) → shapes_held batch.columns.items ≡ shapes_of schema.fields
    → canonical_parts schema (rows_of batch) ≡ parts_held batch.columns.items
parts_are schema batch shapes =
    ap (λ s. columns_parts s (columns_cells batch.columns.items)) (sym shapes) ∙ held_parts batch.columns.items

pub body_is : (schema : SchemaTree) (batch : Batch) → shapes_held batch.columns.items ≡ shapes_of schema.fields
    → canonical_body schema (rows_of batch) ≡ body_with (parts_held batch.columns.items).buffers
body_is schema batch shapes = ap (λ p. body_with p.buffers) (parts_are schema batch shapes)
