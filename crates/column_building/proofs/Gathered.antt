-- The slots of the columns inside, one slot of the column at a time.
use Rattle.std.proofs.Common.{◌≡◌, ℕ, zero, suc, ◌+◌, ◌<◌, ◌≤◌, true, Some, None, List, [], ◌∷◌, ◌++◌, map, length, take, get_or, replicate, refl, sym, ap, ap₂, ◌∙◌, subst, arith, length-append, append_assoc}
use Rattle.std.proofs.lemmas.List.{map_more, map_push, append-nil, length-map, length-replicate, length_push, take_all}
use Rattle.std.proofs.lemmas.List.Sums.{sum_by-cons}
use Rattle.std.proofs.lemmas.Grind.{flat_map-append}
use Rattle.std.proofs.lemmas.Bool.{false≢true}
use Rattle.std.specs.Option.{is_some}
use Rattle.std.specs.Slice.{IsItemAt}
use Rattle.std.specs.List.{AllByRecursion, flat_map, sum_by, range_with_len}
use Rattle.byteorder.specs.Endian.{little_bytes}
use Rattle.batch_types.specs.Cells.{Cell, null_cell, bit_cell, bytes_cell, list_cell, tuple_cell, no_cell, cells_of}
use Rattle.batch_types.specs.Canonical.{cells_in, nth_or, elements_or, elements_lengths, offsets_of}
use Rattle.batch_cells.specs.declared.cell.Cell.{Cell as Plain}
use Rattle.batch_cells.specs.CellViews.{cell_of}
use Rattle.column_building.specs.Slots.{Slot, slot_cell, slot_cells, elements_seen, elements_count, elements_counted}

-- ---- one slot after the other

module _ {X : Type 0} where
  -- what holds of all is so of one
  pub all_at : (P : Cell → Type 0) (f : X → Cell) (xs : List X) (k : ℕ) (d : X) → AllByRecursion P (map f xs) → k < length xs → P (f (get_or xs k d))
  all_at P f [] k d all within = absurd (omega (arith, within))
  all_at P f (x ∷ xs) zero d all within = all.0
  all_at P f (x ∷ xs) (suc k) d all within = all_at P f xs k d all.1 (omega (arith, within))

  pub all_item : (P : Cell → Type 0) (f : X → Cell) (xs : List X) (k : ℕ) (x : X) → AllByRecursion P (map f xs) → k < length xs → x ≡ get_or xs k x → P (f x)
  all_item P f xs k x all within is = subst (λ y. P (f y)) (sym is) (all_at P f xs k x all within)

-- one slot more
pub slots_more : (blank : Cell) (slots : List Slot) (k : ℕ) (x : Slot) → k < length slots → x ≡ get_or slots k x
    → slot_cells blank (take (k + 1) slots) ≡ slot_cells blank (take k slots) ++ slot_cell blank x ∷ []
slots_more blank slots k x within is =
    map_more (slot_cell blank) slots k x within ∙ ap (λ y. slot_cells blank (take k slots) ++ slot_cell blank y ∷ []) (sym is)

-- slots of which none is blank have the same cells whatever a blank one is
same_there : (x y : Cell) (slot : Slot) → is_some slot ≡ true → slot_cell x slot ≡ slot_cell y slot
same_there x y None there = absurd (false≢true there)
same_there x y (Some cell) there = refl

pub alike_more : (slots : List Slot) (k : ℕ) (slot : Slot) → k < length slots → slot ≡ get_or slots k slot → is_some slot ≡ true
    → ((x y : Cell) → slot_cells x (take k slots) ≡ slot_cells y (take k slots)) → (x y : Cell) → slot_cells x (take (k + 1) slots) ≡ slot_cells y (take (k + 1) slots)
alike_more slots k slot within is there alike x y =
    slots_more x slots k slot within is ∙ ap₂ (λ l c. l ++ c ∷ []) (alike x y) (same_there x y slot there) ∙ sym (slots_more y slots k slot within is)

pub alike_all : (slots : List Slot) (k : ℕ) → length slots ≤ k → ((x y : Cell) → slot_cells x (take k slots) ≡ slot_cells y (take k slots))
    → (x y : Cell) → slot_cells x slots ≡ slot_cells y slots
alike_all slots k end alike x y =
    ap (slot_cells x) (sym (take_all k slots end)) ∙ alike x y ∙ ap (slot_cells y) (take_all k slots end)

pub slots_pushed : (blank : Cell) (slots : List Slot) (slot : Slot) → slot_cells blank (slots ++ slot ∷ []) ≡ slot_cells blank slots ++ slot_cell blank slot ∷ []
slots_pushed blank slots slot = map_push (slot_cell blank) slots slot

pub slots_long : (blank : Cell) (slots : List Slot) → length (slot_cells blank slots) ≡ length slots
slots_long blank slots = length-map slots (slot_cell blank)

-- ---- elements, where so many blank ones stand under a null

listed_back : (cells : List Cell) → cells_in (cells_of cells) ≡ cells
listed_back [] = refl
listed_back (cell ∷ cells) = ap (λ l. cell ∷ l) (listed_back cells)

abbrev pub blank_list : ℕ → Cell → Cell
blank_list size blank = list_cell (cells_of (replicate size blank))

-- the elements of a blank list are blank
pub blank_elements : (size : ℕ) (blank : Cell) → elements_or (replicate size blank) (blank_list size blank) ≡ replicate size blank
blank_elements size blank = listed_back (replicate size blank)

any_blanks : (size : ℕ) (x y cell : Cell) → length (elements_or (replicate size x) cell) ≡ length (elements_or (replicate size y) cell)
any_blanks size x y null_cell = length-replicate size x ∙ sym (length-replicate size y)
any_blanks size x y (bit_cell bit) = length-replicate size x ∙ sym (length-replicate size y)
any_blanks size x y (bytes_cell bytes) = length-replicate size x ∙ sym (length-replicate size y)
any_blanks size x y (list_cell cells) = refl
any_blanks size x y (tuple_cell cells) = length-replicate size x ∙ sym (length-replicate size y)

one_counted : (size : ℕ) (blank : Cell) (slot : Slot) → length (elements_or (replicate size blank) (slot_cell (blank_list size blank) slot)) ≡ elements_count size slot
one_counted size blank None = ap length (blank_elements size blank) ∙ length-replicate size blank
one_counted size blank (Some cell) = any_blanks size blank null_cell (cell_of cell.now)

-- as many elements as are counted
pub elements_long : (size : ℕ) (blank : Cell) (slots : List Slot)
    → length (flat_map (elements_or (replicate size blank)) (slot_cells (blank_list size blank) slots)) ≡ elements_counted size slots
elements_long size blank [] = refl
elements_long size blank (slot ∷ slots) =
    length-append (elements_or (replicate size blank) (slot_cell (blank_list size blank) slot))
    (flat_map (elements_or (replicate size blank)) (slot_cells (blank_list size blank) slots))
    ∙ ap₂ (λ m n. m + n) (one_counted size blank slot) (elements_long size blank slots)
    ∙ sym (sum_by-cons (elements_count size) slot slots)

-- the elements of one slot more
pub elements_more : (size : ℕ) (blank : Cell) (slots : List Slot) (k : ℕ) (x : Slot) → k < length slots → x ≡ get_or slots k x → (made more : List Cell)
    → made ≡ flat_map (elements_or (replicate size blank)) (slot_cells (blank_list size blank) (take k slots))
    → more ≡ made ++ elements_or (replicate size blank) (slot_cell (blank_list size blank) x)
    → more ≡ flat_map (elements_or (replicate size blank)) (slot_cells (blank_list size blank) (take (k + 1) slots))
elements_more size blank slots k x within at made more is last =
    let f : Cell → List Cell = elements_or (replicate size blank) in
    let one : Cell = slot_cell (blank_list size blank) x in
    let before : List Cell = slot_cells (blank_list size blank) (take k slots) in
    last ∙ ap (λ l. l ++ f one) is ∙ ap (λ l. flat_map f before ++ l) (sym (append-nil (f one)))
    ∙ sym (flat_map-append f before (one ∷ []))
    ∙ ap (flat_map f) (sym (slots_more (blank_list size blank) slots k x within at))

-- ---- too many elements

-- ---- offsets

lengths_sum : (cells : List Cell) → sum_by (λ n. n) (elements_lengths cells) ≡ length (flat_map (elements_or []) cells)
lengths_sum [] = refl
lengths_sum (cell ∷ cells) =
    sum_by-cons (λ n. n) (length (elements_or [] cell)) (elements_lengths cells)
    ∙ ap (λ n. length (elements_or [] cell) + n) (lengths_sum cells)
    ∙ sym (length-append (elements_or [] cell) (flat_map (elements_or []) cells))

pub lists_sum : (slots : List Slot) → sum_by (λ n. n) (elements_lengths (slot_cells (list_cell no_cell) slots)) ≡ elements_counted 0 slots
lists_sum slots = lengths_sum (slot_cells (list_cell no_cell) slots) ∙ elements_long 0 null_cell slots

-- a function's lists in order are another's where the two agree
same_lists_on : (f g : ℕ → List ℕ) (start n : ℕ) → ((j : ℕ) → start ≤ j → j < start + n → f j ≡ g j)
    → flat_map f (range_with_len start n) ≡ flat_map g (range_with_len start n)
same_lists_on f g start zero same = refl
same_lists_on f g start (suc n) same =
    ap₂ (λ x y. x ++ y) (same start (omega arith) (omega arith))
    (same_lists_on f g (start + 1) n (λ j from within. same j (omega (arith, from)) (omega (arith, within))))

taken : (ns : List ℕ) (n j : ℕ) → j ≤ length ns → take j (ns ++ n ∷ []) ≡ take j ns
taken ns n zero within = refl
taken [] n (suc j) within = absurd (omega (arith, within))
taken (m ∷ ns) n (suc j) within = ap (λ rest. m ∷ rest) (taken ns n j (omega (arith, within)))

counting_more : (start n j : ℕ) → start + n ≡ j → range_with_len start (suc n) ≡ range_with_len start n ++ j ∷ []
counting_more start zero j e = let same : start ≡ j = omega (arith, e) in ap (λ k. k ∷ []) same
counting_more start (suc n) j e = ap (λ l. start ∷ l) (counting_more (start + 1) n j (omega (arith, e)))

-- one length more is one offset more
offsets_push : (ns : List ℕ) (n : ℕ) → offsets_of 4 (ns ++ n ∷ []) ≡ offsets_of 4 ns ++ little_bytes 4 (sum_by (λ x. x) (ns ++ n ∷ []))
offsets_push ns n =
    let more : ℕ → List ℕ = λ j. little_bytes 4 (sum_by (λ x. x) (take j (ns ++ n ∷ []))) in
    let less : ℕ → List ℕ = λ j. little_bytes 4 (sum_by (λ x. x) (take j ns)) in
    let count : ℕ = length ns + 1 in
    let longer : length (ns ++ n ∷ []) + 1 ≡ suc count = omega (arith, length_push ns n) in
    let end : 0 + count ≡ count = omega arith in
    ap (λ k. flat_map more (range_with_len 0 k)) longer
    ∙ ap (flat_map more) (counting_more 0 count count end)
    ∙ flat_map-append more (range_with_len 0 count) (count ∷ [])
    ∙ ap₂ (λ x y. x ++ y)
    (same_lists_on more less 0 count (λ j from within. ap (λ xs. little_bytes 4 (sum_by (λ x. x) xs)) (taken ns n j (omega (arith, within)))))
    (append-nil (more count)
    ∙ ap (λ xs. little_bytes 4 (sum_by (λ x. x) xs)) (take_all count (ns ++ n ∷ []) (omega (arith, length_push ns n))))

-- the offsets of one slot more, where these are the elements with it
pub offsets_more : (slots : List Slot) (k : ℕ) (x : Slot) → k < length slots → x ≡ get_or slots k x → (offsets more : List ℕ) (elements : List Slot)
    → offsets ≡ offsets_of 4 (elements_lengths (slot_cells (list_cell no_cell) (take k slots)))
    → slot_cells null_cell elements ≡ flat_map (elements_or []) (slot_cells (list_cell no_cell) (take (k + 1) slots))
    → more ≡ offsets ++ little_bytes 4 (length elements)
    → more ≡ offsets_of 4 (elements_lengths (slot_cells (list_cell no_cell) (take (k + 1) slots)))
offsets_more slots k x within at offsets more elements is all last =
    let one : Cell = slot_cell (list_cell no_cell) x in
    let before : List Cell = slot_cells (list_cell no_cell) (take k slots) in
    let whole : List Cell = slot_cells (list_cell no_cell) (take (k + 1) slots) in
    let lengths : elements_lengths whole ≡ elements_lengths before ++ length (elements_or [] one) ∷ [] =
    ap elements_lengths (slots_more (list_cell no_cell) slots k x within at) ∙ map_push (λ c. length (elements_or [] c)) before one in
    let long : length elements ≡ sum_by (λ x. x) (elements_lengths before ++ length (elements_or [] one) ∷ []) =
    sym (slots_long null_cell elements) ∙ ap length all ∙ sym (lengths_sum whole) ∙ ap (sum_by (λ x. x)) lengths in
    last ∙ ap₂ (λ x n. x ++ little_bytes 4 n) is long
    ∙ sym (offsets_push (elements_lengths before) (length (elements_or [] one)))
    ∙ ap (offsets_of 4) (sym lengths)

-- ---- one cell

-- what is seen of a cell's elements
pub seen_elements : (blank : List Cell) (cell : Cell) (elements : List Plain) → cell ≡ list_cell (cells_of (map cell_of elements))
    → elements_or blank cell ≡ map cell_of elements
seen_elements blank cell elements seen = ap (elements_or blank) seen ∙ listed_back (map cell_of elements)

pub seen_blanks : (blank : List Cell) (cell : Cell) → elements_seen cell ≡ None → elements_or blank cell ≡ blank
seen_blanks blank null_cell seen = refl
seen_blanks blank (bit_cell bit) seen = refl
seen_blanks blank (bytes_cell bytes) seen = refl
seen_blanks blank (list_cell cells) seen = absurd (cc)
seen_blanks blank (tuple_cell cells) seen = refl

-- one cell more
pub cells_more : (blank : Cell) (slots more : List Slot) (slot : Slot) (cells : List Plain) (k : ℕ) (x : Plain) (before : List Cell) → k < length cells
    → x ≡ get_or cells k x → slot_cell blank slot ≡ cell_of x → more ≡ slots ++ slot ∷ [] → slot_cells blank slots ≡ before ++ map cell_of (take k cells)
    → slot_cells blank more ≡ before ++ map cell_of (take (k + 1) cells)
cells_more blank slots more slot cells k x before within is seen last all =
    ap (slot_cells blank) last ∙ slots_pushed blank slots slot ∙ ap₂ (λ l c. l ++ c ∷ []) all (seen ∙ ap cell_of is)
    ∙ append_assoc before (map cell_of (take k cells)) (cell_of (get_or cells k x) ∷ [])
    ∙ ap (λ l. before ++ l) (sym (map_more cell_of cells k x within))

-- the field of a tuple
nth_past : (cells : List Plain) (k : ℕ) (blank : Cell) → length cells ≤ k → nth_or blank (cells_of (map cell_of cells)) k ≡ blank
nth_past [] k blank past = refl
nth_past (cell ∷ cells) zero blank past = absurd (omega (arith, past))
nth_past (cell ∷ cells) (suc k) blank past = nth_past cells k blank (omega (arith, past))

nth_there : (cells : List Plain) (k : ℕ) (x : Plain) (blank : Cell) → k < length cells → x ≡ get_or cells k x → nth_or blank (cells_of (map cell_of cells)) k ≡ cell_of x
nth_there [] k x blank there is = absurd (omega (arith, there))
nth_there (cell ∷ cells) zero x blank there is = ap cell_of (sym is)
nth_there (cell ∷ cells) (suc k) x blank there is = nth_there cells k x blank (omega (arith, there)) is

pub field_got : (cells : List Plain) (k : ℕ) (got : Slot) (blank : Cell) → IsItemAt cells k got → slot_cell blank got ≡ nth_or blank (cells_of (map cell_of cells)) k
field_got cells k None blank item = sym (nth_past cells k blank item.3)
field_got cells k (Some x) blank item = sym (nth_there cells k x.now blank item.3.0 item.1)
