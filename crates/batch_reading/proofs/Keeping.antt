-- Columns that are built of selected cells keep what a column keeps.
use Rattle.std.proofs.Common.{◌≡◌, inl, inr, refl, sym, ap, ap₂, subst, ◌∙◌, ℕ, ◌+◌, ◌*◌, ◌^◌, ◌<◌, ◌==◌, ◌||◌, ◌&&◌, Bool, true, false, not, if◌then◌else◌, List, [], ◌∷◌, ◌++◌, map, length, replicate}
use Rattle.std.proofs.lemmas.List.Sums.{sum_by-cons}
use Rattle.std.proofs.lemmas.Simd.{map-map}
use Rattle.std.specs.List.{AllByRecursion, flat_map, sum_by}
use Rattle.bitmaps.specs.Bits.{bit_of, zeros}
use Rattle.bitmaps.specs.Packing.{packed_bytes}
use Rattle.batch_types.specs.Cells.{Cell, null_cell, bit_cell, bytes_cell}
use Rattle.batch_types.specs.Layouts.{Layout, null_layout, bits_layout, bytes_layout, binary_layout, utf8_layout}
use Rattle.batch_types.specs.Shapes.{shape, no_shape}
use Rattle.batch_types.specs.Placed.{bytes_from, value_bytes}
use Rattle.batch_types.specs.Canonical.{is_null, nulls_of, validity_of, bit_in, bytes_or, bytes_lengths, offsets_of}
use Rattle.batch_types.specs.Typed.{IsCellOf}
use Rattle.batch_columns.specs.Contents.{Contents}
use Rattle.batch_columns.specs.Held.{shapes_held}
use Rattle.batch_columns.specs.Kept.{IsKept}
use Rattle.batch_columns.specs.Made.{validity_bytes}
use Rattle.batch_reading.specs.Spots.{Spot}
use Rattle.batch_reading.specs.Spread.{IsSpread}
use Rattle.batch_reading.specs.Taken.{valid_in, is_shown, seen, bit_taken, block_taken, span_taken}
use Rattle.batch_reading.specs.Built.{cell_wanted, flat_cells}

-- ---- nulls alone

pub all_null : (spots : List Spot) → flat_cells null_layout [] [] [] spots ≡ replicate (length spots) null_cell
all_null [] = refl
all_null (spot ∷ spots) = ap₂ (λ cell cells. cell ∷ cells) (one spot.1) (all_null spots)
  where
    one : (mark : Bool) → (if mark then null_cell else null_cell) ≡ null_cell
    one true = refl
    one false = refl

-- ---- what is null, and what is taken

module _ (validity : List ℕ) (value : ℕ → Cell) (blank : Cell) (values : (j : ℕ) → is_null (value j) ≡ false) (whole : is_null blank ≡ false) where
  abbrev here : ℕ → Cell
  here j = if valid_in validity j then value j else null_cell

  abbrev pub built : Spot → Cell
  built spot = cell_wanted here blank spot

  shown_one : (j : ℕ) (mark valid : Bool) → not (is_null (if mark then (if valid then value j else null_cell) else blank)) ≡ not mark || valid
  shown_one j true true = ap not (values j)
  shown_one j true false = refl
  shown_one j false valid = ap not whole

  shown_all : (spots : List Spot) → map (λ cell. not (is_null cell)) (map built spots) ≡ map (is_shown validity) spots
  shown_all [] = refl
  shown_all (spot ∷ spots) = ap₂ (λ b bs. b ∷ bs) (shown_one spot.0 spot.1 (valid_in validity spot.0)) (shown_all spots)

  pub nulls_built : (spots : List Spot) → nulls_of (map built spots) ≡ zeros (map (is_shown validity) spots)
  nulls_built [] = refl
  nulls_built (spot ∷ spots) =
      sum_by-cons (λ x. if is_null x then 1 else 0) (built spot) (map built spots)
      ∙ ap₂ (λ test n. (if test then 1 else 0) + n) (twice (is_null (built spot)) ∙ ap not (shown_one spot.0 spot.1 (valid_in validity spot.0))) (nulls_built spots)
      ∙ sym (sum_by-cons (λ bit. if not bit then 1 else 0) (is_shown validity spot) (map (is_shown validity) spots))
    where
      twice : (b : Bool) → b ≡ not (not b)
      twice true = refl
      twice false = refl

  pub validity_built : (spots : List Spot) → validity_of (map built spots) ≡ validity_bytes (map (is_shown validity) spots)
  validity_built spots = ap₂ (λ n bits. if n == 0 then [] else packed_bytes bits) (nulls_built spots) (shown_all spots)

  -- what is seen of a cell, where a null and a blank one show this
  module _ {X : Type 0} (g : Cell → X) (other : X) (of_null : g null_cell ≡ other) (of_blank : g blank ≡ other) where
    one_taken : (j : ℕ) (mark valid : Bool) → g (if mark then (if valid then value j else null_cell) else blank) ≡ (if mark && valid then g (value j) else other)
    one_taken j true true = refl
    one_taken j true false = of_null
    one_taken j false valid = of_blank

    pub mapped_taken : (spots : List Spot) → map g (map built spots) ≡ map (λ spot. if spot.1 then g (value spot.0) else other) (map (seen validity) spots)
    mapped_taken [] = refl
    mapped_taken (spot ∷ spots) = ap₂ (λ x xs. x ∷ xs) (one_taken spot.0 spot.1 (valid_in validity spot.0)) (mapped_taken spots)

-- lists in order, by the list of them
pub gathered_by : {X Y : Type 0} (f : X → List Y) (g : Cell → List Y) (cells : List Cell) (xs : List X) → map g cells ≡ map f xs → flat_map g cells ≡ flat_map f xs
gathered_by f g cells xs same = joined g cells ∙ ap (flat_map (λ l. l)) same ∙ sym (joined f xs)
  where
    joined : {Z W : Type 0} (h : Z → List W) (zs : List Z) → flat_map h zs ≡ flat_map (λ l. l) (map h zs)
    joined h [] = refl
    joined h (z ∷ zs) = ap (λ l. h z ++ l) (joined h zs)

-- ---- no columns inside

flat_inside : (inside : List Contents) → inside ≡ [] → no_shape ≡ shapes_held inside
flat_inside inside none = ap shapes_held (sym none)

-- ---- bits

pub bits_kept : (validity values : List ℕ) (spots taken : List Spot) (nulls : ℕ) (made ends bits : List ℕ) (inside : List Contents)
    → AllByRecursion (IsCellOf (shape bits_layout no_shape)) (flat_cells bits_layout validity [] values spots)
    → taken ≡ map (seen validity) spots
    → nulls ≡ zeros (map (is_shown validity) spots) → made ≡ validity_bytes (map (is_shown validity) spots)
    → ends ≡ [] → bits ≡ packed_bytes (map (bit_taken values false) taken) → inside ≡ []
    → IsKept bits_layout (flat_cells bits_layout validity [] values spots) nulls made ends bits inside
bits_kept validity values spots taken nulls made ends bits inside fit t n v e s i =
    let value : ℕ → Cell = λ j. bit_cell (bit_of values j) in
    record {
      nulls_counted = n ∙ sym (nulls_built validity value (bit_cell false) (λ j. refl) refl spots);
      validity_kept = v ∙ sym (validity_built validity value (bit_cell false) (λ j. refl) refl spots);
      offsets_kept = e;
      values_kept =
          s ∙ ap (λ l. packed_bytes (map (bit_taken values false) l)) t
          ∙ ap packed_bytes (sym (mapped_taken validity value (bit_cell false) (λ j. refl) refl bit_in false refl refl spots));
      fit = subst (λ x. AllByRecursion (IsCellOf (shape bits_layout x)) (flat_cells bits_layout validity [] values spots)) (flat_inside inside i) fit;
      held_inside = i;
      room = tt;
    }

-- ---- bytes of one size

pub blocks_kept : (size : ℕ) (validity values : List ℕ) (spots taken : List Spot) (nulls : ℕ) (made ends blocks : List ℕ) (inside : List Contents)
    → AllByRecursion (IsCellOf (shape (bytes_layout size) no_shape)) (flat_cells (bytes_layout size) validity [] values spots)
    → taken ≡ map (seen validity) spots
    → nulls ≡ zeros (map (is_shown validity) spots) → made ≡ validity_bytes (map (is_shown validity) spots)
    → ends ≡ [] → blocks ≡ flat_map (block_taken size values) taken → inside ≡ []
    → IsKept (bytes_layout size) (flat_cells (bytes_layout size) validity [] values spots) nulls made ends blocks inside
blocks_kept size validity values spots taken nulls made ends blocks inside fit t n v e s i =
    let value : ℕ → Cell = λ j. bytes_cell (bytes_from values (size * j) size) in
    let blank : Cell = bytes_cell (replicate size 0) in
    record {
      nulls_counted = n ∙ sym (nulls_built validity value blank (λ j. refl) refl spots);
      validity_kept = v ∙ sym (validity_built validity value blank (λ j. refl) refl spots);
      offsets_kept = e;
      values_kept =
          s ∙ ap (flat_map (block_taken size values)) t
          ∙ sym (gathered_by (block_taken size values) (bytes_or (replicate size 0)) (flat_cells (bytes_layout size) validity [] values spots) (map (seen validity) spots)
          (mapped_taken validity value blank (λ j. refl) refl (bytes_or (replicate size 0)) (replicate size 0) refl refl spots));
      fit = subst (λ x. AllByRecursion (IsCellOf (shape (bytes_layout size) x)) (flat_cells (bytes_layout size) validity [] values spots)) (flat_inside inside i) fit;
      held_inside = i;
      room = tt;
    }

-- ---- bytes of any number

pub binary_kept : (validity offsets values : List ℕ) (spots taken : List Spot) (nulls : ℕ) (made ends spans : List ℕ) (inside : List Contents)
    → AllByRecursion (IsCellOf (shape (binary_layout 4) no_shape)) (flat_cells (binary_layout 4) validity offsets values spots)
    → taken ≡ map (seen validity) spots
    → sum_by (λ n. n) (map (λ spot. length (span_taken offsets values spot)) taken) < 2 ^ 31
    → nulls ≡ zeros (map (is_shown validity) spots) → made ≡ validity_bytes (map (is_shown validity) spots)
    → ends ≡ offsets_of 4 (map (λ spot. length (span_taken offsets values spot)) taken) → spans ≡ flat_map (span_taken offsets values) taken
    → inside ≡ []
    → IsKept (binary_layout 4) (flat_cells (binary_layout 4) validity offsets values spots) nulls made ends spans inside
binary_kept validity offsets values spots taken nulls made ends spans inside fit t room n v s e i =
    let value : ℕ → Cell = λ j. bytes_cell (value_bytes 4 offsets values j) in
    let pieces : map (bytes_or []) (flat_cells (binary_layout 4) validity offsets values spots) ≡ map (span_taken offsets values) taken =
    mapped_taken validity value (bytes_cell []) (λ j. refl) refl (bytes_or []) [] refl refl spots ∙ ap (map (span_taken offsets values)) (sym t) in
    let lengths : bytes_lengths (flat_cells (binary_layout 4) validity offsets values spots) ≡ map (λ spot. length (span_taken offsets values spot)) taken =
    sym (map-map (λ l. length l) (bytes_or []) (flat_cells (binary_layout 4) validity offsets values spots))
    ∙ ap (map (λ l. length l)) pieces ∙ map-map (λ l. length l) (span_taken offsets values) taken in
    record {
      nulls_counted = n ∙ sym (nulls_built validity value (bytes_cell []) (λ j. refl) refl spots);
      validity_kept = v ∙ sym (validity_built validity value (bytes_cell []) (λ j. refl) refl spots);
      offsets_kept = s ∙ ap (offsets_of 4) (sym lengths);
      values_kept =
          e ∙ sym (gathered_by (span_taken offsets values) (bytes_or []) (flat_cells (binary_layout 4) validity offsets values spots) taken pieces);
      fit = subst (λ x. AllByRecursion (IsCellOf (shape (binary_layout 4) x)) (flat_cells (binary_layout 4) validity offsets values spots)) (flat_inside inside i) fit;
      held_inside = i;
      room = subst (λ l. sum_by (λ n. n) l < 2 ^ 31) (sym lengths) room;
    }

-- a text is bytes but for what it has to be
pub spread_kept : (layout : Layout) → IsSpread layout → (validity offsets values : List ℕ) (spots taken : List Spot) (nulls : ℕ) (made ends spans : List ℕ)
    (inside : List Contents)
    → AllByRecursion (IsCellOf (shape layout no_shape)) (flat_cells layout validity offsets values spots)
    → taken ≡ map (seen validity) spots
    → sum_by (λ n. n) (map (λ spot. length (span_taken offsets values spot)) taken) < 2 ^ 31
    → nulls ≡ zeros (map (is_shown validity) spots) → made ≡ validity_bytes (map (is_shown validity) spots)
    → ends ≡ offsets_of 4 (map (λ spot. length (span_taken offsets values spot)) taken) → spans ≡ flat_map (span_taken offsets values) taken
    → inside ≡ []
    → IsKept layout (flat_cells layout validity offsets values spots) nulls made ends spans inside
spread_kept layout (inl is) validity offsets values spots taken nulls made ends spans inside fit t room n v s e i =
    subst (λ l. IsKept l (flat_cells l validity offsets values spots) nulls made ends spans inside) (sym is)
    (binary_kept validity offsets values spots taken nulls made ends spans inside
    (subst (λ l. AllByRecursion (IsCellOf (shape l no_shape)) (flat_cells l validity offsets values spots)) is fit) t room n v s e i)
spread_kept layout (inr is) validity offsets values spots taken nulls made ends spans inside fit t room n v s e i =
    subst (λ l. IsKept l (flat_cells l validity offsets values spots) nulls made ends spans inside) (sym is)
    (utf8_kept (subst (λ l. AllByRecursion (IsCellOf (shape l no_shape)) (flat_cells l validity offsets values spots)) is fit))
  where
    utf8_kept : AllByRecursion (IsCellOf (shape (utf8_layout 4) no_shape)) (flat_cells (utf8_layout 4) validity offsets values spots)
        → IsKept (utf8_layout 4) (flat_cells (utf8_layout 4) validity offsets values spots) nulls made ends spans inside
    utf8_kept text =
        let bare : IsKept (binary_layout 4) (flat_cells (binary_layout 4) validity offsets values spots) nulls made ends spans inside =
        binary_kept validity offsets values spots taken nulls made ends spans inside (any_bytes spots) t room n v s e i in
        record {
          nulls_counted = bare.nulls_counted;
          validity_kept = bare.validity_kept;
          offsets_kept = bare.offsets_kept;
          values_kept = bare.values_kept;
          fit = subst (λ x. AllByRecursion (IsCellOf (shape (utf8_layout 4) x)) (flat_cells (utf8_layout 4) validity offsets values spots)) (flat_inside inside i) text;
          held_inside = i;
          room = bare.room;
        }
      where
        one : (j : ℕ) (mark valid : Bool)
            → IsCellOf (shape (binary_layout 4) no_shape) (if mark then (if valid then bytes_cell (value_bytes 4 offsets values j) else null_cell) else bytes_cell [])
        one j true true = tt
        one j true false = tt
        one j false valid = tt

        any_bytes : (spots : List Spot) → AllByRecursion (IsCellOf (shape (binary_layout 4) no_shape)) (flat_cells (binary_layout 4) validity offsets values spots)
        any_bytes [] = tt
        any_bytes (spot ∷ spots) = (one spot.0 spot.1 (valid_in validity spot.0), any_bytes spots)
