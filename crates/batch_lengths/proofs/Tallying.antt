-- Tables of what was counted, one addition after the other.
use Rattle.std.proofs.Common.{◌≡◌, refl, sym, ap, ap₂, subst, ◌∙◌, ℕ, zero, suc, ◌+◌, ◌-◌, ◌^◌, ◌<◌, ◌≤◌, min, max, ◌||◌, ◌==◌, Bool, true, false, not, List, [], ◌∷◌, ◌++◌, map, length, take, drop, get_or, replicate, arith, length-append}
use Rattle.std.proofs.Math.ListN.{set}
use Rattle.batch_types.specs.Laid.{Node, Range, LaidColumn, laid, LaidColumns, no_column, column_then, node_count}
use Rattle.batch_types.specs.Layouts.{layout_of, buffers_in_layout}
use Rattle.batch_types.specs.Placed.{buffer_at}
use Rattle.header_types.specs.Fields.{Tree, tree, Forest, no_more, more}
use Rattle.batch_columns.specs.Read.{offsets_at}
use Rattle.batch_columns.specs.Sources.{nodes_of_tree, buffers_of_tree, column_from, columns_from}
use Rattle.batch_reading.specs.Spots.{Spot}
use Rattle.batch_reading.specs.Taken.{seen}
use Rattle.batch_reading.specs.Planned.{spots_inside}
use Rattle.batch_lengths.specs.declared.counted.Counted.{Counted}
use Rattle.batch_lengths.specs.Tally.{tally_of, tally, plus, added, added_from, BeginsWith}
use Rattle.batch_lengths.proofs.Parts.{nulls_both, spans_both, inside_both}
use Rattle.batch_lengths.proofs.Blanks.{AreBlank, inside_blank, seen_blank, no_nulls, no_spans_blank}
use Rattle.std.proofs.lemmas.List.{map-append}

-- ---- sums

or_assoc : (a b c : Bool) → ((a || b) || c) ≡ (a || (b || c))
or_assoc true b c = refl
or_assoc false b c = refl

or_none : (a : Bool) → (a || false) ≡ a
or_none true = refl
or_none false = refl

most_twice : (most c a b : ℕ) → max (max c (min (c + a) most)) (min (max c (min (c + a) most) + b) most) ≡ max c (min (c + (a + b)) most)
most_twice most c a b = omega arith

most_none : (most c : ℕ) → max c (min (c + 0) most) ≡ c
most_none most c = omega arith

plus_both : (x a b c : Counted) → c.has_null ≡ (a.has_null || b.has_null) → c.total ≡ a.total + b.total → plus (plus x a) b ≡ plus x c
plus_both x a b c nulls totals =
    ap₂ (λ n t. let r : Counted = record { has_null = n; total = t } in r)
    (or_assoc x.has_null a.has_null b.has_null ∙ ap (λ n. x.has_null || n) (sym nulls))
    (most_twice (2 ^ 64 - 1) x.total a.total b.total ∙ ap (λ t. max x.total (min (x.total + t) (2 ^ 64 - 1))) (sym totals))

plus_none : (x a : Counted) → a.has_null ≡ false → a.total ≡ 0 → plus x a ≡ x
plus_none x a nulls totals =
    ap₂ (λ n t. let r : Counted = record { has_null = n; total = t } in r)
    (ap (λ n. x.has_null || n) nulls ∙ or_none x.has_null)
    (ap (λ t. max x.total (min (x.total + t) (2 ^ 64 - 1))) totals ∙ most_none (2 ^ 64 - 1) x.total)

-- ---- tables

pub added_long : (table ys : List Counted) → length ys ≤ length table → length (added table ys) ≡ length table
added_long table [] fits = refl
added_long [] (y ∷ ys) fits = absurd (omega (arith, fits))
added_long (x ∷ xs) (y ∷ ys) fits = ap suc (added_long xs ys (omega (arith, fits)))

pub from_long : (n : ℕ) (table ys : List Counted) → n + length ys ≤ length table → length (added_from n table ys) ≡ length table
from_long zero table ys fits = added_long table ys (omega (arith, fits))
from_long (suc n) [] ys fits = absurd (omega (arith, fits))
from_long (suc n) (x ∷ xs) ys fits = ap suc (from_long n xs ys (omega (arith, fits)))

pub from_none : (n : ℕ) (table : List Counted) → added_from n table [] ≡ table
from_none zero table = refl
from_none (suc n) [] = refl
from_none (suc n) (x ∷ xs) = ap (λ l. x ∷ l) (from_none n xs)

-- the first of them alone
pub from_first : (n : ℕ) (table : List Counted) (d y : Counted) (ys : List Counted) → n < length table
    → added_from n table (y ∷ ys) ≡ added_from (suc n) (set table n (plus (get_or table n d) y)) ys
from_first zero [] d y ys there = absurd (omega (arith, there))
from_first zero (x ∷ xs) d y ys there = refl
from_first (suc n) [] d y ys there = absurd (omega (arith, there))
from_first (suc n) (x ∷ xs) d y ys there = ap (λ l. x ∷ l) (from_first n xs d y ys (omega (arith, there)))

-- in two parts
added_parts : (table ys zs : List Counted) → length ys ≤ length table → added table (ys ++ zs) ≡ added_from (length ys) (added table ys) zs
added_parts table [] zs fits = refl
added_parts [] (y ∷ ys) zs fits = absurd (omega (arith, fits))
added_parts (x ∷ xs) (y ∷ ys) zs fits = ap (λ l. plus x y ∷ l) (added_parts xs ys zs (omega (arith, fits)))

pub from_parts : (n m : ℕ) (table ys zs : List Counted) → m ≡ n + length ys → m ≤ length table
    → added_from n table (ys ++ zs) ≡ added_from m (added_from n table ys) zs
from_parts zero m table ys zs is fits =
    let same : length ys ≡ m = omega (arith, is) in
    added_parts table ys zs (omega (arith, is, fits)) ∙ ap (λ k. added_from k (added table ys) zs) same
from_parts (suc n) zero table ys zs is fits = absurd (omega (arith, is))
from_parts (suc n) (suc m) [] ys zs is fits = absurd (omega (arith, fits))
from_parts (suc n) (suc m) (x ∷ xs) ys zs is fits = ap (λ l. x ∷ l) (from_parts n m xs ys zs (omega (arith, is)) (omega (arith, fits)))

-- ---- twice

-- each of the last is what the first two are together
abbrev AreSums : List Counted → List Counted → List Counted → Type 0
AreSums [] [] [] = Unit {0}
AreSums [] [] (c ∷ rs) = ⊥
AreSums [] (b ∷ qs) rs = ⊥
AreSums (a ∷ ps) [] rs = ⊥
AreSums (a ∷ ps) (b ∷ qs) [] = ⊥
AreSums (a ∷ ps) (b ∷ qs) (c ∷ rs) = (c.has_null ≡ (a.has_null || b.has_null)) × (c.total ≡ a.total + b.total) × AreSums ps qs rs

sums_both : (ps qs rs us vs ws : List Counted) → AreSums ps qs rs → AreSums us vs ws → AreSums (ps ++ us) (qs ++ vs) (rs ++ ws)
sums_both [] [] [] us vs ws first next = next
sums_both [] [] (c ∷ rs) us vs ws first next = absurd first
sums_both [] (b ∷ qs) rs us vs ws first next = absurd first
sums_both (a ∷ ps) [] rs us vs ws first next = absurd first
sums_both (a ∷ ps) (b ∷ qs) [] us vs ws first next = absurd first
sums_both (a ∷ ps) (b ∷ qs) (c ∷ rs) us vs ws first next = (first.0, first.1, sums_both ps qs rs us vs ws first.2 next)

added_sums : (table ps qs rs : List Counted) → AreSums ps qs rs → added (added table ps) qs ≡ added table rs
added_sums table [] [] [] sums = refl
added_sums table [] [] (c ∷ rs) sums = absurd sums
added_sums table [] (b ∷ qs) rs sums = absurd sums
added_sums table (a ∷ ps) [] rs sums = absurd sums
added_sums table (a ∷ ps) (b ∷ qs) [] sums = absurd sums
added_sums [] (a ∷ ps) (b ∷ qs) (c ∷ rs) sums = refl
added_sums (x ∷ xs) (a ∷ ps) (b ∷ qs) (c ∷ rs) sums = ap₂ (λ y ys. y ∷ ys) (plus_both x a b c sums.0 sums.1) (added_sums xs ps qs rs sums.2)

from_sums : (n : ℕ) (table ps qs rs : List Counted) → AreSums ps qs rs → added_from n (added_from n table ps) qs ≡ added_from n table rs
from_sums zero table ps qs rs sums = added_sums table ps qs rs sums
from_sums (suc n) [] ps qs rs sums = refl
from_sums (suc n) (x ∷ xs) ps qs rs sums = ap (λ l. x ∷ l) (from_sums n xs ps qs rs sums)

mutual
  column_sums : (body : List ℕ) (column : LaidColumn) (xs ys : List Spot) → AreSums (tally_of body column xs) (tally_of body column ys) (tally_of body column (xs ++ ys))
  column_sums body (laid layout node ranges inner) xs ys = (
    nulls_both (buffer_at body ranges 0) xs ys,
    spans_both layout (offsets_at body layout ranges) (buffer_at body ranges 0) xs ys,
    subst (AreSums (tally body inner (spots_inside layout (offsets_at body layout ranges) (map (seen (buffer_at body ranges 0)) xs)))
        (tally body inner (spots_inside layout (offsets_at body layout ranges) (map (seen (buffer_at body ranges 0)) ys))))
        (ap (tally body inner) (sym (ap (spots_inside layout (offsets_at body layout ranges)) (map-append (seen (buffer_at body ranges 0)) xs ys)
        ∙ inside_both layout (offsets_at body layout ranges) (map (seen (buffer_at body ranges 0)) xs) (map (seen (buffer_at body ranges 0)) ys))))
        (columns_sums body inner (spots_inside layout (offsets_at body layout ranges) (map (seen (buffer_at body ranges 0)) xs))
        (spots_inside layout (offsets_at body layout ranges) (map (seen (buffer_at body ranges 0)) ys))),
  )

  columns_sums : (body : List ℕ) (columns : LaidColumns) (xs ys : List Spot) → AreSums (tally body columns xs) (tally body columns ys) (tally body columns (xs ++ ys))
  columns_sums body no_column xs ys = tt
  columns_sums body (column_then column rest) xs ys =
      sums_both (tally_of body column xs) (tally_of body column ys) (tally_of body column (xs ++ ys))
      (tally body rest xs) (tally body rest ys) (tally body rest (xs ++ ys)) (column_sums body column xs ys) (columns_sums body rest xs ys)

pub from_both : (n : ℕ) (table : List Counted) (body : List ℕ) (columns : LaidColumns) (xs ys : List Spot)
    → added_from n (added_from n table (tally body columns xs)) (tally body columns ys) ≡ added_from n table (tally body columns (xs ++ ys))
from_both n table body columns xs ys =
    from_sums n table (tally body columns xs) (tally body columns ys) (tally body columns (xs ++ ys)) (columns_sums body columns xs ys)

-- ---- nothing

abbrev AreNothing : List Counted → Type 0
AreNothing [] = Unit {0}
AreNothing (a ∷ ps) = (a.has_null ≡ false) × (a.total ≡ 0) × AreNothing ps

nothing_both : (ps qs : List Counted) → AreNothing ps → AreNothing qs → AreNothing (ps ++ qs)
nothing_both [] qs first next = next
nothing_both (a ∷ ps) qs first next = (first.0, first.1, nothing_both ps qs first.2 next)

added_nothing : (table ps : List Counted) → length ps ≤ length table → AreNothing ps → added table ps ≡ table
added_nothing table [] fits none = refl
added_nothing [] (a ∷ ps) fits none = absurd (omega (arith, fits))
added_nothing (x ∷ xs) (a ∷ ps) fits none = ap₂ (λ y ys. y ∷ ys) (plus_none x a none.0 none.1) (added_nothing xs ps (omega (arith, fits)) none.2)

from_nothing : (n : ℕ) (table ps : List Counted) → n + length ps ≤ length table → AreNothing ps → added_from n table ps ≡ table
from_nothing zero table ps fits none = added_nothing table ps (omega (arith, fits)) none
from_nothing (suc n) [] ps fits none = absurd (omega (arith, fits))
from_nothing (suc n) (x ∷ xs) ps fits none = ap (λ l. x ∷ l) (from_nothing n xs ps (omega (arith, fits)) none)

mutual
  column_nothing : (body : List ℕ) (column : LaidColumn) (spots : List Spot) → AreBlank spots → AreNothing (tally_of body column spots)
  column_nothing body (laid layout node ranges inner) spots blank = (
    ap (λ n. not (n == 0)) (no_nulls (buffer_at body ranges 0) spots blank),
    no_spans_blank layout (offsets_at body layout ranges) (map (seen (buffer_at body ranges 0)) spots) (seen_blank (buffer_at body ranges 0) spots blank),
    columns_nothing body inner (spots_inside layout (offsets_at body layout ranges) (map (seen (buffer_at body ranges 0)) spots))
        (inside_blank layout (offsets_at body layout ranges) (map (seen (buffer_at body ranges 0)) spots) (seen_blank (buffer_at body ranges 0) spots blank)),
  )

  columns_nothing : (body : List ℕ) (columns : LaidColumns) (spots : List Spot) → AreBlank spots → AreNothing (tally body columns spots)
  columns_nothing body no_column spots blank = tt
  columns_nothing body (column_then column rest) spots blank =
      nothing_both (tally_of body column spots) (tally body rest spots) (column_nothing body column spots blank) (columns_nothing body rest spots blank)

pub from_blank : (n : ℕ) (table : List Counted) (body : List ℕ) (columns : LaidColumns) (spots : List Spot) → n + length (tally body columns spots) ≤ length table
    → AreBlank spots → added_from n table (tally body columns spots) ≡ table
from_blank n table body columns spots fits blank = from_nothing n table (tally body columns spots) fits (columns_nothing body columns spots blank)

-- ---- as many as nodes

mutual
  pub tally_of_long : (body : List ℕ) (t : Tree) (nodes : List Node) (ranges : List Range) (spots : List Spot)
      → length (tally_of body (column_from t nodes ranges) spots) ≡ nodes_of_tree t
  tally_of_long body (tree field entries inside) nodes ranges spots =
      omega (
        arith,
        tally_long body inside (drop 1 nodes) (drop (buffers_in_layout (layout_of field.data_type)) ranges)
            (spots_inside (layout_of field.data_type) (offsets_at body (layout_of field.data_type) (take (buffers_in_layout (layout_of field.data_type)) ranges))
            (map (seen (buffer_at body (take (buffers_in_layout (layout_of field.data_type)) ranges) 0)) spots)),
      )

  pub tally_long : (body : List ℕ) (f : Forest) (nodes : List Node) (ranges : List Range) (spots : List Spot)
      → length (tally body (columns_from f nodes ranges) spots) ≡ node_count f
  tally_long body no_more nodes ranges spots = refl
  tally_long body (more t rest) nodes ranges spots =
      omega (
        arith,
        length-append (tally_of body (column_from t nodes ranges) spots)
            (tally body (columns_from rest (drop (nodes_of_tree t) nodes) (drop (buffers_of_tree t) ranges)) spots),
        tally_of_long body t nodes ranges spots,
        tally_long body rest (drop (nodes_of_tree t) nodes) (drop (buffers_of_tree t) ranges) spots,
      )

-- ---- from nothing on

abbrev none : Counted
none = record { has_null = false; total = 0 }

least_most : (most n : ℕ) → max 0 (min (0 + n) most) ≡ min n most
least_most most n = omega arith

fresh_begins : (n : ℕ) (ys : List Counted) → length ys ≤ n → BeginsWith (added (replicate n none) ys) ys
fresh_begins n [] fits = tt
fresh_begins zero (y ∷ ys) fits = absurd (omega (arith, fits))
fresh_begins (suc n) (y ∷ ys) fits = (refl, least_most (2 ^ 64 - 1) y.total, fresh_begins n ys (omega (arith, fits)))

pub table_begins : (n : ℕ) (table ys : List Counted) → table ≡ added_from 0 (replicate n none) ys → length ys ≤ n → BeginsWith table ys
table_begins n table ys is fits = subst (λ l. BeginsWith l ys) (sym is) (fresh_begins n ys fits)

-- ---- parts of a table

pub begins_first : (table ys zs : List Counted) → BeginsWith table (ys ++ zs) → BeginsWith table ys × BeginsWith (drop (length ys) table) zs
begins_first table [] zs begins = (tt, subst (λ l. BeginsWith l zs) (sym (all table)) begins)
  where
    all : (l : List Counted) → drop 0 l ≡ l
    all [] = refl
    all (x ∷ xs) = refl
begins_first [] (y ∷ ys) zs begins = absurd begins
begins_first (x ∷ xs) (y ∷ ys) zs begins =
    let rest = begins_first xs ys zs begins.2 in ((begins.0, begins.1, rest.0), rest.1)

pub begins_entry : (table : List Counted) (n : ℕ) (d y : Counted) (ys : List Counted) → BeginsWith (drop n table) (y ∷ ys)
    → (n < length table) × ((get_or table n d).has_null ≡ y.has_null) × ((get_or table n d).total ≡ min y.total (2 ^ 64 - 1)) × BeginsWith (drop (n + 1) table) ys
begins_entry [] zero d y ys begins = absurd begins
begins_entry [] (suc n) d y ys begins = absurd begins
begins_entry (x ∷ xs) zero d y ys begins = (omega arith, begins.0, begins.1, subst (λ l. BeginsWith l ys) (all xs) begins.2)
  where
    all : (l : List Counted) → l ≡ drop (0 + 1) (x ∷ l)
    all l = let one : 1 ≡ 0 + 1 = omega arith in ap (λ k. drop k (x ∷ l)) one
begins_entry (x ∷ xs) (suc n) d y ys begins =
    let more = begins_entry xs n d y ys begins in
    let next : suc (n + 1) ≡ suc n + 1 = omega arith in
    (omega (arith, more.0), more.1, more.2, subst (λ k. BeginsWith (drop k (x ∷ xs)) ys) next more.3)
