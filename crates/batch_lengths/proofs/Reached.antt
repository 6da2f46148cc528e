-- A column that keeps its rules can be read as far as it is asked.
use Rattle.std.proofs.Common.{◌≡◌, inl, inr, refl, sym, ap, subst, ◌∙◌, ℕ, zero, suc, ◌+◌, ◌-◌, ◌*◌, ◌^◌, ◌<◌, ◌≤◌, ◌≤ℤ◌, pos, nat_abs, List, [], ◌∷◌, length, drop, arith, mul-le-mul_left, length-take, length-drop}
use Rattle.std.proofs.lemmas.Int.{ints}
use Rattle.header_types.specs.Fields.{tree, Forest, no_more, more, width}
use Rattle.batch_types.specs.Layouts.{list_layout, fixed_size_list_layout, struct_layout}
use Rattle.batch_types.specs.Laid.{Node, Range, LaidColumn, laid, LaidColumns, no_column, column_then}
use Rattle.batch_types.specs.LaysOut.{KeepsRule, IsSound, AreSound, values_limit}
use Rattle.batch_types.specs.Order.{AreKept, column_order}
use Rattle.batch_types.specs.Placed.{buffer_at, offset_at, start_of}
use Rattle.batch_types.specs.Rules.{AreOffsetsLong, DoRise, OffsetsRise, asked_inside, places_inside, first_length}
use Rattle.batch_columns.specs.Held.{layout_named}
use Rattle.batch_columns.specs.Read.{offsets_at, values_at}
use Rattle.batch_columns.specs.Sources.{columns_from}
use Rattle.batch_columns.specs.declared.layout.Layout.{Layout as Declared}
use Rattle.batch_columns.specs.declared.layout.Layout.TheVariants.{Null, Bits, Bytes, Binary, Utf8, List as Lists, FixedSizeList, Struct}
use Rattle.batch_reading.specs.Spots.{Spot}
use Rattle.batch_reading.proofs.Fitting.{MayHave}
use Rattle.batch_lengths.specs.Reach.{DoReach, Reaches, Between, end_inside}
use Rattle.batch_lengths.proofs.Between.{between_le}
use Rattle.batch_lengths.proofs.Buffers.{AreBelow, AreThere}

pub between_below : (from limit : ℕ) (spots : List Spot) → Between from limit spots → AreBelow limit spots
between_below from limit [] is = tt
between_below from limit (spot ∷ rest) is = (omega (arith, between_le (spot.0 + 1) limit rest is.1), between_below (spot.0 + 1) limit rest is.1)

-- ---- buffers lie in the body

pub buffer_short : (body : List ℕ) (ranges : List Range) (n : ℕ) → length (buffer_at body ranges n) ≤ length body
buffer_short body [] n = omega arith
buffer_short body (range ∷ ranges) zero =
    omega (arith, length-take (nat_abs range.1) (drop (nat_abs range.0) body), length-drop (nat_abs range.0) body)
buffer_short body (range ∷ ranges) (suc n) = buffer_short body ranges n

-- ---- offsets

rises_to : (offsets : List ℕ) (count limit : ℕ) → DoRise 4 offsets count limit → (d j : ℕ) → j + d ≡ count → offset_at 4 offsets j ≤ℤ pos limit
rises_to offsets count limit rise zero j is =
    let same : count ≡ j = omega (arith, is) in subst (λ k. offset_at 4 offsets k ≤ℤ pos limit) same rise.ends
rises_to offsets count limit rise (suc d) j is =
    omega (arith, ints, rise.rises j (omega arith), rises_to offsets count limit rise d (j + 1) (omega arith))

rises_from : (offsets : List ℕ) (count limit : ℕ) → DoRise 4 offsets count limit → (j : ℕ) → j ≤ count → pos 0 ≤ℤ offset_at 4 offsets j
rises_from offsets count limit rise zero within = rise.begins
rises_from offsets count limit rise (suc j) within =
    let next : suc j ≡ j + 1 = omega arith in
    subst (λ k. pos 0 ≤ℤ offset_at 4 offsets k) (sym next)
    (omega (arith, ints, rise.rises j (omega arith), rises_from offsets count limit rise j (omega arith)))

no_offset : (offsets : List ℕ) (n : ℕ) → offsets ≡ [] → n ≡ 0 → start_of 4 offsets n ≡ 0
no_offset offsets n none is = ap (λ l. start_of 4 l n) none ∙ ap (start_of 4 []) is

pub reach_of_rules : (offsets : List ℕ) (limit count total : ℕ) → limit ≤ count → total < 2 ^ 64 → OffsetsRise 4 offsets count total
    → AreOffsetsLong 4 count (length offsets) → DoReach offsets limit × (start_of 4 offsets limit ≤ total)
reach_of_rules offsets limit count total few short (inl none) (inl empty) =
    let start : start_of 4 offsets limit ≡ 0 = no_offset offsets limit none (omega (arith, few, empty.0)) in (
      record {
        long = λ some. absurd (omega (arith, some, few, empty.0));
        rises = λ j below. absurd (omega (arith, below, few, empty.0));
        ends = omega (arith, start);
      },
      omega (arith, start),
    )
reach_of_rules offsets limit count total few short (inl none) (inr long) = absurd (omega (arith, ap length none, long))
reach_of_rules offsets limit count total few short (inr rise) long =
    let last : start_of 4 offsets limit ≤ total =
    omega (arith, ints, rises_from offsets count total rise limit few, rises_to offsets count total rise (count - limit) limit (omega (arith, few))) in (
      record {
        long = λ some. there some long;
        rises = λ j below.
            omega (
              arith,
              ints,
              rise.rises j (omega (arith, few, below)),
              rises_from offsets count total rise j (omega (arith, few, below)),
              rises_from offsets count total rise (j + 1) (omega (arith, few, below)),
            );
        ends = omega (arith, last, short);
      },
      last,
    )
  where
    there : 0 < limit → AreOffsetsLong 4 count (length offsets) → 4 * limit + 4 ≤ length offsets
    there some (inl empty) = absurd (omega (arith, some, few, empty.0))
    there some (inr enough) = omega (arith, few, enough)

-- ---- one column

first_asked : (body : List ℕ) (inside : Forest) (nodes : List Node) (others : List Range) (asked : ℕ) (places : List ℕ) → width inside ≡ 1
    → AreSound body (columns_from inside nodes others) asked places → asked ≤ first_length (columns_from inside nodes others)
first_asked body no_more nodes others asked places one sound = absurd (omega (arith, one))
first_asked body (more (tree field entries inner) rest) nodes others asked places one sound = sound.0.0.1.1.1.0

no_fields : (inside : Forest) → width inside ≡ 0 → inside ≡ no_more
no_fields no_more none = refl
no_fields (more t rest) none = absurd (omega (arith, none))

-- fewer values may be asked
one_less : (body : List ℕ) (column : LaidColumn) (asked less : ℕ) (places : List ℕ) → less ≤ asked → IsSound body column asked places → IsSound body column less places
one_less body (laid layout node ranges inner) asked less places few sound =
    let kept = sound.0 in
    ((kept.0, (kept.1.0, (kept.1.1.0, (omega (arith, few, kept.1.1.1.0), kept.1.1.1.1)))), sound.1)

pub sound_less : (body : List ℕ) (columns : LaidColumns) (asked less : ℕ) (places : List ℕ) → less ≤ asked → AreSound body columns asked places → AreSound body columns less places
sound_less body no_column asked less places few sound = tt
sound_less body (column_then column rest) asked less places few sound =
    (one_less body column asked less places few sound.0, sound_less body rest asked less places few sound.1)

-- of one column as many may be asked as it has
as_many : (body : List ℕ) (inside : Forest) (nodes : List Node) (others : List Range) (asked : ℕ) (places : List ℕ) → width inside ≡ 1
    → AreSound body (columns_from inside nodes others) asked places → AreSound body (columns_from inside nodes others) (first_length (columns_from inside nodes others)) places
as_many body no_more nodes others asked places one sound = tt
as_many body (more (tree field entries inner) no_more) nodes others asked places one sound =
    let kept = sound.0.0 in
    (((kept.0, (kept.1.0, (kept.1.1.0, (omega arith, kept.1.1.1.1)))), sound.0.1), tt)
as_many body (more (tree field entries inner) (more t rest)) nodes others asked places one sound = absurd (omega (arith, one))

module _ (body : List ℕ) (node : Node) (ranges : List Range) (inside : Forest) (nodes : List Node) (others : List Range) (limit : ℕ) (places : List ℕ) where
  abbrev inner : LaidColumns
  inner = columns_from inside nodes others

  -- what is known of a column of this layout
  pub record Facts (layout : Declared) : Type 0 where
    pub kept : AreKept (KeepsRule body (layout_named layout) node ranges inner limit places) column_order
    pub sound : AreSound body inner (asked_inside (layout_named layout) (nat_abs node.0)) (places_inside body (layout_named layout) ranges places)
    pub may : MayHave (layout_named layout) (width inside)
    pub few : limit ≤ values_limit
    pub first_few : first_length inner ≤ values_limit
    pub short : length body < 2 ^ 64

  -- the offsets and the values of a column of this layout
  abbrev offsets : Declared → List ℕ
  offsets layout = offsets_at body (layout_named layout) ranges

  abbrev values : Declared → List ℕ
  values layout = values_at body (layout_named layout) ranges

  texts_reach : (layout : Declared) → Facts layout → OffsetsRise 4 (offsets Binary) (nat_abs node.0) (length (values Binary))
      → AreOffsetsLong 4 (nat_abs node.0) (length (offsets Binary)) → limit ≤ nat_abs node.0
      → DoReach (offsets Binary) limit × (start_of 4 (offsets Binary) limit ≤ length (values Binary))
  texts_reach layout f rises long asked =
      reach_of_rules (offsets Binary) limit (nat_abs node.0) (length (values Binary)) asked (omega (arith, buffer_short body ranges 2, f.short)) rises long

  lists_reach : Facts Lists → DoReach (offsets Lists) limit × (start_of 4 (offsets Lists) limit ≤ first_length inner)
  lists_reach f =
      reach_of_rules (offsets Lists) limit (nat_abs node.0) (first_length inner) f.kept.1.1.1.0 (omega (arith, f.first_few)) f.kept.1.1.0 f.kept.0.long_enough.1

  sized_few : (size : ℕ) → Facts (FixedSizeList size) → size * limit ≤ values_limit
  sized_few size f =
      let up : size * limit ≤ size * nat_abs node.0 = mul-le-mul_left size f.kept.1.1.1.0 in
      omega (
        arith,
        up,
        f.first_few,
        first_asked body inside nodes others (size * nat_abs node.0) (places_inside body (fixed_size_list_layout size) ranges places) f.may f.sound,
      )

  pub reaches : (layout : Declared) → Facts layout → Reaches (layout_named layout) (offsets layout) limit
  reaches Null f = tt
  reaches Bits f = tt
  reaches (Bytes size) f = tt
  reaches Binary f = (texts_reach Binary f f.kept.1.1.0 f.kept.0.long_enough.1 f.kept.1.1.1.0).0
  reaches Utf8 f = (texts_reach Utf8 f f.kept.1.1.0 f.kept.0.long_enough.1 f.kept.1.1.1.0).0
  reaches Lists f = (lists_reach f).0
  reaches (FixedSizeList size) f = omega (arith, sized_few size f)
  reaches Struct f = tt

  pub are_there : (layout : Declared) → Facts layout → AreThere (layout_named layout) limit (offsets layout) (values layout)
  are_there Null f = tt
  are_there Bits f = tt
  are_there (Bytes size) f =
      let up : size * limit ≤ size * nat_abs node.0 = mul-le-mul_left size f.kept.1.1.1.0 in omega (arith, up, f.kept.0.long_enough.1)
  are_there Binary f = texts_reach Binary f f.kept.1.1.0 f.kept.0.long_enough.1 f.kept.1.1.1.0
  are_there Utf8 f = texts_reach Utf8 f f.kept.1.1.0 f.kept.0.long_enough.1 f.kept.1.1.1.0
  are_there Lists f = tt
  are_there (FixedSizeList size) f = tt
  are_there Struct f = tt

  -- the columns inside can be read as far as they are wanted
  pub end_few : (layout : Declared) → Facts layout → end_inside (layout_named layout) (offsets layout) limit ≤ values_limit
  end_few Null f = omega arith
  end_few Bits f = omega arith
  end_few (Bytes size) f = omega arith
  end_few Binary f = omega arith
  end_few Utf8 f = omega arith
  end_few Lists f = omega (arith, (lists_reach f).1, f.first_few)
  end_few (FixedSizeList size) f = sized_few size f
  end_few Struct f = f.few

  pub inside_sound : (layout : Declared) → Facts layout
      → AreSound body inner (end_inside (layout_named layout) (offsets layout) limit) (places_inside body (layout_named layout) ranges places)
  inside_sound Null f = f.sound
  inside_sound Bits f = f.sound
  inside_sound (Bytes size) f = f.sound
  inside_sound Binary f = f.sound
  inside_sound Utf8 f = f.sound
  inside_sound Lists f =
      sound_less body inner (first_length inner) (start_of 4 (offsets Lists) limit) (places_inside body (list_layout 4) ranges places) (lists_reach f).1
      (as_many body inside nodes others 0 (places_inside body (list_layout 4) ranges places) f.may f.sound)
  inside_sound (FixedSizeList size) f =
      sound_less body inner (size * nat_abs node.0) (size * limit) (places_inside body (fixed_size_list_layout size) ranges places)
      (mul-le-mul_left size f.kept.1.1.1.0) f.sound
  inside_sound Struct f = sound_less body inner (nat_abs node.0) limit (places_inside body struct_layout ranges places) f.kept.1.1.1.0 f.sound
