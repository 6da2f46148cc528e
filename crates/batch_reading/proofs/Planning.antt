-- What is selected inside a column.
use Rattle.std.proofs.Common.{◌≡◌, inl, inr, refl, sym, ap, subst, ◌∙◌, ℕ, List, [], ◌∷◌, map, length}
use Rattle.bitmaps.specs.Bits.{zeros}
use Rattle.batch_types.specs.Canonical.{offsets_of}
use Rattle.batch_columns.specs.Made.{validity_bytes}
use Rattle.batch_reading.specs.Spread.{IsSpread}
use Rattle.std.specs.List.{flat_map}
use Rattle.batch_types.specs.Layouts.{Layout, bits_layout, bytes_layout, binary_layout, utf8_layout, null_layout, struct_layout, fixed_size_list_layout}
use Rattle.batch_reading.specs.declared.plan.ChildSelection.{ChildSelection}
use Rattle.batch_reading.specs.declared.plan.Plan.{Plan}
use Rattle.batch_reading.specs.Spots.{Spot}
use Rattle.batch_reading.specs.Taken.{is_shown, seen, span_taken}
use Rattle.batch_reading.specs.Planned.{spots_inside, AreInside, IsPlanned}

nothing_of : {X Y : Type 0} (xs : List X) → ◌≡◌ {A = List Y} (flat_map (λ x. []) xs) []
nothing_of [] = refl
nothing_of (x ∷ xs) = nothing_of xs

pub as_spots : (spots other : List Spot) (inside : ChildSelection) → AreInside spots inside → other ≡ spots → AreInside other inside
as_spots spots other inside are same = record {
  rising = are.rising;
  counted = are.counted;
  marked = are.marked;
  spots_are = are.spots_are ∙ sym same;
}

-- nothing is selected inside the layouts without columns inside
pub none_in_nulls : (offsets : List ℕ) (taken : List Spot) (inside : ChildSelection) → AreInside [] inside → AreInside (spots_inside null_layout offsets taken) inside
none_in_nulls offsets taken inside are = as_spots [] (spots_inside null_layout offsets taken) inside are (nothing_of taken)

pub none_in_bits : (offsets : List ℕ) (taken : List Spot) (inside : ChildSelection) → AreInside [] inside → AreInside (spots_inside bits_layout offsets taken) inside
none_in_bits offsets taken inside are = as_spots [] (spots_inside bits_layout offsets taken) inside are (nothing_of taken)

pub none_in_bytes : (size : ℕ) (offsets : List ℕ) (taken : List Spot) (inside : ChildSelection) → AreInside [] inside
    → AreInside (spots_inside (bytes_layout size) offsets taken) inside
none_in_bytes size offsets taken inside are = as_spots [] (spots_inside (bytes_layout size) offsets taken) inside are (nothing_of taken)

pub none_in_binary : (offsets : List ℕ) (taken : List Spot) (inside : ChildSelection) → AreInside [] inside
    → AreInside (spots_inside (binary_layout 4) offsets taken) inside
none_in_binary offsets taken inside are = as_spots [] (spots_inside (binary_layout 4) offsets taken) inside are (nothing_of taken)

pub none_in_utf8 : (offsets : List ℕ) (taken : List Spot) (inside : ChildSelection) → AreInside [] inside
    → AreInside (spots_inside (utf8_layout 4) offsets taken) inside
none_in_utf8 offsets taken inside are = as_spots [] (spots_inside (utf8_layout 4) offsets taken) inside are (nothing_of taken)

-- the same spots are selected inside a struct
pub same_in_struct : (offsets : List ℕ) (taken : List Spot) → spots_inside struct_layout offsets taken ≡ taken
same_in_struct offsets [] = refl
same_in_struct offsets (spot ∷ taken) = ap (λ rest. spot ∷ rest) (same_in_struct offsets taken)

-- bytes of any number
pub spread_planned : (layout : Layout) → IsSpread layout → (validity offsets values : List ℕ) (spots : List Spot) (plan : Plan)
    → plan.nulls ≡ zeros (map (is_shown validity) spots) → plan.validity.items ≡ validity_bytes (map (is_shown validity) spots)
    → plan.offsets.items ≡ offsets_of 4 (map (λ spot. length (span_taken offsets values spot)) (map (seen validity) spots))
    → plan.values.items ≡ flat_map (span_taken offsets values) (map (seen validity) spots) → AreInside [] plan.inside
    → IsPlanned layout validity offsets values spots plan
spread_planned layout (inl is) validity offsets values spots plan n v s t i =
    subst (λ l. IsPlanned l validity offsets values spots plan) (sym is) (record {
      nulls_are = n;
      validity_is = v;
      offsets_is = s;
      values_is = t;
      inside_is = none_in_binary offsets (map (seen validity) spots) plan.inside i;
    })
spread_planned layout (inr is) validity offsets values spots plan n v s t i =
    subst (λ l. IsPlanned l validity offsets values spots plan) (sym is) (record {
      nulls_are = n;
      validity_is = v;
      offsets_is = s;
      values_is = t;
      inside_is = none_in_utf8 offsets (map (seen validity) spots) plan.inside i;
    })

-- nothing is selected inside lists of no element
pub none_in_empty : (spots : List Spot) → spots_inside (fixed_size_list_layout 0) [] spots ≡ []
none_in_empty [] = refl
none_in_empty (spot ∷ spots) = none_in_empty spots
