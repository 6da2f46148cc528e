-- Bits put behind others, which touches one byte or two.
use Rattle.std.proofs.Common.{◌≡◌, refl, ap, ◌∙◌, ◌≢◌, ℕ, zero, suc, ◌+◌, ◌-◌, ◌*◌, ◌/◌, ◌%◌, ◌^◌, ◌<◌, ◌≤◌, ◌==◌, arith, max, List, [], ◌∷◌, ◌++◌, get_or, length, set, bit_or, false, inl, inr, ◌⊎◌, subst, get_or-set_same, get_or-set_other, length-set, sym, true≢false, length-append, lt_irrefl}
use Rattle.std.specs.Int.{bit_at}
use Rattle.std.proofs.lemmas.Bool.{cases_lt}
use Rattle.std.proofs.lemmas.Grind.{get_or_default_zero}
use Rattle.std.proofs.lemmas.List.{get_or_append_left, get_or-append-add}
use Rattle.std.proofs.Math.ListN.{get_or-eq_default}
use Rattle.std.proofs.lemmas.Nat.Bits.{bit_at-lt, bit_at-zero, bit_at_or, bit_at_above}
use Rattle.bitmaps.specs.Bits.{bit_of}
use Rattle.bitmaps.specs.Packed.{IsKept}
use Rattle.bitmaps.proofs.Bytes.{bit_at_shr, bit_at_mod, bit_at_shl_high, bit_at_shl_low}

-- The bits of b from place r of byte q on, the others of this byte as they were, and no bit behind the next byte.
pub record IsSpread (old new : List ℕ) (q r b : ℕ) : Type 0 where
  pub before : (k : ℕ) → k < q → get_or new k 0 ≡ get_or old k 0
  pub low : (m : ℕ) → m < r → bit_at (get_or new q 0) m ≡ bit_at (get_or old q 0) m
  pub high : (m : ℕ) → r ≤ m → m < 8 → bit_at (get_or new q 0) m ≡ max (bit_at (get_or old q 0) m) (bit_at b (m - r))
  pub next : (m : ℕ) → m < 8 → bit_at (get_or new (q + 1) 0) m ≡ bit_at b (8 - r + m)
  pub past : (k : ℕ) → q + 1 < k → get_or new k 0 ≡ 0

not_one : (d : ℕ) → d < 2 → (d == 1) ≡ false → d ≡ 0
not_one zero small unset = refl
not_one (suc zero) small unset = absurd (true≢false unset)
not_one (suc (suc d)) small unset = absurd (omega arith)

-- what stood before is as it was
pub spread_before : (old new : List ℕ) (from b : ℕ) → IsSpread old new (from / 8) (from % 8) b
    → (j : ℕ) → j < from → bit_of new j ≡ bit_of old j
spread_before old new from b spread j here = by_place (cases_lt (j / 8) (from / 8))
  where
    by_place : (j / 8 < from / 8) ⊎ (from / 8 ≤ j / 8) → bit_of new j ≡ bit_of old j
    by_place (inl below) = ap (λ x. bit_at x (j % 8) == 1) (spread.before (j / 8) below)
    by_place (inr same) =
        let byte : j / 8 ≡ from / 8 = omega arith in
        rw byte (ap (λ d. d == 1) (spread.low (j % 8) (omega arith)))

-- the bits that are put
pub spread_put : (old new : List ℕ) (from b : ℕ) → b < 256 → ((j : ℕ) → from ≤ j → bit_of old j ≡ false)
    → IsSpread old new (from / 8) (from % 8) b → (i : ℕ) → bit_of new (from + i) ≡ (bit_at b i == 1)
spread_put old new from b small clear spread i = by_place (cases_lt ((from + i) / 8) (from / 8 + 1))
  where
    q : ℕ
    q = (from + i) / 8

    m : ℕ
    m = (from + i) % 8

    here : q ≡ from / 8 → bit_of new (from + i) ≡ (bit_at b i == 1)
    here byte =
        let none : bit_at (get_or old q 0) m ≡ 0 = not_one (bit_at (get_or old q 0) m) (bit_at-lt (get_or old q 0) m) (clear (from + i) (omega arith)) in
        let none_there : bit_at (get_or old (from / 8) 0) m ≡ 0 = ap (λ k. bit_at (get_or old k 0) m) (sym byte) ∙ none in
        let put = spread.high m (omega arith) (omega arith) in
        let place : m - from % 8 ≡ i = omega arith in
        let bit : bit_at (get_or new (from / 8) 0) m ≡ bit_at b i = omega (arith, put, none_there, ap (bit_at b) place) in
        ap (λ d. d == 1) (ap (λ k. bit_at (get_or new k 0) m) byte ∙ bit)

    in_next : q ≡ from / 8 + 1 → bit_of new (from + i) ≡ (bit_at b i == 1)
    in_next byte =
        let place : 8 - from % 8 + m ≡ i = omega arith in
        ap (λ d. d == 1) (ap (λ k. bit_at (get_or new k 0) m) byte ∙ spread.next m (omega arith) ∙ ap (bit_at b) place)

    past_all : from / 8 + 1 < q → bit_of new (from + i) ≡ (bit_at b i == 1)
    past_all far =
        ap (λ d. d == 1) (ap (λ x. bit_at x m) (spread.past q far) ∙ bit_at-zero m
        ∙ sym (bit_at_above b 8 i small (omega arith)))

    later : (q < from / 8 + 2) ⊎ (from / 8 + 2 ≤ q) → from / 8 + 1 ≤ q → bit_of new (from + i) ≡ (bit_at b i == 1)
    later (inl near) from_next = in_next (omega arith)
    later (inr far) from_next = past_all (omega arith)

    by_place : (q < from / 8 + 1) ⊎ (from / 8 + 1 ≤ q) → bit_of new (from + i) ≡ (bit_at b i == 1)
    by_place (inl same) = here (omega arith)
    by_place (inr from_next) = later (cases_lt q (from / 8 + 2)) from_next

-- behind those that are put no bit is set
pub spread_clear : (new : List ℕ) (from b count : ℕ) → b < 2 ^ count
    → ((i : ℕ) → bit_of new (from + i) ≡ (bit_at b i == 1)) → (j : ℕ) → from + count ≤ j → bit_of new j ≡ false
spread_clear new from b count small put j behind =
    let place : j ≡ from + (j - from) = omega arith in
    ap (bit_of new) place ∙ put (j - from) ∙ ap (λ d. d == 1) (bit_at_above b count (j - from) small (omega arith))

pub spread_kept : (new : List ℕ) (from b count : ℕ) → b < 2 ^ count
    → ((i : ℕ) → bit_of new (from + i) ≡ (bit_at b i == 1)) → length new ≡ (from + count + 7) / 8 → IsKept new (from + count)
spread_kept new from b count small put all = record { enough = all; clear = spread_clear new from b count small put }

-- a byte behind whole bytes
pub spread_push : (old : List ℕ) (from b : ℕ) → b < 256 → from % 8 ≡ 0 → length old ≡ from / 8
    → IsSpread old (old ++ b ∷ []) (from / 8) (from % 8) b
spread_push old from b small whole all = record {
  before = λ k below. get_or_append_left old (b ∷ []) 0 k (omega arith);
  low = λ m below. absurd (omega arith);
  high = λ m above low.
      let place : m - from % 8 ≡ m = omega arith in
      let none : bit_at (get_or old (from / 8) 0) m ≡ 0 = ap (λ x. bit_at x m) (get_or-eq_default old 0 (omega arith)) ∙ bit_at-zero m in
      let own : bit_at (get_or (old ++ b ∷ []) (from / 8) 0) m ≡ bit_at b m = ap (λ x. bit_at x m) (pushed (from / 8) 0 (omega arith)) in
      omega (arith, own, none, ap (bit_at b) place);
  next = λ m low.
      ap (λ x. bit_at x m) (pushed (from / 8 + 1) 1 (omega arith)) ∙ bit_at-zero m
      ∙ sym (bit_at_above b 8 (8 - from % 8 + m) small (omega arith));
  past = λ k far. get_or-eq_default (old ++ b ∷ []) 0 (omega (arith, length-append old (b ∷ [])));
}
  where
    pushed : (k n : ℕ) → k ≡ length old + n → get_or (old ++ b ∷ []) k 0 ≡ get_or (b ∷ []) n 0
    pushed k n at = ap (λ k. get_or (old ++ b ∷ []) k 0) at ∙ get_or-append-add old (b ∷ []) n 0

-- the bits that fit into the last byte
abbrev pub joined : List ℕ → ℕ → ℕ → List ℕ
joined old from b = set old (from / 8) (bit_or (get_or old (from / 8) 0) (b * 2 ^ (from % 8) % 256))

module _ (old : List ℕ) (from b : ℕ) (small : b < 256) (part : 0 < from % 8) (all : length old ≡ from / 8 + 1) where
  own : get_or (joined old from b) (from / 8) 0 ≡ bit_or (get_or old (from / 8) 0) (b * 2 ^ (from % 8) % 256)
  own = get_or-set_same old (from / 8) _ 0 (omega arith)

  as_was : (k : ℕ) → k < from / 8 → get_or (joined old from b) k 0 ≡ get_or old k 0
  as_was k below = get_or-set_other old (from / 8) k _ 0 (λ same. lt_irrefl _ (subst (λ x. x < from / 8) same below))

  shifted : (m : ℕ) → m < 8 → bit_at (b * 2 ^ (from % 8) % 256) m ≡ bit_at (b * 2 ^ (from % 8)) m
  shifted m low = bit_at_mod (b * 2 ^ (from % 8)) 8 m low

  low_bits : (m : ℕ) → m < from % 8 → bit_at (get_or (joined old from b) (from / 8) 0) m ≡ bit_at (get_or old (from / 8) 0) m
  low_bits m low =
      ap (λ x. bit_at x m) own
      ∙ omega (arith, bit_at_or (get_or old (from / 8) 0) (b * 2 ^ (from % 8) % 256) m, shifted m (omega arith), bit_at_shl_low b (from % 8) m low)

  high_bits : (m : ℕ) → from % 8 ≤ m → m < 8
      → bit_at (get_or (joined old from b) (from / 8) 0) m ≡ max (bit_at (get_or old (from / 8) 0) m) (bit_at b (m - from % 8))
  high_bits m above low =
      ap (λ x. bit_at x m) own
      ∙ omega (arith, bit_at_or (get_or old (from / 8) 0) (b * 2 ^ (from % 8) % 256) m, shifted m low, bit_at_shl_high b (from % 8) m above)

  length_is : length (joined old from b) ≡ from / 8 + 1
  length_is = length-set old (from / 8) _ ∙ all

  -- all of them fit
  pub spread_join : (count : ℕ) → b < 2 ^ count → from % 8 + count ≤ 8 → IsSpread old (joined old from b) (from / 8) (from % 8) b
  spread_join count few fits = record {
    before = as_was;
    low = low_bits;
    high = high_bits;
    next = λ m low.
        ap (λ x. bit_at x m) (get_or-eq_default (joined old from b) 0 (omega (arith, length_is))) ∙ bit_at-zero m
        ∙ sym (bit_at_above b count (8 - from % 8 + m) few (omega arith));
    past = λ k far. get_or-eq_default (joined old from b) 0 (omega (arith, length_is));
  }

  -- the others go to the next byte
  pub spread_over : IsSpread old (joined old from b ++ b / 2 ^ (8 - from % 8) ∷ []) (from / 8) (from % 8) b
  spread_over = record {
    before = λ k below. in_front k (omega (arith, length_is)) ∙ as_was k below;
    low = λ m low. ap (λ x. bit_at x m) (in_front (from / 8) (omega (arith, length_is))) ∙ low_bits m low;
    high = λ m above low. ap (λ x. bit_at x m) (in_front (from / 8) (omega (arith, length_is))) ∙ high_bits m above low;
    next = λ m low. ap (λ x. bit_at x m) last ∙ bit_at_shr b (8 - from % 8) m;
    past = λ k far. get_or-eq_default whole 0 (omega (arith, length_is, length-append (joined old from b) (b / 2 ^ (8 - from % 8) ∷ [])));
  }
    where
      whole : List ℕ
      whole = joined old from b ++ b / 2 ^ (8 - from % 8) ∷ []

      in_front : (k : ℕ) → k < length (joined old from b) → get_or whole k 0 ≡ get_or (joined old from b) k 0
      in_front k within = get_or_append_left (joined old from b) _ 0 k within

      place : from / 8 + 1 ≡ length (joined old from b) + 0
      place = omega (arith, length_is)

      last : get_or whole (from / 8 + 1) 0 ≡ b / 2 ^ (8 - from % 8)
      last = ap (λ k. get_or whole k 0) place ∙ get_or-append-add (joined old from b) (b / 2 ^ (8 - from % 8) ∷ []) 0 0

-- what stands in the last byte is what the program read there
same : (old : List ℕ) (from byte at : ℕ) → at ≡ get_or old (from / 8) 0
    → set old (from / 8) (bit_or at (byte * 2 ^ (from % 8) % 256)) ≡ joined old from byte
same old from byte at is = ap (λ x. set old (from / 8) (bit_or x (byte * 2 ^ (from % 8) % 256))) is

-- a byte behind whole bytes
module _ (old new : List ℕ) (from byte count : ℕ) (kept : IsKept old from)
    (some : (0 < count) × (count ≤ 8) × (byte < 2 ^ count)) (small : byte < 256)
    (whole : from % 8 ≡ 0) (is : new ≡ old ++ byte ∷ []) where
  pushed_spread : IsSpread old new (from / 8) (from % 8) byte
  pushed_spread = subst (λ l. IsSpread old l (from / 8) (from % 8) byte) (sym is) (spread_push old from byte small whole (omega (arith, kept.enough)))

  pub pushed_put : (i : ℕ) → bit_of new (from + i) ≡ (bit_at byte i == 1)
  pushed_put = spread_put old new from byte small kept.clear pushed_spread

  pub pushed_end : IsKept new (from + count)
  pushed_end = spread_kept new from byte count some.2 pushed_put (omega (arith, ap length is, length-append old (byte ∷ []), kept.enough, some.0, some.1))

-- all bits in the last byte
module _ (old new : List ℕ) (from byte count at : ℕ) (kept : IsKept old from)
    (some : (0 < count) × (count ≤ 8) × (byte < 2 ^ count)) (small : byte < 256)
    (part : from % 8 ≢ 0) (fits : from % 8 + count ≤ 8) (is : at ≡ get_or old (from / 8) at)
    (new_is : new ≡ set old (from / 8) (bit_or at (byte * 2 ^ (from % 8) % 256))) where
  fitting_all : length old ≡ from / 8 + 1
  fitting_all = omega (arith, kept.enough)

  fitting_read : at ≡ get_or old (from / 8) 0
  fitting_read = is ∙ get_or_default_zero old (from / 8) at (omega (arith, kept.enough))

  fitting_spread : IsSpread old new (from / 8) (from % 8) byte
  fitting_spread =
      subst (λ l. IsSpread old l (from / 8) (from % 8) byte) (sym (new_is ∙ same old from byte at fitting_read))
      (spread_join old from byte small (omega arith) fitting_all count some.2 fits)

  pub fitting_before : (j : ℕ) → j < from → bit_of new j ≡ bit_of old j
  fitting_before = spread_before old new from byte fitting_spread

  pub fitting_put : (i : ℕ) → bit_of new (from + i) ≡ (bit_at byte i == 1)
  fitting_put = spread_put old new from byte small kept.clear fitting_spread

  pub fitting_end : IsKept new (from + count)
  fitting_end = spread_kept new from byte count some.2 fitting_put (omega (arith, ap length new_is, length-set old (from / 8) (bit_or at (byte * 2 ^ (from % 8) % 256)), fitting_all, some.0, some.1))

-- some bits in a byte more
module _ (old new : List ℕ) (from byte count at : ℕ) (kept : IsKept old from)
    (some : (0 < count) × (count ≤ 8) × (byte < 2 ^ count)) (small : byte < 256)
    (part : from % 8 ≢ 0) (over : 8 < from % 8 + count) (is : at ≡ get_or old (from / 8) at)
    (new_is : new ≡ set old (from / 8) (bit_or at (byte * 2 ^ (from % 8) % 256)) ++ byte / 2 ^ (8 - from % 8) ∷ []) where
  crossing_all : length old ≡ from / 8 + 1
  crossing_all = omega (arith, kept.enough)

  crossing_read : at ≡ get_or old (from / 8) 0
  crossing_read = is ∙ get_or_default_zero old (from / 8) at (omega (arith, kept.enough))

  crossing_spread : IsSpread old new (from / 8) (from % 8) byte
  crossing_spread =
      subst (λ l. IsSpread old l (from / 8) (from % 8) byte)
      (sym (new_is ∙ ap (λ l. l ++ byte / 2 ^ (8 - from % 8) ∷ []) (same old from byte at crossing_read)))
      (spread_over old from byte small (omega arith) crossing_all)

  pub crossing_before : (j : ℕ) → j < from → bit_of new j ≡ bit_of old j
  crossing_before = spread_before old new from byte crossing_spread

  pub crossing_put : (i : ℕ) → bit_of new (from + i) ≡ (bit_at byte i == 1)
  crossing_put = spread_put old new from byte small kept.clear crossing_spread

  pub crossing_end : IsKept new (from + count)
  crossing_end = spread_kept new from byte count some.2 crossing_put (omega (arith, ap length new_is, length-append (set old (from / 8) (bit_or at (byte * 2 ^ (from % 8) % 256))) (byte / 2 ^ (8 - from % 8) ∷ []), length-set old (from / 8) (bit_or at (byte * 2 ^ (from % 8) % 256)), crossing_all, some.0, some.1))
