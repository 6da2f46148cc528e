-- Bytes that move in several reads or writes.
use Rattle.std.proofs.Common.{◌≡◌, ℕ, ◌+◌, ◌-◌, ◌≤◌, List, ◌++◌, Option, None, Some, Result, Ok, Err, arith, length, take, drop, take-append-drop, slice_range, sym, ap, ◌∙◌, subst, append_assoc, le_refl, ◌<◌, drop_at, length-take-le, length-append}
use Rattle.std.proofs.lemmas.List.{take_rest}
use Rattle.std.proofs.lemmas.Slice.{take-put_mid_below}
use Rattle.std.specs.Io.KnownBytes.{Consumes, Appends}
use Rattle.std.proofs.KnownBytes.{Consumes-trans, Appends-trans}
use borrow.Rule.Slice.PartMut.{put_mid, post_of}
use lib.Seq.{take-add, take-append-le}
use Rattle.grpc_frames.specs.FrameFaults.{WhereKnown, Writes}
use Rattle.grpc_frames.specs.declared.fault.FrameFault.{FrameFault}

take_split : (a b : ℕ) (old new : List ℕ) → a ≤ b → take a new ≡ take a old → take a old ++ slice_range new a b ≡ take b new
take_split a b old new h front =
    let same : a + (b - a) ≡ b = omega arith in
    ap (λ l. l ++ slice_range new a b) (sym front) ∙ sym (take-add a (b - a) new) ∙ ap (λ n. take n new) same

slice_range-put_mid : (a k n : ℕ) (xs ys : List ℕ) → a ≤ length xs → n ≤ length ys → slice_range (put_mid a k xs ys) a (a + n) ≡ take n ys
slice_range-put_mid a k n xs ys within fits =
    let same : (a + n) - a ≡ n = omega arith in
    let after = post_of a k xs in
    ap (take ((a + n) - a)) (drop_at (take a xs) (ys ++ after) a (length-take-le a xs within)) ∙ ap (λ m. take m (ys ++ after)) same ∙ take-append-le n ys after fits

-- n more bytes came into the buffer behind the first `at`
pub Consumes-filled : (a b c : Option (List ℕ)) (at n k : ℕ) (buf part : List ℕ) → at ≤ length buf → n ≤ length part
    → Consumes a b (take at buf) → Consumes b c (take n part) → Consumes a c (take (at + n) (put_mid at k buf part))
Consumes-filled a b c at n k buf part within fits first second =
    let new = put_mid at k buf part in
    let piece : slice_range new at (at + n) ≡ take n part = slice_range-put_mid at k n buf part within fits in
    let front : take at new ≡ take at buf = take-put_mid_below _ _ _ _ _ (le_refl at) within in
    let joined : take at buf ++ slice_range new at (at + n) ≡ take (at + n) new = take_split at (at + n) buf new (omega arith) front in
    subst (Consumes a c) (ap (λ l. take at buf ++ l) (sym piece) ∙ joined) (Consumes-trans a b c _ _ first second)

-- n more bytes went out behind the first `at`
pub Appends-more : (a b c : Option (List ℕ)) (at n : ℕ) (bytes : List ℕ)
    → Appends a b (take at bytes) → Appends b c (take n (take (length bytes - at) (drop at bytes))) → Appends a c (take (at + n) bytes)
Appends-more a b c at n bytes first second =
    let joined : take at bytes ++ take n (take (length bytes - at) (drop at bytes)) ≡ take (at + n) bytes =
    ap (λ l. take at bytes ++ take n l) (take_rest bytes at) ∙ sym (take-add at n bytes) in
    subst (Appends a c) joined (Appends-trans a b c _ _ first second)

-- what went out so far is a beginning
pub Writes-part : (a b : Option (List ℕ)) (k : ℕ) (bytes : List ℕ) (e : FrameFault) → k < length bytes → Appends a b (take k bytes)
    → WhereKnown a b (Writes (Err e) bytes)
Writes-part None b k bytes e less h = tt
Writes-part (Some x) None k bytes e less h = absurd h
Writes-part (Some x) (Some y) k bytes e less h =
    (take k bytes, h, (drop k bytes, take-append-drop k bytes), omega (arith, less, length-take-le k bytes (omega (arith, less))))

-- a beginning of the front is one of the whole
pub Writes-front : (a b : Option (List ℕ)) (front back : List ℕ) (e : FrameFault)
    → WhereKnown a b (Writes (Err e) front) → WhereKnown a b (Writes (Err e) (front ++ back))
Writes-front None b front back e h = tt
Writes-front (Some x) None front back e h = absurd h
Writes-front (Some x) (Some y) front back e h =
    let (written, grown, begins, less) = h in (
      written,
      grown,
      (begins.0 ++ back, sym (append_assoc written begins.0 back) ∙ ap (λ l. l ++ back) begins.1),
      omega (arith, less, length-append front back),
    )

-- the back, written behind the front
pub Writes-behind : (a b c : Option (List ℕ)) (front back : List ℕ) (r : Result (Unit {0}) FrameFault)
    → WhereKnown a b (Writes (Ok tt) front) → WhereKnown b c (Writes r back) → WhereKnown a c (Writes r (front ++ back))
Writes-behind None b c front back r p q = tt
Writes-behind (Some x) None c front back r p q = absurd p
Writes-behind (Some x) (Some y) None front back r p q = absurd q
Writes-behind (Some x) (Some y) (Some z) front back (Ok done) p q = q ∙ ap (λ l. l ++ back) p ∙ append_assoc x front back
Writes-behind (Some x) (Some y) (Some z) front back (Err e) p q =
    let (written, grown, begins, less) = q in (
      front ++ written,
      grown ∙ ap (λ l. l ++ written) p ∙ append_assoc x front written,
      (begins.0, append_assoc front written begins.0 ∙ ap (λ l. front ++ l) begins.1),
      omega (arith, less, length-append front back, length-append front written),
    )
