-- Parts put one behind the other.
use Rattle.std.proofs.Common.{◌≡◌, refl, sym, ap, ap₂, subst, ◌∙◌, ℕ, zero, suc, ◌+◌, ◌-◌, ◌^◌, ◌<◌, ◌≤◌, ℤ, pos, List, [], ◌∷◌, ◌++◌, map, length, take, replicate, slice_index_or, drop, arith, append_assoc, length-append, Result, Ok, Err, OnOk, OnErr}
use Rattle.std.proofs.lemmas.List.{append-nil, at_drop_more, take-replicate}
use Rattle.std.proofs.Math.ListN.{drop_of_length-le}
use Rattle.std.proofs.lemmas.Grind.{flat_map-append}
use Rattle.std.specs.Borrow.{Bor}
use Rattle.std.specs.Bool.{if◌then◌else◌}
use Rattle.std.specs.Result.{is_ok}
use Rattle.batch_types.specs.Laid.{Range}
use Rattle.batch_types.specs.Canonical.{Parts, no_parts, both_parts, padded, body_with, ranges_from}
use Rattle.record_batches.specs.Parts.{buffers_alone}
use Rattle.record_batches.specs.Adds.{Adds, Grows}
use Rattle.record_batches.specs.declared.head.HeadWriter.{HeadWriter}

pub on_ok : {E P Q : Type 0} (r : Result (Unit {0}) E) → OnOk r P → (P → Q) → OnOk r Q
on_ok (Ok done) p to = to p
on_ok (Err e) p to = tt

pub at_error : {E P : Type 0} (r : Result (Unit {0}) E) → P → OnErr r P
at_error (Ok done) p = tt
at_error (Err e) p = p

-- what is put where the result is right
pub on_put : {E P : Type 0} (r : Result (Unit {0}) E) (z x y : List ℕ) → z ≡ (if is_ok r then x else y) → (z ≡ x → P) → OnOk r P
on_put (Ok done) z x y put to = to put
on_put (Err e) z x y put to = tt

-- what is there where it is wrong
pub on_refused : {E P : Type 0} (r : Result (Unit {0}) E) (z x y : List ℕ) → z ≡ (if is_ok r then x else y) → (z ≡ y → P) → OnErr r P
on_refused (Ok done) z x y put to = tt
on_refused (Err e) z x y put to = to put

-- ---- one buffer

length_zeros : (n : ℕ) → length {A = ℕ} (replicate n 0) ≡ n
length_zeros zero = refl
length_zeros (suc n) = ap suc (length_zeros n)

-- a buffer with the zero bytes behind it
abbrev pub filled : List ℕ → List ℕ
filled buffer = buffer ++ replicate (padded (length buffer) - length buffer) 0

pub length_filled : (buffer : List ℕ) → length (filled buffer) ≡ padded (length buffer)
length_filled buffer =
    let n : ℕ = length buffer in
    omega (arith, length-append buffer (replicate (padded (length buffer) - length buffer) 0), length_zeros (padded (length buffer) - length buffer))

-- ---- some buffers

pub body_both : (xs ys : List (List ℕ)) → body_with (xs ++ ys) ≡ body_with xs ++ body_with ys
body_both xs ys = flat_map-append filled xs ys

pub ranges_both : (place : ℕ) (xs ys : List (List ℕ)) → ranges_from place (xs ++ ys) ≡ ranges_from place xs ++ ranges_from (place + length (body_with xs)) ys
ranges_both place [] ys = let same : place ≡ place + 0 = omega arith in ap (λ n. ranges_from n ys) same
ranges_both place (x ∷ xs) ys =
    let range : Range = (pos place, pos (length x)) in
    let same : place + padded (length x) + length (body_with xs) ≡ place + length (body_with (x ∷ xs)) = omega (arith, length-append (filled x) (body_with xs), length_filled x) in
    ap (λ rest. range ∷ rest) (ranges_both (place + padded (length x)) xs ys ∙ ap (λ n. ranges_from (place + padded (length x)) xs ++ ranges_from n ys) same)

-- ---- buffers appended to a text

-- a buffer, and as many of eight zero bytes as stand behind it
pub appended_buffer : (x y z bytes : List ℕ) (gap : ℕ) → y ≡ x ++ bytes → z ≡ y ++ take gap (replicate 8 0)
    → gap ≡ padded (length bytes) - length bytes → z ≡ x ++ body_with (bytes ∷ [])
appended_buffer x y z bytes gap put more gap_is =
    let few : gap ≤ 8 = omega (arith, gap_is) in
    more ∙ ap₂ (λ l r. l ++ r) put (take-replicate gap 8 0 few ∙ ap (λ n. replicate n 0) gap_is)
    ∙ append_assoc x bytes (replicate (padded (length bytes) - length bytes) 0)
    ∙ ap (λ l. x ++ l) (sym (append-nil (filled bytes)))

pub appended_both : (x y z : List ℕ) (p q : List (List ℕ)) → y ≡ x ++ body_with p → z ≡ y ++ body_with q → z ≡ x ++ body_with (p ++ q)
appended_both x y z p q first second =
    second ∙ ap (λ l. l ++ body_with q) first ∙ append_assoc x (body_with p) (body_with q) ∙ ap (λ l. x ++ l) (sym (body_both p q))

-- with what is left behind it, the text is what it is to be
pub appended_part : (x y whole : List ℕ) (p q : List (List ℕ)) → y ≡ x ++ body_with p → x ++ body_with (p ++ q) ≡ whole → y ++ body_with q ≡ whole
appended_part x y whole p q put still = appended_both x y (y ++ body_with q) p q put refl ∙ still

abbrev pub lent_buffers : List (Bor (List ℕ)) → List (List ℕ)
lent_buffers buffers = map (λ bytes. bytes.now) buffers

module _ (buffers : List (Bor (List ℕ))) (i : ℕ) where
  module _ (d : Bor (List ℕ)) (bytes : List ℕ) (there : i < length buffers) (is : bytes ≡ (slice_index_or buffers i d).now) where
    pub buffers_left : bytes ∷ lent_buffers (drop (i + 1) buffers) ≡ lent_buffers (drop i buffers)
    buffers_left =
        ap (λ b. b ∷ lent_buffers (drop (i + 1) buffers)) is ∙ sym (at_drop_more lent_buffers buffers i d there)

    pub appended_next : (x y whole : List ℕ) → y ≡ x ++ body_with (bytes ∷ []) → x ++ body_with (lent_buffers (drop i buffers)) ≡ whole
        → y ++ body_with (lent_buffers (drop (i + 1) buffers)) ≡ whole
    appended_next x y whole put still =
        appended_part x y whole (bytes ∷ []) (lent_buffers (drop (i + 1) buffers)) put (ap (λ l. x ++ body_with l) buffers_left ∙ still)

  pub appended_end : (x whole : List ℕ) → length buffers ≤ i → x ++ body_with (lent_buffers (drop i buffers)) ≡ whole → x ≡ whole
  appended_end x whole over still =
      sym (append-nil x) ∙ ap (λ l. x ++ body_with (lent_buffers l)) (sym (drop_of_length-le buffers over)) ∙ still

-- ---- what a text held stands at its front

pub grows_on : (x y z : List ℕ) → Grows x y → Grows y z → Grows x z
grows_on x y z (p, first) (q, second) = (p ++ q, second ∙ ap (λ l. l ++ q) first ∙ append_assoc x p q)

-- ---- the writer of a header

pub adds_none : (w : HeadWriter) → Adds w w no_parts
adds_none w = record {
  nodes = sym (append-nil w.nodes.items);
  buffers = sym (append-nil w.buffers.items);
  end = let same : w.end ≡ w.end + 0 = omega arith in same;
}

pub adds_both : (x y z : HeadWriter) (p q : Parts) → Adds x y p → Adds y z q → Adds x z (both_parts p q)
adds_both x y z p q first second = record {
  nodes = second.nodes ∙ ap (λ l. l ++ q.nodes) first.nodes ∙ append_assoc x.nodes.items p.nodes q.nodes;
  buffers =
      second.buffers
      ∙ ap₂ (λ l n. l ++ ranges_from n q.buffers) first.buffers first.end
      ∙ append_assoc x.buffers.items (ranges_from x.end p.buffers) (ranges_from (x.end + length (body_with p.buffers)) q.buffers)
      ∙ ap (λ l. x.buffers.items ++ l) (sym (ranges_both x.end p.buffers q.buffers));
  end =
      omega (arith, first.end, second.end, ap length (body_both p.buffers q.buffers), length-append (body_with p.buffers) (body_with q.buffers));
}

-- what is put into one that holds nothing is all that it holds
pub put_into_none : (x y : HeadWriter) (p : Parts) → x.nodes.items ≡ [] → x.buffers.items ≡ [] → x.end ≡ 0 → Adds x y p
    → (y.nodes.items ≡ p.nodes) × (y.buffers.items ≡ ranges_from 0 p.buffers) × (y.end ≡ length (body_with p.buffers))
put_into_none x y p nodes buffers end added = (
  added.nodes ∙ ap (λ l. l ++ p.nodes) nodes,
  added.buffers ∙ ap₂ (λ l n. l ++ ranges_from n p.buffers) buffers end,
  omega (arith, added.end, end),
)

-- a buffer
pub adds_buffer : (x y : HeadWriter) (bytes : List ℕ) (place count : ℤ) (gap : ℕ) → y.nodes.items ≡ x.nodes.items
    → y.buffers.items ≡ x.buffers.items ++ (place, count) ∷ [] → place ≡ pos x.end → count ≡ pos (length bytes)
    → y.end ≡ x.end + (length bytes + gap) → gap ≡ padded (length bytes) - length bytes
    → Adds x y (buffers_alone (bytes ∷ []))
adds_buffer x y bytes place count gap nodes buffers place_is count_is end gap_is =
    record {
      nodes = nodes ∙ sym (append-nil x.nodes.items);
      buffers = buffers ∙ ap₂ (λ m n. x.buffers.items ++ (m, n) ∷ []) place_is count_is;
      end = omega (arith, end, gap_is, length_filled bytes, ap length (append-nil (filled bytes)));
    }

-- one buffer more
pub buffers_next : (x y z : HeadWriter) (buffers : List (Bor (List ℕ))) (i : ℕ) (d : Bor (List ℕ)) (bytes : List ℕ) → i < length buffers
    → bytes ≡ (slice_index_or buffers i d).now → Adds x y (buffers_alone (bytes ∷ []))
    → Adds y z (buffers_alone (lent_buffers (drop (i + 1) buffers))) → Adds x z (buffers_alone (lent_buffers (drop i buffers)))
buffers_next x y z buffers i d bytes there is first second =
    subst (λ l. Adds x z (buffers_alone l)) (buffers_left buffers i d bytes there is)
    (adds_both x y z (buffers_alone (bytes ∷ [])) (buffers_alone (lent_buffers (drop (i + 1) buffers))) first second)

pub buffers_end : (x : HeadWriter) (buffers : List (Bor (List ℕ))) (i : ℕ) → length buffers ≤ i → Adds x x (buffers_alone (lent_buffers (drop i buffers)))
buffers_end x buffers i over =
    subst (λ l. Adds x x (buffers_alone (lent_buffers l))) (sym (drop_of_length-le buffers over)) (adds_none x)

-- ---- no body is too long for what is left of it

module _ (buffers : List (Bor (List ℕ))) (i : ℕ) (d : Bor (List ℕ)) (bytes : List ℕ) (there : i < length buffers)
    (is : bytes ≡ (slice_index_or buffers i d).now) (end : ℕ) (short : end + length (body_with (lent_buffers (drop i buffers))) < 2 ^ 63) where
  left_long : length (body_with (lent_buffers (drop i buffers))) ≡ padded (length bytes) + length (body_with (lent_buffers (drop (i + 1) buffers)))
  left_long =
      let whole = ap (λ l. length (body_with l)) (sym (buffers_left buffers i d bytes there is)) in
      omega (arith, whole, length-append (filled bytes) (body_with (lent_buffers (drop (i + 1) buffers))), length_filled bytes)

  pub buffer_short : end + padded (length bytes) < 2 ^ 63
  buffer_short = omega (arith, left_long, short)

  pub buffers_short : (x y : HeadWriter) → x.end ≡ end → Adds x y (buffers_alone (bytes ∷ []))
      → y.end + length (body_with (lent_buffers (drop (i + 1) buffers))) < 2 ^ 63
  buffers_short x y is_end added =
      omega (arith, left_long, short, is_end, added.end, length_filled bytes, ap length (append-nil (filled bytes)))
