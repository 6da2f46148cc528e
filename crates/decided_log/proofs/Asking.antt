-- The messages that are answered.
use Rattle.std.proofs.Common.{◌≡◌, ℕ, ◌+◌, ◌-◌, ◌<◌, ◌≤◌, List, [], ◌∷◌, ◌++◌, length, get_or, take, drop, refl, sym, ◌∙◌, ap, subst, arith, inl, inr, zero, suc, min, slice_get, Option, Some}
use Rattle.std.specs.List.{slice_range}
use Rattle.std.proofs.lemmas.List.{take_rest, take_all, length-take, length-take-le, length-drop}
use Rattle.std.proofs.lemmas.Bool.{cases_lt}
use Rattle.std.proofs.lemmas.Grind.{take_at_read}
use Rattle.std.proofs.Math.ListN.{drop_of_length-le}
use Rattle.ballots.specs.declared.value.Value.{Value}
use Rattle.ballots.specs.declared.message.Message.{Message}
use Rattle.decided_log.specs.Asked.{max_asked, decided_message, decided_messages, asked_of}
use Rattle.decided_log.specs.Decided.{IsPrefix}
use Rattle.decided_log.specs.LogState.{found}
use Rattle.decided_log.specs.Keeping.{IsKept}
use Rattle.decided_log.proofs.Lookups.{one_prefix}
use Rattle.decided_log.proofs.Gaining.{kept_prefix}

messages_append : (node from place : ℕ) (xs ys : List Value) → place ≡ from + length xs → decided_messages node from (xs ++ ys) ≡ decided_messages node from xs ++ decided_messages node place ys
messages_append node from place [] ys at = let same : from ≡ place = omega arith in rw same refl
messages_append node from place (x ∷ xs) ys at = ap (λ rest. decided_message node from x ∷ rest) (messages_append node (suc from) place xs ys (omega arith))

length_messages : (node from : ℕ) (values : List Value) → length (decided_messages node from values) ≡ length values
length_messages node from [] = refl
length_messages node from (value ∷ values) = ap suc (length_messages node (suc from) values)

-- one message more
pub next_message : (node first k : ℕ) (values : List Value) (value : Value) (messages : List Message) (message : Message) → k < length values → value ≡ get_or values k value → messages ≡ decided_messages node first (take k values) → decided_messages node (first + k) (value ∷ []) ≡ message ∷ [] → messages ++ message ∷ [] ≡ decided_messages node first (take (k + 1) values)
next_message node first k values value messages message within is so_far one =
    let inside : k ≤ length values = omega arith in
    let place : first + k ≡ first + length (take k values) = ap (λ n. first + n) (sym (length-take-le k values inside)) in
    rw ((take_at_read values k value within).1, ← is, messages_append node first (first + k) (take k values) (value ∷ []) place, so_far, one) refl

-- the message at a place, with the value that stands there
nth_message : (node from k : ℕ) (values : List Value) → k < length values
    → (value : Value) × (slice_get values k ≡ Some value) × (slice_get (decided_messages node from values) k ≡ Some (decided_message node (from + k) value))
nth_message node from k [] within = absurd (omega (arith, within))
nth_message node from zero (value ∷ values) within = (value, refl, ap (λ (n : ℕ). let o : Option Message = Some (decided_message node n value) in o) (omega arith))
nth_message node from (suc k) (value ∷ values) within =
    let next = nth_message node (suc from) k values (omega (arith, within)) in
    (next.0, next.1, next.2 ∙ ap (λ (n : ℕ). let o : Option Message = Some (decided_message node n next.0) in o) (omega arith))

-- the value at a place of a part stands in the whole
taken_at : (n k : ℕ) (xs : List Value) (value : Value) → slice_get (take n xs) k ≡ Some value → slice_get xs k ≡ Some value
taken_at zero k xs value is = absurd (cc is)
taken_at (suc n) k [] value is = absurd (cc is)
taken_at (suc n) zero (x ∷ xs) value is = is
taken_at (suc n) (suc k) (x ∷ xs) value is = taken_at n k xs value is

dropped_at : (from k : ℕ) (xs : List Value) (value : Value) → slice_get (drop from xs) k ≡ Some value → slice_get xs (from + k) ≡ Some value
dropped_at zero k xs value is = let at : 0 + k ≡ k = omega arith in rw at is
dropped_at (suc from) k [] value is = absurd (cc is)
dropped_at (suc from) k (x ∷ xs) value is = let at : suc from + k ≡ suc (from + k) = omega arith in rw at (dropped_at from k xs value is)

pub count_asked : (node from : ℕ) (prefix : List Value) → length (asked_of node prefix from) ≡ min 16 (length prefix - from)
count_asked node from prefix = rw (length_messages node from (take max_asked (drop from prefix)), length-take max_asked (drop from prefix), length-drop from prefix) refl

pub each_asked : (node from k : ℕ) (prefix : List Value) → k < length (asked_of node prefix from)
    → (value : Value) × (slice_get prefix (from + k) ≡ Some value) × (slice_get (asked_of node prefix from) k ≡ Some (decided_message node (from + k) value))
each_asked node from k prefix within =
    let part = take max_asked (drop from prefix) in
    let one = nth_message node from k part (subst (λ (n : ℕ). k < n) (length_messages node from part) within) in
    (one.0, dropped_at from k prefix one.0 (taken_at max_asked k (drop from prefix) one.0 one.1), one.2)

-- the values from a slot on, up to the limit, as a part of the list
pub few : (xs : List Value) (from start end limit : ℕ) → start ≡ min (length xs) from → end ≡ min (length xs) (start + limit) → slice_range xs start end ≡ take limit (drop from xs)
few xs from start end limit start_is end_is = elim (cases_lt from (length xs)) [
  | inl within ↦
      let starts : start ≡ from = omega (arith, start_is) in
      elim (cases_lt (from + limit) (length xs)) [
        | inl more ↦ (let wide : end - start ≡ limit = omega (arith, end_is, start_is) in rw (wide, starts) refl)
        | inr whole ↦
            let wide : end - start ≡ length xs - from = omega (arith, end_is, start_is) in
            let short : length (drop from xs) ≤ limit = omega (arith, length-drop from xs) in
            rw (wide, starts, take_rest xs from) (sym (take_all limit (drop from xs) short))
      ]
  | inr past ↦
      let narrow : end - start ≡ 0 = omega (arith, end_is, start_is) in
      rw (narrow, drop_of_length-le xs past, take_all {A = Value} limit [] (omega arith)) refl
]

-- the answer, with any prefix that there is
module _ (prefix : List Value) (later : List (ℕ × Value)) (capacity : ℕ) (kept : IsKept prefix later capacity) (node from number len start end : ℕ) (shown : List Value) (shown_is : shown ≡ prefix) (len_is : len ≡ length prefix) (number_is : number ≡ from) (start_is : start ≡ min len number) (end_is : end ≡ min len (start + max_asked)) (before : List Value) (is_before : IsPrefix (found prefix later) before) where
  part : take (end - start) (drop start shown) ≡ take max_asked (drop from before)
  part =
      let same : prefix ≡ before = one_prefix (found prefix later) prefix before (kept_prefix prefix later capacity kept) is_before in
      let starts : start ≡ min (length prefix) from = rw (start_is, len_is, number_is) refl in
      let ends : end ≡ min (length prefix) (start + max_asked) = rw (end_is, len_is) refl in
      rw (shown_is, ← same) (few prefix from start end max_asked starts ends)

  pub answered : decided_messages node from (take (end - start) (drop start shown)) ≡ asked_of node before from
  answered = ap (decided_messages node from) part

  pub counted : (messages : List Message) → messages ≡ decided_messages node from (take (end - start) (drop start shown)) → length messages ≡ min 16 (length before - from)
  counted messages are =
      rw (are, length_messages node from (take (end - start) (drop start shown)), part, length-take max_asked (drop from before), length-drop from before) refl

  pub some_asked : 0 < length (take (end - start) (drop start shown)) → from < length before
  some_asked some = elim (cases_lt from (length before)) [
    | inl within ↦ within
    | inr past ↦ absurd (let none : take (end - start) (drop start shown) ≡ [] = part ∙ ap (take max_asked) (drop_of_length-le before past) ∙ take_all {A = Value} max_asked [] (omega arith) in omega (arith, some, ap length none))
  ]
