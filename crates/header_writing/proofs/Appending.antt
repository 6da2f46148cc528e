-- What an object's parts, appended one after the other, make of a text.
use Rattle.std.proofs.Common.{◌≡◌, ℕ, ℤ, zero, suc, ◌+◌, ◌-◌, ◌*◌, ◌≤◌, ◌<◌, List, [], ◌∷◌, ◌++◌, length, get_or, take}
use Rattle.std.proofs.Common.{drop, arith, refl, ap, sym, subst, ◌∙◌, append_assoc, length-append}
use Rattle.std.proofs.lemmas.List.{append-nil, take-append-le, drop-append-le, drop_more}
use Rattle.std.proofs.lemmas.Int.{to_z-of_z}
use Rattle.std.specs.Int.{w64, cast_signed, cast_unsigned}
use Rattle.std.specs.List.{AllByRecursion}
use Rattle.byteorder.specs.Endian.{little_bytes}
use Rattle.header_writing.specs.Objects.{string_object, zeros, padding, shorts, table_lead}
use Rattle.header_writing.specs.Canonical.{int64_number, pairs_text, pairs_object}
use Rattle.header_writing.specs.Filling.{referring, with_object, table_begun, references_begun}
use Rattle.header_writing.specs.Written.{FitsPair}
use Rattle.header_writing.proofs.Filling.{length_zeros, length_shorts, length_table_begun, length_references_begun}

-- ---- zeros

zeros_then : (m n : ℕ) → zeros m ++ zeros n ≡ zeros (m + n)
zeros_then zero n =
    let same : n ≡ 0 + n = omega arith in
    ap zeros same
zeros_then (suc m) n =
    let same : suc (m + n) ≡ suc m + n = omega arith in
    ap (λ (l : List ℕ). 0 ∷ l) (zeros_then m n) ∙ ap zeros same

more_zeros : (old mid new : List ℕ) (m n k : ℕ) → mid ≡ old ++ zeros m → new ≡ mid ++ zeros n → m + n ≡ k
    → new ≡ old ++ zeros k
more_zeros old mid new m n k first second sum =
    second ∙ ap (λ (l : List ℕ). l ++ zeros n) first ∙ append_assoc old (zeros m) (zeros n)
    ∙ ap (λ (l : List ℕ). old ++ l) (zeros_then m n ∙ ap zeros sum)

pub one_more_zero : (old mid new : List ℕ) (n : ℕ) → mid ≡ old ++ zeros n → new ≡ mid ++ 0 ∷ []
    → new ≡ old ++ zeros (n + 1)
one_more_zero old mid new n first second = more_zeros old mid new n 1 (n + 1) first second refl

pub one_more_blank : (old mid new : List ℕ) (n : ℕ) → mid ≡ old ++ zeros (4 * n) → new ≡ mid ++ little_bytes 4 0
    → new ≡ old ++ zeros (4 * (n + 1))
one_more_blank old mid new n first second = more_zeros old mid new (4 * n) 4 (4 * (n + 1)) first second (omega arith)

-- ---- references

replaced_behind : (front' front bytes back' back gap : List ℕ) → front' ≡ front → back' ≡ back ++ gap
    → front' ++ (bytes ++ back') ≡ (front ++ (bytes ++ back)) ++ gap
replaced_behind front' front bytes back' back gap ea eb =
    ap (λ (l : List ℕ). l ++ (bytes ++ back')) ea ∙ ap (λ (l : List ℕ). front ++ (bytes ++ l)) eb ∙ simp append_assoc

-- a reference in what stands before some bytes is set
referring_behind : (text gap : List ℕ) (from target : ℕ) → from + 4 ≤ length text
    → referring (text ++ gap) from target ≡ referring text from target ++ gap
referring_behind text gap from target within =
    let front : take from (text ++ gap) ≡ take from text = take-append-le from text gap (omega arith) in
    let back : drop (from + 4) (text ++ gap) ≡ drop (from + 4) text ++ gap =
    drop-append-le (from + 4) text gap within in
    replaced_behind (take from (text ++ gap)) (take from text) (little_bytes 4 (target - from))
    (drop (from + 4) (text ++ gap)) (drop (from + 4) text) gap
    front back

-- a reference is set to where the text ends
pub begun_behind : (old before referred gap : List ℕ) (from target : ℕ) → from + 4 ≤ length old → before ≡ old ++ gap
    → referred ≡ referring before from (length before) → length old + length gap ≡ target
    → referred ≡ referring old from target ++ gap
begun_behind old before referred gap from target within appended set ends =
    let long : length (old ++ gap) ≡ target = length-append old gap ∙ ends in
    set ∙ ap (λ (l : List ℕ). referring l from (length l)) appended
    ∙ referring_behind old gap from (length (old ++ gap)) within
    ∙ ap (λ (n : ℕ). referring old from n ++ gap) long

lead_length : (n : ℕ) (gap numbers : List ℕ) (x y : ℕ) → length gap ≡ x → length numbers ≡ y
    → n + length (gap ++ numbers) ≡ n + (x + y)
lead_length n gap numbers x y ea eb = simp length-append (omega arith)

-- ---- structs

pub pair_put : (old mid new : List ℕ) (pair : ℤ × ℤ) → FitsPair pair
    → mid ≡ old ++ little_bytes 8 (int64_number (cast_signed w64 (cast_unsigned w64 pair.0)))
    → new ≡ mid ++ little_bytes 8 (int64_number (cast_signed w64 (cast_unsigned w64 pair.1)))
    → new ≡ old ++ pairs_text (pair ∷ [])
pair_put old mid new pair fits first second =
    let a = little_bytes 8 (int64_number pair.0) in
    let b = little_bytes 8 (int64_number pair.1) in
    let first' : mid ≡ old ++ a = first ∙ ap (λ (z : ℤ). old ++ little_bytes 8 (int64_number z))
    (to_z-of_z w64 pair.0 fits.0) in
    let second' : new ≡ mid ++ b = second ∙ ap (λ (z : ℤ). mid ++ little_bytes 8 (int64_number z))
    (to_z-of_z w64 pair.1 fits.1) in
    second' ∙ ap (λ (l : List ℕ). l ++ b) first' ∙ append_assoc old a b
    ∙ ap (λ (l : List ℕ). old ++ l) (sym (append-nil (a ++ b)))

pairs_then : (pair : ℤ × ℤ) (rest : List (ℤ × ℤ)) → pairs_text (pair ∷ rest) ≡ pairs_text (pair ∷ []) ++ pairs_text rest
pairs_then pair rest =
    ap (λ (l : List ℕ). l ++ pairs_text rest)
    (sym (append-nil (little_bytes 8 (int64_number pair.0) ++ little_bytes 8 (int64_number pair.1))))

pub structs_more : (old mid new : List ℕ) (pairs : List (ℤ × ℤ)) (i : ℕ) (d : ℤ × ℤ) → i < length pairs
    → mid ++ pairs_text (drop i pairs) ≡ old ++ pairs_text pairs → new ≡ mid ++ pairs_text (get_or pairs i d ∷ [])
    → new ++ pairs_text (drop (i + 1) pairs) ≡ old ++ pairs_text pairs
structs_more old mid new pairs i d below so_far one =
    let pair = get_or pairs i d in
    let rest = drop (i + 1) pairs in
    ap (λ (l : List ℕ). l ++ pairs_text rest) one ∙ append_assoc mid (pairs_text (pair ∷ [])) (pairs_text rest)
    ∙ ap (λ (l : List ℕ). mid ++ l) (sym (pairs_then pair rest) ∙ ap pairs_text (sym (drop_more pairs i d below)))
    ∙ so_far

pub fits_more : (pairs : List (ℤ × ℤ)) (i : ℕ) (d : ℤ × ℤ) → i < length pairs → FitsPair (get_or pairs i d)
    → (AllByRecursion FitsPair (drop i pairs) → AllByRecursion FitsPair pairs)
    → AllByRecursion FitsPair (drop (i + 1) pairs) → AllByRecursion FitsPair pairs
fits_more pairs i d below one so_far rest =
    so_far (subst (λ (l : List (ℤ × ℤ)). AllByRecursion FitsPair l) (sym (drop_more pairs i d below)) (one, rest))

-- ---- objects

three_more : (set gap a b c first second third new : List ℕ) → first ≡ (set ++ gap) ++ a → second ≡ first ++ b
    → third ≡ second ++ c → new ≡ third
    → new ≡ set ++ (((gap ++ a) ++ b) ++ c)
three_more set gap a b c first second third new ea eb ec en =
    en ∙ ec ∙ ap (λ (l : List ℕ). l ++ c) (eb ∙ ap (λ (l : List ℕ). l ++ b) ea) ∙ simp append_assoc

pub string_put : (old padded referred counted held new string : List ℕ) (from : ℕ) → from + 4 ≤ length old
    → padded ≡ old ++ zeros (padding 4 (length old + 0)) → referred ≡ referring padded from (length padded)
    → counted ≡ referred ++ little_bytes 4 (length string) → held ≡ counted ++ string → new ≡ held ++ 0 ∷ []
    → new ≡ with_object old from (string_object string)
string_put old padded referred counted held new string from within first second third fourth fifth =
    let place : length old + 0 ≡ length old = omega arith in
    let gap = zeros (padding 4 (length old)) in
    let target = length old + padding 4 (length old) in
    let behind : padded ≡ old ++ gap = first ∙ ap (λ (n : ℕ). old ++ zeros (padding 4 n)) place in
    let set : referred ≡ referring old from target ++ gap =
    begun_behind old padded referred gap from target within behind second
    (ap (λ (n : ℕ). length old + n) (length_zeros (padding 4 (length old)))) in
    three_more (referring old from target) gap (little_bytes 4 (length string)) string (0 ∷ []) counted held new new
    (third ∙ ap (λ (l : List ℕ). l ++ little_bytes 4 (length string)) set) fourth fifth refl

two_more : (set gap a b first second : List ℕ) → first ≡ (set ++ gap) ++ a → second ≡ first ++ b
    → second ≡ set ++ ((gap ++ a) ++ b)
two_more set gap a b first second ea eb = eb ∙ ap (λ (l : List ℕ). l ++ b) ea ∙ simp append_assoc

pub pairs_put : (old padded referred counted new : List ℕ) (pairs : List (ℤ × ℤ)) (from : ℕ) → from + 4 ≤ length old
    → padded ≡ old ++ zeros (padding 8 (length old + 4)) → referred ≡ referring padded from (length padded)
    → counted ≡ referred ++ little_bytes 4 (length pairs) → new ≡ counted ++ pairs_text pairs
    → new ≡ with_object old from (pairs_object pairs)
pairs_put old padded referred counted new pairs from within first second third fourth =
    let gap = zeros (padding 8 (length old + 4)) in
    let target = length old + padding 8 (length old + 4) in
    let set : referred ≡ referring old from target ++ gap =
    begun_behind old padded referred gap from target within first second
    (ap (λ (n : ℕ). length old + n) (length_zeros (padding 8 (length old + 4)))) in
    two_more (referring old from target) gap (little_bytes 4 (length pairs)) (pairs_text pairs) counted new
    (third ∙ ap (λ (l : List ℕ). l ++ little_bytes 4 (length pairs)) set) fourth

pub references_put : (old padded referred counted new cells : List ℕ) (from count : ℕ) → from + 4 ≤ length old
    → padded ≡ old ++ zeros (padding 4 (length old + 0)) → referred ≡ referring padded from (length padded)
    → counted ≡ referred ++ little_bytes 4 count → new ≡ counted ++ cells → new ≡ references_begun old from count cells
references_put old padded referred counted new cells from count within first second third fourth =
    let place : length old + 0 ≡ length old = omega arith in
    let gap = zeros (padding 4 (length old)) in
    let target = length old + padding 4 (length old) in
    let behind : padded ≡ old ++ gap = first ∙ ap (λ (n : ℕ). old ++ zeros (padding 4 n)) place in
    let set : referred ≡ referring old from target ++ gap =
    begun_behind old padded referred gap from target within behind second
    (ap (λ (n : ℕ). length old + n) (length_zeros (padding 4 (length old)))) in
    fourth ∙ ap (λ (l : List ℕ). l ++ cells) (third ∙ ap (λ (l : List ℕ). l ++ little_bytes 4 count) set)

pub table_put : (old padded numbered referred sized new cells numbers : List ℕ) (from : ℕ) → from + 4 ≤ length old
    → padded ≡ old ++ zeros (padding 8 (length old + 2 * length numbers)) → numbered ≡ padded ++ shorts numbers
    → referred ≡ referring numbered from (length numbered) → sized ≡ referred ++ little_bytes 4 (2 * length numbers)
    → new ≡ sized ++ cells
    → new ≡ table_begun old from numbers cells
table_put old padded numbered referred sized new cells numbers from within first second third fourth fifth =
    let count = padding 8 (length old + 2 * length numbers) in
    let gap = zeros count ++ shorts numbers in
    let target = length old + table_lead (length old) numbers in
    let behind : numbered ≡ old ++ gap =
    second ∙ ap (λ (l : List ℕ). l ++ shorts numbers) first ∙ append_assoc old (zeros count) (shorts numbers) in
    let long : length old + length gap ≡ target =
    lead_length (length old) (zeros count) (shorts numbers) count (2 * length numbers)
    (length_zeros count) (length_shorts numbers) in
    let set : referred ≡ (referring old from target ++ zeros count) ++ shorts numbers =
    begun_behind old numbered referred gap from target within behind third long
    ∙ sym (append_assoc (referring old from target) (zeros count) (shorts numbers)) in
    fifth ∙ ap (λ (l : List ℕ). l ++ cells) (fourth ∙ ap (λ (l : List ℕ). l ++ little_bytes 4 (2 * length numbers)) set)

-- where what follows the count of references, or a table's first four bytes, stands
pub references_first : (old padded referred counted : List ℕ) (from count first : ℕ) → from + 4 ≤ length old
    → padded ≡ old ++ zeros (padding 4 (length old + 0)) → referred ≡ referring padded from (length padded)
    → counted ≡ referred ++ little_bytes 4 count → first ≡ length counted
    → first ≡ length old + padding 4 (length old) + 4
references_first old padded referred counted from count first within one two three is =
    let begun : counted ≡ references_begun old from count [] =
    references_put old padded referred counted counted [] from count within one two three (sym (append-nil counted)) in
    let none : length old + padding 4 (length old) + 4 + 0 ≡ length old + padding 4 (length old) + 4 = omega arith in
    is ∙ ap length begun ∙ length_references_begun old from count [] within ∙ none

pub table_first : (old padded numbered referred sized numbers : List ℕ) (from first : ℕ) → from + 4 ≤ length old
    → padded ≡ old ++ zeros (padding 8 (length old + 2 * length numbers)) → numbered ≡ padded ++ shorts numbers
    → referred ≡ referring numbered from (length numbered) → sized ≡ referred ++ little_bytes 4 (2 * length numbers)
    → first ≡ length sized
    → first ≡ length old + table_lead (length old) numbers + 4
table_first old padded numbered referred sized numbers from first within one two three four is =
    let begun : sized ≡ table_begun old from numbers [] =
    table_put old padded numbered referred sized sized [] numbers from within one two three four
    (sym (append-nil sized)) in
    let none : length old + table_lead (length old) numbers + 4 + 0 ≡ length old + table_lead (length old) numbers + 4 =
    omega arith in
    is ∙ ap length begun ∙ length_table_begun old from numbers [] within ∙ none
