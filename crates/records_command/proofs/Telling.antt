-- Lines that go out one after the other.
use Rattle.std.proofs.Common.{◌≡◌, ℕ, ◌+◌, ◌<◌, List, [], ◌∷◌, ◌++◌, length, take, drop, get_or, Option, Some, None, Result, Ok, Err, OnErr, sym, ap, ◌∙◌, append-nil, arith}
use Rattle.std.proofs.lemmas.List.{append_assoc, take_more, take-append-drop, length-take-le}
use Rattle.std.specs.Io.KnownBytes.{Appends}
use Rattle.grpc_frames.specs.FrameFaults.{IsBeginning}
use Rattle.ballots.specs.declared.record.Record.{Record}
use Rattle.records_command.specs.Lines.{line_of, lines_from, lines_of}

pub appends_both : (old mid new : Option (List ℕ)) (a b : List ℕ) → Appends old mid a → Appends mid new b → Appends old new (a ++ b)
appends_both None mid new a b h k = tt
appends_both (Some xs) None new a b h k = absurd h
appends_both (Some xs) (Some ys) None a b h k = absurd k
appends_both (Some xs) (Some ys) (Some zs) a b h k = k ∙ ap (λ (l : List ℕ). l ++ b) h ∙ append_assoc xs a b

lines_append : (number : ℕ) (xs ys : List Record) → lines_from number (xs ++ ys) ≡ lines_from number xs ++ lines_from (number + length xs) ys
lines_append number [] ys = let e : number ≡ number + 0 = omega arith in ap (λ (n : ℕ). lines_from n ys) e
lines_append number (x ∷ xs) ys =
    let e : number + 1 + length xs ≡ number + length (x ∷ xs) = omega arith in
    ap (λ (l : List ℕ). line_of number x ++ l) (lines_append (number + 1) xs ys ∙ ap (λ (n : ℕ). lines_from (number + 1) xs ++ lines_from n ys) e)
    ∙ sym (append_assoc (line_of number x) (lines_from (number + 1) xs) (lines_from (number + length (x ∷ xs)) ys))

-- one line more
pub lines_more : (records : List Record) (i : ℕ) (x : Record) → i < length records → x ≡ get_or records i x → lines_of (take (i + 1) records) ≡ lines_of (take i records) ++ line_of i x
lines_more records i x lt is =
    let len : 0 + length (take i records) ≡ i = omega (arith, length-take-le i records (omega arith)) in
    ap lines_of (take_more records i x lt ∙ ap (λ (s : Record). take i records ++ s ∷ []) (sym is))
    ∙ lines_append 0 (take i records) (x ∷ [])
    ∙ ap (λ (n : ℕ). lines_of (take i records) ++ lines_from n (x ∷ [])) len
    ∙ ap (λ (l : List ℕ). lines_of (take i records) ++ l) (append-nil (line_of i x))

-- a beginning of the next line is one of all lines, behind those before it
pub begins_behind : (records : List Record) (i : ℕ) (x : Record) (written : List ℕ) → i < length records → x ≡ get_or records i x → IsBeginning written (line_of i x)
    → IsBeginning (lines_of (take i records) ++ written) (lines_of records)
begins_behind records i x written lt is begins =
    let before : List ℕ = lines_of (take i records) in
    let behind : List ℕ = lines_from (0 + length (take (i + 1) records)) (drop (i + 1) records) in (
      begins.0 ++ behind,
      append_assoc before written (begins.0 ++ behind)
          ∙ ap (λ (l : List ℕ). before ++ l) (sym (append_assoc written begins.0 behind) ∙ ap (λ (l : List ℕ). l ++ behind) begins.1)
          ∙ sym (append_assoc before (line_of i x) behind)
          ∙ ap (λ (l : List ℕ). l ++ behind) (sym (lines_more records i x lt is))
          ∙ sym (lines_append 0 (take (i + 1) records) (drop (i + 1) records))
          ∙ ap lines_of (take-append-drop (i + 1) records),
    )

pub on_err : {T E : Type 0} {P : Type 0} (r : Result T E) → P → OnErr r P
on_err (Ok x) p = tt
on_err (Err e) p = p
