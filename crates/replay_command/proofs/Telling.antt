-- Lines that go out one after the other.
use Rattle.std.proofs.Common.{◌≡◌, ℕ, ◌+◌, ◌<◌, List, [], ◌∷◌, ◌++◌, length, take, drop, get_or, Option, Some, None, Result, Ok, Err, OnErr, sym, ap, ◌∙◌, append-nil, arith}
use Rattle.std.proofs.lemmas.List.{append_assoc, take_more, take-append-drop, length-take-le}
use Rattle.std.specs.Io.KnownBytes.{Appends}
use Rattle.grpc_frames.specs.FrameFaults.{IsBeginning}
use Rattle.traces.specs.declared.step.Step.{Step}
use Rattle.replay_command.specs.Lines.{line_of, lines_from, lines_of}

pub appends_both : (old mid new : Option (List ℕ)) (a b : List ℕ) → Appends old mid a → Appends mid new b → Appends old new (a ++ b)
appends_both None mid new a b h k = tt
appends_both (Some xs) None new a b h k = absurd h
appends_both (Some xs) (Some ys) None a b h k = absurd k
appends_both (Some xs) (Some ys) (Some zs) a b h k = k ∙ ap (λ (l : List ℕ). l ++ b) h ∙ append_assoc xs a b

lines_append : (number : ℕ) (xs ys : List Step) → lines_from number (xs ++ ys) ≡ lines_from number xs ++ lines_from (number + length xs) ys
lines_append number [] ys = let e : number ≡ number + 0 = omega arith in ap (λ (n : ℕ). lines_from n ys) e
lines_append number (x ∷ xs) ys =
    let e : number + 1 + length xs ≡ number + length (x ∷ xs) = omega arith in
    ap (λ (l : List ℕ). line_of number x ++ l) (lines_append (number + 1) xs ys ∙ ap (λ (n : ℕ). lines_from (number + 1) xs ++ lines_from n ys) e)
    ∙ sym (append_assoc (line_of number x) (lines_from (number + 1) xs) (lines_from (number + length (x ∷ xs)) ys))

-- one line more
pub lines_more : (steps : List Step) (i : ℕ) (x : Step) → i < length steps → x ≡ get_or steps i x → lines_of (take (i + 1) steps) ≡ lines_of (take i steps) ++ line_of i x
lines_more steps i x lt is =
    let len : 0 + length (take i steps) ≡ i = omega (arith, length-take-le i steps (omega arith)) in
    ap lines_of (take_more steps i x lt ∙ ap (λ (s : Step). take i steps ++ s ∷ []) (sym is))
    ∙ lines_append 0 (take i steps) (x ∷ [])
    ∙ ap (λ (n : ℕ). lines_of (take i steps) ++ lines_from n (x ∷ [])) len
    ∙ ap (λ (l : List ℕ). lines_of (take i steps) ++ l) (append-nil (line_of i x))

-- a beginning of the next line is one of all lines, behind those before it
pub begins_behind : (steps : List Step) (i : ℕ) (x : Step) (written : List ℕ) → i < length steps → x ≡ get_or steps i x → IsBeginning written (line_of i x)
    → IsBeginning (lines_of (take i steps) ++ written) (lines_of steps)
begins_behind steps i x written lt is begins =
    let before : List ℕ = lines_of (take i steps) in
    let behind : List ℕ = lines_from (0 + length (take (i + 1) steps)) (drop (i + 1) steps) in (
      begins.0 ++ behind,
      append_assoc before written (begins.0 ++ behind)
          ∙ ap (λ (l : List ℕ). before ++ l) (sym (append_assoc written begins.0 behind) ∙ ap (λ (l : List ℕ). l ++ behind) begins.1)
          ∙ sym (append_assoc before (line_of i x) behind)
          ∙ ap (λ (l : List ℕ). l ++ behind) (sym (lines_more steps i x lt is))
          ∙ sym (lines_append 0 (take (i + 1) steps) (drop (i + 1) steps))
          ∙ ap lines_of (take-append-drop (i + 1) steps),
    )

pub on_err : {T E : Type 0} {P : Type 0} (r : Result T E) → P → OnErr r P
on_err (Ok x) p = tt
on_err (Err e) p = p
