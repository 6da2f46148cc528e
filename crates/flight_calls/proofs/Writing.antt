-- Frames written one by one.
use Rattle.std.proofs.Common.{◌≡◌, refl, sym, ap, ap₂, subst, ◌∙◌, ℕ, zero, suc, ◌+◌, ◌<◌, ◌≤◌, Option, Some, None, Result, Ok, Err, List, [], ◌∷◌, ◌++◌, length, take, drop, get_or, length-append, append_assoc, arith}
use Rattle.std.specs.List.{concat}
use Rattle.std.proofs.lemmas.List.{append-nil, take_more, take_all}
use Rattle.std.proofs.lemmas.List.Folds.{concat-append}
use Rattle.grpc_frames.specs.FrameFaults.{WhereKnown, Writes}
use Rattle.grpc_frames.specs.declared.fault.FrameFault.{FrameFault}

more_bytes : (frames : List (List ℕ)) (i : ℕ) (frame : List ℕ) → i < length frames → frame ≡ get_or frames i frame
    → concat (take (i + 1) frames) ≡ concat (take i frames) ++ frame
more_bytes frames i frame within is =
    ap concat (take_more frames i frame within)
    ∙ concat-append (take i frames) (get_or frames i frame ∷ [])
    ∙ ap (λ l. concat (take i frames) ++ l) (append-nil (get_or frames i frame) ∙ sym is)

cut_at : (frames : List (List ℕ)) (n : ℕ) → concat frames ≡ concat (take n frames) ++ concat (drop n frames)
cut_at frames zero = refl
cut_at [] (suc n) = refl
cut_at (frame ∷ frames) (suc n) =
    ap (λ l. frame ++ l) (cut_at frames n) ∙ sym (append_assoc frame (concat (take n frames)) (concat (drop n frames)))

-- the first so many frames have gone out
abbrev pub HaveGone : List (List ℕ) → ℕ → List ℕ → List ℕ → Type 0
HaveGone frames i old new = new ≡ old ++ concat (take i frames)

module _ (frames : List (List ℕ)) (i : ℕ) (frame bytes : List ℕ) (within : i < length frames) (is : frame ≡ get_or frames i frame) (same : bytes ≡ frame) where
  pub one_more : (old mid new : Option (List ℕ)) → WhereKnown old mid (HaveGone frames i) → WhereKnown mid new (Writes (Ok tt) bytes) → WhereKnown old new (HaveGone frames (i + 1))
  one_more None mid new before now = tt
  one_more (Some x) None new before now = absurd before
  one_more (Some x) (Some y) None before now = absurd now
  one_more (Some x) (Some y) (Some z) before now =
      now
      ∙ ap₂ (λ a b. a ++ b) before same
      ∙ append_assoc x (concat (take i frames)) frame
      ∙ ap (λ l. x ++ l) (sym (more_bytes frames i frame within is))

  begins : (written more : List ℕ) → written ++ more ≡ bytes → (concat (take i frames) ++ written) ++ (more ++ concat (drop (i + 1) frames)) ≡ concat frames
  begins written more whole =
      let front : List ℕ = concat (take i frames) in
      let rest : List ℕ = concat (drop (i + 1) frames) in
      append_assoc front written (more ++ rest)
      ∙ ap (λ l. front ++ l) (sym (append_assoc written more rest) ∙ ap (λ l. l ++ rest) (whole ∙ same))
      ∙ sym (append_assoc front frame rest)
      ∙ ap (λ l. l ++ rest) (sym (more_bytes frames i frame within is))
      ∙ sym (cut_at frames (i + 1))

  shorter : (written : List ℕ) → length written < length bytes → length (concat (take i frames) ++ written) < length (concat frames)
  shorter written short =
      omega (
        arith,
        short,
        ap length same,
        length-append (concat (take i frames)) written,
        length-append (concat (take i frames)) frame,
        ap length (more_bytes frames i frame within is),
        length-append (concat (take (i + 1) frames)) (concat (drop (i + 1) frames)),
        ap length (cut_at frames (i + 1)),
      )

  pub part_of_one : (fault : FrameFault) (old mid new : Option (List ℕ)) → WhereKnown old mid (HaveGone frames i) → WhereKnown mid new (Writes (Err fault) bytes)
      → WhereKnown old new (Writes (Err fault) (concat frames))
  part_of_one fault None mid new before now = tt
  part_of_one fault (Some x) None new before now = absurd before
  part_of_one fault (Some x) (Some y) None before now = absurd now
  part_of_one fault (Some x) (Some y) (Some z) before now = (
    concat (take i frames) ++ now.0,
    now.1 ∙ ap (λ l. l ++ now.0) before ∙ append_assoc x (concat (take i frames)) now.0,
    (now.2.0 ++ concat (drop (i + 1) frames), begins now.0 now.2.0 now.2.1),
    shorter now.0 now.3,
  )

pub all_gone : (frames : List (List ℕ)) (i : ℕ) (old new : Option (List ℕ)) → length frames ≤ i → WhereKnown old new (HaveGone frames i) → WhereKnown old new (Writes (Ok tt) (concat frames))
all_gone frames i old new within gone = subst (λ l. WhereKnown old new (λ x y. y ≡ x ++ concat l)) (take_all i frames within) gone

-- the same bytes by another name
pub writes_same : (r : Result (Unit {0}) FrameFault) (a b : List ℕ) (old new : Option (List ℕ)) → a ≡ b → WhereKnown old new (Writes r a) → WhereKnown old new (Writes r b)
writes_same r a b old new same writes = subst (λ l. WhereKnown old new (Writes r l)) same writes
