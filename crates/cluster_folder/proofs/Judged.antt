-- That a folder is judged in one way.
use Rattle.std.proofs.Common.{◌≡◌, ◌⊎◌, inl, inr, ℕ, ◌<◌, List, Option, Some, None, Result, Ok, Err, refl, sym, ap, subst, ◌∙◌, arith}
use Rattle.std.specs.Prelude.{slice_index_or}
use Rattle.std.proofs.lemmas.Bool.{cases_lt}
use Rattle.cluster_identity.specs.declared.file_mark.FileMark.{FileMark}
use Rattle.cluster_folder.specs.declared.fault.FolderFault.{FolderFault}
use Rattle.cluster_folder.specs.declared.fault.FolderFault.TheVariants as fault
use Rattle.cluster_folder.specs.declared.judging.FolderState.{FolderState}
use Rattle.cluster_folder.specs.declared.judging.FolderState.TheVariants.{New, Old}
use Rattle.cluster_folder.specs.Judging.{AreWhole, IsCut, IsFirst, IsNew, IsOfOthers, IsWhole, JudgeGives, marked_of}

abbrev Judged : Type 0
Judged = Result FolderState FolderFault

-- ---- a file that is not whole

-- the fault of a node whose file has this length and is not whole
abbrev fault_at : ℕ → Option ℕ → Judged
fault_at node None = Err (fault.Missing node)
fault_at node (Some size) = Err (fault.Truncated node)

cut_is_not_whole : (size : Option ℕ) (marked : ℕ) → IsCut size marked → IsWhole size marked → ⊥
cut_is_not_whole None marked cut whole = whole
cut_is_not_whole (Some size) marked cut whole = omega (arith, cut, whole)

cut_is_truncated : (node : ℕ) (size : Option ℕ) (marked : ℕ) → IsCut size marked → Err (fault.Truncated node) ≡ fault_at node size
cut_is_truncated node None marked cut = absurd cut
cut_is_truncated node (Some size) marked cut = refl

-- the first file that is not whole is this node's
record IsFaultAt (count : ℕ) (sizes : List (Option ℕ)) (marks : Option (List FileMark)) (node : ℕ) (one : Judged) : Type 0 where
  pub first : IsFirst count node sizes marks
  pub is_not_whole : IsWhole (slice_index_or sizes node None) (marked_of marks node) → ⊥
  pub is : one ≡ fault_at node (slice_index_or sizes node None)

-- ---- what is told, by what comes first

abbrev OfFiles : ℕ → List (Option ℕ) → Option (List FileMark) → Judged → Type 0
OfFiles count sizes marks one =
    (AreWhole count sizes marks × (one ≡ Ok Old)) ⊎ ((node : ℕ) × IsFaultAt count sizes marks node one)

abbrev OfOlder : ℕ → List (Option ℕ) → Option (List FileMark) → Judged → Type 0
OfOlder count sizes marks one =
    (IsOfOthers count sizes marks × (one ≡ Err fault.Members))
    ⊎ ((IsOfOthers count sizes marks → ⊥) × OfFiles count sizes marks one)

abbrev Told : ℕ → List (Option ℕ) → Option (List FileMark) → Judged → Type 0
Told count sizes marks one =
    (IsNew sizes marks × (one ≡ Ok New)) ⊎ ((IsNew sizes marks → ⊥) × OfOlder count sizes marks one)

told : (count : ℕ) (sizes : List (Option ℕ)) (marks : Option (List FileMark)) (one : Judged)
    → JudgeGives count sizes marks one → Told count sizes marks one
told count sizes marks (Ok New) g = inl (g, refl)
told count sizes marks (Ok Old) g = inr (g.0.0, inr (g.0.1, inl (g.1, refl)))
told count sizes marks (Err fault.Folder) g = absurd g
told count sizes marks (Err (fault.Open node)) g = absurd g
told count sizes marks (Err (fault.Locked node)) g = absurd g
told count sizes marks (Err (fault.SumsOpen node)) g = absurd g
told count sizes marks (Err (fault.SumsLocked node)) g = absurd g
told count sizes marks (Err fault.IdentityDevice) g = absurd g
told count sizes marks (Err fault.IdentityDamaged) g = absurd g
told count sizes marks (Err fault.Members) g = inr (g.0, inl (g.1, refl))
told count sizes marks (Err (fault.Missing node)) g =
    let gone = g.1.1 in
    let P : Option ℕ → Type 0 = λ size. IsWhole size (marked_of marks node) in
    inr (
      g.0.0,
      inr (
        g.0.1,
        inr (
          node,
          record {
            first = g.1.0;
            is_not_whole = λ whole. subst P gone whole;
            is = ap (fault_at node) (sym gone);
          },
        ),
      ),
    )
told count sizes marks (Err (fault.Truncated node)) g =
    let size = slice_index_or sizes node None in
    inr (
      g.0.0,
      inr (
        g.0.1,
        inr (
          node,
          record {
            first = g.1.0;
            is_not_whole = cut_is_not_whole size (marked_of marks node) g.1.1;
            is = cut_is_truncated node size (marked_of marks node) g.1.1;
          },
        ),
      ),
    )
told count sizes marks (Err (fault.Foreign node)) g = absurd g
told count sizes marks (Err (fault.Device node)) g = absurd g
told count sizes marks (Err fault.OutOfMemory) g = absurd g

-- ---- two that are told are one

not_below : (count : ℕ) (sizes : List (Option ℕ)) (marks : Option (List FileMark)) (node number : ℕ) (one : Judged)
    → IsFaultAt count sizes marks node one → AreWhole number sizes marks → node < number → ⊥
not_below count sizes marks node number one at whole lt = at.is_not_whole (whole node lt)

one_node : (count : ℕ) (sizes : List (Option ℕ)) (marks : Option (List FileMark)) (node number : ℕ) (one other : Judged)
    → IsFaultAt count sizes marks node one → IsFaultAt count sizes marks number other → node ≡ number
one_node count sizes marks node number one other a b =
    elim (cases_lt node number) as (λ _. node ≡ number) [
      | inl lt ↦ absurd (not_below count sizes marks node number one a b.first.1 lt)
      | inr le ↦ elim (cases_lt number node) as (λ _. node ≡ number) [
        | inl lt ↦ absurd (not_below count sizes marks number node other b a.first.1 lt)
        | inr ge ↦ omega (arith, le, ge)
      ]
    ]

files_same : (count : ℕ) (sizes : List (Option ℕ)) (marks : Option (List FileMark)) (one other : Judged)
    → OfFiles count sizes marks one → OfFiles count sizes marks other → one ≡ other
files_same count sizes marks one other (inl a) (inl b) = a.1 ∙ sym b.1
files_same count sizes marks one other (inl a) (inr b) =
    absurd (not_below count sizes marks b.0 count other b.1 a.0 b.1.first.0)
files_same count sizes marks one other (inr a) (inl b) =
    absurd (not_below count sizes marks a.0 count one a.1 b.0 a.1.first.0)
files_same count sizes marks one other (inr a) (inr b) =
    let same = one_node count sizes marks a.0 b.0 one other a.1 b.1 in
    a.1.is ∙ ap (λ (node : ℕ). fault_at node (slice_index_or sizes node None)) same ∙ sym b.1.is

older_same : (count : ℕ) (sizes : List (Option ℕ)) (marks : Option (List FileMark)) (one other : Judged)
    → OfOlder count sizes marks one → OfOlder count sizes marks other → one ≡ other
older_same count sizes marks one other (inl a) (inl b) = a.1 ∙ sym b.1
older_same count sizes marks one other (inl a) (inr b) = absurd (b.0 a.0)
older_same count sizes marks one other (inr a) (inl b) = absurd (a.0 b.0)
older_same count sizes marks one other (inr a) (inr b) = files_same count sizes marks one other a.1 b.1

told_same : (count : ℕ) (sizes : List (Option ℕ)) (marks : Option (List FileMark)) (one other : Judged)
    → Told count sizes marks one → Told count sizes marks other → one ≡ other
told_same count sizes marks one other (inl a) (inl b) = a.1 ∙ sym b.1
told_same count sizes marks one other (inl a) (inr b) = absurd (b.0 a.0)
told_same count sizes marks one other (inr a) (inl b) = absurd (a.0 b.0)
told_same count sizes marks one other (inr a) (inr b) = older_same count sizes marks one other a.1 b.1

pub judged_same : (count : ℕ) (sizes : List (Option ℕ)) (marks : Option (List FileMark)) (one other : Judged)
    → JudgeGives count sizes marks one → JudgeGives count sizes marks other → one ≡ other
judged_same count sizes marks one other g h =
    told_same count sizes marks one other (told count sizes marks one g) (told count sizes marks other h)
