-- A node's own entries beside the steps of a journal.
use Rattle.std.proofs.Common.{◌≡◌, ◌↔◌, ℕ, suc, ◌<◌, ◌≤◌, arith, length, drop, get_or, not, Bool, true, false, IsTrue, if◌then◌else◌, None, Some, List, [], ◌∷◌, ◌++◌, refl, sym, ap, subst, ◌∙◌}
use Rattle.std.proofs.lemmas.List.{append_cancel_left}
use Rattle.std.proofs.Math.Seq.{drop-cons}
use Rattle.journal.specs.parts.ballots.specs.declared.message.Message.{Message}
use Rattle.journal.specs.parts.histories.specs.History.{Step}
use Rattle.journal.specs.parts.histories.specs.Owning.{OwnEntry, concerns, entry_of, entries_of, own}
use Rattle.journal.specs.parts.traces.specs.declared.step.Step.{Step as TraceStep}
use Rattle.journal.specs.parts.traces.specs.Told.{step_of, steps_of}
use Rattle.seats.specs.Walking.{LeavesOwn}

-- the entries of a list of steps are those of the first, and of the others
pub one_by_one : (here : Bool) (entry : OwnEntry) (others : List OwnEntry) → (if here then entry ∷ others else others) ≡ (if here then entry ∷ [] else []) ++ others
one_by_one true entry others = refl
one_by_one false entry others = refl

pub own_step : (me : ℕ) (sent : List Message) (step : Step) (steps : List Step) (was : Bool) (more : List Bool)
    → own me sent (step ∷ steps) (was ∷ more) ≡ entries_of me sent step was ++ own me sent steps more
own_step me sent step steps was more = one_by_one (concerns me step.event) (entry_of sent step was) (own me sent steps more)

-- ---- one step

pub not_there : (me : ℕ) (sent : List Message) (step : Step) (was : Bool) (entries : List OwnEntry) → concerns me step.event ≡ false → LeavesOwn me sent step was entries (Some entries)
not_there me sent step was entries is = sym (ap (λ (b : Bool). (if b then entry_of sent step was ∷ [] else []) ++ entries) is)

pub stands_first : (me : ℕ) (sent : List Message) (step : Step) (was : Bool) (entries left : List OwnEntry) (entry : OwnEntry) → concerns me step.event ≡ true → entries ≡ entry ∷ left
    → entry ≡ entry_of sent step was → LeavesOwn me sent step was entries (Some left)
stands_first me sent step was entries left entry is there same =
    there ∙ (ap (λ (e : OwnEntry). e ∷ left) same ∙ sym (ap (λ (b : Bool). (if b then entry_of sent step was ∷ [] else []) ++ left) is))

none_there : (entry : OwnEntry) (left : List OwnEntry) → [] ≡ entry ∷ left → ⊥
none_there entry left is = cc

first_same : (a b : OwnEntry) (x y : List OwnEntry) → a ∷ x ≡ b ∷ y → a ≡ b
first_same a b x y is = cc

pub none_stand : (me : ℕ) (sent : List Message) (step : Step) (was : Bool) (entries : List OwnEntry) → concerns me step.event ≡ true → entries ≡ [] → LeavesOwn me sent step was entries None
none_stand me sent step was entries is there left same =
    none_there (entry_of sent step was) left
    (sym there ∙ (same ∙ ap (λ (b : Bool). (if b then entry_of sent step was ∷ [] else []) ++ left) is))

pub another_stands : (me : ℕ) (sent : List Message) (step : Step) (was : Bool) (entries rest : List OwnEntry) (entry : OwnEntry) → concerns me step.event ≡ true → entries ≡ entry ∷ rest
    → (entry ≡ entry_of sent step was → ⊥) → LeavesOwn me sent step was entries None
another_stands me sent step was entries rest entry is there other left same =
    other (first_same entry (entry_of sent step was) rest left
    (sym there ∙ (same ∙ ap (λ (b : Bool). (if b then entry_of sent step was ∷ [] else []) ++ left) is)))

-- ---- the steps from here on, beside what is left of the entries

abbrev pub Matches : ℕ → List Message → (steps : List Step) → (recovered : List Bool) → (left : List OwnEntry) → Type 0
Matches me sent steps recovered left = own me sent steps recovered ≡ left

pub behind_it : (me : ℕ) (sent : List Message) (step : Step) (steps : List Step) (was : Bool) (more : List Bool) (left behind : List OwnEntry) → LeavesOwn me sent step was left (Some behind)
    → Matches me sent steps more behind ↔ Matches me sent (step ∷ steps) (was ∷ more) left
behind_it me sent step steps was more left behind leaves = (
  λ is. own_step me sent step steps was more ∙ (ap (λ (es : List OwnEntry). entries_of me sent step was ++ es) is ∙ sym leaves),
  λ is. append_cancel_left (entries_of me sent step was) (own me sent steps more) behind (sym (own_step me sent step steps was more) ∙ (is ∙ leaves)),
)

pub differs_here : (me : ℕ) (sent : List Message) (step : Step) (steps : List Step) (was : Bool) (more : List Bool) (left : List OwnEntry) → LeavesOwn me sent step was left None
    → Matches me sent (step ∷ steps) (was ∷ more) left → ⊥
differs_here me sent step steps was more left leaves is = leaves (own me sent steps more) (sym is ∙ own_step me sent step steps was more)

-- no flags are left, or no steps
pub own_unflagged : (me : ℕ) (sent : List Message) (steps : List Step) → own me sent steps [] ≡ []
own_unflagged me sent [] = refl
own_unflagged me sent (step ∷ steps) = refl

-- ---- in the midst of the steps

pub differs_all : (d : Bool) (me : ℕ) (sent : List Message) (steps : List TraceStep) (i : ℕ) (step : TraceStep) (flags : List Bool) (left : List OwnEntry) → i < length steps
    → step ≡ get_or steps i step → 1 ≤ length flags → LeavesOwn me sent (step_of step) (get_or flags 0 d) left None → Matches me sent (steps_of (drop i steps)) flags left → ⊥
differs_all d me sent steps i step [] left within is some leaves same = absurd (omega (arith, some))
differs_all d me sent steps i step (flag ∷ flags) left within is some leaves same =
    differs_here me sent (step_of step) (steps_of (drop (suc i) steps)) flag flags left leaves
    (subst (λ (ss : List TraceStep). Matches me sent (steps_of ss) (flag ∷ flags) left)
    (drop-cons steps i step within ∙ ap (λ (s : TraceStep). s ∷ drop (suc i) steps) (sym is)) same)

false_is_true : false ≡ true → ⊥
false_is_true is = cc

-- what does not hold is told as false
pub none_is_false : {P : Type 0} → (P → ⊥) → (IsTrue false → P) × (P → IsTrue false)
none_is_false not = (λ is. absurd (false_is_true is), λ holds. absurd (not holds))
