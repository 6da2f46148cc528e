-- All slots that are marked.
use Rattle.std.proofs.Common.{◌≡◌, ◌||◌, ◌∷◌, [], ℕ, Bool, true, false, cond, List, length, map, Option, Some, None, refl, ap, ◌∙◌}
use Rattle.std.specs.List.{list_any}
use Rattle.folder_report.specs.Marks.{AreMarked, MarkAll, Marks, accept, are_of, mark_at, stand}
use Rattle.folder_report.specs.Values.{slots_limit}
use Rattle.folder_report.specs.declared.report.SlotState.{SlotState}
use Rattle.folder_report.specs.declared.report.SlotState.TheVariants.{Undecided, Waiting}
use Rattle.ballots.specs.declared.message.Message.{Message}
use Rattle.ballots.specs.declared.record.Record.{Record}

-- a test of what is seen of elements
any_seen : {X Y : Type 0} (test : Y → Bool) (v : X → Y) (xs : List X) → list_any (λ (x : X). test (v x)) xs ≡ list_any test (map v xs)
any_seen test v [] = refl
any_seen test v (x ∷ xs) = ap (λ (b : Bool). test (v x) || b) (any_seen test v xs)

-- what is chosen stands as such, whatever is accepted
stands : (told accepted : Bool) → cond told (Some Waiting) (cond accepted (Some Undecided) None) ≡ stand told accepted
stands true accepted = refl
stands false true = refl
stands false false = refl

-- of no marks, all are made by marking what is accepted, and then what is chosen
pub all_marked : {V : Type 0} (v : V → List Record) (records : List V) (told : List Message) (none accepted marks : Marks) → length none ≡ slots_limit → ((slot : ℕ) → mark_at none slot ≡ None)
    → AreMarked none accepted (λ slot. list_any (λ own. accept slot (v own)) records) Undecided → AreMarked accepted marks (λ slot. are_of slot told) Waiting
    → MarkAll (map v records) told marks
all_marked v records told none accepted marks size start first second = record {
  size = second.size ∙ first.size ∙ size;
  each = λ slot.
      second.each slot
      ∙ ap (λ (o : Option SlotState). cond (are_of slot told) (Some Waiting) o) (
      first.each slot
      ∙ ap (λ (b : Bool). cond b (Some Undecided) (mark_at none slot)) (any_seen (accept slot) v records)
      ∙ ap (λ (o : Option SlotState). cond (list_any (accept slot) (map v records)) (Some Undecided) o) (start slot)
      )
      ∙ stands (are_of slot told) (list_any (accept slot) (map v records));
}
