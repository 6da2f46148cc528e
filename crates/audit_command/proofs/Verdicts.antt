-- A run has one verdict.
use Rattle.std.proofs.Common.{◌≡◌, ℕ, ◌+◌, ◌<◌, Bool, true, false, List, ◌++◌, length, refl, sym, ap, ◌∙◌, arith}
use Rattle.ballots.specs.declared.message.Message.{Message}
use Rattle.lawful_histories.specs.Lawful.{IsLawful}
use Rattle.lawful_histories.specs.HistoryLaws.{BeginningsAreLawful}
use Rattle.run_breaches.specs.declared.breach.Breach.{Breach}
use Rattle.run_breaches.specs.FirstBreach.{IsFirstBreach, FirstBreachesAreOne}
use Rattle.breach_words.specs.Explanation.{explanation_of}
use Rattle.audit_command.specs.TraceFile.{judgement_line}
use Rattle.audit_command.specs.Explained.{IsVerdict}

-- a run with a breach is not lawful
not_both : BeginningsAreLawful → (n : ℕ) (sent : List Message) (b : Breach) → IsFirstBreach n sent b → IsLawful n sent → ⊥
not_both law n sent b first lawful = first.breaks (law n sent (b.place + 1) (let lt : b.place < length sent = first.within in omega (arith, lt)) lawful)

pub one_verdict : BeginningsAreLawful → FirstBreachesAreOne → (n : ℕ) (sent : List Message) (x y : Bool) (s t : List ℕ) → IsVerdict n sent x s → IsVerdict n sent y t → (x ≡ y) × (s ≡ t)
one_verdict law one n sent true true s t a b = (refl, a.1 ∙ sym b.1)
one_verdict law one n sent true false s t a b = absurd (not_both law n sent b.0 b.1 a.0)
one_verdict law one n sent false true s t a b = absurd (not_both law n sent a.0 a.1 b.0)
one_verdict law one n sent false false s t a b =
    let same : a.0 ≡ b.0 = one n sent a.0 b.0 a.1 b.1 in
    (refl, a.2 ∙ ap (λ (breach : Breach). judgement_line false ++ explanation_of sent breach) same ∙ sym b.2)
