-- A history that follows, step by step: what stays as the steps go on holds before each of them, and behind the last.
use Rattle.std.proofs.Common.{◌≡◌, ℕ, zero, suc, ◌+◌, Bool, List, [], ◌∷◌, ◌++◌, length, take, Some, slice_get, sym, subst}
use Rattle.std.proofs.lemmas.List.{append-nil, append_assoc}
use Rattle.ballots.specs.declared.message.Message.{Message}
use Rattle.histories.specs.EventResult.{count_of}
use Rattle.histories.specs.History.{Step}
use Rattle.agreement_rules.specs.Views.{AgreementConfig}
use Rattle.histories.specs.Following.{UpOrDown, StepFollows, StepsReach}
use Rattle.safe_histories.proofs.Lists.{some_same, none_is_some}

module _ (config : AgreementConfig) (sent : List Message) (P : List Step → (ℕ → UpOrDown) → ℕ → Type 0) where
  -- the step, with what was before it
  pub record Reached (done : List Step) (step : Step) : Type 0 where
    pub seats : ℕ → UpOrDown
    pub after : ℕ → UpOrDown
    pub next : ℕ
    pub recovered : Bool
    pub holds : P done seats next
    pub follows : StepFollows config sent next seats step recovered after

  -- what holds stays with each step that follows
  abbrev pub Stays : Type 0
  Stays = (done : List Step) (seats after : ℕ → UpOrDown) (next : ℕ) (step : Step) (recovered : Bool) → P done seats next
      → StepFollows config sent next seats step recovered after → P (done ++ step ∷ []) after (next + count_of step.result)

  module _ (stays : Stays) (last : ℕ → UpOrDown) where
    pub reach : (done : List Step) (seats : ℕ → UpOrDown) (next : ℕ) (rest : List Step) (recovered : List Bool) → P done seats next
        → StepsReach config sent seats next rest recovered last → (place : ℕ) (step : Step) → slice_get rest place ≡ Some step
        → Reached (done ++ take place rest) step
    reach done seats next [] recovered holds reaches place step is = absurd (none_is_some step is)
    reach done seats next (x ∷ rest) [] holds reaches place step is = absurd reaches
    reach done seats next (x ∷ rest) (r ∷ more) holds (after, one, asked, others) zero step is =
        subst (Reached (done ++ [])) (some_same x step is) (subst (λ l. Reached l x) (sym (append-nil done)) (record {
          seats = seats;
          after = after;
          next = next;
          recovered = r;
          holds = holds;
          follows = one;
        }))
    reach done seats next (x ∷ rest) (r ∷ more) holds (after, one, asked, others) (suc place) step is =
        subst (λ l. Reached l step) (append_assoc done (x ∷ []) (take place rest))
        (reach (done ++ x ∷ []) after (next + count_of x.result) rest more (stays done seats after next x r holds one) others place step is)

    -- behind all steps
    pub reach_all : (done : List Step) (seats : ℕ → UpOrDown) (next : ℕ) (rest : List Step) (recovered : List Bool) → P done seats next
        → StepsReach config sent seats next rest recovered last → P (done ++ rest) last (length sent)
    reach_all done seats next [] recovered holds (none, end, same) =
        subst (λ l. P l last (length sent)) (sym (append-nil done))
        (subst (λ (s : ℕ → UpOrDown). P done s (length sent)) (sym same) (subst (λ (n : ℕ). P done seats n) end holds))
    reach_all done seats next (x ∷ rest) [] holds reaches = absurd reaches
    reach_all done seats next (x ∷ rest) (r ∷ more) holds (after, one, asked, others) =
        subst (λ l. P l last (length sent)) (append_assoc done (x ∷ []) rest)
        (reach_all (done ++ x ∷ []) after (next + count_of x.result) rest more (stays done seats after next x r holds one) others)
