-- What some or all messages of a slot are, and what some or all messages are.
use Rattle.std.proofs.Common.{◌≡◌, ◌≢◌, ℕ, zero, suc, ◌<◌, ◌==◌, Bool, true, false, cond, List, [], ◌∷◌, ◌++◌, length, get_or, refl, sym, ap, subst, ◌∙◌, inl, inr, eq-eqb, arith}
use Rattle.std.specs.List.{All, Any, filter}
use Rattle.std.proofs.lemmas.Bool.Decides.{eqb_tells}
use Rattle.std.proofs.lemmas.List.{append-nil, get_or_default}
use Rattle.std.proofs.lemmas.List.Elements.{filter-append, All-filter}
use Rattle.ballots.specs.declared.message.Message.{Message}
use Rattle.run_breaches.specs.Slots.{of_slot}

-- a place of a list
abbrev At : {X : Type 0} → List X → ℕ → X → Type 0
At xs j e = (j < length xs) × (get_or xs j e ≡ e)

module _ (test : Message → Bool) where
  behind : (t : Bool) (x : Message) (xs : List Message) (i : ℕ) (e : Message) → At (filter test xs) i e → (j : ℕ) × At (cond t (x ∷ filter test xs) (filter test xs)) j e
  behind true x xs i e h = (suc i, (omega (arith, h.0), h.1))
  behind false x xs i e h = (i, h)

  ahead : (t : Bool) (x : Message) (xs : List Message) (e : Message) → t ≡ true → x ≡ e → (j : ℕ) × At (cond t (x ∷ filter test xs) (filter test xs)) j e
  ahead true x xs e is same = (0, (omega arith, same))
  ahead false x xs e is same = absurd (let no : false ≡ true = is in cc)

  -- what passes is among what is left
  pub left_at : (xs : List Message) (j : ℕ) (e : Message) → At xs j e → test e ≡ true → (i : ℕ) × At (filter test xs) i e
  left_at [] j e h passes = absurd (let lt : j < 0 = h.0 in omega (arith, lt))
  left_at (x ∷ xs) zero e h passes = ahead (test x) x xs e (ap test h.1 ∙ passes) h.1
  left_at (x ∷ xs) (suc j) e h passes =
      let rest = left_at xs j e (omega (arith, h.0), h.1) passes in
      behind (test x) x xs rest.0 e rest.1

  -- and what is left was there, and passes
  was_at : (t : Bool) (x : Message) (xs : List Message) (i : ℕ) (e : Message) → test x ≡ t → ((k : ℕ) → At (filter test xs) k e → (j : ℕ) × At xs j e × (test e ≡ true))
      → At (cond t (x ∷ filter test xs) (filter test xs)) i e → (j : ℕ) × At (x ∷ xs) j e × (test e ≡ true)
  was_at true x xs zero e is rest h = (0, (omega arith, h.1), sym (ap test h.1) ∙ is)
  was_at true x xs (suc i) e is rest h = let it = rest i (omega (arith, h.0), h.1) in (suc it.0, (omega (arith, it.1.0), it.1.1), it.2)
  was_at false x xs i e is rest h = let it = rest i h in (suc it.0, (omega (arith, it.1.0), it.1.1), it.2)

  pub there_at : (xs : List Message) (i : ℕ) (e : Message) → At (filter test xs) i e → (j : ℕ) × At xs j e × (test e ≡ true)
  there_at [] i e h = absurd (let lt : i < 0 = h.0 in omega (arith, lt))
  there_at (x ∷ xs) i e h = was_at (test x) x xs i e refl (λ k g. there_at xs k e g) h

-- ---- the messages of a slot

module _ (s : ℕ) (sent : List Message) where
  -- what some message of the slot is, some message is, and back
  pub any_there : (P : Message → Type 0) → Any P (of_slot s sent) → Any P sent
  any_there P h = let it = there_at (λ m. m.slot == s) sent h.0 h.1 (h.2, h.3) in (it.0, h.1, it.1.0, it.1.1, h.4)

  pub any_of : (P : Message → Type 0) → ((e : Message) → P e → e.slot ≡ s) → Any P sent → Any P (of_slot s sent)
  any_of P of h = let it = left_at (λ m. m.slot == s) sent h.0 h.1 (h.2, h.3) (eq-eqb (h.1).slot s (of h.1 h.4)) in (it.0, h.1, it.1.0, it.1.1, h.4)

  -- what all messages of the slot let be, all do that say nothing of other slots
  pub all_of : (K : Message → Type 0) → All K sent → All K (of_slot s sent)
  all_of K all = All-filter (λ m. m.slot == s) K sent all

  pub all_there : (K : Message → Type 0) → ((e : Message) → (e.slot ≢ s) → K e) → All K (of_slot s sent) → All K sent
  all_there K apart all j d lt =
      let e : Message = get_or sent j d in
      elim (eqb_tells e.slot s) as (λ _. K e) [
        | inl same ↦ let it = left_at (λ m. m.slot == s) sent j e (lt, get_or_default sent j e d lt) same.0 in subst K it.1.1 (all it.0 e it.1.0)
        | inr other ↦ apart e other.1
      ]

  -- one message more
  pub slot_more : (m : Message) → m.slot ≡ s → of_slot s (sent ++ m ∷ []) ≡ of_slot s sent ++ m ∷ []
  slot_more m same =
      filter-append (λ x. x.slot == s) sent (m ∷ []) ∙ ap (λ (t : Bool). of_slot s sent ++ cond t (m ∷ []) []) (eq-eqb m.slot s same)

  pub slot_same : (m : Message) → (m.slot == s) ≡ false → of_slot s (sent ++ m ∷ []) ≡ of_slot s sent
  slot_same m other =
      filter-append (λ x. x.slot == s) sent (m ∷ []) ∙ ap (λ (t : Bool). of_slot s sent ++ cond t (m ∷ []) []) other ∙ append-nil (of_slot s sent)
