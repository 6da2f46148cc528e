-- The highest report among the Promises of a ballot, message by message, and what it bounds.
use Rattle.std.proofs.Common.{◌≡◌, ◌≢◌, ℕ, ◌<◌, ◌≤◌, ◌↔◌, inl, inr, IsSomeAnd, List, [], ◌∷◌, ◌++◌, length, get_or, take, Option, Some, None, refl, sym, subst, ◌∙◌, arith}
use Rattle.std.specs.List.{All, Any}
use Rattle.std.proofs.lemmas.Bool.{cases_lt}
use Rattle.std.proofs.lemmas.List.{take-append-le, get_or_push, get_or_append_left, get_or_default, take_all}
use Rattle.ballots.specs.Ballot.{Ballot, IsBelow}
use Rattle.ballots.proofs.CallerLemmas.{either_below, below_carried, not_below_itself}
use Rattle.ballots.specs.declared.acceptance.Acceptance.{Acceptance}
use Rattle.ballots.specs.declared.message.Message.{Message}
use Rattle.ballots.specs.declared.message.Body.{Body}
use Rattle.ballots.specs.declared.message.Body.TheVariants as body
use Rattle.ballots.specs.declared.value.Value.{Value}
use Rattle.run_breaches.specs.Earlier.{IsPromiseWith, Promises, Reports, IsPromised, MostPromised, IsWithin, MayBeProposed}
use Rattle.run_breaches.specs.Rules.{IsHighestReport}
use Rattle.run_breaches.specs.Highest.{IsBestOf, Turns}
use Rattle.run_breaches.proofs.Majorities.{most_weaker}
use Rattle.run_breaches.proofs.Places.{let_all, all_let, older, last_is, last_sent}

some_is : (x y : Ballot) → Some x ≡ Some y → x ≡ y
some_is x y e = cc

-- what is above a ballot that is not below another is above that other
above_not_below : (a b c : Ballot) → IsBelow a b → (IsBelow c b → ⊥) → IsBelow a c
above_not_below a b c below not_below = elim (either_below b c) as (λ _. IsBelow a c) [
  | inl same ↦ subst (λ (x : Ballot). IsBelow a x) same below
  | inr apart ↦ elim apart as (λ _. IsBelow a c) [ inl more ↦ below_carried a b c below more | inr less ↦ absurd (not_below less) ]
]

module _ (n s : ℕ) (b : Ballot) where
  with_body : (P Q : Acceptance → Type 0) → ((q : Acceptance) → P q → Q q) → (x : Body) → IsPromiseWith b (λ r. IsSomeAnd r P) x → IsPromiseWith b (λ r. IsSomeAnd r Q) x
  with_body P Q more (body.Promise c (Some q)) h = (h.0, more q h.1)
  with_body P Q more (body.Promise c r) h = absurd h.1
  with_body P Q more other h = absurd h

  -- what is so of a report
  pub reports_more : (P Q : Acceptance → Type 0) → ((q : Acceptance) → P q → Q q) → (e : Message) → Reports n s b P e → Reports n s b Q e
  reports_more P Q more e h = (h.0, h.1, with_body P Q more e.body h.2)

  one_body : (P : Acceptance → Type 0) (x : Body) → IsPromiseWith b (λ r. IsSomeAnd r P) x → (q : Acceptance) × P q × IsPromiseWith b (λ r. IsSomeAnd r (λ o. o.ballot ≡ q.ballot)) x
  one_body P (body.Promise c (Some q)) h = (q, h.1, (h.0, refl))
  one_body P (body.Promise c r) h = absurd h.1
  one_body P other h = absurd h

  -- the report, and its ballot
  reports_one : (P : Acceptance → Type 0) (e : Message) → Reports n s b P e → (q : Acceptance) × P q × Reports n s b (λ o. o.ballot ≡ q.ballot) e
  reports_one P e h = let it = one_body P e.body h.2 in (it.0, it.1, (h.0, h.1, it.2))

  -- ---- one message more

  module _ (before : List Message) (m : Message) (found : Option Ballot) (by : (h : Ballot) → (found ≡ Some h) ↔ Reports n s b (λ q. q.ballot ≡ h) m) where
    abbrev longer : List Message
    longer = before ++ m ∷ []

    nothing_here : (P : Acceptance → Type 0) → found ≡ None → Reports n s b P m → ⊥
    nothing_here P none h =
        let it = reports_one P m h in
        let no : None ≡ Some (it.0).ballot = sym none ∙ (by (it.0).ballot).1 it.2 in
        absurd cc

    -- what is so of the report of this message is so of the one that was found
    found_here : (P : Ballot → Type 0) (h : Ballot) → found ≡ Some h → Reports n s b (λ q. P q.ballot) m → P h
    found_here P h is reports =
        let it = reports_one (λ q. P q.ballot) m reports in
        subst P (some_is (it.0).ballot h (sym ((by (it.0).ballot).1 it.2) ∙ is)) it.1

    all_more : (K : Message → Type 0) → All K before → K m → All K longer
    all_more K all last = let_all longer K (λ j e h. elim (cases_lt j (length before)) as (λ _. K e) [
      | inl lt ↦ all_let before K j e all (older before m j e lt h)
      | inr le ↦ subst K (last_is before m j e le h) last
    ])

    front : (j : ℕ) → j ≤ length before → take j longer ≡ take j before
    front j le = take-append-le j before (m ∷ []) le

    -- the best so far stays where this message reports nothing above it
    stays : (j : ℕ) (top : Ballot) → IsHighestReport n s before b j top → (Reports n s b (λ q. IsBelow top q.ballot) m → ⊥) → IsHighestReport n s longer b j top
    stays j top best no_more =
        let lt : j < length before = best.within in record {
          within = omega (arith, lt, (last_sent before m).0);
          here = λ d. subst (Reports n s b (λ q. q.ballot ≡ top)) (sym (get_or_append_left before (m ∷ []) d j lt)) (best.here d);
          none_above = all_more (λ e. Reports n s b (λ q. IsBelow top q.ballot) e → ⊥) best.none_above no_more;
          first = subst (All (λ e. Reports n s b (λ q. IsBelow q.ballot top → ⊥) e → ⊥)) (sym (front j (omega (arith, lt)))) best.first;
        }

    -- this message is the best where it reports above all before
    becomes : (h : Ballot) → found ≡ Some h → All (λ e. Reports n s b (λ q. IsBelow q.ballot h → ⊥) e → ⊥) before → IsHighestReport n s longer b (length before) h
    becomes h is below = record {
      within = (last_sent before m).0;
      here = λ d. subst (Reports n s b (λ q. q.ballot ≡ h)) (sym (get_or_push before m d (length before) refl)) ((by h).0 is);
      none_above = all_more (λ e. Reports n s b (λ q. IsBelow h q.ballot) e → ⊥)
          (let_all before (λ e. Reports n s b (λ q. IsBelow h q.ballot) e → ⊥) (λ j e sent reports.
          all_let before (λ x. Reports n s b (λ q. IsBelow q.ballot h → ⊥) x → ⊥) j e below sent
          (reports_more (λ q. IsBelow h q.ballot) (λ q. IsBelow q.ballot h → ⊥) (λ q above under. not_below_itself h (below_carried h q.ballot h above under)) e reports)))
          (λ reports. not_below_itself h (found_here (λ c. IsBelow h c) h is reports));
      first = subst (All (λ e. Reports n s b (λ q. IsBelow q.ballot h → ⊥) e → ⊥)) (sym (front (length before) (omega arith) ∙ take_all (length before) before (omega arith))) below;
    }

    pub best_more : (best next : Option (ℕ × Ballot)) → (o : Option Ballot) → found ≡ o → Turns best (length before) o next → IsBestOf n s before b best → IsBestOf n s longer b next
    best_more None next None is turns none =
        subst (IsBestOf n s longer b) (sym turns) (all_more (λ e. Reports n s b (λ q. Unit {0}) e → ⊥) none (nothing_here (λ q. Unit {0}) is))
    best_more (Some best) next None is turns highest =
        subst (IsBestOf n s longer b) (sym turns) (stays best.0 best.1 highest (nothing_here (λ q. IsBelow best.1 q.ballot) is))
    best_more None next (Some h) is turns none =
        subst (IsBestOf n s longer b) (sym turns) (becomes h is (let_all before (λ e. Reports n s b (λ q. IsBelow q.ballot h → ⊥) e → ⊥) (λ j e sent reports.
        all_let before (λ x. Reports n s b (λ q. Unit {0}) x → ⊥) j e none sent (reports_more (λ q. IsBelow q.ballot h → ⊥) (λ q. Unit {0}) (λ q p. tt) e reports))))
    best_more (Some best) next (Some h) is turns highest = elim turns as (λ _. IsBestOf n s longer b next) [
      | inl higher ↦ subst (IsBestOf n s longer b) (sym higher.1) (becomes h is (let_all before (λ e. Reports n s b (λ q. IsBelow q.ballot h → ⊥) e → ⊥) (λ j e sent reports.
          all_let before (λ x. Reports n s b (λ q. IsBelow best.1 q.ballot) x → ⊥) j e highest.none_above sent
          (reports_more (λ q. IsBelow q.ballot h → ⊥) (λ q. IsBelow best.1 q.ballot) (λ q p. above_not_below best.1 h q.ballot higher.0 p) e reports))))
      | inr lower ↦ subst (IsBestOf n s longer b) (sym lower.1) (stays best.0 best.1 highest (λ reports. lower.0 (found_here (λ c. IsBelow best.1 c) h is reports)))
    ]

  -- ---- what the highest report bounds

  module _ (before : List Message) where
    within_top : (top : Ballot) (x : Body) → IsPromiseWith b (λ r. Unit {0}) x → (IsPromiseWith b (λ r. IsSomeAnd r (λ q. IsBelow top q.ballot)) x → ⊥) → IsPromiseWith b (IsWithin (Some top)) x
    within_top top (body.Promise c None) promise none = (promise.0, tt)
    within_top top (body.Promise c (Some q)) promise none = (promise.0, λ above. none (promise.0, above))
    within_top top other promise none = absurd promise

    bounded : (j : ℕ) (top : Ballot) → IsHighestReport n s before b j top → (a : ℕ) → a < n → Any (Promises s b (λ r. Unit {0}) a) before → Any (Promises s b (IsWithin (Some top)) a) before
    bounded j top highest a lt h =
        let none_above = all_let before (λ e. Reports n s b (λ q. IsBelow top q.ballot) e → ⊥) h.0 h.1 highest.none_above (h.2, h.3) in
        (h.0, h.1, h.2, h.3, (h.4.0, h.4.1, within_top top h.1.body h.4.2 (λ reports. none_above (h.4.0, subst (λ (i : ℕ). i < n) (sym h.4.1) lt, reports))))

    other_body : (top : Ballot) (v : Value) → MostPromised n s before b (IsWithin (Some top)) → (x : Body) → IsPromiseWith b (λ r. IsSomeAnd r (λ q. q.ballot ≡ top)) x
        → (IsPromiseWith b (λ r. IsSomeAnd r (λ q. (q.value ≡ v) × MostPromised n s before b (IsWithin (Some q.ballot)))) x → ⊥) → IsPromiseWith b (λ r. IsSomeAnd r (λ q. q.value ≢ v)) x
    other_body top v most (body.Promise c (Some q)) h unsafe =
        (h.0, λ same. unsafe (h.0, (same, subst (λ (t : Ballot). MostPromised n s before b (IsWithin (Some t))) (sym h.1) most)))
    other_body top v most (body.Promise c r) h unsafe = absurd h.1
    other_body top v most other h unsafe = absurd h

    -- where the value is not safe though a majority promised, the highest report has another
    pub has_other_value : (v : Value) (j : ℕ) (top : Ballot) → IsHighestReport n s before b j top → IsPromised n s before b → (MayBeProposed n s before b v → ⊥)
        → (d : Message) → Reports n s b (λ q. q.value ≢ v) (get_or before j d)
    has_other_value v j top highest promised unsafe d =
        let e : Message = get_or before j d in
        let here : Reports n s b (λ q. q.ballot ≡ top) e = highest.here d in
        let most = most_weaker n (λ a. Any (Promises s b (λ r. Unit {0}) a) before) (λ a. Any (Promises s b (IsWithin (Some top)) a) before) (bounded j top highest) promised in
        (here.0, here.1, other_body top v most e.body here.2 (λ shown. unsafe (inr (j, e, highest.within, get_or_default before j e d highest.within, (here.0, here.1, shown)))))
