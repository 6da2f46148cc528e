-- The first message that breaks a rule.
use Rattle.std.proofs.Common.{◌≡◌, ◌↔◌, ◌⊎◌, inl, inr, ℕ, ◌∷◌, [], ◌+◌, ◌<◌, true, false, List, Option, Some, None, IsNone, MatchOption, length, get_or, take, refl, sym, ap, subst, ◌∙◌, arith}
use Rattle.std.proofs.lemmas.Bool.{cases_order}
use Rattle.std.proofs.lemmas.List.{get_or_default, length-take-le, take-take}
use Rattle.ballots.specs.declared.message.Message.{Message}
use Rattle.lawful_histories.specs.Lawful.{IsLawful}
use Rattle.lawful_histories.specs.HistoryLaws.{BeginningsAreLawful}
use Rattle.run_breaches.specs.declared.breach.Breach.{Breach}
use Rattle.run_breaches.specs.declared.breach.BrokenRules.{BrokenRules}
use Rattle.run_breaches.specs.Rules.{Breaks, Keeps, IsSomeBroken}
use Rattle.run_breaches.specs.FirstBreach.{IsFirstUnlawful, IsFirstBreach}
use Rattle.run_breaches.specs.BreachLaws.{KeepingIsLawful, BreakingIsNotKeeping, BreachesAreOne}
use Rattle.run_breaches.proofs.Sets.{one_more}

module _ (n : ℕ) (sent : List Message) (place : ℕ) (m : Message) (within : place < length sent) (is : m ≡ get_or sent place m) (before : IsLawful n (take place sent)) (law : KeepingIsLawful) where
  pub next_is_lawful : Keeps n (take place sent) m → IsLawful n (take (place + 1) sent)
  next_is_lawful keeps = subst (IsLawful n) (one_more sent place m within is) ((law n (take place sent) m before).1 keeps)

  here : (d : Message) → m ≡ get_or sent place d
  here d = is ∙ get_or_default sent place m d within

  pub is_first : BreakingIsNotKeeping → (broken : BrokenRules) → Breaks n (take place sent) m broken → IsSomeBroken broken
      → IsFirstBreach n sent (record { place = place; slot = m.slot; broken = broken })
  is_first apart broken breaks some = record {
    within = within;
    before = before;
    breaks = λ lawful. apart n (take place sent) m broken breaks some ((law n (take place sent) m before).0 (subst (IsLawful n) (sym (one_more sent place m within is)) lawful));
    slot = λ d. ap (λ (x : Message). x.slot) (here d);
    rules = λ d. subst (λ (x : Message). Breaks n (take place sent) x broken) (here d) breaks;
    some = some;
  }

-- ---- what the first unlawful place says of the whole run

module _ (n : ℕ) (sent : List Message) (law : BeginningsAreLawful) where
  unlawful_behind : (place : ℕ) → IsFirstUnlawful n sent place → IsLawful n sent → ⊥
  unlawful_behind place first lawful = first.breaks (law n sent (place + 1) (let lt : place < length sent = first.within in omega (arith, lt)) lawful)

  pub lawful_where_none : (found : Option ℕ) → MatchOption found (IsLawful n sent) (λ place. IsFirstUnlawful n sent place) → (IsNone found ↔ IsLawful n sent)
  lawful_where_none None h = ((λ e. h), (λ l. refl))
  lawful_where_none (Some place) h = ((λ e. absurd (let no : true ≡ false = e in cc)), (λ l. absurd (unlawful_behind place h l)))

  pub breach_is_there : (place : ℕ) (found : Option Breach) → IsFirstUnlawful n sent place → MatchOption found (IsLawful n (take (place + 1) sent)) (λ breach. IsFirstBreach n sent breach)
      → (IsNone found ↔ IsLawful n sent)
  breach_is_there place None first h = ((λ e. absurd (first.breaks h)), (λ l. refl))
  breach_is_there place (Some breach) first h = ((λ e. absurd (let no : true ≡ false = e in cc)), (λ l. absurd (unlawful_behind place first l)))

-- ---- there is one first breach

some_message : (sent : List Message) (place : ℕ) → place < length sent → Message
some_message [] place lt = let no : ⊥ = omega (arith, lt) in absurd no
some_message (m ∷ sent) place lt = m

same_breach : (p q s t : ℕ) (b c : BrokenRules) → p ≡ q → s ≡ t → b ≡ c
    → ◌≡◌ {A = Breach} (record { place = p; slot = s; broken = b }) (record { place = q; slot = t; broken = c })
same_breach p q s t b c at of told = cc

module _ (n : ℕ) (sent : List Message) (law : BeginningsAreLawful) where
  not_later : (j k : ℕ) → (IsLawful n (take (j + 1) sent) → ⊥) → IsLawful n (take k sent) → k < length sent → j < k → ⊥
  not_later j k breaks before within lt =
      let len : length (take k sent) ≡ k = length-take-le k sent (omega (arith, within)) in
      breaks (subst (IsLawful n) (take-take (j + 1) k sent (omega (arith, lt))) (law n (take k sent) (j + 1) (omega (arith, len, lt)) before))

  one_place : (x y : Breach) → IsFirstBreach n sent x → IsFirstBreach n sent y → (x.place ≡ y.place) ⊎ ((x.place < y.place) ⊎ (y.place < x.place)) → x.place ≡ y.place
  one_place x y f g (inl same) = same
  one_place x y f g (inr (inl lt)) = absurd (not_later x.place y.place f.breaks g.before g.within lt)
  one_place x y f g (inr (inr lt)) = absurd (not_later y.place x.place g.breaks f.before f.within lt)

  pub one_first_breach : BreachesAreOne → (x y : Breach) → IsFirstBreach n sent x → IsFirstBreach n sent y → x ≡ y
  one_first_breach one x y f g =
      let place : x.place ≡ y.place = one_place x y f g (cases_order x.place y.place) in
      let d : Message = some_message sent x.place f.within in
      let slot : x.slot ≡ y.slot = f.slot d ∙ ap (λ (j : ℕ). (get_or sent j d).slot) place ∙ sym (g.slot d) in
      let there = subst (λ (j : ℕ). Breaks n (take j sent) (get_or sent j d) y.broken) (sym place) (g.rules d) in
      same_breach x.place y.place x.slot y.slot x.broken y.broken place slot (one n (take x.place sent) (get_or sent x.place d) x.broken y.broken (f.rules d) there)
