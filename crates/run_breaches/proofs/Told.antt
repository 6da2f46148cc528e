-- What is told of a message is one.
use Rattle.std.proofs.Common.{◌≡◌, ℕ, ◌<◌, ◌≤◌, Bool, true, false, List, length, take, get_or, Option, Some, None, refl, sym, ap, subst, ◌∙◌, inl, inr, arith}
use Rattle.std.specs.List.{All}
use Rattle.std.proofs.lemmas.Bool.{cases_lt}
use Rattle.std.proofs.lemmas.List.{get_or-take, length-take-le}
use Rattle.ballots.specs.Ballot.{Ballot, IsBelow}
use Rattle.ballots.proofs.CallerLemmas.{either_below, not_below_itself}
use Rattle.ballots.specs.declared.value.Value.{Value}
use Rattle.ballots.specs.declared.message.Message.{Message}
use Rattle.ballots.specs.declared.message.Body.{Body}
use Rattle.ballots.specs.declared.message.Body.TheVariants as body
use Rattle.ballots.specs.Message.{message}
use Rattle.run_breaches.specs.declared.breach.BrokenRules.{BrokenRules}
use Rattle.run_breaches.specs.declared.breach.BrokenRules.TheVariants.{Promise, Accept, Accepted, Decided}
use Rattle.run_breaches.specs.Earlier.{LetsPropose, LetsAccept, LetsPromise, LetsReport, Reports, WasProposed, IsPromised}
use Rattle.run_breaches.specs.Rules.{Tells, IsFirstAgainst, IsHighestReport, TellsReport, IsReportBelow, IsReportProposed, BodyBreaks}
use Rattle.run_breaches.proofs.Reported.{reports_more}

-- any message: what a read past the end would give
blank : Message
blank = message 0 0 body.Ask

flag_one : (x y : Bool) (Kept : Type 0) → Tells x Kept → Tells y Kept → x ≡ y
flag_one true true Kept f g = refl
flag_one false false Kept f g = refl
flag_one true false Kept f g = absurd (let no : false ≡ true = f.1 (g.0 refl) in cc)
flag_one false true Kept f g = absurd (let no : false ≡ true = g.1 (f.0 refl) in cc)

-- what all before a place are, that in an earlier place is
front : (before : List Message) (K : Message → Type 0) (i j : ℕ) → i < j → j ≤ length before → All K (take j before) → K (get_or before i blank)
front before K i j lt le all = subst K (get_or-take j before i blank lt) (all i blank (let long = length-take-le j before le in omega (arith, lt, long)))

module _ (before : List Message) (Lets : Message → Type 0) where
  earlier_lets : (i j : ℕ) → i < j → IsFirstAgainst before Lets (Some i) → IsFirstAgainst before Lets (Some j) → ⊥
  earlier_lets i j lt f g = let in' : j < length before = g.0 in f.1 blank (front before Lets i j lt (omega (arith, in')) g.2)

  place_one : (x y : Option ℕ) → IsFirstAgainst before Lets x → IsFirstAgainst before Lets y → x ≡ y
  place_one None None f g = refl
  place_one None (Some j) f g = absurd (g.1 blank (f j blank g.0))
  place_one (Some i) None f g = absurd (f.1 blank (g i blank f.0))
  place_one (Some i) (Some j) f g = elim (cases_lt i j) as (λ _. Some i ≡ Some j) [
    | inl lt ↦ absurd (earlier_lets i j lt f g)
    | inr ge ↦ elim (cases_lt j i) as (λ _. Some i ≡ Some j) [
      | inl gt ↦ absurd (earlier_lets j i gt g f)
      | inr le ↦ let same : i ≡ j = omega (arith, ge, le) in ap (λ (k : ℕ). Some k) same
    ]
  ]

module _ (n s : ℕ) (before : List Message) (b : Ballot) where
  no_higher : (i j : ℕ) (top other : Ballot) → IsHighestReport n s before b i top → IsHighestReport n s before b j other → IsBelow top other → ⊥
  no_higher i j top other f g below =
      f.none_above j blank g.within (reports_more n s b (λ q. q.ballot ≡ other) (λ q. IsBelow top q.ballot) (λ q same. subst (λ (c : Ballot). IsBelow top c) (sym same) below) (get_or before j blank) (g.here blank))

  no_earlier : (i j : ℕ) (top other : Ballot) → top ≡ other → i < j → IsHighestReport n s before b i top → IsHighestReport n s before b j other → ⊥
  no_earlier i j top other same lt f g =
      let in' : j < length before = g.within in
      front before (λ e. Reports n s b (λ q. IsBelow q.ballot other → ⊥) e → ⊥) i j lt (omega (arith, in')) g.first
      (reports_more n s b (λ q. q.ballot ≡ top) (λ q. IsBelow q.ballot other → ⊥) (λ q is below. not_below_itself other (subst (λ (c : Ballot). IsBelow c other) (is ∙ same) below)) (get_or before i blank) (f.here blank))

  same_top : (i j : ℕ) (top other : Ballot) → IsHighestReport n s before b i top → IsHighestReport n s before b j other → top ≡ other
  same_top i j top other f g = elim (either_below top other) as (λ _. top ≡ other) [
    | inl same ↦ same
    | inr apart ↦ elim apart as (λ _. top ≡ other) [ inl below ↦ absurd (no_higher i j top other f g below) | inr above ↦ absurd (no_higher j i other top g f above) ]
  ]

  same_place : (i j : ℕ) (top other : Ballot) → IsHighestReport n s before b i top → IsHighestReport n s before b j other → Some i ≡ Some j
  same_place i j top other f g =
      let same = same_top i j top other f g in
      elim (cases_lt i j) as (λ _. Some i ≡ Some j) [
        | inl lt ↦ absurd (no_earlier i j top other same lt f g)
        | inr ge ↦ elim (cases_lt j i) as (λ _. Some i ≡ Some j) [
          | inl gt ↦ absurd (no_earlier j i other top (sym same) gt g f)
          | inr le ↦ let at : i ≡ j = omega (arith, ge, le) in ap (λ (k : ℕ). Some k) at
        ]
      ]

  report_one : (v : Value) (x y : Option ℕ) → TellsReport n s before b v x → TellsReport n s before b v y → x ≡ y
  report_one v None None f g = refl
  report_one v None (Some j) f g = absurd (g.1 (f g.0))
  report_one v (Some i) None f g = absurd (f.1 (g f.0))
  report_one v (Some i) (Some j) f g = same_place i j (f.2).0 (g.2).0 (f.2).1 (g.2).1

module _ (n s : ℕ) (before : List Message) (a : ℕ) where
  pub breaks_one : (said : Body) (x y : BrokenRules) → BodyBreaks n s before a said x → BodyBreaks n s before a said y → x ≡ y
  breaks_one (body.Promise b r) (Promise i j k l) (Promise i' j' k' l') f g =
      ap (λ (o : Option ℕ). Promise o j k l) (place_one before (LetsPromise s a b) i i' f.above g.above)
      ∙ ap (λ (o : Option ℕ). Promise i' o k l) (place_one before (LetsReport s a r) j j' f.highest g.highest)
      ∙ ap (λ (t : Bool). Promise i' j' t l) (flag_one k k' (IsReportBelow r b) f.below g.below)
      ∙ ap (λ (t : Bool). Promise i' j' k' t) (flag_one l l' (IsReportProposed s before r) f.proposed g.proposed)
  breaks_one (body.Promise b r) (Promise i j k l) y f g = absurd g
  breaks_one (body.Accept p) (Accept i t j) (Accept i' t' j') f g =
      ap (λ (o : Option ℕ). Accept o t j) (place_one before (LetsPropose s p.ballot p.value) i i' f.only g.only)
      ∙ ap (λ (k : Bool). Accept i' k j) (flag_one t t' (IsPromised n s before p.ballot) f.promised g.promised)
      ∙ ap (λ (o : Option ℕ). Accept i' t' o) (report_one n s before p.ballot p.value j j' f.reported g.reported)
  breaks_one (body.Accept p) (Accept i t j) y f g = absurd g
  breaks_one (body.Accepted p) (Accepted t i) (Accepted t' i') f g =
      ap (λ (k : Bool). Accepted k i) (flag_one t t' (WasProposed s before p.ballot p.value) f.proposed g.proposed)
      ∙ ap (λ (o : Option ℕ). Accepted t' o) (place_one before (LetsAccept s a p.ballot) i i' f.least g.least)
  breaks_one (body.Accepted p) (Accepted t i) y f g = absurd g
  breaks_one (body.Decided v) Decided Decided f g = refl
  breaks_one (body.Decided v) Decided y f g = absurd g
  breaks_one said x y f g = absurd f
