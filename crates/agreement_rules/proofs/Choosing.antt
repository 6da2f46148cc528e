-- Of reports one is the first of the highest, so that a value is chosen, whatever they are.
use Rattle.std.proofs.Common.{inl, inr, List, [], ◌∷◌, ◌++◌, refl, sym, ap, subst}
use Rattle.std.specs.List.{AllByRecursion}
use Rattle.ballots.specs.Ballot.{IsBelow}
use Rattle.ballots.specs.declared.value.Value.{Value}
use Rattle.ballots.proofs.CallerLemmas.{not_below_more, not_below_itself, below_or_at_least}
use Rattle.proposer.specs.Choosing.{PromiseReport, IsHighest, Chooses}

-- ballots that this one is not below
abbrev NotBelow : PromiseReport → PromiseReport → Type 0
NotBelow report other = IsBelow report.ballot other.ballot → ⊥

around : (P : PromiseReport → Type 0) (before after : List PromiseReport) (h : PromiseReport) → AllByRecursion P before → P h → AllByRecursion P after → AllByRecursion P (before ++ h ∷ after)
around P [] after h all_before here all_after = (here, all_after)
around P (x ∷ before) after h all_before here all_after = (all_before.0, around P before after h all_before.1 here all_after)

each : (P Q : PromiseReport → Type 0) → ((x : PromiseReport) → P x → Q x) → (xs : List PromiseReport) → AllByRecursion P xs → AllByRecursion Q xs
each P Q step [] all = tt
each P Q step (x ∷ xs) all = (step x all.0, each P Q step xs all.1)

pub record Found (reports : List PromiseReport) : Type 0 where
  pub report : PromiseReport
  pub is_highest : IsHighest reports report

first_highest : (first : PromiseReport) (rest : List PromiseReport) → Found (first ∷ rest)
first_highest first [] = record {
  report = first;
  is_highest = record { before = []; after = []; split = refl; above_those_before = tt; not_below_those_after = tt };
}
first_highest first (second ∷ rest) =
    let found = first_highest second rest in
    let h : PromiseReport = found.report in
    let is = found.is_highest in
    elim (below_or_at_least first.ballot h.ballot) as (λ _. Found (first ∷ second ∷ rest)) [
      | inl below ↦ record {
        report = h;
        is_highest = record {
          before = first ∷ is.before;
          after = is.after;
          split = ap (λ (l : List PromiseReport). first ∷ l) is.split;
          above_those_before = (below, is.above_those_before);
          not_below_those_after = is.not_below_those_after;
        };
      }
      | inr at_least ↦ record {
        report = first;
        is_highest = record {
          before = [];
          after = second ∷ rest;
          split = refl;
          above_those_before = tt;
          not_below_those_after = subst (AllByRecursion (NotBelow first)) (sym is.split)
              (around (NotBelow first) is.before is.after h
              (each (λ other. IsBelow other.ballot h.ballot) (NotBelow first)
              (λ other lower. not_below_more h.ballot first.ballot other.ballot at_least (λ above. not_below_more other.ballot h.ballot other.ballot (inl lower) (not_below_itself other.ballot) above))
              is.before is.above_those_before)
              (not_below_more h.ballot first.ballot h.ballot at_least (not_below_itself h.ballot))
              (each (NotBelow h) (NotBelow first) (λ other not. not_below_more h.ballot first.ballot other.ballot at_least not) is.after is.not_below_those_after));
        };
      }
    ]

-- the value that is chosen
pub some_choice : (candidate : Value) (reports : List PromiseReport) → (value : Value) × Chooses candidate reports value
some_choice candidate [] = (candidate, inl (refl, refl))
some_choice candidate (first ∷ rest) =
    let found = first_highest first rest in
    (found.report.value, inr (found.report.ballot, found.is_highest))
