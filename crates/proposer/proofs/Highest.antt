-- The highest report of a list is one, and stays or changes with one more.
use Rattle.std.proofs.Common.{◌≡◌, inl, inr, List, [], ◌∷◌, ◌++◌, Option, Some, None, refl, sym, ap, ◌∙◌, append_assoc}
use Rattle.std.specs.List.{AllByRecursion}
use Rattle.ballots.specs.Ballot.{Ballot, IsBelow, IsAbove}
use Rattle.ballots.specs.declared.value.Value.{Value}
use Rattle.ballots.proofs.CallerLemmas.{below_carried, below_above}
use Rattle.proposer.specs.Choosing.{PromiseReport, IsHighest, Chooses}
use Rattle.proposer.specs.Counting.{IsBest}
use Rattle.proposer.proofs.Lists.{all-append, all_there, all_weaker, Meet, same, earlier, later, splits, nothing_there}

-- ---- it is one

one_where_they_meet : (reports : List PromiseReport) (r q : PromiseReport) (is_r : IsHighest reports r) (is_q : IsHighest reports q) → Meet is_r.before is_q.before r q is_r.after is_q.after → r ≡ q
one_where_they_meet reports r q is_r is_q (same b e a) = e
one_where_they_meet reports r q is_r is_q (earlier mid a b) =
    absurd (all_there _ _ mid is_q.after q a is_r.not_below_those_after (all_there _ _ is_r.before mid r b is_q.above_those_before))
one_where_they_meet reports r q is_r is_q (later mid a b) =
    absurd (all_there _ _ mid is_r.after r a is_q.not_below_those_after (all_there _ _ is_q.before mid q b is_r.above_those_before))

pub highest_is_one : (reports : List PromiseReport) (r q : PromiseReport) → IsHighest reports r → IsHighest reports q → r ≡ q
highest_is_one reports r q is_r is_q =
    one_where_they_meet reports r q is_r is_q (splits is_r.before is_q.before r q is_r.after is_q.after (sym is_r.split ∙ is_q.split))

-- the highest is none of an empty list
pub none_is_highest : (reports : List PromiseReport) (r : PromiseReport) → reports ≡ [] → IsHighest reports r → ⊥
none_is_highest reports r empty is_r = nothing_there is_r.before r is_r.after (sym empty ∙ is_r.split)

-- what is chosen is one
pub chooses_one : (candidate : Value) (reports : List PromiseReport) (v w : Value) → Chooses candidate reports v → Chooses candidate reports w → v ≡ w
chooses_one candidate reports v w (inl own) (inl other) = own.1 ∙ sym other.1
chooses_one candidate reports v w (inl own) (inr other) = absurd (none_is_highest reports (record { ballot = other.0; value = w }) own.0 other.1)
chooses_one candidate reports v w (inr own) (inl other) = absurd (none_is_highest reports (record { ballot = own.0; value = v }) other.0 own.1)
chooses_one candidate reports v w (inr own) (inr other) = ap (λ (r : PromiseReport). r.value) (highest_is_one reports (record { ballot = own.0; value = v }) (record { ballot = other.0; value = w }) own.1 other.1)

-- ---- one more report

-- a report that is not above the highest leaves it
highest_stays : (reports : List PromiseReport) (h r : PromiseReport) → (IsBelow h.ballot r.ballot → ⊥) → IsHighest reports h → IsHighest (reports ++ r ∷ []) h
highest_stays reports h r not_above is_h = record {
  before = is_h.before;
  after = is_h.after ++ r ∷ [];
  split = rw is_h.split (append_assoc is_h.before (h ∷ is_h.after) (r ∷ []));
  above_those_before = is_h.above_those_before;
  not_below_those_after = all-append (λ other. IsBelow h.ballot other.ballot → ⊥) is_h.after (r ∷ []) is_h.not_below_those_after (not_above, tt);
}

-- one above the highest is the highest
all_below : (reports : List PromiseReport) (h r : PromiseReport) → IsBelow h.ballot r.ballot → IsHighest reports h → AllByRecursion (λ other. IsBelow other.ballot r.ballot) reports
all_below reports h r above is_h =
    rw is_h.split
    (all-append (λ other. IsBelow other.ballot r.ballot) is_h.before (h ∷ is_h.after)
    (all_weaker (λ other. IsBelow other.ballot h.ballot) (λ other. IsBelow other.ballot r.ballot) is_h.before (λ other below. below_carried other.ballot h.ballot r.ballot below above) is_h.above_those_before)
    (above, all_weaker (λ other. IsBelow h.ballot other.ballot → ⊥) (λ other. IsBelow other.ballot r.ballot) is_h.after (λ other not. below_above other.ballot h.ballot r.ballot not above) is_h.not_below_those_after))

highest_above_all : (reports : List PromiseReport) (r : PromiseReport) → AllByRecursion (λ other. IsBelow other.ballot r.ballot) reports → IsHighest (reports ++ r ∷ []) r
highest_above_all reports r of_all = record {
  before = reports;
  after = [];
  split = refl;
  above_those_before = of_all;
  not_below_those_after = tt;
}

-- the best so far stays with a report that is not above it, and a report above it is the best
pub best_stays : (candidate : Value) (reports : List PromiseReport) (at : Option Ballot) (value : Value) (report : PromiseReport) → (IsAbove report.ballot at → ⊥) → IsBest candidate reports at value → IsBest candidate (reports ++ report ∷ []) at value
best_stays candidate reports None value report not_above is_best = absurd (not_above tt)
best_stays candidate reports (Some highest) value report not_above is_best = highest_stays reports (record { ballot = highest; value = value }) report not_above is_best

pub best_changes : (candidate : Value) (reports : List PromiseReport) (at : Option Ballot) (value : Value) (report : PromiseReport) → IsAbove report.ballot at → IsBest candidate reports at value → IsBest candidate (reports ++ report ∷ []) (Some report.ballot) report.value
best_changes candidate reports None value report above is_best = rw is_best.0 (highest_above_all [] report tt)
best_changes candidate reports (Some highest) value report above is_best =
    highest_above_all reports report (all_below reports (record { ballot = highest; value = value }) report above is_best)

-- the best is chosen
pub best_is_chosen : (candidate : Value) (reports : List PromiseReport) (at : Option Ballot) (value : Value) → IsBest candidate reports at value → Chooses candidate reports value
best_is_chosen candidate reports None value is_best = inl is_best
best_is_chosen candidate reports (Some ballot) value is_best = inr (ballot, is_best)
