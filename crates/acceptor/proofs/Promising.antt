-- What a slot has promised: the higher of its own promise and of that which it made with others.
use Rattle.std.proofs.Common.{◌≡◌, ℕ, Bool, true, false, leb, if◌then◌else◌, [], get_or, Option, Some, None, Result, Ok, Err, IfOk, ◌⊎◌, inl, inr, refl, sym, ap, subst, ◌∙◌}
use Rattle.std.specs.Option.{option_map}
use Rattle.ballots.specs.Ballot.{Ballot, IsBelow, IsAbove, IsAtLeast}
use Rattle.ballots.specs.Limits.{max_slot}
use Rattle.ballots.specs.Slots.{SetsSlot}
use Rattle.ballots.specs.declared.acceptance.Acceptance.{Acceptance}
use Rattle.ballots.proofs.CallerLemmas.{below_carried, below_or_at_least, at_least_where_not_below}
use Rattle.acceptor.specs.Ranges.{higher, ranged_at}
use Rattle.acceptor.specs.Ranged.{IsFrom, AreBelow, BindsFrom, IsGreatestFrom, IsHighestFrom, AreAcceptances, Reports}
use Rattle.acceptor.specs.Raising.{Raises, RaisesFrom}
use Rattle.acceptor.proofs.Reporting.{higher_cases, at_least_above}

-- ---- the higher of two ballots that may be none

pub higher_none : (o : Option Ballot) → higher o None ≡ o
higher_none None = refl
higher_none (Some a) = refl

pub at_least_higher : (a b c : Ballot) → IsAtLeast a (Some b) → IsAtLeast b (Some c) → IsAtLeast a (Some c)
at_least_higher a b c (inl ba) more = inl (below_at_least c b a more ba)
  where
    below_at_least : (c b a : Ballot) → IsAtLeast b (Some c) → IsBelow b a → IsBelow c a
    below_at_least c b a (inl cb) ba = below_carried c b a cb ba
    below_at_least c b a (inr same) ba = subst (λ (x : Ballot). IsBelow x a) (sym same) ba
at_least_higher a b c (inr same) more = subst (λ (x : Ballot). IsAtLeast x (Some c)) same more

-- what is at least both is at least the higher, and the other way round
pub at_least_both : (ballot : Ballot) (o p : Option Ballot) → IsAtLeast ballot o → IsAtLeast ballot p → IsAtLeast ballot (higher o p)
at_least_both ballot None p more most = most
at_least_both ballot (Some a) None more most = more
at_least_both ballot (Some a) (Some b) more most = elim (higher_cases a b) as (λ _. IsAtLeast ballot (higher (Some a) (Some b))) [
  | inl is_second ↦ subst (IsAtLeast ballot) (sym is_second.0) most
  | inr is_first ↦ subst (IsAtLeast ballot) (sym is_first.0) more
]

pub at_least_each : (ballot : Ballot) (o p : Option Ballot) → IsAtLeast ballot (higher o p) → IsAtLeast ballot o × IsAtLeast ballot p
at_least_each ballot None p more = (tt, more)
at_least_each ballot (Some a) None more = (more, tt)
at_least_each ballot (Some a) (Some b) more = elim (higher_cases a b) as (λ _. IsAtLeast ballot (Some a) × IsAtLeast ballot (Some b)) [
  | inl is_second ↦ (let most = subst (IsAtLeast ballot) is_second.0 more in (at_least_higher ballot b a most (inl is_second.1), most))
  | inr is_first ↦ (let most = subst (IsAtLeast ballot) is_first.0 more in (most, at_least_higher ballot a b most is_first.1))
]

pub above_each : (ballot : Ballot) (o p : Option Ballot) → IsAbove ballot (higher o p) → IsAbove ballot o × IsAbove ballot p
above_each ballot None p above = (tt, above)
above_each ballot (Some a) None above = (above, tt)
above_each ballot (Some a) (Some b) above = elim (higher_cases a b) as (λ _. IsAbove ballot (Some a) × IsAbove ballot (Some b)) [
  | inl is_second ↦ (let below = subst (IsAbove ballot) is_second.0 above in (below_carried a b ballot is_second.1 below, below))
  | inr is_first ↦ (let below = subst (IsAbove ballot) is_first.0 above in (below, carried b a ballot is_first.1 below))
]
  where
    carried : (b a ballot : Ballot) → IsAtLeast a (Some b) → IsBelow a ballot → IsBelow b ballot
    carried b a ballot (inl ba) below = below_carried b a ballot ba below
    carried b a ballot (inr same) below = subst (λ (x : Ballot). IsBelow x ballot) (sym same) below

-- the higher is the one that is at least the other
pub higher_first : (ballot : Ballot) (p : Option Ballot) → IsAtLeast ballot p → higher (Some ballot) p ≡ Some ballot
higher_first ballot None more = refl
higher_first ballot (Some b) more = elim (higher_cases ballot b) as (λ _. higher (Some ballot) (Some b) ≡ Some ballot) [
  | inl is_second ↦ absurd ((at_least_where_not_below b ballot).0 more is_second.1)
  | inr is_first ↦ is_first.0
]

pub higher_second : (ballot : Ballot) (o : Option Ballot) → IsAtLeast ballot o → higher o (Some ballot) ≡ Some ballot
higher_second ballot None more = refl
higher_second ballot (Some a) more = elim (higher_cases a ballot) as (λ _. higher (Some a) (Some ballot) ≡ Some ballot) [
  | inl is_second ↦ is_second.0
  | inr is_first ↦ is_first.0 ∙ both_at_least a ballot is_first.1 more
]
  where
    both_at_least : (a ballot : Ballot) → IsAtLeast a (Some ballot) → IsAtLeast ballot (Some a) → Some a ≡ Some ballot
    both_at_least a ballot (inl below) more = absurd ((at_least_where_not_below a ballot).0 more below)
    both_at_least a ballot (inr same) more = ap (λ (x : Ballot). let o : Option Ballot = Some x in o) (sym same)

-- the higher is one of the two
higher_is : (o p : Option Ballot) (held : Ballot) → higher o p ≡ Some held → (o ≡ Some held) ⊎ (p ≡ Some held)
higher_is None p held is = inr is
higher_is (Some a) None held is = inl is
higher_is (Some a) (Some b) held is = elim (higher_cases a b) as (λ _. (Some a ≡ Some held) ⊎ (Some b ≡ Some held)) [
  | inl is_second ↦ inr (sym is_second.0 ∙ is)
  | inr is_first ↦ inl (sym is_first.0 ∙ is)
]

pub at_least_of_above : (ballot : Ballot) (o : Option Ballot) → IsAbove ballot o → IsAtLeast ballot o
at_least_of_above ballot None above = tt
at_least_of_above ballot (Some held) above = inl above

-- ---- nothing is promised

pub nothing_ranged : (slot : ℕ) → ranged_at [] slot ≡ None
nothing_ranged slot = by (leb slot max_slot)
  where
    by : (b : Bool) → (let o : Option Ballot = if b then None else None in o) ≡ None
    by true = refl
    by false = refl

-- ---- where something stays as before on the way

pub set_after : {X : Type 0} (old mid new : ℕ → X) (slot : ℕ) (now : X) → ((other : ℕ) → mid other ≡ old other) → SetsSlot mid new slot now → SetsSlot old new slot now
set_after {X} old mid new slot now same sets = record { here = sets.here; others = λ other apart. sets.others other apart ∙ same other }

pub acceptances_as_before : {E : Type 0} (old new : ℕ → Option Acceptance) (first : ℕ) (r : Result Reports E) → ((slot : ℕ) → new slot ≡ old slot)
    → IfOk r (λ reports. AreAcceptances new first reports.items) → IfOk r (λ reports. AreAcceptances old first reports.items)
acceptances_as_before old new first (Ok reports) same are = record {
  rising = are.rising;
  theirs = λ k d within. let report = are.theirs k d within in (report.0, sym (same (get_or reports.items k d).0) ∙ report.1);
  all = λ slot held from is. are.all slot held from (same slot ∙ is);
}
acceptances_as_before old new first (Err e) same are = tt

-- ---- promises of slots by themselves, and with others

module _ (own ranged : ℕ → Option Ballot) where
  -- a slot's own promise that is at least all that it has promised is what it has promised then
  pub sets_promise : (new : ℕ → Option Ballot) (slot : ℕ) (ballot : Ballot) → SetsSlot own new slot (Some ballot) → IsAtLeast ballot (higher (own slot) (ranged slot))
      → SetsSlot (λ slot. higher (own slot) (ranged slot)) (λ slot. higher (new slot) (ranged slot)) slot (Some ballot)
  sets_promise new slot ballot sets more = record {
    here = ap (λ (o : Option Ballot). higher o (ranged slot)) sets.here ∙ higher_first ballot (ranged slot) (at_least_each ballot (own slot) (ranged slot) more).1;
    others = λ other apart. ap (λ (o : Option Ballot). higher o (ranged other)) (sets.others other apart);
  }

  pub sets_above : (new : ℕ → Option Ballot) (slot : ℕ) (ballot : Ballot) → SetsSlot own new slot (Some ballot) → IsAbove ballot (higher (own slot) (ranged slot))
      → SetsSlot (λ slot. higher (own slot) (ranged slot)) (λ slot. higher (new slot) (ranged slot)) slot (Some ballot)
  sets_above new slot ballot sets above = sets_promise new slot ballot sets (at_least_of_above ballot (higher (own slot) (ranged slot)) above)

  -- a slot's own promise that is raised raises what it has promised
  pub raises_promise : (new : ℕ → Option Ballot) (slot : ℕ) (ballot : Ballot) → Raises (λ held. held) own new slot ballot
      → Raises (λ held. held) (λ slot. higher (own slot) (ranged slot)) (λ slot. higher (new slot) (ranged slot)) slot ballot
  raises_promise new slot ballot raises = record {
    kept = λ held is below. stays (own slot) refl held is below;
    raised = λ more.
        let each = at_least_each ballot (own slot) (ranged slot) (mapped (higher (own slot) (ranged slot)) more) in
        ap (λ (o : Option Ballot). higher o (ranged slot)) (raises.raised (map_back (own slot) each.0)) ∙ higher_first ballot (ranged slot) each.1;
    others = λ other apart. ap (λ (o : Option Ballot). higher o (ranged other)) (raises.others other apart);
  }
    where
      mapped : (o : Option Ballot) → IsAtLeast ballot (option_map (λ held. held) o) → IsAtLeast ballot o
      mapped None more = more
      mapped (Some a) more = more

      map_back : (o : Option Ballot) → IsAtLeast ballot o → IsAtLeast ballot (option_map (λ held. held) o)
      map_back None more = more
      map_back (Some a) more = more

      -- where the raised ballot is below what the slot has promised: its own promise stays, or stays below that of others
      by_range : (p : Option Ballot) → ranged slot ≡ p → (held : Ballot) → p ≡ Some held → IsBelow ballot held → IsAtLeast ballot (own slot)
          → higher (new slot) (ranged slot) ≡ higher (own slot) (ranged slot)
      by_range p is_p held is below more =
          ap (higher (new slot)) (is_p ∙ is) ∙ ap (λ (o : Option Ballot). higher o (Some held)) (raises.raised (map_back (own slot) more)) ∙ higher_second held (Some ballot) (inl below)
          ∙ sym (higher_second held (own slot) (at_least_above ballot held (own slot) below more)) ∙ ap (higher (own slot)) (sym (is_p ∙ is))

      same_own : (a : Ballot) → own slot ≡ Some a → IsBelow ballot a → higher (new slot) (ranged slot) ≡ higher (own slot) (ranged slot)
      same_own a is_own below = ap (λ (o : Option Ballot). higher o (ranged slot)) (raises.kept a is_own below)

      from_range : (a : Ballot) → own slot ≡ Some a → IsAtLeast ballot (Some a) → (p : Option Ballot) → ranged slot ≡ p → (held : Ballot) → higher (own slot) (ranged slot) ≡ Some held
          → IsBelow ballot held → higher (new slot) (ranged slot) ≡ higher (own slot) (ranged slot)
      from_range a is_own more None is_ranged held is below =
          absurd ((at_least_where_not_below held ballot).0
          (subst (IsAtLeast ballot) (sym is_own ∙ sym (higher_none (own slot)) ∙ ap (higher (own slot)) (sym is_ranged) ∙ is) more) below)
      from_range a is_own more (Some b) is_ranged held is below = elim (higher_cases a b) as (λ _. higher (new slot) (ranged slot) ≡ higher (own slot) (ranged slot)) [
        | inl is_second ↦
            let same : Some b ≡ Some held = sym is_second.0 ∙ sym (ap (λ (o : Option Ballot). higher o (Some b)) is_own) ∙ sym (ap (higher (own slot)) is_ranged) ∙ is in
            by_range (Some b) is_ranged held same below (subst (IsAtLeast ballot) (sym is_own) more)
        | inr is_first ↦
            let same : Some a ≡ Some held = sym is_first.0 ∙ sym (ap (λ (o : Option Ballot). higher o (Some b)) is_own) ∙ sym (ap (higher (own slot)) is_ranged) ∙ is in
            absurd ((at_least_where_not_below held ballot).0 (subst (IsAtLeast ballot) same more) below)
      ]

      stays : (o : Option Ballot) → own slot ≡ o → (held : Ballot) → higher (own slot) (ranged slot) ≡ Some held → IsBelow ballot held
          → higher (new slot) (ranged slot) ≡ higher (own slot) (ranged slot)
      stays None is_own held is below =
          by_range (ranged slot) refl held (sym (ap (λ (o : Option Ballot). higher o (ranged slot)) is_own) ∙ is) below (subst (IsAtLeast ballot) (sym is_own) tt)
      stays (Some a) is_own held is below = elim (below_or_at_least ballot a) as (λ _. higher (new slot) (ranged slot) ≡ higher (own slot) (ranged slot)) [
        | inl less ↦ same_own a is_own less
        | inr more ↦ from_range a is_own more (ranged slot) refl held is below
      ]

  -- promises made with others that are raised raise what each slot has promised
  pub raises_ranged : (new : ℕ → Option Ballot) (first : ℕ) (ballot : Ballot) → RaisesFrom ranged new first ballot
      → RaisesFrom (λ slot. higher (own slot) (ranged slot)) (λ slot. higher (own slot) (new slot)) first ballot
  raises_ranged new first ballot raises = record {
    kept = λ slot held from is below. elim (higher_is (own slot) (ranged slot) held is) as (λ _. higher (own slot) (new slot) ≡ higher (own slot) (ranged slot)) [
      | inl is_own ↦ beside slot held from is below is_own (ranged slot) refl
      | inr is_ranged ↦ ap (higher (own slot)) (raises.kept slot held from is_ranged below)
    ];
    raised = λ slot from more.
        let each = at_least_each ballot (own slot) (ranged slot) more in
        ap (higher (own slot)) (raises.raised slot from each.1) ∙ higher_second ballot (own slot) each.0;
    others = λ slot apart. ap (higher (own slot)) (raises.others slot apart);
  }
    where
      -- a slot's own promise that is above the ballot stays the higher, whether or not that of the others is raised
      lower : (slot : ℕ) (held : Ballot) → higher (own slot) (ranged slot) ≡ Some held → IsBelow ballot held → own slot ≡ Some held → new slot ≡ Some ballot
          → higher (own slot) (new slot) ≡ higher (own slot) (ranged slot)
      lower slot held is below is_own now =
          ap (higher (own slot)) now ∙ ap (λ (o : Option Ballot). higher o (Some ballot)) is_own ∙ higher_first held (Some ballot) (inl below) ∙ sym is

      beside : (slot : ℕ) (held : Ballot) → IsFrom first slot → higher (own slot) (ranged slot) ≡ Some held → IsBelow ballot held → own slot ≡ Some held → (p : Option Ballot)
          → ranged slot ≡ p → higher (own slot) (new slot) ≡ higher (own slot) (ranged slot)
      beside slot held from is below is_own None is_ranged = lower slot held is below is_own (raises.raised slot from (subst (IsAtLeast ballot) (sym is_ranged) tt))
      beside slot held from is below is_own (Some b) is_ranged = elim (below_or_at_least ballot b) as (λ _. higher (own slot) (new slot) ≡ higher (own slot) (ranged slot)) [
        | inl less ↦ ap (higher (own slot)) (raises.kept slot b from is_ranged less)
        | inr more ↦ lower slot held is below is_own (raises.raised slot from (subst (IsAtLeast ballot) (sym is_ranged) more))
      ]

  -- the highest promise of slots from a first one on
  pub highest_of_both : (first : ℕ) (a b : Option Ballot) → IsHighestFrom own first a → IsHighestFrom ranged first b → IsHighestFrom (λ slot. higher (own slot) (ranged slot)) first (higher a b)
  highest_of_both first None None none nothing = λ slot from. ap (λ (o : Option Ballot). higher o (ranged slot)) (none slot from) ∙ nothing slot from
  highest_of_both first None (Some b) none highest = record {
    is_promised = (
      highest.is_promised.0,
      highest.is_promised.1,
      ap (λ (o : Option Ballot). higher o (ranged highest.is_promised.0)) (none highest.is_promised.0 highest.is_promised.1) ∙ highest.is_promised.2,
    );
    greatest = λ slot from. at_least_both b (own slot) (ranged slot) (subst (IsAtLeast b) (sym (none slot from)) tt) (highest.greatest slot from);
  }
  highest_of_both first (Some a) None highest nothing = record {
    is_promised = (
      highest.is_promised.0,
      highest.is_promised.1,
      ap (higher (own highest.is_promised.0)) (nothing highest.is_promised.0 highest.is_promised.1) ∙ higher_none (own highest.is_promised.0) ∙ highest.is_promised.2,
    );
    greatest = λ slot from. at_least_both a (own slot) (ranged slot) (highest.greatest slot from) (subst (IsAtLeast a) (sym (nothing slot from)) tt);
  }
  highest_of_both first (Some a) (Some b) of_own of_ranged = elim (higher_cases a b) as (λ _. IsHighestFrom (λ slot. higher (own slot) (ranged slot)) first (higher (Some a) (Some b))) [
    | inl is_second ↦ subst (IsHighestFrom (λ slot. higher (own slot) (ranged slot)) first) (sym is_second.0) (record {
      is_promised = (
        of_ranged.is_promised.0,
        of_ranged.is_promised.1,
        ap (higher (own of_ranged.is_promised.0)) of_ranged.is_promised.2
            ∙ higher_second b (own of_ranged.is_promised.0) (at_least_above a b (own of_ranged.is_promised.0) is_second.1 (of_own.greatest of_ranged.is_promised.0 of_ranged.is_promised.1)),
      );
      greatest = λ slot from. at_least_both b (own slot) (ranged slot) (at_least_above a b (own slot) is_second.1 (of_own.greatest slot from)) (of_ranged.greatest slot from);
    })
    | inr is_first ↦ subst (IsHighestFrom (λ slot. higher (own slot) (ranged slot)) first) (sym is_first.0) (record {
      is_promised = (
        of_own.is_promised.0,
        of_own.is_promised.1,
        ap (λ (o : Option Ballot). higher o (ranged of_own.is_promised.0)) of_own.is_promised.2
            ∙ higher_first a (ranged of_own.is_promised.0) (more_than b a (ranged of_own.is_promised.0) is_first.1 (of_ranged.greatest of_own.is_promised.0 of_own.is_promised.1)),
      );
      greatest = λ slot from. at_least_both a (own slot) (ranged slot) (of_own.greatest slot from) (more_than b a (ranged slot) is_first.1 (of_ranged.greatest slot from));
    })
  ]
    where
      more_than : (b a : Ballot) (o : Option Ballot) → IsAtLeast a (Some b) → IsAtLeast b o → IsAtLeast a o
      more_than b a None more least = tt
      more_than b a (Some c) more least = at_least_higher a b c more least

  -- a promise of all slots from a first one on that is above all that they have promised is what they have promised then
  pub binds_promises : (new : ℕ → Option Ballot) (first : ℕ) (ballot : Ballot) → AreBelow (λ slot. higher (own slot) (ranged slot)) first ballot → BindsFrom ranged new first ballot
      → BindsFrom (λ slot. higher (own slot) (ranged slot)) (λ slot. higher (own slot) (new slot)) first ballot
  binds_promises new first ballot below binds = record {
    from = λ slot from.
        ap (higher (own slot)) (binds.from slot from) ∙ higher_second ballot (own slot) (at_least_of_above ballot (own slot) (above_each ballot (own slot) (ranged slot) (below slot from)).0);
    others = λ slot apart. ap (higher (own slot)) (binds.others slot apart);
  }

  pub ranges_below : (first : ℕ) (ballot : Ballot) → AreBelow (λ slot. higher (own slot) (ranged slot)) first ballot → AreBelow ranged first ballot
  ranges_below first ballot below = λ slot from. (above_each ballot (own slot) (ranged slot) (below slot from)).1

-- a ballot is above all promises exactly where it is above the highest
pub below_highest : (promised : ℕ → Option Ballot) (first : ℕ) (o : Option Ballot) (ballot : Ballot) → IsHighestFrom promised first o → IsAbove ballot o → AreBelow promised first ballot
below_highest promised first None ballot none above = λ slot from. subst (IsAbove ballot) (sym (none slot from)) tt
below_highest promised first (Some a) ballot highest above = λ slot from. carried (promised slot) (highest.greatest slot from)
  where
    carried : (o : Option Ballot) → IsAtLeast a o → IsAbove ballot o
    carried None more = tt
    carried (Some b) (inl ba) = below_carried b a ballot ba above
    carried (Some b) (inr same) = subst (λ (x : Ballot). IsBelow x ballot) (sym same) above

pub highest_below : (promised : ℕ → Option Ballot) (first : ℕ) (a ballot : Ballot) → IsGreatestFrom promised first a → AreBelow promised first ballot → IsBelow a ballot
highest_below promised first a ballot highest below = subst (IsAbove ballot) highest.is_promised.2 (below highest.is_promised.0 highest.is_promised.1)
