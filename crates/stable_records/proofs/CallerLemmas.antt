-- Lemmas for whoever stands on a store: what is found, and what crashes leave, over one call after another.
use Rattle.std.proofs.Common.{◌≡◌, inl, inr, ℕ, List, [], ◌∷◌, ◌++◌, ap, ◌∙◌, arith, Some}
use Rattle.ballots.specs.declared.record.Record.{Record}
use Rattle.stable_records.specs.Found.{Found, FindsOnly, AddsRecord}
use Rattle.stable_records.specs.Moments.{AnyCrashLeaves}

-- a list that is found is one
pub some_is : (a b : List Record) → Some a ≡ Some b → a ≡ b
some_is a b same = cc

-- where one list is found, one is found after a keep
pub only_goes_on : (old new : Found → Type 0) (records : List Record) (last : Record) → FindsOnly old records
    → AddsRecord last old new → FindsOnly new (records ++ last ∷ [])
only_goes_on old new records last only adds = record {
  these = adds.each records only.these;
  nothing_else = λ found here.
      let with = adds.nothing_else found here in
      with.2 ∙ ap (λ l. Some (l ++ last ∷ [])) (some_is with.0 records (only.nothing_else (Some with.0) with.1));
}

-- before any call a crash leaves what is found
pub crashes_begin : {S : Type 0} (moment : S → ℕ) (finds : S → Found → Type 0) (finds_since : S → ℕ → Found → Type 0)
    (store : S) (P : Found → Type 0) → ((found : Found) → finds_since store (moment store) found → finds store found)
    → ((found : Found) → finds store found → P found) → AnyCrashLeaves moment finds_since store store P
crashes_begin moment finds finds_since store P only_now here = record {
  later = omega arith;
  leaves = λ found since. here found (only_now found since);
  before = λ t found le since. inl since;
  remembers = λ t found le since. since;
}

-- A crash in the calls so far or in the next one: where what each leaves has P, what both leave has it.
pub crashes_go_on : {S : Type 0} (moment : S → ℕ) (finds_since : S → ℕ → Found → Type 0) (old mid new : S)
    (P Q R : Found → Type 0) → AnyCrashLeaves moment finds_since old mid Q → AnyCrashLeaves moment finds_since mid new R
    → ((found : Found) → Q found → P found) → ((found : Found) → R found → P found)
    → AnyCrashLeaves moment finds_since old new P
crashes_go_on moment finds_since old mid new P Q R first second early late = record {
  later = let a = first.later in let b = second.later in omega arith;
  leaves = λ found since. elim (second.before (moment old) found first.later since) [
    | inl earlier ↦ early found (first.leaves found earlier)
    | inr left ↦ late found left
  ];
  before = λ t found le since.
      elim (second.before t found (let a = first.later in omega arith) since) [
        | inl earlier ↦ elim (first.before t found le earlier) [ inl past ↦ inl past | inr left ↦ inr (early found left) ]
        | inr left ↦ inr (late found left)
      ];
  remembers = λ t found le since.
      second.remembers t found (let a = first.later in omega arith) (first.remembers t found le since);
}
