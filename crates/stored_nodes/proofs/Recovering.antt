-- What is recalled, as what was kept.
use Rattle.std.proofs.Common.{◌≡◌, ◌≢◌, refl, sym, ap, subst, ◌∙◌, inl, inr, ◌⊎◌, Bool, true, false, IsTrue, Option, None, Some, List, [], ◌∷◌, ◌++◌, length, ◌==◌, arith}
use Rattle.std.specs.Option.{MatchOption}
use Rattle.std.proofs.lemmas.Bool.{eq-eqb}
use Rattle.std.proofs.lemmas.Bool.Decides.{eqb_tells}
use Rattle.std.proofs.lemmas.List.{append-nil, append_cancel_left}
use Rattle.ballots.specs.declared.record.Record.{Record}
use Rattle.stable_records.specs.Found.{Found, FindsOnly, FindsNoMore, FindsSame, IsWith, IsWithOrWithout, AddsRecord, MayAddRecord}
use Rattle.histories.specs.Following.{with_due}
use Rattle.stored_nodes.specs.Kept.{MayBeThere, FindsKept}

-- ---- which of the two lists it is

abbrev pub listed : Option Record → List Record
listed None = []
listed (Some last) = last ∷ []

pub listed_is : (doubted : Option Record) (records : List Record) → MatchOption doubted (records ≡ []) (λ last. records ≡ last ∷ []) → records ≡ listed doubted
listed_is None records is = is
listed_is (Some last) records is = is

none_long : (records : List Record) → length records ≡ 0 → records ≡ []
none_long [] is = refl
none_long (first ∷ records) is = absurd (omega (arith, is))

true_is_false : true ≡ false → ⊥
true_is_false is = cc

pub empty_by : (records : List Record) → true ≡ (length records == 0) → records ≡ []
empty_by records is = elim (eqb_tells (length records) 0) as (λ _. records ≡ []) [
  | inl same ↦ none_long records same.1
  | inr differs ↦ absurd (true_is_false (is ∙ differs.0))
]

pub some_by : (records : List Record) → false ≡ (length records == 0) → records ≢ []
some_by records is none = true_is_false (sym (eq-eqb (length records) 0 (ap (λ (rs : List Record). length rs) none)) ∙ sym is)

-- behind what was kept nothing stands, or the record in doubt

behind_kept : (recovered : Bool) (kept : List Record) (doubted : Option Record) → (rest : List Record) × (with_due recovered kept doubted ≡ kept ++ rest) × ((rest ≡ []) ⊎ (rest ≡ listed doubted))
behind_kept recovered kept None = ([], sym (append-nil kept), inl refl)
behind_kept true kept (Some last) = (last ∷ [], refl, inr refl)
behind_kept false kept (Some last) = ([], sym (append-nil kept), inl refl)

-- it begins otherwise
pub begins_otherwise : (kept : List Record) (doubted : Option Record) (recalled : List Record) → ((rest : List Record) → recalled ≢ kept ++ rest) → MayBeThere kept doubted recalled → ⊥
begins_otherwise kept doubted recalled differs (recovered, is) = (let behind = behind_kept recovered kept doubted in differs behind.0 (is ∙ behind.1))

-- it goes on otherwise
pub goes_on_otherwise : (kept : List Record) (doubted : Option Record) (recalled behind : List Record) → recalled ≡ kept ++ behind → behind ≢ [] → behind ≢ listed doubted
    → MayBeThere kept doubted recalled → ⊥
goes_on_otherwise kept doubted recalled behind begins some other (recovered, is) =
    let rest = behind_kept recovered kept doubted in
    let same = append_cancel_left kept behind rest.0 (sym begins ∙ is ∙ rest.1) in
    elim rest.2 as (λ _. ⊥) [
      | inl none ↦ some (same ∙ none)
      | inr last ↦ other (same ∙ last)
    ]

-- nothing stands behind
pub nothing_behind : (kept : List Record) (doubted : Option Record) (recalled behind : List Record) → recalled ≡ kept ++ behind → behind ≡ [] → recalled ≡ with_due false kept doubted
nothing_behind kept None recalled behind begins none = begins ∙ ap (λ (rs : List Record). kept ++ rs) none ∙ append-nil kept
nothing_behind kept (Some last) recalled behind begins none = begins ∙ ap (λ (rs : List Record). kept ++ rs) none ∙ append-nil kept

-- the record in doubt stands behind

pub last_behind : (kept : List Record) (doubted : Option Record) (recalled behind : List Record) → recalled ≡ kept ++ behind → behind ≡ listed doubted → recalled ≡ with_due true kept doubted
last_behind kept None recalled behind begins is = begins ∙ ap (λ (rs : List Record). kept ++ rs) is ∙ append-nil kept
last_behind kept (Some last) recalled behind begins is = begins ∙ ap (λ (rs : List Record). kept ++ rs) is

-- ---- what the store has

-- one list alone
pub finds_one : (finds : Found → Type 0) (records : List Record) → FindsOnly finds records → FindsKept finds records None
finds_one finds records only found here not = not (records, (false, refl), only.nothing_else found here)

some_same : {X : Type 0} (x y : X) → Some x ≡ Some y → x ≡ y
some_same x y same = cc

-- a record was kept
pub finds_added : (old new : Found → Type 0) (kept : List Record) (last : Record) → FindsKept old kept None → AddsRecord last old new → FindsKept new (kept ++ last ∷ []) None
finds_added old new kept last was adds found here not =
    let with_it = adds.nothing_else found here in
    was (Some with_it.0) with_it.1 (λ it. not (
      kept ++ last ∷ [],
      (false, refl),
      with_it.2 ∙ ap (λ (rs : List Record). Some (rs ++ last ∷ [])) (some_same with_it.0 it.0 it.2 ∙ it.1.1),
    ))

-- or may have been
pub finds_added_or_not : (old new : Found → Type 0) (kept : List Record) (last : Record) → FindsKept old kept None → MayAddRecord last old new → FindsKept new kept (Some last)
finds_added_or_not old new kept last was adds found here not = elim (adds found here) as (λ _. ⊥) [
  | inl before ↦ was found before (λ it. not (kept, (false, refl), it.2 ∙ ap (λ (rs : List Record). Some rs) it.1.1))
  | inr with_it ↦
      was (Some with_it.0) with_it.1 (λ it. not (
        kept ++ last ∷ [],
        (true, refl),
        with_it.2 ∙ ap (λ (rs : List Record). Some (rs ++ last ∷ [])) (some_same with_it.0 it.0 it.2 ∙ it.1.1),
      ))
]

-- nothing more is found than before
pub finds_no_more : (old new : Found → Type 0) (kept : List Record) (doubted : Option Record) → FindsKept old kept doubted → FindsNoMore old new → FindsKept new kept doubted
finds_no_more old new kept doubted was more found here not = was found (more found here) not

-- what is recalled is what was kept
pub recalled_is_kept : (old : Found → Type 0) (kept recalled : List Record) (doubted : Option Record) → FindsKept old kept doubted → old (Some recalled) → (MayBeThere kept doubted recalled → ⊥) → ⊥
recalled_is_kept old kept recalled doubted was here not =
    was (Some recalled) here (λ it. not (subst (λ (rs : List Record). MayBeThere kept doubted rs) (sym (some_same recalled it.0 it.2)) it.1))
