-- Which records may stand after keeps.
use Rattle.std.proofs.Common.{◌≡◌, ◌⊎◌, inl, inr, ◌<◌, List, [], ◌∷◌, ◌++◌, map, refl, sym, ap, ◌∙◌, subst, arith, append-nil}
use Rattle.std.specs.List.{Contains}
use Rattle.std.proofs.lemmas.List.Elements.{Contains-append_cases, Contains-append_left, Contains-append_right, Contains-push, Contains-push_cases}
use Rattle.ballots.specs.declared.record.Record.{Record}
use Rattle.stable_records.specs.Telling.{Telling, kept, doubted, MayStand}

-- ---- elements of a list

none_contained : {X : Type 0} (x : X) → Contains [] x → ⊥
none_contained x has = let lt : has.0 < 0 = has.1 in omega arith

only_contained : {X : Type 0} (y x : X) → Contains (y ∷ []) x → y ≡ x
only_contained y x has = elim (Contains-push_cases [] y x has) [ inl none ↦ absurd (none_contained x none) | inr same ↦ same ]

contained_first : {X : Type 0} (y : X) (ys : List X) → Contains (y ∷ ys) y
contained_first y ys = Contains-append_left (y ∷ []) ys y (Contains-push [] y)

contained_later : {X : Type 0} (y : X) (ys : List X) (x : X) → Contains ys x → Contains (y ∷ ys) x
contained_later y ys x has = Contains-append_right (y ∷ []) ys x has

contained_cases : {X : Type 0} (y : X) (ys : List X) (x : X) → Contains (y ∷ ys) x → (y ≡ x) ⊎ Contains ys x
contained_cases y ys x has =
    elim (Contains-append_cases (y ∷ []) ys x has) [ inl here ↦ inl (only_contained y x here) | inr later ↦ inr later ]

contained_along : (xs ys : List Record) (x : Record) → ys ≡ xs → Contains xs x → Contains ys x
contained_along xs ys x same has = let P : List Record → Type 0 = λ l. Contains l x in subst P (sym same) has

contained_back : (xs ys : List Record) (x : Record) → ys ≡ xs → Contains ys x → Contains xs x
contained_back xs ys x same has = let P : List Record → Type 0 = λ l. Contains l x in subst P same has

kept_is : (a b : Record) → kept a ≡ kept b → a ≡ b
kept_is a b same = cc

kept_is_not_doubted : (a b : Record) → doubted a ≡ kept b → ⊥
kept_is_not_doubted a b same = cc

-- ---- what was kept stands

kept_stands_first : (told first : Record) (rest records : List Record) → kept first ≡ kept told → records ≡ first ∷ rest
    → Contains records told
kept_stands_first told first rest records same is =
    let P : Record → Type 0 = λ r. Contains records r in
    subst P (kept_is first told same) (contained_along (first ∷ rest) records first is (contained_first first rest))

kept_behind : (first told : Record) (later : List Telling) → Contains (doubted first ∷ later) (kept told)
    → Contains later (kept told)
kept_behind first told later has =
    elim (contained_cases (doubted first) later (kept told) has) [
      | inl same ↦ absurd (kept_is_not_doubted first told same)
      | inr behind ↦ behind
    ]

pub kept_stands : (tellings : List Telling) (records : List Record) (told : Record) → MayStand tellings records
    → Contains tellings (kept told) → Contains records told
kept_stands [] records told stands has = absurd (none_contained (kept told) has)
kept_stands (kept first ∷ later) records told stands has =
    elim (contained_cases (kept first) later (kept told) has) [
      | inl same ↦ kept_stands_first told first stands.0 records same stands.2
      | inr behind ↦ contained_along (first ∷ stands.0) records told stands.2
          (contained_later first stands.0 told (kept_stands later stands.0 told stands.1 behind))
    ]
kept_stands (doubted first ∷ later) records told (inl without) has =
    kept_stands later records told without (kept_behind first told later has)
kept_stands (doubted first ∷ later) records told (inr with) has =
    contained_along (first ∷ with.0) records told with.2
    (contained_later first with.0 told (kept_stands later with.0 told with.1 (kept_behind first told later has)))

-- ---- what stands was told

abbrev WasTold : List Telling → Record → Type 0
WasTold tellings told = Contains tellings (kept told) ⊎ Contains tellings (doubted told)

told_later : (first : Telling) (later : List Telling) (told : Record) → WasTold later told → WasTold (first ∷ later) told
told_later first later told (inl was) = inl (contained_later first later (kept told) was)
told_later first later told (inr was) = inr (contained_later first later (doubted told) was)

kept_was_told : (first told : Record) (later : List Telling) → first ≡ told → WasTold (kept first ∷ later) told
kept_was_told first told later same =
    let P : Record → Type 0 = λ r. Contains (kept first ∷ later) (kept r) in
    inl (subst P same (contained_first (kept first) later))

doubted_was_told : (first told : Record) (later : List Telling) → first ≡ told → WasTold (doubted first ∷ later) told
doubted_was_told first told later same =
    let P : Record → Type 0 = λ r. Contains (doubted first ∷ later) (doubted r) in
    inr (subst P same (contained_first (doubted first) later))

pub standing_was_told : (tellings : List Telling) (records : List Record) (told : Record) → MayStand tellings records
    → Contains records told → WasTold tellings told
standing_was_told [] records told stands has = absurd (none_contained told (contained_back [] records told stands has))
standing_was_told (kept first ∷ later) records told stands has =
    elim (contained_cases first stands.0 told (contained_back (first ∷ stands.0) records told stands.2 has)) [
      | inl same ↦ kept_was_told first told later same
      | inr behind ↦ told_later (kept first) later told (standing_was_told later stands.0 told stands.1 behind)
    ]
standing_was_told (doubted first ∷ later) records told (inl without) has =
    told_later (doubted first) later told (standing_was_told later records told without has)
standing_was_told (doubted first ∷ later) records told (inr with) has =
    elim (contained_cases first with.0 told (contained_back (first ∷ with.0) records told with.2 has)) [
      | inl same ↦ doubted_was_told first told later same
      | inr behind ↦ told_later (doubted first) later told (standing_was_told later with.0 told with.1 behind)
    ]

-- ---- keeps one after another

pub stands_apart : (first second : List Telling) (records : List Record) → MayStand (first ++ second) records
    → (early : List Record) × (late : List Record) × MayStand first early × MayStand second late × (records ≡ early ++ late)
stands_apart [] second records stands = ([], records, refl, stands, refl)
stands_apart (kept told ∷ later) second records stands =
    let apart = stands_apart later second stands.0 stands.1 in
    (told ∷ apart.0, apart.1, (apart.0, apart.2, refl), apart.3, stands.2 ∙ ap (λ rest. told ∷ rest) apart.4)
stands_apart (doubted told ∷ later) second records (inl without) =
    let apart = stands_apart later second records without in (apart.0, apart.1, inl apart.2, apart.3, apart.4)
stands_apart (doubted told ∷ later) second records (inr with) =
    let apart = stands_apart later second with.0 with.1 in
    (told ∷ apart.0, apart.1, inr (apart.0, apart.2, refl), apart.3, with.2 ∙ ap (λ rest. told ∷ rest) apart.4)

pub stands_together : (first second : List Telling) (early late : List Record) → MayStand first early
    → MayStand second late → MayStand (first ++ second) (early ++ late)
stands_together [] second early late none stands =
    let P : List Record → Type 0 = λ l. MayStand second (l ++ late) in subst P (sym none) stands
stands_together (kept told ∷ later) second early late stands after =
    (stands.0 ++ late, stands_together later second stands.0 late stands.1 after, ap (λ l. l ++ late) stands.2)
stands_together (doubted told ∷ later) second early late (inl without) after =
    inl (stands_together later second early late without after)
stands_together (doubted told ∷ later) second early late (inr with) after =
    inr (with.0 ++ late, stands_together later second with.0 late with.1 after, ap (λ l. l ++ late) with.2)

-- ---- where none was broken off, or the last one alone

pub all_kept_stands : (told : List Record) → MayStand (map kept told) told
all_kept_stands [] = refl
all_kept_stands (first ∷ later) = (later, all_kept_stands later, refl)

pub all_kept_is : (told records : List Record) → MayStand (map kept told) records → records ≡ told
all_kept_is [] records stands = stands
all_kept_is (first ∷ later) records stands = stands.2 ∙ ap (λ rest. first ∷ rest) (all_kept_is later stands.0 stands.1)

behind_kept : (told early late records : List Record) → early ≡ told → records ≡ early ++ late → records ≡ told ++ late
behind_kept told early late records same is = is ∙ ap (λ l. l ++ late) same

doubted_cases : (told early late records : List Record) (last : Record) → early ≡ told → MayStand (doubted last ∷ []) late
    → records ≡ early ++ late → (records ≡ told) ⊎ (records ≡ told ++ last ∷ [])
doubted_cases told early late records last same (inl none) is =
    inl (behind_kept told early late records same is ∙ ap (λ l. told ++ l) none ∙ append-nil told)
doubted_cases told early late records last same (inr with) is =
    inr (behind_kept told early late records same is ∙ ap (λ l. told ++ l) (with.2 ∙ ap (λ rest. last ∷ rest) with.1))

pub last_doubted_is : (told records : List Record) (last : Record)
    → MayStand (map kept told ++ doubted last ∷ []) records → (records ≡ told) ⊎ (records ≡ told ++ last ∷ [])
last_doubted_is told records last stands =
    let apart = stands_apart (map kept told) (doubted last ∷ []) records stands in
    doubted_cases told apart.0 apart.1 records last (all_kept_is told apart.0 apart.2) apart.3 apart.4
