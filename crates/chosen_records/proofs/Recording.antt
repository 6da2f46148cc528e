-- Records that are read one after the other.
use Rattle.std.proofs.Common.{◌≡◌, ◌↔◌, ◌⊎◌, inl, inr, ◌<◌, ◌+◌, ◌++◌, ◌∷◌, [], ℕ, zero, suc, List, length, map, get_or, take, drop, slice_get, Some, None, refl, sym, ap, subst, ◌∙◌, arith}
use Rattle.std.specs.List.{Contains}
use Rattle.std.proofs.lemmas.List.{get_or-map, take-append-drop, take_more}
use Rattle.std.proofs.lemmas.List.Elements.{Contains-push, Contains-push_cases, Contains-append_left}
use Rattle.ballots.specs.declared.acceptance.Acceptance.{Acceptance}
use Rattle.ballots.specs.declared.record.Record.{Record}
use Rattle.ballots.specs.declared.record.Record.TheVariants.{Accepted}
use Rattle.chosen_records.specs.declared.fault.ChosenFault.{ChosenFault}
use Rattle.chosen_records.specs.declared.fault.ChosenFault.TheVariants as fault
use Rattle.chosen_records.specs.Chosen.{Records, Differ, TellsDiffer}

-- ---- what stands at a place of a list

place_behind : {X : Type 0} (xs ys : List X) (i : ℕ) (x : X) → slice_get xs i ≡ Some x → slice_get (xs ++ ys) i ≡ Some x
place_behind [] ys i x is = absurd (let no : None ≡ Some x = is in cc)
place_behind (z ∷ xs) ys zero x is = is
place_behind (z ∷ xs) ys (suc i) x is = place_behind xs ys i x is

last_place : {X : Type 0} (xs : List X) (x : X) → slice_get (xs ++ x ∷ []) (length xs) ≡ Some x
last_place [] x = refl
last_place (z ∷ xs) x = last_place xs x

place_cases : {X : Type 0} (xs : List X) (y : X) (i : ℕ) (x : X) → slice_get (xs ++ y ∷ []) i ≡ Some x → (slice_get xs i ≡ Some x) ⊎ ((length xs ≡ i) × (y ≡ x))
place_cases [] y zero x is = inr (refl, cc)
place_cases [] y (suc i) x is = absurd (let no : None ≡ Some x = is in cc)
place_cases (z ∷ xs) y zero x is = inl is
place_cases (z ∷ xs) y (suc i) x is = elim (place_cases xs y i x is) [
  | inl before ↦ inl before
  | inr last ↦ inr (ap suc last.0, last.1)
]

within_taken : {X : Type 0} (xs : List X) (n : ℕ) (x : X) → Contains (take n xs) x → Contains xs x
within_taken xs n x has = subst (λ (l : List _). Contains l x) (take-append-drop n xs) (Contains-append_left (take n xs) (drop n xs) x has)

-- ---- records of one node more

-- what the first nodes recorded, all nodes did
pub more_nodes : (done rest : List (List Record)) (node slot : ℕ) (accepted : Acceptance) → Records done node slot accepted → Records (done ++ rest) node slot accepted
more_nodes done rest node slot accepted has = (has.0, place_behind done rest node has.0 has.1, has.2)

pub first_nodes : (all : List (List Record)) (n node slot : ℕ) (accepted : Acceptance) → Records (take n all) node slot accepted → Records all node slot accepted
first_nodes all n node slot accepted has =
    subst (λ (l : List (List Record)). Records l node slot accepted) (take-append-drop n all) (more_nodes (take n all) (drop n all) node slot accepted has)

-- a node that recorded nothing yet
pub nothing_yet : (done : List (List Record)) (node slot : ℕ) (accepted : Acceptance) → (Records (done ++ [] ∷ []) node slot accepted ↔ Records done node slot accepted)
nothing_yet done node slot accepted = (there, more_nodes done ([] ∷ []) node slot accepted)
  where
    there : Records (done ++ [] ∷ []) node slot accepted → Records done node slot accepted
    there has = elim (place_cases done [] node has.0 has.1) [
      | inl before ↦ (has.0, before, has.2)
      | inr last ↦
          let none : Contains [] (Accepted slot accepted) = subst (λ (l : List Record). Contains l (Accepted slot accepted)) (sym last.1) has.2 in
          absurd (omega (arith, none.1))
    ]

-- a record more of the last node
pub one_more : (done : List (List Record)) (own : List Record) (told : Record) (node slot : ℕ) (accepted : Acceptance)
    → (Records (done ++ (own ++ told ∷ []) ∷ []) node slot accepted ↔ (Records (done ++ own ∷ []) node slot accepted ⊎ ((length done ≡ node) × (told ≡ Accepted slot accepted))))
one_more done own told node slot accepted = (there, back)
  where
    last_has : Contains (own ++ told ∷ []) (Accepted slot accepted) → length done ≡ node → Records (done ++ (own ++ told ∷ []) ∷ []) node slot accepted
    last_has has same =
        subst (λ (k : ℕ). Records (done ++ (own ++ told ∷ []) ∷ []) k slot accepted) same (own ++ told ∷ [], last_place done (own ++ told ∷ []), has)

    there : Records (done ++ (own ++ told ∷ []) ∷ []) node slot accepted → Records (done ++ own ∷ []) node slot accepted ⊎ ((length done ≡ node) × (told ≡ Accepted slot accepted))
    there has = elim (place_cases done (own ++ told ∷ []) node has.0 has.1) [
      | inl before ↦ inl (has.0, place_behind done (own ∷ []) node has.0 before, has.2)
      | inr last ↦
          let own_has : Contains (own ++ told ∷ []) (Accepted slot accepted) = subst (λ (l : List Record). Contains l (Accepted slot accepted)) (sym last.1) has.2 in
          elim (Contains-push_cases own told (Accepted slot accepted) own_has) [
            | inl old ↦ inl (subst (λ (k : ℕ). Records (done ++ own ∷ []) k slot accepted) last.0 (own, last_place done own, old))
            | inr is ↦ inr (last.0, is)
          ]
    ]

    back : Records (done ++ own ∷ []) node slot accepted ⊎ ((length done ≡ node) × (told ≡ Accepted slot accepted)) → Records (done ++ (own ++ told ∷ []) ∷ []) node slot accepted
    back (inr is) = last_has (subst (λ (r : Record). Contains (own ++ told ∷ []) r) is.1 (Contains-push own told)) is.0
    back (inl has) = elim (place_cases done own node has.0 has.1) [
      | inl before ↦ (has.0, place_behind done ((own ++ told ∷ []) ∷ []) node has.0 before, has.2)
      | inr last ↦
          let old : Contains own (Accepted slot accepted) = subst (λ (l : List Record). Contains l (Accepted slot accepted)) (sym last.1) has.2 in
          last_has (Contains-append_left own (told ∷ []) (Accepted slot accepted) old) last.0
    ]

-- the first records of the last node
pub first_records : (done : List (List Record)) (own : List Record) (n node slot : ℕ) (accepted : Acceptance) → Records (done ++ take n own ∷ []) node slot accepted → Records (done ++ own ∷ []) node slot accepted
first_records done own n node slot accepted has = elim (place_cases done (take n own) node has.0 has.1) [
  | inl before ↦ (has.0, place_behind done (own ∷ []) node has.0 before, has.2)
  | inr last ↦
      let taken : Contains (take n own) (Accepted slot accepted) = subst (λ (l : List Record). Contains l (Accepted slot accepted)) (sym last.1) has.2 in
      subst (λ (k : ℕ). Records (done ++ own ∷ []) k slot accepted) last.0 (own, last_place done own, within_taken own n (Accepted slot accepted) taken)
]

-- ---- slots of which two values are recorded

pub differ_more : (some all : List (List Record)) (slot : ℕ) → ((node s : ℕ) (accepted : Acceptance) → Records some node s accepted → Records all node s accepted) → Differ some slot → Differ all slot
differ_more some all slot more d = record {
  ballot = d.ballot;
  one = d.one;
  other = d.other;
  value = d.value;
  another = d.another;
  has_one = more d.one slot _ d.has_one;
  has_other = more d.other slot _ d.has_other;
  differ = d.differ;
}

pub tells_more : (some all : List (List Record)) (told : ChosenFault) → ((node s : ℕ) (accepted : Acceptance) → Records some node s accepted → Records all node s accepted)
    → TellsDiffer some told → TellsDiffer all told
tells_more some all (fault.Differ slot) more d = differ_more some all slot more d
tells_more some all fault.OutOfMemory more d = tt

-- ---- one further in a loop

pub next_taken : {X : Type 0} (xs : List X) (i : ℕ) (x : X) → i < length xs → x ≡ get_or xs i x → take i xs ++ x ∷ [] ≡ take (i + 1) xs
next_taken xs i x within is = ap (λ (y : _). take i xs ++ y ∷ []) is ∙ sym (take_more xs i x within)

-- what is told of the first records of the last node, is told of all of them
pub tells_first_records : (done : List (List Record)) (own : List Record) (i : ℕ) (record' : Record) (told : ChosenFault) → i < length own → record' ≡ get_or own i record'
    → TellsDiffer (done ++ (take i own ++ record' ∷ []) ∷ []) told → TellsDiffer (done ++ own ∷ []) told
tells_first_records done own i record' told within is tells =
    tells_more (done ++ take (i + 1) own ∷ []) (done ++ own ∷ []) told (first_records done own (i + 1))
    (subst (λ (l : List Record). TellsDiffer (done ++ l ∷ []) told) (next_taken own i record' within is) tells)

-- and what is told of the first nodes, of all nodes
pub tells_first_nodes : (all : List (List Record)) (i : ℕ) (own : List Record) (told : ChosenFault) → i < length all → own ≡ get_or all i own
    → TellsDiffer (take i all ++ own ∷ []) told → TellsDiffer all told
tells_first_nodes all i own told within is tells =
    tells_more (take (i + 1) all) all told (first_nodes all (i + 1))
    (subst (λ (l : List (List Record)). TellsDiffer l told) (next_taken all i own within is) tells)

-- what is seen of the place of a list, by another number of the same place
pub seen_there : {A B : Type 0} (f : A → B) (xs : List A) (i j : ℕ) (v : A) (y : B) → i < length xs → j ≡ i → v ≡ get_or xs j v → y ≡ f v → y ≡ get_or (map f xs) i y
seen_there f xs i j v y within same is seen =
    seen ∙ ap f (is ∙ ap (λ (k : ℕ). get_or xs k v) same) ∙ sym (get_or-map f xs i v y within)
