-- What messages say groups into uploads in one way, where no two that stand side by side have one name.
use Rattle.std.proofs.Common.{◌≡◌, ◌≢◌, refl, sym, ap, ap₂, subst, ◌∙◌, ℕ, List, [], ◌∷◌, ◌++◌, map, Option, Some, None, arith}
use Rattle.std.specs.List.{flat_map}
use Rattle.std.proofs.lemmas.List.{map-append}
use Rattle.header_types.specs.Fields.{SchemaTree}
use Rattle.batch_types.specs.Cells.{Rows}
use Rattle.table_types.specs.Served.{batch_message, messages_of}
use Rattle.downloads.specs.Downloads.{ServedUpload, as_upload, served_messages, IdsChange}
use Rattle.downloads.specs.Parts.{Part, batch_part, parts_from, parts_of, part_text}

-- ---- lists

abbrev first_or : {A : Type 0} → A → List A → A
first_or other [] = other
first_or other (x ∷ xs) = x

abbrev behind_first : {A : Type 0} → List A → List A
behind_first [] = []
behind_first (x ∷ xs) = xs

abbrev count_of : Option Rows → ℕ
count_of None = 0
count_of (Some rows) = 1

abbrev some_or : Rows → Option Rows → Rows
some_or other None = other
some_or other (Some rows) = rows

firsts_are : (p q : Part) (ps qs : List Part) → p ∷ ps ≡ q ∷ qs → p ≡ q
firsts_are p q ps qs same = ap (λ (l : List Part). first_or p l) same

rests_are : (p q : Part) (ps qs : List Part) → p ∷ ps ≡ q ∷ qs → ps ≡ qs
rests_are p q ps qs same = ap (λ (l : List Part). behind_first l) same

-- ---- one upload

abbrev served : List ℕ → List Rows → ServedUpload
served id batches = record { id = id; batches = batches }

-- no part of this name stands first
abbrev pub IsOther : List ℕ → List Part → Type 0
IsOther id [] = Unit {0}
IsOther id (part ∷ parts) = id ≢ part.id

abbrev how_many : List Part → ℕ
how_many [] = 0
how_many (part ∷ parts) = 1

not_of_this : (id : List ℕ) (part : Part) (a rest : List Part) → IsOther id a → id ≡ part.id → a ≡ part ∷ rest → ⊥
not_of_this id part [] rest other named same =
    let none : 0 ≡ 1 = ap (λ (l : List Part). how_many l) same in
    omega (arith, none)
not_of_this id part (first ∷ a) rest other named same = other (named ∙ sym (ap (λ (p : Part). p.id) (firsts_are first part a rest same)))

-- the batches of an upload end where the parts of another begin
cut : (id : List ℕ) (xs ys : List Rows) (a b : List Part) → IsOther id a → IsOther id b → map (batch_part id) xs ++ a ≡ map (batch_part id) ys ++ b → (xs ≡ ys) × (a ≡ b)
cut id [] [] a b other_a other_b same = (refl, same)
cut id [] (y ∷ ys) a b other_a other_b same = absurd (not_of_this id (batch_part id y) a (map (batch_part id) ys ++ b) other_a refl same)
cut id (x ∷ xs) [] a b other_a other_b same = absurd (not_of_this id (batch_part id x) b (map (batch_part id) xs ++ a) other_b refl (sym same))
cut id (x ∷ xs) (y ∷ ys) a b other_a other_b same =
    let further = cut id xs ys a b other_a other_b (rests_are (batch_part id x) (batch_part id y) (map (batch_part id) xs ++ a) (map (batch_part id) ys ++ b) same) in
    let first : x ≡ y =
    ap (λ (p : Part). some_or x p.batch) (firsts_are (batch_part id x) (batch_part id y) (map (batch_part id) xs ++ a) (map (batch_part id) ys ++ b) same) in
    (ap₂ (λ r rs. r ∷ rs) first further.0, further.1)

-- two that have one name, with what stands behind them
ends : (id : List ℕ) (xs ys : List Rows) (a b : List Part) → IsOther id a → IsOther id b → parts_from id xs ++ a ≡ parts_from id ys ++ b → (xs ≡ ys) × (a ≡ b)
ends id [] [] a b other_a other_b same = (refl, ap (λ (l : List Part). behind_first l) same)
ends id [] (y ∷ ys) a b other_a other_b same =
    let counts : 0 ≡ 1 = ap (λ (l : List Part). count_of (first_or (batch_part id y) l).batch) same in
    absurd (omega (arith, counts))
ends id (x ∷ xs) [] a b other_a other_b same =
    let counts : 1 ≡ 0 = ap (λ (l : List Part). count_of (first_or (batch_part id x) l).batch) same in
    absurd (omega (arith, counts))
ends id (x ∷ xs) (y ∷ ys) a b other_a other_b same = cut id (x ∷ xs) (y ∷ ys) a b other_a other_b same

-- ---- all of them

abbrev all_parts : List ServedUpload → List Part
all_parts uploads = flat_map parts_of uploads

other_begins : (id next : List ℕ) (xs : List Rows) (a : List Part) → id ≢ next → IsOther id (parts_from next xs ++ a)
other_begins id next [] a apart = apart
other_begins id next (x ∷ xs) a apart = apart

pub others_follow : (one : ServedUpload) (uploads : List ServedUpload) → IdsChange (one ∷ uploads) → IsOther one.id (all_parts uploads)
others_follow one [] change = tt
others_follow one (next ∷ uploads) change = other_begins one.id next.id next.batches (all_parts uploads) change.0

pub names_rest : (one : ServedUpload) (uploads : List ServedUpload) → IdsChange (one ∷ uploads) → IdsChange uploads
names_rest one [] change = tt
names_rest one (next ∷ uploads) change = change.1

some_part : (id : List ℕ) (xs : List Rows) (a : List Part) → [] ≡ parts_from id xs ++ a → ⊥
some_part id [] a same =
    let none : 0 ≡ 1 = ap (λ (l : List Part). how_many l) same in
    omega (arith, none)
some_part id (x ∷ xs) a same =
    let none : 0 ≡ 1 = ap (λ (l : List Part). how_many l) same in
    omega (arith, none)

names_are : (id jd : List ℕ) (xs ys : List Rows) (a b : List Part) → parts_from id xs ++ a ≡ parts_from jd ys ++ b → id ≡ jd
names_are id jd [] [] a b same = ap (λ (l : List Part). (first_or (record { id = id; batch = None }) l).id) same
names_are id jd [] (y ∷ ys) a b same = ap (λ (l : List Part). (first_or (record { id = id; batch = None }) l).id) same
names_are id jd (x ∷ xs) [] a b same = ap (λ (l : List Part). (first_or (record { id = id; batch = None }) l).id) same
names_are id jd (x ∷ xs) (y ∷ ys) a b same = ap (λ (l : List Part). (first_or (record { id = id; batch = None }) l).id) same

one_group : (id jd : List ℕ) (xs ys : List Rows) (a b : List Part) → id ≡ jd → IsOther id a → IsOther jd b → parts_from id xs ++ a ≡ parts_from jd ys ++ b → (xs ≡ ys) × (a ≡ b)
one_group id jd xs ys a b named other_a other_b same =
    ends id xs ys a b other_a (subst (λ (n : List ℕ). IsOther n b) (sym named) other_b)
    (subst (λ (n : List ℕ). parts_from id xs ++ a ≡ parts_from n ys ++ b) (sym named) same)

pub grouped_once : (a b : List ServedUpload) → IdsChange a → IdsChange b → all_parts a ≡ all_parts b → a ≡ b
grouped_once [] [] change_a change_b same = refl
grouped_once [] (y ∷ b) change_a change_b same = absurd (some_part y.id y.batches (all_parts b) same)
grouped_once (x ∷ a) [] change_a change_b same = absurd (some_part x.id x.batches (all_parts a) (sym same))
grouped_once (x ∷ a) (y ∷ b) change_a change_b same =
    let named = names_are x.id y.id x.batches y.batches (all_parts a) (all_parts b) same in
    let group = one_group x.id y.id x.batches y.batches (all_parts a) (all_parts b) named (others_follow x a change_a) (others_follow y b change_b) same in
    let one : x ≡ y = ap₂ (λ (id : List ℕ) (batches : List Rows). served id batches) named group.0 in
    ap₂ (λ u us. u ∷ us) one (grouped_once a b (names_rest x a change_a) (names_rest y b change_b) group.1)

-- ---- the messages

texts_are : (schema : SchemaTree) (one : ServedUpload) (batches : List Rows) → map (batch_message (as_upload schema one)) batches ≡ map (part_text schema) (map (batch_part one.id) batches)
texts_are schema one [] = refl
texts_are schema one (rows ∷ batches) = ap (λ (l : List (List ℕ)). batch_message (as_upload schema one) rows ∷ l) (texts_are schema one batches)

message_ids : (schema : SchemaTree) (one : ServedUpload) (batches : List Rows) → messages_of (as_upload schema one) batches ≡ map (part_text schema) (parts_from one.id batches)
message_ids schema one [] = refl
message_ids schema one (rows ∷ batches) = texts_are schema one (rows ∷ batches)

served_texts : (schema : SchemaTree) (one : ServedUpload) → messages_of (as_upload schema one) one.batches ≡ map (part_text schema) (parts_of one)
served_texts schema one = message_ids schema one one.batches

pub all_texts : (schema : SchemaTree) (uploads : List ServedUpload) → flat_map (served_messages schema) uploads ≡ map (part_text schema) (flat_map parts_of uploads)
all_texts schema [] = refl
all_texts schema (one ∷ uploads) =
    ap₂ (λ m ms. m ++ ms) (served_texts schema one) (all_texts schema uploads) ∙ sym (map-append (part_text schema) (parts_of one) (all_parts uploads))
