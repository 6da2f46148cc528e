-- Which upload has waited longest, and which are kept of those that wait.
use Rattle.std.proofs.Common.{◌≡◌, refl, sym, ap, ◌∙◌, subst, inl, inr, arith, ℕ, List, [], ◌∷◌, ◌++◌, length, Bool, true, false, cond, if◌then◌else◌, Option, None, Some, slice_get, option_map, MatchOption}
use Rattle.std.specs.Option.{option_or}
use Rattle.std.specs.List.{AllByRecursion, items_where_true}
use Rattle.std.specs.List.Retain.{ReturnsInTurn, IsFiltered}
use Rattle.std.proofs.ByRecursion.{All-append}
use Rattle.std.specs.Map.{values_of}
use Rattle.std.specs.Map.Calls.{RetainsPairs}
use Rattle.ballots.specs.declared.value.Value.{Value}
use Rattle.std.specs.declared.random_state.RandomState.{RandomState}
use Rattle.table_types.specs.Uploads.{Upload}
use Rattle.table_types.specs.Texts.{IsUploadText}
use Rattle.table_types.specs.Tables.{Outcome, applied, mismatched, conflicting, unknown}
use Rattle.table_versions.specs.declared.outcome.Outcome as told_type
use Rattle.table_versions.specs.declared.outcome.Outcome.TheVariants.{Applied, SchemaMismatch, Conflict, Unknown}
use Rattle.table_versions.specs.Outcomes.{told}
use Rattle.table_versions.specs.State.{TablesState, HasTaken}
use Rattle.table_versions.specs.Values.{AreUploadsIn}
use Rattle.histories.specs.Due.{AreStillWaiting}
use Rattle.pending_uploads.specs.Waiting.{TellsUnknown}
use Rattle.pending_uploads.specs.Keys.{StandsByName, StandsByHash, AreKept, KeepsUnknown}

-- ---- the first

module _ {B : Type 0} (now : B → List ℕ) where
  longest_at : (items : List (List ℕ)) (first : Option B) → option_map now first ≡ slice_get items 0
      → MatchOption first (items ≡ []) (λ b. (others : List (List ℕ)) × (items ≡ now b ∷ others))
  longest_at [] None at = refl
  longest_at [] (Some b) at = absurd (cc)
  longest_at (text ∷ texts) None at = absurd (cc)
  longest_at (text ∷ texts) (Some b) at = (texts, cc)

  abbrev IsLongest : List (List ℕ) → Option B → Type 0
  IsLongest items first = MatchOption first (items ≡ []) (λ b. (others : List (List ℕ)) × (items ≡ now b ∷ others))

  longest_of : (items more : List (List ℕ)) (first second : Option B) → IsLongest items first → IsLongest more second
      → IsLongest (items ++ more) (option_or first second)
  longest_of items more None second none is = subst (λ l. IsLongest (l ++ more) second) (sym none) is
  longest_of items more (Some b) second one is = (one.0 ++ more, ap (λ l. l ++ more) one.1)

  -- what stands at the first place of lists, one behind the other, is what waits longest
  pub longest_is : (items more last : List (List ℕ)) (first second third : Option B) → option_map now first ≡ slice_get items 0
      → option_map now second ≡ slice_get more 0 → option_map now third ≡ slice_get last 0 → (texts : List (List ℕ)) → items ++ more ++ last ≡ texts
      → MatchOption (option_or (option_or first second) third) (texts ≡ []) (λ b. (others : List (List ℕ)) × (texts ≡ now b ∷ others))
  longest_is items more last first second third one two three texts is =
      subst (λ t. IsLongest t (option_or (option_or first second) third)) is
      (longest_of (items ++ more) last (option_or first second) third
      (longest_of items more first second (longest_at items first one) (longest_at more second two)) (longest_at last third three))

-- ---- what is told of an upload

pub told_unknown : (said : told_type.Outcome) (outcome : Outcome) → told said ≡ outcome → said ≡ Unknown → outcome ≡ unknown
told_unknown said outcome is nothing = sym is ∙ ap told nothing

pub told_more : (said : told_type.Outcome) (outcome : Outcome) → told said ≡ outcome → (said ≡ Unknown → ⊥)
    → outcome ≡ unknown → ⊥
told_more (Applied version) outcome is more nothing = let other : applied version ≡ unknown = is ∙ nothing in cc
told_more SchemaMismatch outcome is more nothing = let other : mismatched ≡ unknown = is ∙ nothing in cc
told_more Conflict outcome is more nothing = let other : conflicting ≡ unknown = is ∙ nothing in cc
told_more Unknown outcome is more nothing = more refl

-- ---- those that are kept

-- A map's `retain` by such a test, which changes neither itself nor what it is shown, keeps those of which nothing is known.
module _ {F K : Type 0} (T : F → K → List ℕ → Bool → List ℕ → F → Type 0) (f : F) (tables : TablesState)
    (says : (key : K) (text : List ℕ) (answer : Bool) (left : List ℕ) (f' : F) → T f key text answer left f'
    → TellsUnknown tables text answer × (left ≡ text) × (f' ≡ f)) where
  pub keeps_unknown : (entries left : List (K × List ℕ)) → RetainsPairs T f entries left → KeepsUnknown tables entries left
  keeps_unknown [] left k = k
  keeps_unknown (entry ∷ entries) left k =
      let said = says entry.0 entry.1 k.0 k.1 k.2 k.4 in
      let rest = subst (λ g. RetainsPairs T g entries k.3) said.2 k.5 in (
        k.0,
        k.3,
        said.0,
        k.6 ∙ ap (λ text. cond k.0 ((entry.0, text) ∷ k.3) k.3) said.1,
        keeps_unknown entries k.3 rest,
      )

module _ {K : Type 0} (tables : TablesState) (P : K × List ℕ → Type 0) where
  holds_by : (entry : K × List ℕ) (rest left : List (K × List ℕ)) (answer : Bool) → left ≡ (if answer then entry ∷ rest else rest)
      → P entry → AllByRecursion P rest → AllByRecursion P left
  holds_by entry rest left true is one each = subst (AllByRecursion P) (sym is) (one, each)
  holds_by entry rest left false is one each = subst (AllByRecursion P) (sym is) each

  -- what holds of each holds of those that are kept
  pub holds_of_kept : (entries left : List (K × List ℕ)) → KeepsUnknown tables entries left → AllByRecursion P entries → AllByRecursion P left
  holds_of_kept [] left k each = subst (AllByRecursion P) (sym k) tt
  holds_of_kept (entry ∷ entries) left k each =
      holds_by entry k.1 left k.0 k.3 each.0 (holds_of_kept entries k.1 k.4 each.1)

-- ---- those that still wait

module _ (tables : TablesState) (values : List Value) (uploads : List Upload) (taken : HasTaken tables values) (are : AreUploadsIn values uploads) where
  waits_by : (text : List ℕ) (texts rest left : List (List ℕ)) (answer : Bool) → TellsUnknown tables text answer
      → left ≡ (if answer then text ∷ rest else rest) → AreStillWaiting uploads texts rest → AreStillWaiting uploads (text ∷ texts) left
  waits_by text texts rest left true one is later =
      let of = one.is_upload in
      inl (of.0, rest, of.1, (one.tells values uploads of.0 taken are of.1).0 refl, is, later)
  waits_by text texts rest left false one is later =
      let of = one.is_upload in
      inr (of.0, of.1, (λ unknown. let told : false ≡ true = (one.tells values uploads of.0 taken are of.1).1 unknown in cc), subst (AreStillWaiting uploads texts) (sym is) later)

  values_by : {K : Type 0} (entry : K × List ℕ) (rest left : List (K × List ℕ)) (answer : Bool) → left ≡ (if answer then entry ∷ rest else rest)
      → values_of left ≡ (if answer then entry.1 ∷ values_of rest else values_of rest)
  values_by entry rest left true is = ap values_of is
  values_by entry rest left false is = ap values_of is

  -- of entries those still wait that are kept
  pub kept_wait : {K : Type 0} (entries left : List (K × List ℕ)) → KeepsUnknown tables entries left
      → AreStillWaiting uploads (values_of entries) (values_of left)
  kept_wait [] left k = ap values_of k
  kept_wait (entry ∷ entries) left k =
      waits_by entry.1 (values_of entries) (values_of k.1) (values_of left) k.0 k.2 (values_by entry k.1 left k.0 k.3)
      (kept_wait entries k.1 k.4)

  module _ {F : Type 0} (R : F → List ℕ → Bool → F → Type 0) (f : F) (says : (text : List ℕ) (answer : Bool) (f' : F) → R f text answer f' → TellsUnknown tables text answer × (f' ≡ f)) where
    still_waiting_in_turn : (answers : List Bool) (texts : List (List ℕ)) (last : F) → length answers ≡ length texts
        → ReturnsInTurn R f answers texts last → AreStillWaiting uploads texts (items_where_true answers texts)
    still_waiting_in_turn [] [] last e t = refl
    still_waiting_in_turn [] (text ∷ texts) last e t = absurd (omega arith)
    still_waiting_in_turn (answer ∷ answers) [] last e t = absurd t
    still_waiting_in_turn (true ∷ answers) (text ∷ texts) last e t =
        let one = says text true t.0 t.1 in
        let same = subst (λ (y : F). ReturnsInTurn R y answers texts last) one.1 t.2 in
        waits_by text texts (items_where_true answers texts) (text ∷ items_where_true answers texts) true one.0 refl
        (still_waiting_in_turn answers texts last (omega arith) same)
    still_waiting_in_turn (false ∷ answers) (text ∷ texts) last e t =
        let one = says text false t.0 t.1 in
        let same = subst (λ (y : F). ReturnsInTurn R y answers texts last) one.1 t.2 in
        waits_by text texts (items_where_true answers texts) (items_where_true answers texts) false one.0 refl
        (still_waiting_in_turn answers texts last (omega arith) same)

    -- of a list those still wait that a filter by such a test keeps, which no call changes
    pub filtered_wait : (texts left : List (List ℕ)) → IsFiltered R f texts left → AreStillWaiting uploads texts left
    filtered_wait texts left k =
        subst (AreStillWaiting uploads texts) (sym k.4) (still_waiting_in_turn k.0 texts k.1 k.2 k.3)

-- those of two lists that still wait, one behind the other
pub both_wait : (uploads : List Upload) (texts more left later : List (List ℕ)) → AreStillWaiting uploads texts left
    → AreStillWaiting uploads more later → AreStillWaiting uploads (texts ++ more) (left ++ later)
both_wait uploads [] more left later w v = subst (λ l. AreStillWaiting uploads more (l ++ later)) (sym w) v
both_wait uploads (text ∷ texts) more left later (inl w) v =
    inl (w.0, w.1 ++ later, w.2, w.3, ap (λ l. l ++ later) w.4, both_wait uploads texts more w.1 later w.5 v)
both_wait uploads (text ∷ texts) more left later (inr w) v =
    inr (w.0, w.1, w.2, both_wait uploads texts more left later w.3 v)

-- ---- encodings of uploads

values_are_uploads : {K : Type 0} (stands : K × List ℕ → Type 0) (is : (entry : K × List ℕ) → stands entry → IsUploadText entry.1)
    (entries : List (K × List ℕ)) → AllByRecursion stands entries → AllByRecursion IsUploadText (values_of entries)
values_are_uploads stands is [] each = tt
values_are_uploads stands is (entry ∷ entries) each = (is entry each.0, values_are_uploads stands is entries each.1)

-- all that are kept are encodings of uploads
pub kept_are_uploads : (hashing : RandomState) (named : List (List ℕ × List ℕ)) (hashed : List (ℕ × List ℕ)) (others : List (List ℕ))
    → AreKept hashing named hashed others → AllByRecursion IsUploadText (values_of named ++ values_of hashed ++ others)
kept_are_uploads hashing named hashed others kept =
    All-append IsUploadText (values_of named ++ values_of hashed) others
    (All-append IsUploadText (values_of named) (values_of hashed) (values_are_uploads StandsByName (λ entry one. one.is_upload) named kept.by_name)
    (values_are_uploads (StandsByHash hashing) (λ entry one. one.is_upload) hashed kept.by_hash))
    kept.are_uploads
