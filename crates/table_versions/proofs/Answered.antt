-- What is told of uploads, and what answers tickets.
use Rattle.std.proofs.Common.{◌≡◌, ◌≢◌, refl, sym, ap, ap₂, subst, ◌∙◌, ℕ, zero, suc, ◌+◌, ◌<◌, ◌≤◌, Bool, true, false, if◌then◌else◌, Option, Some, None, List, [], ◌∷◌, ◌++◌, length, take, arith}
use Rattle.std.specs.List.{AllByRecursion, concat, flat_map}
use Rattle.std.specs.Option.{option_map}
use Rattle.std.proofs.lemmas.List.{append-nil}
use Rattle.table_types.specs.Uploads.{Upload, upload_text}
use Rattle.table_types.specs.Valid.{IsUpload}
use Rattle.std.specs.Prelude.{nat_le}
use Rattle.std.proofs.lemmas.Bool.{le-leb, leb-true}
use Rattle.std.proofs.lemmas.Grind.{flat_map-append}
use Rattle.table_types.specs.Answers.{answer_of}
use Rattle.table_versions.specs.declared.table.Table.{Table}
use Rattle.table_types.specs.Tables.{Version, first_of_all, version_of, conflicting, unknown, is_same, first_with_id, place_from, told_of, effective, outcome_of}
use Rattle.table_versions.specs.declared.first.First.{First}
use Rattle.table_versions.specs.Outcomes.{told}
use Rattle.table_versions.specs.Ledger.{frames_of, seen_first, told_of_first, FirstEntries, TableEntries, FrameEntries, first_in, table_in, frames_in, HasFrames, IsTable, IsLedger}
use Rattle.table_versions.specs.Answering.{AreFrames}
use Rattle.table_versions.proofs.Growing.{bytes_same, named_all}
use Rattle.table_types.proofs.Filtered.{all_effective, few_effective}
use Rattle.table_versions.proofs.Frames.{all_taken, few_taken, answer_text, answer_frames}

none_is_some : {X : Type 0} (x : X) → None ≡ Some x → ⊥
none_is_some x same = cc

some_is : {X : Type 0} (x y : X) → Some x ≡ Some y → x ≡ y
some_is x y same = cc

-- an encoding is that of one upload
abbrev OneEncoding : Type 0
OneEncoding = (x y : Upload) → IsUpload x → IsUpload y → upload_text x ≡ upload_text y → x ≡ y

-- ---- what is told of an upload

module _ (one : OneEncoding) (firsts : FirstEntries) (tables : TableEntries) (frames : FrameEntries) (uploads : List Upload) (ledger : IsLedger firsts tables frames uploads)
    (u : Upload) (valid : IsUpload u) where
  -- the first of its id in the list, where one is kept
  first_there : (first : First) (named : Option Upload) → first_in firsts u.id ≡ Some first → first_with_id u.id uploads ≡ named
      → (head : Upload) × (first_with_id u.id uploads ≡ Some head) × (first.text ≡ upload_text head) × (told first.outcome ≡ outcome_of uploads head)
  first_there first None here is =
      absurd (none_is_some (seen_first first) (sym (ap (option_map seen_first) (sym here) ∙ ledger.firsts_are u.id ∙ ap (option_map (told_of_first uploads)) is)))
  first_there first (Some head) here is =
      let seen : seen_first first ≡ told_of_first uploads head =
      some_is (seen_first first) (told_of_first uploads head)
      (ap (option_map seen_first) (sym here) ∙ ledger.firsts_are u.id ∙ ap (option_map (told_of_first uploads)) is)
      in
      (head, is, ap (λ p. p.0) seen, ap (λ p. p.1) seen)

  pub told_none : first_in firsts u.id ≡ None → unknown ≡ outcome_of uploads u
  told_none here = none (first_with_id u.id uploads) refl (sym (ap (option_map seen_first) (sym here) ∙ ledger.firsts_are u.id))
    where
      none : (named : Option Upload) → first_with_id u.id uploads ≡ named → option_map (told_of_first uploads) (first_with_id u.id uploads) ≡ None → unknown ≡ outcome_of uploads u
      none None is same = sym (ap (λ o. told_of o u (effective u.table uploads)) is)
      none (Some head) is same =
          absurd (none_is_some (told_of_first uploads head) (sym same ∙ ap (option_map (told_of_first uploads)) is))

  pub told_same : (first : First) → first_in firsts u.id ≡ Some first → first.text ≡ upload_text u → told first.outcome ≡ outcome_of uploads u
  told_same first here same =
      let f = first_there first (first_with_id u.id uploads) here refl in
      let is : f.0 ≡ u = one f.0 u (named_all IsUpload u.id uploads f.0 ledger.valid f.1) valid (sym f.2 ∙ same) in
      f.3 ∙ ap (outcome_of uploads) is

  not_same : (head : Upload) (b : Bool) → is_same head u ≡ b → upload_text head ≢ upload_text u → b ≡ false
  not_same head true is differ = absurd (differ (bytes_same (upload_text head) (upload_text u) is))
  not_same head false is differ = refl

  pub told_other : (first : First) → first_in firsts u.id ≡ Some first → first.text ≢ upload_text u → conflicting ≡ outcome_of uploads u
  told_other first here differ =
      let f = first_there first (first_with_id u.id uploads) here refl in
      let other : is_same f.0 u ≡ false = not_same f.0 (is_same f.0 u) refl (λ same. differ (f.2 ∙ same)) in
      sym (ap (λ o. told_of o u (effective u.table uploads)) f.1 ∙ ap (λ b. if b then place_from 1 u.id (effective u.table uploads) else conflicting) other)

-- ---- the frames of a version

pub frames_there : (frames : FrameEntries) (number version : ℕ) (xs : List Upload) (k : ℕ) → HasFrames frames number version xs → k < length xs
    → (u : Upload) × (frames_in frames number (version + k) ≡ Some (frames_of u)) × (take (suc k) xs ≡ take k xs ++ u ∷ [])
frames_there frames number version [] k has within = absurd (omega (arith, within))
frames_there frames number version (x ∷ xs) zero has within =
    let here : version ≡ version + 0 = omega arith in
    (x, subst (λ v. frames_in frames number v ≡ Some (frames_of x)) here has.0, refl)
frames_there frames number version (x ∷ xs) (suc k) has within =
    let rest = frames_there frames number (suc version) xs k has.1 (omega (arith, within)) in
    let here : suc version + k ≡ version + suc k = omega arith in
    (rest.0, subst (λ v. frames_in frames number v ≡ Some (frames_of rest.0)) here rest.1, ap (λ l. x ∷ l) rest.2)

pub frames_more : (first : List ℕ) (old new served : List (List ℕ)) (xs : List Upload) (k : ℕ) (u : Upload) → new ≡ old ++ served → old ≡ first ∷ flat_map frames_of (take k xs)
    → served ≡ frames_of u → take (suc k) xs ≡ take k xs ++ u ∷ [] → new ≡ first ∷ flat_map frames_of (take (k + 1) xs)
frames_more first old new served xs k u grown before is taken =
    let more : k + 1 ≡ suc k = omega arith in
    grown
    ∙ ap₂ (λ a b. a ++ b) before is
    ∙ ap (λ l. first ∷ (flat_map frames_of (take k xs) ++ l)) (sym (append-nil (frames_of u)))
    ∙ ap (λ l. first ∷ l) (sym (flat_map-append frames_of (take k xs) (u ∷ [])))
    ∙ ap (λ l. first ∷ flat_map frames_of l) (sym taken)
    ∙ ap (λ n. first ∷ flat_map frames_of (take n xs)) (sym more)

-- ---- what answers a ticket

over_one : (number : ℕ) (xs : List Upload) (b : Bool) → nat_le number (length xs) ≡ b → length xs < number → b ≡ false
over_one number xs true is over = absurd (omega (arith, leb-true number (length xs) is, over))
over_one number xs false is over = refl

abbrev version_with : Bool → Upload → ℕ → List Upload → Option Version
version_with b first number counted = if b then Some (record { schema = first.schema; uploads = take number counted }) else None

module _ (firsts : FirstEntries) (tables : TableEntries) (frames : FrameEntries) (uploads : List Upload) (ledger : IsLedger firsts tables frames uploads)
    (name : List ℕ) (number : ℕ) where
  counted_of : (found : Option Table) → table_in tables name ≡ found → IsTable found (effective name uploads)
  counted_of found is = subst (λ o. IsTable o (effective name uploads)) is (ledger.tables_are name)

  none_of : (counted : List Upload) → IsTable None counted → first_of_all number counted ≡ None
  none_of [] is = refl
  none_of (first ∷ rest) is = absurd is

  pub version_none : table_in tables name ≡ None → version_of name number uploads ≡ None
  version_none none = none_of (effective name uploads) (counted_of None none)

  over_of : (table : Table) (counted : List Upload) → IsTable (Some table) counted → table.version < number → first_of_all number counted ≡ None
  over_of table [] is over = absurd is
  over_of table (first ∷ rest) is over =
      ap (λ b. version_with b first number (first ∷ rest))
      (over_one number (first ∷ rest) (nat_le number (length (first ∷ rest))) refl (omega (arith, is.version, over)))

  pub version_over : (table : Table) → table_in tables name ≡ Some table → table.version < number → version_of name number uploads ≡ None
  version_over table some over = over_of table (effective name uploads) (counted_of (Some table) some) over

  there_of : (table : Table) (counted : List Upload) (shared : List (List ℕ)) → IsTable (Some table) counted → number ≤ table.version
      → shared ≡ table.schema_frame ∷ flat_map frames_of (take number counted) → option_map answer_of (first_of_all number counted) ≡ Some (concat shared)
  there_of table [] shared is within joined = absurd is
  there_of table (first ∷ rest) shared is within joined =
      ap (λ b. option_map answer_of (version_with b first number (first ∷ rest))) (le-leb number (length (first ∷ rest)) (omega (arith, is.version, within)))
      ∙ ap Some (sym (answer_text table.schema_frame first (take number (first ∷ rest)) shared is.schema_frame joined))

  pub version_there : (table : Table) (shared : List (List ℕ)) → table_in tables name ≡ Some table → number ≤ table.version
      → shared ≡ table.schema_frame ∷ flat_map frames_of (take number (effective name uploads))
      → option_map answer_of (version_of name number uploads) ≡ Some (concat shared)
  version_there table shared some within joined =
      there_of table (effective name uploads) shared (counted_of (Some table) some) within joined

  long_of : (table : Table) (counted : List Upload) → IsTable (Some table) counted → table.version ≡ length counted
  long_of table [] is = absurd is
  long_of table (first ∷ rest) is = is.version

  pub version_long : (table : Table) → table_in tables name ≡ Some table → table.version ≡ length (effective name uploads)
  version_long table some = long_of table (effective name uploads) (counted_of (Some table) some)

  frames_are : (table : Table) (counted : List Upload) (shared : List (List ℕ)) → IsTable (Some table) counted → AllByRecursion IsUpload counted → length counted ≤ 1000000
      → shared ≡ table.schema_frame ∷ flat_map frames_of (take number counted) → AreFrames shared
  frames_are table [] shared is valid few joined = absurd is
  frames_are table (first ∷ rest) shared is valid few joined =
      answer_frames table.schema_frame first (take number (first ∷ rest)) shared is.schema_frame joined valid.0 (all_taken number (first ∷ rest) valid)
      (omega (arith, few, few_taken number (first ∷ rest)))

  pub version_frames : (table : Table) (shared : List (List ℕ)) → table_in tables name ≡ Some table → length uploads ≤ 1000000
      → shared ≡ table.schema_frame ∷ flat_map frames_of (take number (effective name uploads)) → AreFrames shared
  version_frames table shared some few joined =
      frames_are table (effective name uploads) shared (counted_of (Some table) some) (all_effective IsUpload name uploads ledger.valid)
      (omega (arith, few, few_effective name uploads)) joined
