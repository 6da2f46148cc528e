-- What was acknowledged before is known at each node that has started again.
use Rattle.std.proofs.Common.{◌≡◌, ℕ, zero, suc, ◌-◌, ◌<◌, ◌≤◌, inl, inr, Bool, true, false, if◌then◌else◌, is_some, IsSome, None, Some, List, [], ◌∷◌, ◌++◌, length, take, get_or, map, slice_get, slice_index_or, refl, sym, ap, subst, ◌∙◌, arith, le-leb, ◌≢◌}
use Rattle.std.specs.List.{Contains, list_any}
use Rattle.std.proofs.lemmas.Bool.{cases_lt}
use Rattle.std.proofs.lemmas.List.{map-append}
use Rattle.ballots.specs.Message.{value_bytes}
use Rattle.ballots.specs.declared.value.Value.{Value}
use Rattle.ballots.specs.declared.record.Record.{Record}
use Rattle.ballots.specs.declared.message.Message.{Message}
use Rattle.table_types.specs.Uploads.{Upload, upload_text}
use Rattle.table_types.specs.Valid.{IsUpload}
use Rattle.table_types.specs.Texts.{IsTextOf, AreUploadsOf}
use Rattle.table_types.specs.Tables.{Version, Outcome, applied, unknown, is_same, first_of_all, effective, outcome_of}
use Rattle.histories.specs.EventResult as results
use Rattle.histories.specs.History.{Step}
use Rattle.histories.specs.Following.{UpOrDown, IsUp}
use Rattle.histories.specs.Keeping.{records_in}
use Rattle.safe_histories.specs.Learning.{since_restart, brings_down, Runs, HasTables}
use Rattle.resumed_nodes.specs.Heard.{heard, starts_of}
use Rattle.resumed_nodes.specs.Knowing.{IsApplied}
use Rattle.resumed_nodes.proofs.Members.{there}
use Rattle.resumed_nodes.proofs.Learned.{none_is_some, some_same}

true_is_false : true ≡ false → ⊥
true_is_false same = cc

-- ---- the laws that are cited

abbrev pub OneEncoding : Type 0
OneEncoding = (x y : Upload) → IsUpload x → IsUpload y → upload_text x ≡ upload_text y → x ≡ y

abbrev pub TextsBegin : Type 0
TextsBegin = (texts more : List (List ℕ)) (x y : List Upload) → AreUploadsOf texts x → AreUploadsOf (texts ++ more) y → (rest : List Upload) × (y ≡ x ++ rest)

abbrev pub OutcomesStay : Type 0
OutcomesStay = (before after : List Upload) (upload : Upload) (outcome : Outcome) → outcome_of before upload ≡ outcome → outcome ≢ unknown
    → outcome_of (before ++ after) upload ≡ outcome

abbrev pub ArePlaced : Type 0
ArePlaced = (uploads : List Upload) (upload none : Upload) (number : ℕ) → outcome_of uploads upload ≡ applied number
    → (number ≤ length (effective upload.table uploads)) × (1 ≤ number) × (is_same (get_or (effective upload.table uploads) (number - 1) none) upload ≡ true)

-- ---- who told what has become of an upload

not_down : (outcome : Outcome) → results.Outcome outcome ≡ results.Refused results.Down → ⊥
not_down outcome same = cc

not_outside : (outcome : Outcome) → results.Outcome outcome ≡ results.Refused results.OutOfRange → ⊥
not_outside outcome same = cc

is_false : (b : Bool) → ((b ≡ false → ⊥) → ⊥) → b ≡ false
is_false false never = refl
is_false true never = absurd (never true_is_false)

outcomes_same : (a b : Outcome) → results.Outcome a ≡ results.Outcome b → a ≡ b
outcomes_same a b same = cc

-- a member that runs has such tables, and tells so of the upload
pub record TellsFrom (members : ℕ) (sent : List Message) (steps : List Step) (node : ℕ) (upload : Upload) (number : ℕ) : Type 0 where
  pub uploads : List Upload
  pub tables : HasTables members sent steps node uploads
  pub outcome : outcome_of uploads upload ≡ applied number

module _ (members : ℕ) (sent : List Message) (steps : List Step) (node number : ℕ) (text : List ℕ) (upload : Upload) where
  abbrev Told : results.EventResult
  Told = results.Outcome (applied number)

  ran : (members ≤ node → Told ≡ results.Refused results.OutOfRange) → (node < members → (Runs node steps → ⊥) → Told ≡ results.Refused results.Down)
      → (node < members) × Runs node steps
  ran strangers down = elim (cases_lt node members) as (λ _. (node < members) × Runs node steps) [
    | inl member ↦ (
      member,
      is_false (list_any (brings_down node) (since_restart node steps)) (λ (not : Runs node steps → ⊥). not_down (applied number) (down member not)),
    )
    | inr outside ↦ absurd (not_outside (applied number) (strangers outside))
  ]

  pub tells_from : OneEncoding → IsTextOf text upload → (members ≤ node → Told ≡ results.Refused results.OutOfRange)
      → (node < members → (Runs node steps → ⊥) → Told ≡ results.Refused results.Down)
      → (node < members → Runs node steps → (uploads : List Upload) × (one : Upload) × HasTables members sent steps node uploads × IsTextOf text one
      × (Told ≡ results.Outcome (outcome_of uploads one))) → TellsFrom members sent steps node upload number
  tells_from encoding is_text strangers down answers =
      let runs = ran strangers down in
      let (uploads, one, tables, one_text, told) = answers runs.0 runs.1 in
      let same : one ≡ upload = encoding one upload one_text.0 is_text.0 (one_text.1 ∙ sym is_text.1) in
      record {
        uploads = uploads;
        tables = tables;
        outcome = ap (outcome_of uploads) (sym same) ∙ sym (outcomes_same (applied number) (outcome_of uploads one) told);
      }

-- ---- the nodes as they start

within_list : {X : Type 0} (xs : List X) (k : ℕ) (x : X) → slice_get xs k ≡ Some x → k < length xs
within_list [] k x is = absurd (none_is_some x is)
within_list (y ∷ xs) zero x is = omega arith
within_list (y ∷ xs) (suc k) x is = omega (arith, within_list xs k x is)

module _ (members : ℕ) (all : List (List Record)) (told : List Message) (others : ℕ → UpOrDown) (count : length all ≡ members) where
  abbrev pub start : ℕ → UpOrDown
  start node = slice_index_or (starts_of all told) node (others node)

  pub is_member : (node : ℕ) (own : List Record) → slice_get all node ≡ Some own → node < members
  is_member node own is = omega (arith, count, within_list all node own is)

  pub stands_up : (node : ℕ) (own : List Record) → slice_get all node ≡ Some own → start node ≡ IsUp (heard own told)
  stands_up node own is =
      let place = there (λ (records : List Record). IsUp (heard records told)) all node (others node) (within_list all node own is) in
      place.2 ∙ ap (λ (records : List Record). IsUp (heard records told)) (some_same place.0 own (sym place.1 ∙ is))

  pub has_its_records : (node : ℕ) (kept : Record) → node < members → Contains (records_in (start node)) kept
      → (own : List Record) × (slice_get all node ≡ Some own) × Contains own kept
  has_its_records node kept member has =
      let place = there (λ (records : List Record). IsUp (heard records told)) all node (others node) (omega (arith, member, count)) in
      (place.0, place.1, subst (λ (seat : UpOrDown). Contains (records_in seat) kept) place.2 has)

-- ---- what the tables of a longer prefix have

is_told : (number : ℕ) → applied number ≢ unknown
is_told number same = cc

has_so_many : (version : ℕ) (counted : List Upload) → 0 < length counted → version ≤ length counted → IsSome (first_of_all version counted)
has_so_many version [] some le = absurd (omega (arith, some))
has_so_many version (first ∷ rest) some le =
    let found : Version = record { schema = first.schema; uploads = take version (first ∷ rest) } in
    ap (λ (b : Bool). is_some (if b then Some found else None)) (le-leb version (length (first ∷ rest)) le)

is_applied : ArePlaced → (uploads : List Upload) (upload : Upload) (number : ℕ) → outcome_of uploads upload ≡ applied number → IsApplied uploads upload number
is_applied placed uploads upload number told =
    let at = placed uploads upload upload number told in
    record {
      outcome = told;
      versions = λ version within.
          has_so_many version (effective upload.table uploads) (omega (arith, at.0, at.1)) (omega (arith, at.0, within));
    }

pub knows : TextsBegin → OutcomesStay → ArePlaced → (learned rest prefix : List Value) (before uploads : List Upload) (upload : Upload) (number : ℕ) → prefix ≡ learned ++ rest
    → AreUploadsOf (map value_bytes learned) before → AreUploadsOf (map value_bytes prefix) uploads → outcome_of before upload ≡ applied number
    → IsApplied uploads upload number
knows texts stay placed learned rest prefix before uploads upload number longer are_before are told =
    let whole : AreUploadsOf (map value_bytes learned ++ map value_bytes rest) uploads =
    subst (λ (ts : List (List ℕ)). AreUploadsOf ts uploads) (ap (map value_bytes) longer ∙ map-append value_bytes learned rest) are in
    let more = texts (map value_bytes learned) (map value_bytes rest) before uploads are_before whole in
    is_applied placed uploads upload number
    (ap (λ (us : List Upload). outcome_of us upload) more.1 ∙ stay before more.0 upload (applied number) told (is_told number))
