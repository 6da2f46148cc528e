-- Tables give one answer to each query, and a history shows one list of tables of a node at one time.
use Rattle.std.proofs.Common.{◌≡◌, ℕ, ◌<◌, ◌≤◌, inl, inr, Bool, if◌then◌else◌, List, [], ◌∷◌, ◌++◌, length, map, take, Some, None, slice_get, refl, sym, ap, subst, ◌∙◌, arith}
use Rattle.std.proofs.lemmas.Bool.{le-leb}
use Rattle.std.proofs.lemmas.List.{append-nil}
use Rattle.ballots.specs.declared.value.Value.{Value}
use Rattle.ballots.specs.declared.message.Message.{Message}
use Rattle.ballots.specs.Message.{value_bytes}
use Rattle.lawful_histories.specs.Lawful.{IsLawful}
use Rattle.table_types.specs.Uploads.{Upload}
use Rattle.table_types.specs.Tables.{Version, first_of_all, effective, outcome_of}
use Rattle.table_types.specs.Answers.{answer_of}
use Rattle.histories.specs.Texts.{AreUploadsOf}
use Rattle.histories.specs.History.{Step}
use Rattle.histories.specs.EventResult.{EventResult}
use Rattle.histories.specs.EventResult as results
use Rattle.histories.specs.Following.{GetGives, InfoGives, OutcomeGives}
use Rattle.safe_histories.specs.Learning.{HasLearnedPrefix, HasTables}
use Rattle.safe_histories.proofs.Lists.{some_same, none_is_some, at_end}
use Rattle.safe_histories.proofs.Texts.{OneEncoding, one_text, one_list}
use Rattle.safe_histories.proofs.Versions.{version_is}
use Rattle.safe_histories.proofs.Heard.{ChoiceLaws}
use Rattle.safe_histories.proofs.Prefixes.{prefixes_begin}

-- ---- one prefix, one list of tables

no_longer : (members : ℕ) (sent : List Message) (steps : List Step) (node : ℕ) (xs ys rest : List Value) → HasLearnedPrefix members sent steps node xs
    → HasLearnedPrefix members sent steps node ys → ys ≡ xs ++ rest → xs ≡ ys
no_longer members sent steps node xs ys [] is also more = sym (more ∙ append-nil xs)
no_longer members sent steps node xs ys (v ∷ rest) is also more =
    absurd (is.gap v (also.learned (length xs) v (ap (λ l. slice_get l (length xs)) more ∙ at_end xs rest v)))

module _ (members : ℕ) (sent : List Message) (lawful : IsLawful members sent) (laws : ChoiceLaws) (steps : List Step) (node : ℕ) where
  pub one_prefix : (xs ys : List Value) → HasLearnedPrefix members sent steps node xs → HasLearnedPrefix members sent steps node ys → xs ≡ ys
  one_prefix xs ys is also = elim (prefixes_begin members sent lawful laws steps steps node node xs ys is also) as (λ _. xs ≡ ys) [
    | inl begins ↦ no_longer members sent steps node xs ys begins.0 is also begins.1
    | inr begins ↦ sym (no_longer members sent steps node ys xs begins.0 also is begins.1)
  ]

  pub one_tables : OneEncoding → (us ws : List Upload) → HasTables members sent steps node us → HasTables members sent steps node ws → us ≡ ws
  one_tables one us ws is also =
      one_list one (map value_bytes also.values) us ws
      (subst (λ values. AreUploadsOf (map value_bytes values) us) (one_prefix is.values also.values is.prefix also.prefix) is.are) also.are

-- ---- one answer

pub one_get : (uploads : List Upload) (table : List ℕ) (version : ℕ) (a b : EventResult) → GetGives uploads table version a → GetGives uploads table version b → a ≡ b
one_get uploads table version a b (inl (x, is, gives)) (inl (y, also, too)) = gives ∙ ap (λ v. results.Answer (answer_of v)) (some_same x y (sym is ∙ also)) ∙ sym too
one_get uploads table version a b (inl (x, is, gives)) (inr (none, too)) = absurd (none_is_some x (sym none ∙ is))
one_get uploads table version a b (inr (none, gives)) (inl (y, also, too)) = absurd (none_is_some y (sym none ∙ also))
one_get uploads table version a b (inr (none, gives)) (inr (nor, too)) = gives ∙ sym too

pub one_info : (uploads : List Upload) (table : List ℕ) (a b : EventResult) → InfoGives uploads table a → InfoGives uploads table b → a ≡ b
one_info uploads table a b (inl (some, gives)) (inl (also, too)) = gives ∙ sym too
one_info uploads table a b (inl (some, gives)) (inr (none, too)) = absurd (omega (arith, some, ap length none))
one_info uploads table a b (inr (none, gives)) (inl (some, too)) = absurd (omega (arith, some, ap length none))
one_info uploads table a b (inr (none, gives)) (inr (nor, too)) = gives ∙ sym too

pub one_outcome : OneEncoding → (uploads : List Upload) (text : List ℕ) (a b : EventResult) → OutcomeGives uploads text a → OutcomeGives uploads text b → a ≡ b
one_outcome one uploads text a b (x, is, gives) (y, also, too) =
    gives ∙ ap (λ u. results.Outcome (outcome_of uploads u)) (one_text one text x y is also) ∙ sym too

-- ---- the latest version

pub first_so_many : (number : ℕ) (counted : List Upload) → 0 < length counted → number ≤ length counted → (found : Version) × (first_of_all number counted ≡ Some found)
first_so_many number [] some le = absurd (omega (arith, some))
first_so_many number (x ∷ rest) some le =
    let version : Version = record { schema = x.schema; uploads = take number (x ∷ rest) } in
    (version, ap (λ (b : Bool). if b then Some version else None) (le-leb number (length (x ∷ rest)) le))

info_same : (m n : ℕ) → results.Info m ≡ results.Info n → m ≡ n
info_same m n same = cc

pub latest_there : (uploads : List Upload) (table : List ℕ) (number : ℕ) → InfoGives uploads table (results.Info number)
    → (bytes : List ℕ) × GetGives uploads table number (results.Answer bytes)
latest_there uploads table number (inl (some, gives)) =
    let counted = effective table uploads in
    let same : number ≡ length counted = info_same number (length counted) gives in
    let first = first_so_many number counted some (omega (arith, same)) in
    (answer_of first.0, inl (first.0, first.1, refl))
latest_there uploads table number (inr (none, gives)) = absurd (cc gives)

too_late : (uploads : List Upload) (table : List ℕ) (version : ℕ) (given : EventResult) → length (effective table uploads) < version → GetGives uploads table version given
    → given ≡ results.Unavailable
too_late uploads table version given lt (inl (found, is, gives)) =
    let enough = (version_is table version uploads found is).enough in
    absurd (omega (arith, lt, enough))
too_late uploads table version given lt (inr (none, gives)) = gives

pub none_later : (uploads : List Upload) (table : List ℕ) (number version : ℕ) (given : EventResult) → InfoGives uploads table (results.Info number) → number < version
    → GetGives uploads table version given → given ≡ results.Unavailable
none_later uploads table number version given (inl (some, gives)) lt got =
    let same : number ≡ length (effective table uploads) = info_same number (length (effective table uploads)) gives in
    too_late uploads table version given (omega (arith, lt, same)) got
none_later uploads table number version given (inr (none, gives)) lt got = absurd (cc gives)

no_version : (version : ℕ) (counted : List Upload) → counted ≡ [] → first_of_all version counted ≡ None
no_version version counted none = ap (first_of_all version) none

pub none_at_all : (uploads : List Upload) (table : List ℕ) (version : ℕ) (given : EventResult) → InfoGives uploads table results.NoTable → GetGives uploads table version given
    → given ≡ results.Unavailable
none_at_all uploads table version given (inl (some, gives)) got = absurd (cc gives)
none_at_all uploads table version given (inr (none, told)) (inl (found, is, gives)) =
    absurd (none_is_some found (sym (no_version version (effective table uploads) none) ∙ is))
none_at_all uploads table version given (inr (none, told)) (inr (nor, gives)) = gives
