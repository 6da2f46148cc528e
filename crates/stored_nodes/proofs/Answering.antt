-- What a node answers, as what a query gives.
use Rattle.std.proofs.Common.{◌≡◌, ◌≢◌, ◌⊎◌, refl, sym, ap, subst, ◌∙◌, inl, inr, ℕ, ◌<◌, arith, true, false, [], ◌∷◌, length, Option, None, Some, IsSome, List}
use Rattle.std.specs.Option.{option_map}
use Rattle.table_types.specs.Uploads.{Upload}
use Rattle.table_types.specs.Tables.{Version, version_of, effective}
use Rattle.table_types.specs.Answers.{answer_of}
use Rattle.table_versions.specs.declared.info.TableInfo.{TableInfo}
use Rattle.table_versions.specs.Info.{IsLatest}
use Rattle.histories.specs.EventResult.{EventResult}
use Rattle.histories.specs.EventResult as results
use Rattle.histories.specs.Following.{GetGivesIfAble, InfoGivesIfAble}

none_is_some : {X : Type 0} (x : X) → None ≡ Some x → ⊥
none_is_some x same = cc

some_same : {X : Type 0} (x y : X) → Some x ≡ Some y → x ≡ y
some_same x y same = cc

-- a version has the answer of these bytes, or there is none
found_of : (bytes : List ℕ) (found : Option Version) → Some bytes ≡ option_map answer_of found → (version : Version) × (found ≡ Some version) × (bytes ≡ answer_of version)
found_of bytes None is = absurd (none_is_some bytes (sym is))
found_of bytes (Some version) is = (version, refl, some_same bytes (answer_of version) is)

none_of : (found : Option Version) → None ≡ option_map answer_of found → found ≡ None
none_of None is = refl
none_of (Some version) is = absurd (none_is_some (answer_of version) is)

-- a table that has a latest version has so many uploads that count
long_of : (table : List ℕ) (info : TableInfo) (counted : List Upload) → IsLatest (Some info) table counted → (0 < length counted) × (info.version ≡ length counted)
long_of table info [] is = absurd is
long_of table info (first ∷ rest) is = (omega arith, is.version)

pub an_answer : (uploads : List Upload) (table : List ℕ) (version : ℕ) (bytes : List ℕ) (given : EventResult) → Some bytes ≡ option_map answer_of (version_of table version uploads)
    → (given ≡ results.Answer bytes) ⊎ (given ≡ results.Refused results.OutOfMemory) → GetGivesIfAble uploads table version given
an_answer uploads table version bytes given is (inl tells) =
    let found = found_of bytes (version_of table version uploads) is in
    inl (inl (found.0, found.1, tells ∙ ap (λ (bs : List ℕ). results.Answer bs) found.2))
an_answer uploads table version bytes given is (inr wants) =
    let found = found_of bytes (version_of table version uploads) is in
    inr (subst (λ (o : Option Version). IsSome o) (sym found.1) refl, wants)

pub no_answer : (uploads : List Upload) (table : List ℕ) (version : ℕ) (given : EventResult) → None ≡ option_map answer_of (version_of table version uploads)
    → given ≡ results.Unavailable → GetGivesIfAble uploads table version given
no_answer uploads table version given is tells = inl (inr (none_of (version_of table version uploads) is, tells))

pub no_memory : (uploads : List Upload) (table : List ℕ) (version : ℕ) (given : EventResult) → IsSome (version_of table version uploads)
    → given ≡ results.Refused results.OutOfMemory → GetGivesIfAble uploads table version given
no_memory uploads table version given is wants = inr (is, wants)

-- the latest version of a table, or none
pub the_latest : (uploads : List Upload) (table : List ℕ) (info : TableInfo) (given : EventResult) → IsLatest (Some info) table (effective table uploads) → given ≡ results.Info info.version
    → InfoGivesIfAble uploads table given
the_latest uploads table info given is tells =
    let of = long_of table info (effective table uploads) is in
    inl (inl (of.0, tells ∙ ap (λ n. results.Info n) of.1))

pub no_latest : (uploads : List Upload) (table : List ℕ) (given : EventResult) → IsLatest None table (effective table uploads) → given ≡ results.NoTable
    → InfoGivesIfAble uploads table given
no_latest uploads table given is tells = inl (inr (is, tells))

pub no_memory_for_latest : (uploads : List Upload) (table : List ℕ) (given : EventResult) → effective table uploads ≢ []
    → given ≡ results.Refused results.OutOfMemory → InfoGivesIfAble uploads table given
no_memory_for_latest uploads table given some wants = inr (some, wants)
