-- The keys by which uploads that wait are found: the id of each, and a hash of its encoding.
use Rattle.std.specs.Prelude.{◌≡◌, ℕ, ◌≤◌, Bool, if◌then◌else◌, List, [], ◌∷◌}
use Rattle.std.specs.List.{AllByRecursion}
use Rattle.std.specs.Hash.DefaultHasher.{write, finish}
use Rattle.std.specs.RandomState.{initial_hasher}
use Rattle.std.specs.declared.random_state.RandomState.{RandomState}
use Rattle.table_types.specs.Uploads.{Upload}
use Rattle.table_types.specs.Texts.{IsTextOf, IsUploadText}
use Rattle.table_versions.specs.State.{TablesState}
use Rattle.pending_uploads.specs.Waiting.{TellsUnknown}

-- the encoding of an upload stands under the upload's id
pub record StandsByName (entry : List ℕ × List ℕ) : Type 0 where
  pub is_upload : IsUploadText entry.1
  pub name : (upload : Upload) → IsTextOf entry.1 upload → entry.0 ≡ upload.id

-- the hash of a text by these random keys
abbrev pub hash_of : RandomState → List ℕ → ℕ
hash_of hashing text = finish (write (initial_hasher hashing) text)

-- the encoding of an upload stands under its hash
pub record StandsByHash (hashing : RandomState) (entry : ℕ × List ℕ) : Type 0 where
  pub is_upload : IsUploadText entry.1
  pub hash : entry.0 ≡ hash_of hashing entry.1

-- each stands where it is found, and the others are encodings of uploads
pub record AreKept (hashing : RandomState) (named : List (List ℕ × List ℕ)) (hashed : List (ℕ × List ℕ))
    (others : List (List ℕ)) : Type 0 where
  pub by_name : AllByRecursion StandsByName named
  pub by_hash : AllByRecursion (StandsByHash hashing) hashed
  pub are_uploads : AllByRecursion IsUploadText others

-- so many more can be taken, wherever each of them is to stand
pub record HaveRoom (room named hashed others : ℕ) : Type 0 where
  pub by_name : room ≤ named
  pub by_hash : room ≤ hashed
  pub behind : room ≤ others

-- those are left, in their order, of whose texts the tables know nothing
abbrev pub KeepsUnknown : {K : Type 0} → TablesState → List (K × List ℕ) → List (K × List ℕ) → Type 0
KeepsUnknown tables [] left = left ≡ []
KeepsUnknown {K} tables (entry ∷ entries) left =
    (answer : Bool) × (rest : List (K × List ℕ)) × TellsUnknown tables entry.1 answer
    × (left ≡ (if answer then entry ∷ rest else rest)) × KeepsUnknown tables entries rest
