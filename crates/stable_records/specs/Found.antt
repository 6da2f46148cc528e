-- What a store of records means, as a relation between the store and what a recall may find (Lamport, "Paxos Made
-- Simple", section 2.5: an acceptor records its response in stable storage before it sends it, and what stands there is
-- kept through failures). That a keep which fails leaves the record kept or not, and what a crash may leave, is this
-- service's own.
use Rattle.std.specs.Prelude.{◌≡◌, ◌⊎◌, ℕ, ◌≤◌, List, [], ◌∷◌, ◌++◌, length, take, Option, Some}
use Rattle.ballots.specs.declared.record.Record.{Record}

-- What a recall finds: records, the first that was kept first, or None where what stands there means no records.
abbrev pub Found : Type 0
Found = Option (List Record)

-- these records are found, and nothing else
pub record FindsOnly (finds : Found → Type 0) (records : List Record) : Type 0 where
  pub these : finds (Some records)
  pub nothing_else : (found : Found) → finds found → found ≡ Some records

-- records that were found before, with this one behind them
abbrev pub IsWith : Record → (Found → Type 0) → Found → Type 0
IsWith last old found = (before : List Record) × old (Some before) × (found ≡ Some (before ++ last ∷ []))

-- what was found before, with this record behind it or without it
abbrev pub IsWithOrWithout : Record → (Found → Type 0) → Found → Type 0
IsWithOrWithout last old found = old found ⊎ IsWith last old found

-- A record is kept: each list that was found before is found with this record behind it, and nothing else is.
pub record AddsRecord (last : Record) (old new : Found → Type 0) : Type 0 where
  pub each : (before : List Record) → old (Some before) → new (Some (before ++ last ∷ []))
  pub nothing_else : (found : Found) → new found → IsWith last old found

-- A record may have been kept: nothing is found but what was found before, with this record behind it or without it.
abbrev pub MayAddRecord : Record → (Found → Type 0) → (Found → Type 0) → Type 0
MayAddRecord last old new = (found : Found) → new found → IsWithOrWithout last old found

-- nothing is found that was not found before
abbrev pub FindsNoMore : (Found → Type 0) → (Found → Type 0) → Type 0
FindsNoMore old new = (found : Found) → new found → old found

-- the same is found as before
pub record FindsSame (old new : Found → Type 0) : Type 0 where
  pub no_more : FindsNoMore old new
  pub no_less : FindsNoMore new old

-- Keeps cut short: the records from before them, and behind these the first of those that the keeps were told.
abbrev pub IsCutShort : List Record → List Record → Found → Type 0
IsCutShort records told found = (count : ℕ) × (count ≤ length told) × (found ≡ Some (records ++ take count told))
