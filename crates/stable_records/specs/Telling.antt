-- What a node knows of its store from the answers that it got (Lamport, "Paxos Made Simple", section 2.5: what an
-- acceptor answered for is recorded before, and so is known after it failed). The keeps in doubt, those that a failure
-- or a crash broke off, are this service's own.
use Rattle.std.specs.Prelude.{◌≡◌, ◌⊎◌, List, [], ◌∷◌, ◌++◌, Some, Result, Ok, Err}
use Rattle.ballots.specs.declared.record.Record.{Record}
use Rattle.stable_records.specs.declared.fault.StoreFault.{StoreFault}
use Rattle.stable_records.specs.declared.fault.StoreFault.TheVariants.{Device, Damaged, Broken, OutOfMemory}
use Rattle.stable_records.specs.Found.{Found}

-- a record that a keep was told: the keep was Ok, or it was broken off
pub data Telling : Type 0 where
  kept : Record → Telling
  doubted : Record → Telling

-- These records may stand after these keeps, the first of them first: each that was Ok has its record there, and each
-- that was broken off has it there or not.
abbrev pub MayStand : List Telling → List Record → Type 0
MayStand [] records = records ≡ []
MayStand (kept told ∷ later) records = (rest : List Record) × MayStand later rest × (records ≡ told ∷ rest)
MayStand (doubted told ∷ later) records =
    MayStand later records ⊎ ((rest : List Record) × MayStand later rest × (records ≡ told ∷ rest))

-- the keeps, with one more that was answered so
abbrev pub with_keep : {T : Type 0} → List Telling → Record → Result T StoreFault → List Telling
with_keep tellings last (Ok _) = tellings ++ kept last ∷ []
with_keep tellings last (Err Device) = tellings ++ doubted last ∷ []
with_keep tellings last (Err Damaged) = tellings
with_keep tellings last (Err Broken) = tellings
with_keep tellings last (Err OutOfMemory) = tellings

-- the keeps, with one more that a crash broke off where it would have been answered so
abbrev pub with_crash : {T : Type 0} → List Telling → Record → Result T StoreFault → List Telling
with_crash tellings last (Ok _) = tellings ++ doubted last ∷ []
with_crash tellings last (Err Device) = tellings ++ doubted last ∷ []
with_crash tellings last (Err Damaged) = tellings
with_crash tellings last (Err Broken) = tellings
with_crash tellings last (Err OutOfMemory) = tellings

-- whatever is found are records that may stand after these keeps
abbrev pub StandsAfter : List Telling → (Found → Type 0) → Type 0
StandsAfter tellings finds =
    (found : Found) → finds found → (records : List Record) × MayStand tellings records × (found ≡ Some records)
