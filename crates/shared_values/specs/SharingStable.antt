-- What callers name of a store that shares values. This service's own.
use Rattle.shared_values.specs.declared.held.HeldValues.{HeldValues}
use Rattle.shared_values.specs.declared.sharing_stable.SharingStable.{SharingStable}

-- the store that has the records
abbrev pub store_of : {S : Type 0} → SharingStable S → S
store_of sharing = sharing.store

-- the values that the next recall shares
abbrev pub held_of : {S : Type 0} → SharingStable S → HeldValues
held_of sharing = sharing.held
