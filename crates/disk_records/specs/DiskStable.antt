-- What callers name of a store on a disk. Lamport, "Paxos Made Simple", section 2.5; the store is this service's own.
use Rattle.disk_records.specs.declared.disk_stable.DiskStable.{DiskStable}

-- the disk that the store stands on
abbrev pub disk_of : {D : Type 0} {g : _} → DiskStable D g → D
disk_of store = store.disk
