-- What callers name of a store that enters the sums of its records. This service's own.
use Rattle.std.specs.Prelude.{ℕ, Option, Vec}
use Rattle.std.specs.declared.alloc.Global.{Global}
use Rattle.record_sums.specs.declared.summed_stable.SummedStable.{SummedStable}

-- the store that has the records
abbrev pub store_of : {S D : Type 0} {g h : _} → SummedStable S D g h → S
store_of summed = summed.store

-- the disk that has the sums
abbrev pub sums_of : {S D : Type 0} {g h : _} → SummedStable S D g h → D
sums_of summed = summed.sums

-- what the file of sums has to begin with before the next entry, where it lacks some
abbrev pub missing_of : {S D : Type 0} {g h : _} → SummedStable S D g h → Option (Vec ℕ Global)
missing_of summed = summed.missing

-- how many records there are
abbrev pub count_of : {S D : Type 0} {g h : _} → SummedStable S D g h → ℕ
count_of summed = summed.count
