-- Rules in the order in which they are looked at, each by the name of the fault that tells that it is broken.
use Rattle.std.specs.Prelude.{◌≡◌, ◌⊎◌, List, [], ◌∷◌}
use Rattle.batch_types.specs.declared.fault.BatchFault.{BatchFault}
use Rattle.batch_types.specs.declared.fault.BatchFault.TheVariants as fault

-- of the header, first of all
abbrev pub head_order : List BatchFault
head_order = fault.Compressed ∷ fault.TooManyRows ∷ fault.NodeCount ∷ fault.BufferCount ∷ fault.BufferRange ∷ []

-- and of each column
abbrev pub column_order : List BatchFault
column_order = fault.BufferRange ∷ fault.NullCount ∷ fault.OffsetsFall ∷ fault.ChildShort ∷ fault.NotUtf8 ∷ []

-- all of these rules are kept
abbrev pub AreKept : (BatchFault → Type 0) → List BatchFault → Type 0
AreKept Keeps [] = Unit {0}
AreKept Keeps (rule ∷ rest) = Keeps rule × AreKept Keeps rest

-- the first rule of this list that is broken is that of this fault
abbrev pub IsFirstBroken : (BatchFault → Type 0) → List BatchFault → BatchFault → Type 0
IsFirstBroken Keeps [] told = ⊥
IsFirstBroken Keeps (rule ∷ rest) told =
    ((told ≡ rule) × (¬ (Keeps rule))) ⊎ (Keeps rule × IsFirstBroken Keeps rest told)
