-- The rules of one column in their order, of what is read of it and of the header and the body.
use Rattle.std.specs.Prelude.{ℕ, ◌<◌, ◌≤◌, ℤ, pos, nat_abs, List, length}
use Rattle.std.specs.List.{AllByRecursion}
use Rattle.batch_types.specs.declared.fault.BatchFault.{BatchFault}
use Rattle.batch_types.specs.declared.fault.BatchFault.TheVariants as fault
use Rattle.batch_types.specs.Layouts.{Layout}
use Rattle.batch_types.specs.Laid.{LaidColumn, laid}
use Rattle.batch_types.specs.Order.{column_order, AreKept, IsFirstBroken}
use Rattle.batch_types.specs.Rules.{AreLong, HasNullCount, asked_inside, places_inside}
use Rattle.batch_types.specs.LaysOut.{KeepsRule, AreSound, HaveFault}
use Rattle.batch_columns.specs.Buffers.{behind_validity}
use Rattle.batch_columns.specs.Held.{layout_named}
use Rattle.batch_columns.specs.declared.encoded_column.EncodedColumn.{EncodedColumn}
use Rattle.batch_checking.specs.SourceRules.{OffsetsHold}
use Rattle.batch_checking.specs.Around.{TextsHold}

-- by its layout, its node, its validity, offsets and values, with how many values the first column inside it has
abbrev pub PartsKeep : Layout → ℕ → ℤ → List ℕ → List ℕ → List ℕ → ℕ → ℕ → List ℕ → BatchFault → Type 0
PartsKeep layout count nulls validity offsets values first asked places fault.Compressed = Unit {0}
PartsKeep layout count nulls validity offsets values first asked places fault.TooManyRows = Unit {0}
PartsKeep layout count nulls validity offsets values first asked places fault.NodeCount = Unit {0}
PartsKeep layout count nulls validity offsets values first asked places fault.BufferCount = Unit {0}
PartsKeep layout count nulls validity offsets values first asked places fault.BufferRange =
    AreLong layout count nulls (length validity) (length (behind_validity layout offsets values))
PartsKeep layout count nulls validity offsets values first asked places fault.NullCount =
    HasNullCount layout validity (pos count, nulls)
PartsKeep layout count nulls validity offsets values first asked places fault.OffsetsFall =
    OffsetsHold layout count offsets values first
PartsKeep layout count nulls validity offsets values first asked places fault.ChildShort = asked ≤ count
PartsKeep layout count nulls validity offsets values first asked places fault.NotUtf8 =
    TextsHold layout validity offsets values places
PartsKeep layout count nulls validity offsets values first asked places fault.OutOfMemory = Unit {0}

abbrev pub SourceKeeps : EncodedColumn → ℕ → ℕ → List ℕ → BatchFault → Type 0
SourceKeeps source first asked places told =
    PartsKeep (layout_named source.layout) source.length source.nulls source.validity.now source.offsets.now
    source.values.now first asked places told

-- the column keeps its own rules
abbrev pub KeepsOwn : List ℕ → LaidColumn → ℕ → List ℕ → Type 0
KeepsOwn body (laid layout node ranges inner) asked places =
    AreKept (KeepsRule body layout node ranges inner asked places) column_order

-- this is the first of its own rules that it breaks
abbrev pub BreaksOwn : List ℕ → LaidColumn → ℕ → List ℕ → BatchFault → Type 0
BreaksOwn body (laid layout node ranges inner) asked places told =
    IsFirstBroken (KeepsRule body layout node ranges inner asked places) column_order told

-- where it does, the columns inside it keep their rules
abbrev pub InsideIsSound : List ℕ → LaidColumn → List ℕ → Type 0
InsideIsSound body (laid layout node ranges inner) places =
    AreSound body inner (asked_inside layout (nat_abs node.0)) (places_inside body layout ranges places)

-- this is the first fault that they have
abbrev pub InsideHasFault : List ℕ → LaidColumn → List ℕ → BatchFault → Type 0
InsideHasFault body (laid layout node ranges inner) places told =
    HaveFault body inner (asked_inside layout (nat_abs node.0)) (places_inside body layout ranges places) told

-- where the column has as many values as are asked of it, these places are among them
abbrev pub ReachesIf : ℕ → ℕ → List ℕ → Type 0
ReachesIf asked count places = asked ≤ count → AllByRecursion (λ row. row < count) places
