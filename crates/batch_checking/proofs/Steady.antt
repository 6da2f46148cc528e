-- What the rules of a column say of the column as one around others.
use Rattle.std.proofs.Common.{ℕ, ℤ, List, length}
use Rattle.batch_types.specs.Rules.{AreLong}
use Rattle.batch_columns.specs.Buffers.{behind_validity}
use Rattle.batch_columns.specs.Held.{layout_named}
use Rattle.batch_columns.specs.declared.layout.Layout.{Layout as Declared}
use Rattle.batch_columns.specs.declared.layout.Layout.TheVariants.{Null, Bits, Bytes, Binary, Utf8, List as Lists, FixedSizeList, Struct}
use Rattle.batch_checking.specs.SourceRules.{OffsetsHold, TextsSpread}
use Rattle.batch_checking.specs.Around.{IsSteady}
use Rattle.batch_checking.specs.Columns.{LeadsInto}
use Rattle.batch_checking.proofs.Spread.{spread_by}

pub texts_spread : (layout : Declared) (count : ℕ) (nulls : ℤ) (first : ℕ) (validity offsets values : List ℕ)
    → AreLong (layout_named layout) count nulls (length validity) (length (behind_validity (layout_named layout) offsets values))
    → OffsetsHold (layout_named layout) count offsets values first
    → TextsSpread (layout_named layout) count offsets values
texts_spread Null count nulls first validity offsets values long hold = tt
texts_spread Bits count nulls first validity offsets values long hold = tt
texts_spread (Bytes size) count nulls first validity offsets values long hold = tt
texts_spread Binary count nulls first validity offsets values long hold = tt
texts_spread Utf8 count nulls first validity offsets values long hold = spread_by offsets count (length values) long.1 hold
texts_spread Lists count nulls first validity offsets values long hold = tt
texts_spread (FixedSizeList size) count nulls first validity offsets values long hold = tt
texts_spread Struct count nulls first validity offsets values long hold = tt

pub steady_by : (layout : Declared) (count : ℕ) (nulls : ℤ) (first : ℕ) (validity offsets values : List ℕ)
    → AreLong (layout_named layout) count nulls (length validity) (length (behind_validity (layout_named layout) offsets values))
    → OffsetsHold (layout_named layout) count offsets values first
    → IsSteady (layout_named layout) count offsets
steady_by Null count nulls first validity offsets values long hold = tt
steady_by Bits count nulls first validity offsets values long hold = tt
steady_by (Bytes size) count nulls first validity offsets values long hold = tt
steady_by Binary count nulls first validity offsets values long hold = tt
steady_by Utf8 count nulls first validity offsets values long hold = tt
steady_by Lists count nulls first validity offsets values long hold = (spread_by offsets count first long.1 hold).0
steady_by (FixedSizeList size) count nulls first validity offsets values long hold = tt
steady_by Struct count nulls first validity offsets values long hold = tt

pub leads_by : (layout : Declared) (count : ℕ) (nulls : ℤ) (first : ℕ) (validity offsets values : List ℕ)
    → AreLong (layout_named layout) count nulls (length validity) (length (behind_validity (layout_named layout) offsets values))
    → OffsetsHold (layout_named layout) count offsets values first
    → LeadsInto (layout_named layout) count offsets first
leads_by Null count nulls first validity offsets values long hold = tt
leads_by Bits count nulls first validity offsets values long hold = tt
leads_by (Bytes size) count nulls first validity offsets values long hold = tt
leads_by Binary count nulls first validity offsets values long hold = tt
leads_by Utf8 count nulls first validity offsets values long hold = tt
leads_by Lists count nulls first validity offsets values long hold = spread_by offsets count first long.1 hold
leads_by (FixedSizeList size) count nulls first validity offsets values long hold = tt
leads_by Struct count nulls first validity offsets values long hold = tt
