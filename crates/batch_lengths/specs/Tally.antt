-- What is counted of each of some columns: a tool of contracts. Which cells are wanted inside a column is defined in
-- `Planned` of `batch_reading`, after Apache Arrow, "Arrow Columnar Format", "Physical memory layout".
use Rattle.std.specs.Prelude.{◌≡◌, ℕ, zero, suc, ◌+◌, ◌-◌, ◌^◌, min, max, ◌||◌, List, [], ◌∷◌, ◌++◌, map}
use Rattle.header_types.specs.declared.header.BatchHead.{BatchHead}
use Rattle.header_types.specs.Fields.{Forest}
use Rattle.batch_types.specs.Laid.{LaidColumn, laid, LaidColumns, no_column, column_then}
use Rattle.batch_types.specs.Layouts.{Layout}
use Rattle.batch_types.specs.Placed.{buffer_at}
use Rattle.batch_columns.specs.Read.{offsets_at}
use Rattle.batch_columns.specs.declared.place.Place.{Place}
use Rattle.batch_reading.specs.Readable.{columns_there}
use Rattle.batch_reading.specs.Spots.{Spot}
use Rattle.batch_reading.specs.Taken.{seen}
use Rattle.batch_reading.specs.Planned.{spots_inside}
use Rattle.batch_lengths.specs.declared.counted.Counted.{Counted}
use Rattle.batch_lengths.specs.Counted.{has_null, span_total}

-- ---- of each column

abbrev pub counted_of : Layout → List ℕ → List ℕ → List Spot → Counted
counted_of layout validity offsets spots = record {
  has_null = has_null validity spots;
  total = span_total layout offsets (map (seen validity) spots);
}

abbrev mutual
  -- of a column and of those inside it, depth first, where these are wanted
  pub tally_of : List ℕ → LaidColumn → List Spot → List Counted
  tally_of body (laid layout node ranges inner) spots =
      counted_of layout (buffer_at body ranges 0) (offsets_at body layout ranges) spots
      ∷ tally body inner
      (spots_inside layout (offsets_at body layout ranges) (map (seen (buffer_at body ranges 0)) spots))

  pub tally : List ℕ → LaidColumns → List Spot → List Counted
  tally body no_column spots = []
  tally body (column_then column rest) spots = tally_of body column spots ++ tally body rest spots

-- ---- in a table, up to a largest number

abbrev pub plus : Counted → Counted → Counted
plus x y = record {
  has_null = x.has_null || y.has_null;
  total = max x.total (min (x.total + y.total) (2 ^ 64 - 1));
}

-- the first entries with these added to them
abbrev pub added : List Counted → List Counted → List Counted
added table [] = table
added [] (y ∷ ys) = []
added (x ∷ xs) (y ∷ ys) = plus x y ∷ added xs ys

-- those from this one on
abbrev pub added_from : ℕ → List Counted → List Counted → List Counted
added_from zero table ys = added table ys
added_from (suc n) [] ys = []
added_from (suc n) (x ∷ xs) ys = x ∷ added_from n xs ys

-- with what is counted of the columns of these fields, which stand at this place of the header, and of those inside them
-- where these are wanted
abbrev pub counted_with : Forest → BatchHead → Place → List ℕ → List Counted → List Spot → List Counted
counted_with fields head place body table spots =
    added_from place.node table (tally body (columns_there fields head place) spots)

-- the table begins with what was counted
abbrev pub BeginsWith : List Counted → List Counted → Type 0
BeginsWith table [] = Unit {0}
BeginsWith [] (y ∷ ys) = ⊥
BeginsWith (x ∷ xs) (y ∷ ys) =
    (x.has_null ≡ y.has_null) × (x.total ≡ min y.total (2 ^ 64 - 1)) × BeginsWith xs ys
