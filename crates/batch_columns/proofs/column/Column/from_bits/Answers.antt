use Rattle.std.proofs.Common.{ap, ◌∙◌, map}
use Rattle.std.proofs.lemmas.List.{length-map}
use Rattle.bitmaps.specs.Packing.{packed_bytes}
use Rattle.batch_columns.specs.Made.{bit_or_null}
use Rattle.batch_columns.proofs.Making.{bits_kept}
use Rattle.batch_columns.proofs.column.Column.from_bits.Goals as goal

pub from_parts-requires : goal.from_parts-requires
from_parts-requires c = (
  map bit_or_null c.args.cells.now,
  length-map c.args.cells.now bit_or_null,
  bits_kept c.args.cells.now c.in_ok-validity.nulls c.in_ok-validity.validity.items c.new.result.items
      c.into_bytes-values.result.items c.new-2.result.items c.in_ok-validity.ensures.nulls c.in_ok-validity.ensures.bytes
      c.new.ensures.items (c.into_bytes-values.ensures ∙ ap packed_bytes c.in_ok-bits.ensures) c.new-2.ensures.items,
)

pub returns-clause-cells : goal.returns-clause-cells
returns-clause-cells c =
    c.from_parts.ensures.cells (map bit_or_null c.args.cells.now) (length-map c.args.cells.now bit_or_null)
    (bits_kept c.args.cells.now c.in_ok-validity.nulls c.in_ok-validity.validity.items c.new.result.items
    c.into_bytes-values.result.items c.new-2.result.items c.in_ok-validity.ensures.nulls c.in_ok-validity.ensures.bytes
    c.new.ensures.items (c.into_bytes-values.ensures ∙ ap packed_bytes c.in_ok-bits.ensures) c.new-2.ensures.items)
