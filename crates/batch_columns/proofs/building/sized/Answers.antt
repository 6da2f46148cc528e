use Rattle.std.proofs.Common.{map}
use Rattle.std.proofs.lemmas.List.{length-map}
use Rattle.batch_columns.specs.Made.{bytes_or_null}
use Rattle.batch_columns.proofs.Making.{sized_kept}
use Rattle.batch_columns.proofs.building.sized.Goals as goal

pub from_parts-requires : goal.from_parts-requires
from_parts-requires c = (
  map bytes_or_null c.args.cells.now,
  length-map c.args.cells.now bytes_or_null,
  sized_kept c.args.size c.args.cells.now c.in_ok-validity.nulls c.in_ok-validity.validity.items c.new.result.items
      c.in_ok-bytes.bytes.items c.new-2.result.items c.requires c.in_ok-validity.ensures.nulls c.in_ok-validity.ensures.bytes
      c.new.ensures.items c.in_ok-bytes.ensures c.new-2.ensures.items,
)

pub returns-clause-cells : goal.returns-clause-cells
returns-clause-cells c =
    c.from_parts.ensures.cells (map bytes_or_null c.args.cells.now) (length-map c.args.cells.now bytes_or_null)
    (sized_kept c.args.size c.args.cells.now c.in_ok-validity.nulls c.in_ok-validity.validity.items c.new.result.items
    c.in_ok-bytes.bytes.items c.new-2.result.items c.requires c.in_ok-validity.ensures.nulls c.in_ok-validity.ensures.bytes
    c.new.ensures.items c.in_ok-bytes.ensures c.new-2.ensures.items)
