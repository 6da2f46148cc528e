-- What the program keeps of a table.
use Rattle.std.specs.Prelude.{◌≤◌}
use Rattle.flat_places.specs.declared.table.Table.TheInside.{Inside}
use Rattle.flat_places.specs.Table.{ShowsTable, Seen, sizes_len}

abbrev pub seen_of : Inside → Seen
seen_of t = record { buf = t.buf.now; place = t.place }

-- its vtable is the table's, and is whole
pub record KnowsItsVtable (t : Inside) : Type 0 where
  pub shown : ShowsTable t.buf.now t.place t.vtable t.own_size
  pub whole : sizes_len ≤ t.own_size
