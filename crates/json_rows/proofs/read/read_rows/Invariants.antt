use Rattle.std.proofs.Common.{◌+◌, ◌*◌, ◌<◌, ◌≤◌, map, length}
use Rattle.std.specs.List.{AllByRecursion}
use Rattle.header_types.specs.Views.{schema_of}
use Rattle.batch_types.specs.Canonical.{canonical_body}
use Rattle.batch_columns.specs.Batches.{IsBatchOf, rows_of}
use Rattle.json_rows.specs.Lines.{ReadsSome}
use Rattle.json_rows.proofs.read.read_rows.Given as goal

abbrev pub decreases-loop-rest : goal.decreases-loop-rest
decreases-loop-rest l = length l.rest * 131072 + l.most

abbrev pub invariant-loop-rest : goal.invariant-loop-rest
invariant-loop-rest l = record {
  some : 0 < l.most;
  few : l.most ≤ 65536;
  read : ReadsSome (schema_of l.schema).fields l.text l.rest (map rows_of l.batches.items);
  of_schema : AllByRecursion (IsBatchOf (schema_of l.schema)) l.batches.items;
  short : AllByRecursion (λ batch. length (canonical_body (schema_of l.schema) (rows_of batch)) ≤ 4128768) l.batches.items;
}
