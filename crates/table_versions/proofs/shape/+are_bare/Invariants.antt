use Rattle.std.proofs.Common.{drop}
use Rattle.table_versions.proofs.BareFields.{IsBare}
use Rattle.table_versions.proofs.shape.+are_bare.Given as goal

abbrev pub invariant-loop-field : goal.invariant-loop-field
invariant-loop-field l = IsBare (drop l.field-index l.fn.fields) → IsBare l.fn.fields
