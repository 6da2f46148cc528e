use Rattle.std.proofs.Common.{sym, ◌∙◌, length}
use Rattle.std.proofs.lemmas.List.{nil_from_length}
use Rattle.std.proofs.lemmas.Bool.{eqb-true}
use Rattle.batch_reading.specs.Spots.{spots_of}
use Rattle.batch_reading.proofs.Marking.{none_null}
use Rattle.batch_reading.proofs.bits.marks_at.Goals as goal

pub without_nulls-requires-clause-valid : goal.without_nulls-requires-clause-valid
without_nulls-requires-clause-valid c =
    none_null c.args.validity.now (spots_of c.args.selection.now)
    (nil_from_length c.args.validity.now (eqb-true (length c.args.validity.now) 0 (sym c.is_empty.ensures ∙ c.if-is_empty.true)))
