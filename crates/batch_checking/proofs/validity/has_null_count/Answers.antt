use Rattle.std.proofs.Common.{sym, w64, FitsSigned, rules}
use Rattle.std.proofs.lemmas.Int.{to_z-of_z}
use Rattle.batch_columns.specs.Held.{layout_named}
use Rattle.batch_checking.proofs.Nulls.{count_answer}
use Rattle.batch_checking.proofs.validity.has_null_count.Goals as goal

pub returns-else-not-has_values : goal.returns-else-not-has_values
returns-else-not-has_values c =
    let fits : FitsSigned w64 c.args.source.now.nulls = search rules in
    count_answer (layout_named c.args.source.now.layout) c.args.source.now.validity.now c.args.source.now.length c.nulls_in.result
    c.args.source.now.nulls _ c.is_count.result (to_z-of_z w64 c.args.source.now.nulls fits) (sym c.if-not-has_values.ensures) c.nulls_in.ensures
    c.is_count.ensures
