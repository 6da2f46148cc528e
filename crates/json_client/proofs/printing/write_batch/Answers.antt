use Rattle.std.proofs.Common.{sym, subst, List, ℕ}
use Rattle.header_types.specs.Views.{schema_of}
use Rattle.json_client.specs.declared.fault.RowCallFault.TheVariants.{Output, Rows}
use Rattle.json_client.specs.Prints.{IsTextOf, rows_alone}
use Rattle.json_client.proofs.Printed.{batch_cut, nothing_printed, text_of_batch}
use Rattle.json_client.proofs.printing.write_batch.Goals as goal

pub returns-in-Err-clause-written : goal.returns-in-Err-clause-written
returns-in-Err-clause-written g c =
    nothing_printed (schema_of c.args.schema.now).fields (Rows c.in-Err.fault) (rows_alone c.args.batch.now) (g.O.Write.contents c.args.out.now)

pub returns-clause-written : goal.returns-clause-written
returns-clause-written g c =
    let fields = (schema_of c.args.schema.now).fields in
    let is = text_of_batch fields c.args.batch.now c.in-Ok.text.items c.in-Ok.ensures.written c.in-Ok.ensures.ends in
    batch_cut fields c.args.batch.now c.deref.result.now c.in-Err-put.field-0 Output (g.O.Write.contents c.args.out.now) (g.O.Write.contents c.put.new.w)
    (subst (λ (text : List ℕ). IsTextOf fields (rows_alone c.args.batch.now) text) (sym c.deref.ensures.value) is) c.in-Err-put.ensures.written

pub returns-in-Err-clause-cell : goal.returns-in-Err-clause-cell
returns-in-Err-clause-cell g c = λ values told. c.in-Err.ensures.cell told.0 told.3
