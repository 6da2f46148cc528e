use Rattle.std.proofs.Common.{List, ap, subst, ◌∙◌}
use Rattle.std.specs.List.{flat_map}
use Rattle.grpc_frames.specs.FrameFaults.{WhereKnown}
use Rattle.header_types.specs.Views.{schema_of}
use Rattle.batch_types.specs.Cells.{Rows}
use Rattle.json_client.specs.Prints.{Prints, RefusesUntold, rows_served}
use Rattle.json_client.proofs.Printed.{served_are}
use Rattle.json_client.proofs.printing.write_rows.Goals as goal

pub returns-clause-written : goal.returns-clause-written
returns-clause-written g c =
    subst (λ (l : List Rows). WhereKnown (g.O.Write.contents c.args.out.now) (g.O.Write.contents c.write_uploads.new.out) (Prints (schema_of c.args.download.now.schema).fields l c.write_uploads.result))
    (ap (flat_map rows_served) c.deref.ensures.value ∙ served_are c.args.download.now.uploads.items) c.write_uploads.ensures.written

pub returns-clause-cell : goal.returns-clause-cell
returns-clause-cell g c =
    subst (λ (l : List Rows). RefusesUntold (schema_of c.args.download.now.schema).fields l c.write_uploads.result)
    (ap (flat_map rows_served) c.deref.ensures.value ∙ served_are c.args.download.now.uploads.items) c.write_uploads.ensures.cell
