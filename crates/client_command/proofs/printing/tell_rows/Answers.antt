use Rattle.header_types.specs.Views.{schema_of}
use Rattle.downloads.specs.Taken.{downloaded_in}
use Rattle.json_client.specs.Prints.{batches_in}
use Rattle.client_command.proofs.Got.{cut_rows}
use Rattle.client_command.proofs.printing.tell_rows.Goals as goal

pub returns-then-is_err-clause-written : goal.returns-then-is_err-clause-written
returns-then-is_err-clause-written g c =
    cut_rows (schema_of c.args.download.now.schema).fields (batches_in (downloaded_in c.args.download.now)) (g.O.Write.contents c.args.out.now) (g.O.Write.contents c.write_rows.new.out)
    (g.O.Write.contents c.flush.new.self) c.in_default.ensures.written c.flush.ensures.bytes
