use Rattle.std.proofs.Common.{Err, map, ap, ◌∙◌}
use Rattle.folder_report.specs.Lines.{report_text}
use Rattle.records_command.specs.Folders.{lines_from}
use Rattle.records_command.proofs.FolderLines.{io_behind}
use Rattle.records_command.proofs.folder.write_folder.Goals as goal

pub returns : goal.returns
returns g c =
    io_behind (lines_from 0 (map (λ own. own.items) c.args.all.now)) (report_text c.args.report.now) c.as_bytes.result.now c.write_report.result
    (g.W.Write.contents c.args.w.now) (g.W.Write.contents c.put_text.new.w) (g.W.Write.contents c.write_report.new.w)
    (c.as_bytes.ensures.value ∙ c.in-Ok.ensures) c.in_ok-put_text.ensures.all c.write_report.ensures
    (c.in-Err-Io.is ∙ ap Err c.in-Err-Io.field-0-is)
