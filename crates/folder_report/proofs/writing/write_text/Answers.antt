use Rattle.std.proofs.Common.{rules, [], append-nil}
use Rattle.folder_report.proofs.writing.write_text.Goals as goal

pub returns-then-is_err-2 : goal.returns-then-is_err-2
returns-then-is_err-2 g c = (c.args.text.now, ([], append-nil c.args.text.now), search rules)
