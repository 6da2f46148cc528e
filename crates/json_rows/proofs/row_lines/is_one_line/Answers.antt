use Rattle.std.proofs.Common.{◌≡◌, true, rules}
use Rattle.std.specs.Option.{is_none}
use Rattle.json_rows.proofs.Cut.{one_line}
use Rattle.json_rows.proofs.row_lines.is_one_line.Goals as goal

pub returns : goal.returns
returns c = λ yes. let none : is_none c.memchr.result ≡ true = search rules in one_line c.args.text.now c.memchr.result c.memchr.ensures none
