use Rattle.std.proofs.Common.{rules, ◌≡◌, [], ◌∷◌, ◌++◌, map}
use Rattle.json.specs.Token as token
use Rattle.json_rows.specs.Cells.{forest_in}
use Rattle.json_rows.specs.Lines.{cell_at}
use Rattle.json_rows.proofs.Put.{object_written}
use Rattle.json_rows.proofs.row_lines.write_row.Goals as goal

pub returns-in-Ok-clause-written : goal.returns-in-Ok-clause-written
returns-in-Ok-clause-written c =
    let opened : c.begin_object.new.self.tokens ≡ c.args.out.now.tokens ++ token.begin_object ∷ [] = search rules in
    object_written (forest_in c.args.fields.now) (map (cell_at c.args.row) c.args.columns.now) c.args.out.now.tokens c.begin_object.new.self.tokens c.write_row_members.new.out.tokens
    c.requires.names opened c.in-Ok.ensures.written

pub returns-in-Err-clause-refused : goal.returns-in-Err-clause-refused
returns-in-Err-clause-refused c = λ d told. c.fault_at.ensures.memory (c.in-Err.ensures.refused d told.1)
