use Rattle.std.proofs.Common.{◌≡◌, length, rules, arith}
use Rattle.std.proofs.lemmas.Grind.{common_steps}
use Rattle.header_writing.specs.Written.{cells_bytes}
use Rattle.header_writing.proofs.Appending.{table_put, table_first}
use Rattle.header_writing.proofs.layout.put_table.Goals as goal

pub returns-clause-put : goal.returns-clause-put
returns-clause-put c =
    table_put c.args.text.now.items c.pad.new.text.items c.put_shorts.new.text.items c.refer.new.text.items
    c.put_word.new.text.items
    c.put_cells.new.text.items (cells_bytes c.args.cells.now) c.args.numbers.now c.args.from c.requires.within
    c.in_ok-pad.ensures.padded
    c.in_ok-put_shorts.ensures.put c.refer.ensures.set c.in_ok-put_word.ensures.put c.in_ok-put_cells.ensures.put

pub returns-clause-first : goal.returns-clause-first
returns-clause-first c =
    let ends : c.len-first.result ≡ length c.put_word.new.text.items = search rules in
    table_first c.args.text.now.items c.pad.new.text.items c.put_shorts.new.text.items c.refer.new.text.items
    c.put_word.new.text.items
    c.args.numbers.now c.args.from c.len-first.result c.requires.within c.in_ok-pad.ensures.padded
    c.in_ok-put_shorts.ensures.put
    c.refer.ensures.set c.in_ok-put_word.ensures.put ends

pub returns-in_err-pad-clause-put : goal.returns-in_err-pad-clause-put
returns-in_err-pad-clause-put c = search rules steps 300000

pub returns-in_err-pad-clause-first : goal.returns-in_err-pad-clause-first
returns-in_err-pad-clause-first c = search rules steps 300000

pub returns-in_err-put_shorts-clause-put : goal.returns-in_err-put_shorts-clause-put
returns-in_err-put_shorts-clause-put c = search rules steps 300000

pub returns-in_err-put_shorts-clause-first : goal.returns-in_err-put_shorts-clause-first
returns-in_err-put_shorts-clause-first c = search rules steps 300000

pub returns-in_err-put_word-clause-put : goal.returns-in_err-put_word-clause-put
returns-in_err-put_word-clause-put c = grind (arith, common_steps) steps 600000

pub returns-in_err-put_word-clause-first : goal.returns-in_err-put_word-clause-first
returns-in_err-put_word-clause-first c = search rules steps 300000

pub returns-in_err-put_cells-clause-put : goal.returns-in_err-put_cells-clause-put
returns-in_err-put_cells-clause-put c = grind (arith, common_steps) steps 600000

pub returns-in_err-put_cells-clause-first : goal.returns-in_err-put_cells-clause-first
returns-in_err-put_cells-clause-first c = grind (arith, common_steps) steps 600000
