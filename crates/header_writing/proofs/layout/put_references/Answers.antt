use Rattle.std.proofs.Common.{◌≡◌, ◌*◌, length, rules}
use Rattle.header_writing.specs.Objects.{zeros}
use Rattle.header_writing.proofs.Appending.{references_put, references_first}
use Rattle.header_writing.proofs.layout.put_references.Goals as goal

pub returns-clause-put : goal.returns-clause-put
returns-clause-put c =
    references_put c.args.text.now.items c.pad.new.text.items c.refer.new.text.items c.put_word.new.text.items
    c.put_blank.new.text.items
    (zeros (4 * c.args.count)) c.args.from c.args.count c.requires.within c.in_ok-pad.ensures.padded c.refer.ensures.set
    c.in_ok-put_word.ensures.put c.in_ok-put_blank.ensures.put

pub returns-clause-first : goal.returns-clause-first
returns-clause-first c =
    let ends : c.len-first.result ≡ length c.put_word.new.text.items = search rules in
    references_first c.args.text.now.items c.pad.new.text.items c.refer.new.text.items c.put_word.new.text.items
    c.args.from c.args.count c.len-first.result
    c.requires.within c.in_ok-pad.ensures.padded c.refer.ensures.set c.in_ok-put_word.ensures.put ends
