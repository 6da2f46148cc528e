use Rattle.header_writing.proofs.Appending.{pairs_put}
use Rattle.header_writing.proofs.layout.put_pairs.Goals as goal

pub returns-clause-put : goal.returns-clause-put
returns-clause-put c =
    pairs_put c.args.text.now.items c.pad.new.text.items c.refer.new.text.items c.put_word.new.text.items
    c.put_structs.new.text.items
    c.args.pairs.now c.args.from c.requires.within c.in_ok-pad.ensures.padded c.refer.ensures.set
    c.in_ok-put_word.ensures.put
    c.in_ok-put_structs.ensures.put
