use Rattle.header_writing.proofs.Appending.{one_more_blank}
use Rattle.header_writing.proofs.layout.put_blank.Goals as goal

pub loop-preserved : goal.loop-preserved
loop-preserved c =
    one_more_blank c.args.text.now.items c.loop.text.items c.put_word.new.text.items c.loop.counter c.loop.invariant
    c.in_ok-put_word.ensures.put
