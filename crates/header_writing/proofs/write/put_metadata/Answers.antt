use Rattle.header_writing.proofs.Writers.{entries_begun}
use Rattle.header_writing.proofs.write.put_metadata.Goals as goal

pub loop-index-init : goal.loop-index-init
loop-index-init c =
    entries_begun c.args.text.now.items c.put_references.new.text.items c.args.from c.in_ok-start.start
    c.args.entries.now c.requires.within
    c.in_ok-start.ensures.put c.in_ok-start.ensures.first
