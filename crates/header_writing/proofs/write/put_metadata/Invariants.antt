use Rattle.header_writing.specs.Writing.{EntriesLeft}
use Rattle.header_writing.proofs.write.put_metadata.Given as goal

abbrev pub invariant-loop-index : goal.invariant-loop-index
invariant-loop-index l = EntriesLeft l.fn.text.items l.text.items l.from l.start l.index l.entries
