use Rattle.ballots.proofs.RecordDecodes.{decodes_read, decodes_only, decodes_fault, decodes_memory}
use Rattle.ballots.proofs.record.Record.decode.Goals as goal

pub returns-clause-read : goal.returns-clause-read
returns-clause-read c = decodes_read c.args.text.now c.record_of.result c.record_of.ensures.meant c.record_of.ensures.fields

pub returns-clause-only : goal.returns-clause-only
returns-clause-only c = decodes_only c.args.text.now c.record_of.result c.record_of.ensures.meant

pub returns-clause-fault : goal.returns-clause-fault
returns-clause-fault c = decodes_fault c.args.text.now c.record_of.result c.record_of.ensures.meant c.record_of.ensures.fields

pub returns-clause-memory : goal.returns-clause-memory
returns-clause-memory c = decodes_memory c.args.text.now c.record_of.result c.record_of.ensures.meant c.record_of.ensures.fields
