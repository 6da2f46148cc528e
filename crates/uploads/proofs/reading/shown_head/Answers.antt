use Rattle.std.proofs.Common.{ap, sym, ◌∙◌}
use Rattle.header_types.specs.Header.{batch_header}
use Rattle.header_types.specs.HeaderViews.{header_of, head_of}
use Rattle.uploads.proofs.Shown.{heads_alike, no_head}
use Rattle.uploads.proofs.reading.shown_head.Goals as goal

pub returns-in-Ok-Batch-clause-only : goal.returns-in-Ok-Batch-clause-only
returns-in-Ok-Batch-clause-only c = λ other shows.
    heads_alike (head_of c.in-Ok-Batch.head) other (sym (ap header_of c.in-Ok-Batch.field-0-is) ∙ c.in-Ok-Batch.ensures.only (batch_header other) shows)

pub returns-in-Ok-Schema-clause-fault : goal.returns-in-Ok-Schema-clause-fault
returns-in-Ok-Schema-clause-fault c = λ is head shows.
    no_head _ head (sym (ap header_of c.in-Ok-Schema.field-0-is) ∙ c.in-Ok-Schema.ensures.only (batch_header head) shows)

pub returns-clause-fault : goal.returns-clause-fault
returns-clause-fault c = λ is head shows. c.fault_of.ensures is (c.in-Err.ensures.only (batch_header head) shows)
