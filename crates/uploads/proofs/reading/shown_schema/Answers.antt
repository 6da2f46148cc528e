use Rattle.std.proofs.Common.{ap, sym, ◌∙◌}
use Rattle.header_types.specs.Header.{schema_header}
use Rattle.header_types.specs.HeaderViews.{header_of}
use Rattle.header_types.specs.Views.{schema_of}
use Rattle.uploads.proofs.Shown.{schemas_alike, no_schema}
use Rattle.uploads.proofs.reading.shown_schema.Goals as goal

pub returns-in-Ok-Schema-clause-only : goal.returns-in-Ok-Schema-clause-only
returns-in-Ok-Schema-clause-only c = λ other shows.
    schemas_alike (schema_of c.in-Ok-Schema.schema) other (sym (ap header_of c.in-Ok-Schema.field-0-is) ∙ c.in-Ok-Schema.ensures.only (schema_header other) shows)

pub returns-in-Ok-Batch-clause-fault : goal.returns-in-Ok-Batch-clause-fault
returns-in-Ok-Batch-clause-fault c = λ is schema shows.
    no_schema _ schema (sym (ap header_of c.in-Ok-Batch.field-0-is) ∙ c.in-Ok-Batch.ensures.only (schema_header schema) shows)

pub returns-clause-fault : goal.returns-clause-fault
returns-clause-fault c = λ is schema shows. c.fault_of.ensures is (c.in-Err.ensures.only (schema_header schema) shows)
