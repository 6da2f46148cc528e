use Rattle.std.proofs.Common.{◌∙◌, ap, subst}
use Rattle.header_types.specs.Fields.{SchemaTree}
use Rattle.table_types.specs.Uploads.{upload_text}
use Rattle.uploads.specs.Making.{AreRefused, upload_of as uploaded}
use Rattle.run_files.proofs.UploadValues.{parts_make, only_memory}
use Rattle.run_files.proofs.upload_values.made.Goals as goal

pub returns-in-Ok-clause-encoded : goal.returns-in-Ok-clause-encoded
returns-in-Ok-clause-encoded c =
    c.in-Ok.ensures.text
    ∙ ap (λ (s : SchemaTree). upload_text (uploaded c.args.table.now c.args.id s c.args.batches.now)) c.in_ok-schema.ensures

pub returns-clause-refused : goal.returns-clause-refused
returns-clause-refused c = λ bytes taken.
    let table = c.args.table.now in
    let id = c.args.id in
    let name = c.args.name.now in
    let batches = c.args.batches.now in
    c.fault_of.ensures.1
    (only_memory table id name batches c.in-Err.fault (parts_make table id name batches bytes taken)
    (subst (λ (s : SchemaTree). AreRefused table id s batches c.in-Err.fault) c.in_ok-schema.ensures c.in-Err.ensures.fault))
