use Rattle.header_types.specs.Views.{schema_of}
use Rattle.header_writing.proofs.Writers.{in_any_case}
use Rattle.header_writing.proofs.WrittenSizes.{schema_shown, schema_small}
use Rattle.header_writing.proofs.write.write_schema.Goals as goal

pub returns-clause-shown : goal.returns-clause-shown
returns-clause-shown c = in_any_case c.extend_from_slice.result
    (schema_shown (schema_of c.args.schema.now) c.requires.profile c.in_ok-text.ensures.fits)

pub returns-clause-small : goal.returns-clause-small
returns-clause-small c = in_any_case c.extend_from_slice.result
    (schema_small (schema_of c.args.schema.now) c.requires.profile)

pub returns-clause-fits : goal.returns-clause-fits
returns-clause-fits c = in_any_case c.extend_from_slice.result c.in_ok-text.ensures.fits
