use Rattle.std.proofs.Common.{arith}
use Rattle.header_types.specs.Views.{schema_of}
use Rattle.header_writing.proofs.Lengths.{schema_few, schema_long}
use Rattle.header_writing.proofs.WrittenSizes.{schema_light}
use Rattle.header_writing.proofs.length.schema_length.Goals as goal

pub behind_schema-requires : goal.behind_schema-requires
behind_schema-requires c = omega (arith, schema_light (schema_of c.args.schema.now) c.requires.profile)

pub aligned-requires-clause-room : goal.aligned-requires-clause-room
aligned-requires-clause-room c = schema_few (schema_of c.args.schema.now) c.behind_schema.result c.requires.profile c.behind_schema.ensures

pub returns : goal.returns
returns c = schema_long (schema_of c.args.schema.now) c.behind_schema.result c.aligned.result c.behind_schema.ensures c.aligned.ensures
