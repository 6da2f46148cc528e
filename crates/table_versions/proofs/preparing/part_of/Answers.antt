use Rattle.std.proofs.Common.{[], sym, ap, subst, ◌∙◌}
use Rattle.table_types.specs.Served.{data_text, in_frame}
use Rattle.header_types.specs.Profile.{InProfile}
use Rattle.table_types.specs.Tables.{bare_schema}
use Rattle.table_types.specs.Uploads.{schema_text}
use Rattle.table_types.specs.Valid.{FitsFrame}
use Rattle.table_versions.proofs.Frames.{served_few, served_long}
use Rattle.table_versions.proofs.preparing.part_of.Goals as goal

pub shape_of-requires-clause-profile : goal.shape_of-requires-clause-profile
shape_of-requires-clause-profile c =
    let is = c.requires in
    subst InProfile (sym (c.in_ok-schema-2.ensures is.0 is.1.0 is.1.1)) is.1.0.profile

pub shape_of-requires-clause-message : goal.shape_of-requires-clause-message
shape_of-requires-clause-message c =
    let is = c.requires in
    c.in_ok-schema.ensures ∙ c.schema_bytes.ensures is.0 is.1.0 is.1.1 ∙ ap schema_text (sym (c.in_ok-schema-2.ensures is.0 is.1.0 is.1.1))

pub data_frame-requires : goal.data_frame-requires
data_frame-requires c =
    let is = c.requires in
    subst (λ bytes. FitsFrame (data_text bytes [] [])) (sym (c.schema_bytes-2.ensures is.0 is.1.0 is.1.1)) is.1.0.schema_served

pub bytes_in-bytes-requires : goal.bytes_in-bytes-requires
bytes_in-bytes-requires c =
    let is = c.requires in
    served_few is.0 c.as_slice.result.now is.1.0 (c.as_slice.ensures.value ∙ (c.in_ok-served.ensures is.0 is.1.0 is.1.1).frames)

pub returns : goal.returns
returns c = λ uploaded valid text.
    let served = c.in_ok-served.ensures uploaded valid text in
    record {
      schema = c.in_ok-schema.ensures ∙ c.schema_bytes.ensures uploaded valid text;
      shape = c.in_ok-shape.ensures ∙ ap (λ s. schema_text (bare_schema s)) (c.in_ok-schema-2.ensures uploaded valid text);
      schema_frame = c.in_ok-schema_frame.ensures ∙ ap (λ bytes. in_frame (data_text bytes [] [])) (c.schema_bytes-2.ensures uploaded valid text);
      frames = c.new.ensures ∙ served.frames;
      bytes = c.bytes_in-bytes.ensures ∙ served_long uploaded c.as_slice.result.now (c.as_slice.ensures.value ∙ served.frames);
      records = served.records;
    }
