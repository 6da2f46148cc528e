use Rattle.std.proofs.Common.{ap, map, arith}
use Rattle.header_types.specs.Views.{schema_of, tree_of, forest_of}
use Rattle.batch_types.specs.Canonical.{canonical_head, canonical_body}
use Rattle.batch_types.specs.Laid.{node_count, buffer_count}
use Rattle.uploads.proofs.Counts.{head_counted}
use Rattle.uploads.proofs.sizes.head_length.Goals as goal

pub returns : goal.returns
returns c = λ rows can.
    let S = schema_of c.args.schema.now in
    let counted = head_counted S (canonical_head S rows) (canonical_body S rows) rows (c.written_rows_are_laid_out.ensures.laid S rows c.requires.profile can) in
    c.batch_length.ensures (canonical_head S rows)
    (omega (arith, counted.0, ap (λ fields. node_count (forest_of (map tree_of fields))) c.deref.ensures.value, c.place_behind-counts.ensures.node))
    (omega (arith, counted.1, ap (λ fields. buffer_count (forest_of (map tree_of fields))) c.deref.ensures.value, c.place_behind-counts.ensures.buffer))
