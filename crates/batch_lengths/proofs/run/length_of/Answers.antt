use Rattle.std.proofs.Common.{◌+◌, sym, ◌∙◌}
use Rattle.batch_columns.specs.Held.{layout_named}
use Rattle.batch_lengths.specs.Along.{run_spots}
use Rattle.batch_lengths.proofs.Whole.{no_spans, spans_reach, spans_total}
use Rattle.batch_lengths.proofs.run.length_of.Goals as goal

pub span_of-requires-clause-reach : goal.span_of-requires-clause-reach
span_of-requires-clause-reach c =
    spans_reach (layout_named c.args.source.now.layout) c.args.source.now.offsets.now (c.args.start + c.args.count)
    (sym c.has_offsets.ensures ∙ c.if-has_offsets.true) c.requires.reads.reaches

pub returns-then-has_offsets : goal.returns-then-has_offsets
returns-then-has_offsets c =
    spans_total (layout_named c.args.source.now.layout) c.args.source.now.offsets.now c.args.start c.args.count c.span_of.result
    (sym c.has_offsets.ensures ∙ c.if-has_offsets.true) c.requires.reads.reaches c.span_of.ensures

pub returns-else-has_offsets : goal.returns-else-has_offsets
returns-else-has_offsets c =
    sym (no_spans (layout_named c.args.source.now.layout) c.args.source.now.offsets.now (run_spots c.args.start c.args.count)
    (sym c.has_offsets.ensures ∙ c.if-has_offsets.false))
