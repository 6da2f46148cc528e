use Rattle.std.proofs.Common.{◌∙◌, sym, map}
use Rattle.batch_columns.specs.Held.{layout_named}
use Rattle.batch_reading.specs.Taken.{seen}
use Rattle.batch_lengths.specs.Along.{spots_marked}
use Rattle.batch_lengths.proofs.Whole.{plain_counted, no_spans}
use Rattle.batch_lengths.proofs.marked.count_nulls.Goals as goal

pub returns-then-is_empty : goal.returns-then-is_empty
returns-then-is_empty c =
    plain_counted c.args.source.now (spots_marked c.args.marks.now) (sym c.is_empty.ensures ∙ c.if-is_empty.true) c.requires.even

pub returns : goal.returns
returns c = record {
  nulls = c.is_null_marked.ensures;
  lengths =
      sym (no_spans (layout_named c.args.source.now.layout) c.args.source.now.offsets.now
      (map (seen c.args.source.now.validity.now) (spots_marked c.args.marks.now)) c.requires.even);
}
