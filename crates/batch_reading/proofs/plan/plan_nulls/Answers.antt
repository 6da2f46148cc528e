use Rattle.std.proofs.Common.{sym, map}
use Rattle.batch_reading.specs.Spots.{spots_of}
use Rattle.batch_reading.specs.Taken.{seen}
use Rattle.batch_reading.proofs.Running.{spots_long}
use Rattle.batch_reading.proofs.Planning.{none_in_nulls}
use Rattle.batch_reading.proofs.plan.plan_nulls.Goals as goal

pub returns : goal.returns
returns c = λ validity offsets values. record {
  nulls_are = sym (spots_long c.requires.0 c.args.selection.now c.requires.1);
  validity_is = c.new.ensures.items;
  offsets_is = c.new-2.ensures.items;
  values_is = c.new-3.ensures.items;
  inside_is = none_in_nulls offsets (map (seen validity) (spots_of c.args.selection.now)) c.nothing_inside.result c.nothing_inside.ensures;
}
