use Rattle.std.proofs.Common.{ap, ◌∙◌, map}
use Rattle.std.specs.List.{flat_map}
use Rattle.batch_reading.specs.Spots.{spots_of}
use Rattle.batch_reading.specs.Taken.{seen, block_taken}
use Rattle.batch_reading.proofs.Planning.{none_in_bytes}
use Rattle.batch_reading.proofs.plan.plan_blocks.Goals as goal

pub returns : goal.returns
returns c = λ offsets. record {
  nulls_are = c.in_ok-validity.ensures.nulls;
  validity_is = c.in_ok-validity.ensures.validity;
  offsets_is = c.new.ensures.items;
  values_is =
      c.in_ok-blocks_taken.ensures
      ∙ ap (flat_map (block_taken c.args.size c.args.values.now)) c.in_ok-validity.ensures.taken;
  inside_is =
      none_in_bytes c.args.size offsets (map (seen c.args.validity.now) (spots_of c.args.selection.now))
      c.nothing_inside.result c.nothing_inside.ensures;
}
