use Rattle.std.proofs.Common.{ap, ◌∙◌, map, false}
use Rattle.bitmaps.specs.Packing.{packed_bytes}
use Rattle.batch_reading.specs.Spots.{spots_of}
use Rattle.batch_reading.specs.Taken.{seen, bit_taken}
use Rattle.batch_reading.proofs.Planning.{none_in_bits}
use Rattle.batch_reading.proofs.plan.plan_bits.Goals as goal

pub returns : goal.returns
returns c = λ offsets. record {
  nulls_are = c.in_ok-validity.ensures.nulls;
  validity_is = c.in_ok-validity.ensures.validity;
  offsets_is = c.new.ensures.items;
  values_is =
      c.into_bytes.ensures ∙ ap packed_bytes c.in_ok-bits.ensures
      ∙ ap (λ taken. packed_bytes (map (bit_taken c.args.values.now false) taken)) c.in_ok-validity.ensures.taken;
  inside_is =
      none_in_bits offsets (map (seen c.args.validity.now) (spots_of c.args.selection.now)) c.nothing_inside.result
      c.nothing_inside.ensures;
}
