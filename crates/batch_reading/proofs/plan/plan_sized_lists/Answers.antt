use Rattle.std.proofs.Common.{ap, [], sym}
use Rattle.batch_types.specs.Layouts.{fixed_size_list_layout}
use Rattle.batch_reading.specs.Planned.{spots_inside}
use Rattle.batch_reading.proofs.Planning.{as_spots}
use Rattle.batch_reading.proofs.plan.plan_sized_lists.Goals as goal

pub returns : goal.returns
returns c = λ offsets values. record {
  nulls_are = c.in_ok-validity.ensures.nulls;
  validity_is = c.in_ok-validity.ensures.validity;
  offsets_is = c.new.ensures.items;
  values_is = c.new-2.ensures.items;
  inside_is =
      as_spots _ _ c.in_ok-sized_inside.field-0 c.in_ok-sized_inside.ensures
      (ap (spots_inside (fixed_size_list_layout c.args.size) []) (sym c.in_ok-validity.ensures.taken));
}
