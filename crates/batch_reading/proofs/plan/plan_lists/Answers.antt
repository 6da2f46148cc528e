use Rattle.std.proofs.Common.{ap, ◌∙◌, map, length, sym}
use Rattle.batch_types.specs.Canonical.{offsets_of}
use Rattle.batch_types.specs.Layouts.{list_layout}
use Rattle.batch_reading.specs.Planned.{elements_taken, spots_inside}
use Rattle.batch_reading.proofs.Planning.{as_spots}
use Rattle.batch_reading.proofs.plan.plan_lists.Goals as goal

pub returns : goal.returns
returns c = λ values. record {
  nulls_are = c.in_ok-validity.ensures.nulls;
  validity_is = c.in_ok-validity.ensures.validity;
  offsets_is =
      c.in_ok-offsets.ensures.offsets
      ∙ ap (λ taken. offsets_of 4 (map (λ spot. length (elements_taken c.args.offsets.now spot)) taken)) c.in_ok-validity.ensures.taken;
  values_is = c.new.ensures.items;
  inside_is =
      as_spots _ _ c.in_ok-offsets.inside c.in_ok-offsets.ensures.inside
      (ap (spots_inside (list_layout 4) c.args.offsets.now) (sym c.in_ok-validity.ensures.taken));
}
