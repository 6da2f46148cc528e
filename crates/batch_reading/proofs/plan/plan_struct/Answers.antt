use Rattle.std.proofs.Common.{sym, ap, ◌∙◌, subst, map, length}
use Rattle.batch_reading.specs.Spots.{DoRun, places_of, spots_of, spots_at}
use Rattle.batch_reading.specs.Taken.{seen}
use Rattle.batch_reading.proofs.Planning.{same_in_struct}
use Rattle.batch_reading.proofs.plan.plan_struct.Goals as goal

pub returns : goal.returns
returns c = λ offsets values. record {
  nulls_are = c.in_ok-validity.ensures.nulls;
  validity_is = c.in_ok-validity.ensures.validity;
  offsets_is = c.new.ensures.items;
  values_is = c.new-2.ensures.items;
  inside_is = record {
    rising = (c.requires.0, subst (DoRun 0 c.requires.0) (sym c.in_ok-same_runs.ensures) c.requires.1.rising);
    counted = c.requires.1.counted ∙ ap (λ runs. length (places_of runs)) (sym c.in_ok-same_runs.ensures);
    marked = c.in_ok-validity.ensures.marked;
    spots_are =
        ap (λ runs. spots_at runs c.args.selection.now.count c.in_ok-validity.field-0.taken) c.in_ok-same_runs.ensures
        ∙ c.in_ok-validity.ensures.taken
        ∙ sym (same_in_struct offsets (map (seen c.args.validity.now) (spots_of c.args.selection.now)));
  };
}
