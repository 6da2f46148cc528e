use Rattle.std.proofs.Common.{◌≤◌, sym, ap, ap₂, ◌∙◌, ◌*◌, subst, length, arith}
use Rattle.std.proofs.lemmas.List.FromFn.{length-range_with_len}
use Rattle.std.specs.List.{range_with_len, zip}
use Rattle.batch_types.specs.LaysOut.{values_limit}
use Rattle.batch_reading.specs.Spots.{DoRun, places_of, marks_of}
use Rattle.batch_reading.proofs.Running.{marks_long}
use Rattle.batch_reading.proofs.Sizing.{run_within}
use Rattle.batch_reading.proofs.Gathering.{run_count, scaled_places, scaled_rise_first, even_long, scaled_spots}
use Rattle.std.proofs.Common.{ℕ}
use Rattle.batch_reading.proofs.inside.fixed_inside.Goals as goal

pub overflow_mul-result : goal.overflow_mul-result
overflow_mul-result c =
    let few : c.args.selection.now.count ≤ c.requires.0 =
    omega (arith, run_count 0 c.requires.0 c.args.selection.now.runs.now c.requires.1.rising, c.requires.1.counted) in
    omega (arith, run_within c.args.size c.args.selection.now.count c.requires.0 values_limit few c.requires.2)

pub returns : goal.returns
returns c =
    let places = ap places_of c.in_ok-scaled_runs.ensures ∙ scaled_places c.args.size c.args.selection.now.runs.now in
    record {
      rising = (
        c.args.size * c.requires.0,
        subst (DoRun 0 (c.args.size * c.requires.0)) (sym c.in_ok-scaled_runs.ensures)
            (scaled_rise_first c.args.size c.requires.0 c.args.selection.now.runs.now c.requires.3 c.requires.1.rising),
      );
      counted =
          ap (λ n. c.args.size * n) c.requires.1.counted
          ∙ sym (even_long c.args.size (λ (p : ℕ). range_with_len (c.args.size * p) c.args.size) (λ p. length-range_with_len (c.args.size * p) c.args.size)
          (places_of c.args.selection.now.runs.now))
          ∙ ap length (sym places);
      marked = c.in_ok-repeated.ensures.marked;
      spots_are =
          ap₂ zip places c.in_ok-repeated.ensures.marks
          ∙ scaled_spots c.args.size (places_of c.args.selection.now.runs.now) (marks_of c.args.selection.now.count c.args.selection.now.there.now)
          (marks_long c.args.selection.now.count c.args.selection.now.there.now c.requires.1.marked ∙ c.requires.1.counted);
    }
