use Rattle.std.proofs.Common.{refl, ◌+◌, List, arith}
use Rattle.batch_reading.specs.Spots.{Spot}
use Rattle.batch_lengths.specs.Along.{run_spots}
use Rattle.batch_lengths.proofs.Between.{reads_less, between_run, counted_fits}
use Rattle.batch_lengths.proofs.Steps.{next_counted, next_fits}
use Rattle.batch_lengths.proofs.run.count_each.Goals as goal

pub loop-place-init : goal.loop-place-init
loop-place-init c = (0, omega arith, record { nulls = refl; lengths = refl })

pub count_one-requires : goal.count_one-requires
count_one-requires c =
    reads_less c.args.source.now (c.loop-place.place + 1) (c.args.start + c.args.count) (omega arith) c.requires

pub with-counted-requires : goal.with-counted-requires
with-counted-requires c =
    let (done, at, before) = c.loop-place.invariant in
    next_fits c.args.source.now (λ (l : List Spot). l) (λ xs ys. refl) c.args.start done c.loop-place.place at c.loop-place.counted c.count_one.result before c.count_one.ensures
    (λ more of.
    counted_fits c.args.source.now c.args.start (c.args.start + c.args.count) (run_spots c.args.start (done + 1)) more c.requires
    (between_run c.args.start (done + 1) (c.args.start + c.args.count) (omega arith)) of)

pub loop-place-preserved : goal.loop-place-preserved
loop-place-preserved c =
    let (done, at, before) = c.loop-place.invariant in (
      done + 1,
      omega arith,
      next_counted c.args.source.now (λ (l : List Spot). l) (λ xs ys. refl) c.args.start done c.loop-place.place at c.loop-place.counted c.count_one.result before c.count_one.ensures
          c.with-counted.result c.with-counted.ensures.nulls c.with-counted.ensures.lengths,
    )
