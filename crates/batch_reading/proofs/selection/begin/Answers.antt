use Rattle.std.proofs.Common.{◌<◌, ◌++◌, length, subst}
use Rattle.std.specs.List.{range_with_len}
use Rattle.batch_types.specs.LaysOut.{values_limit}
use Rattle.batch_reading.specs.Spots.{places_of}
use Rattle.std.proofs.Common.{drop}
use Rattle.batch_reading.proofs.Running.{run_there, some_left}
use Rattle.batch_reading.proofs.selection.begin.Goals as goal

pub returns-then-cursor-eq0-clause-some : goal.returns-then-cursor-eq0-clause-some
returns-then-cursor-eq0-clause-some c =
    (run_there c.args.runs.now c.args.cursor.now.run 0 values_limit _ c.requires.rising
    (some_left c.args.runs.now c.args.cursor.now.run
    (subst (λ n. 0 < length (range_with_len c.args.cursor.now.place n ++ places_of (drop c.args.cursor.now.run c.args.runs.now))) c.if-cursor-eq0.true c.requires.some))).0

pub returns-then-cursor-eq0-clause-within : goal.returns-then-cursor-eq0-clause-within
returns-then-cursor-eq0-clause-within c =
    (run_there c.args.runs.now c.args.cursor.now.run 0 values_limit _ c.requires.rising
    (some_left c.args.runs.now c.args.cursor.now.run
    (subst (λ n. 0 < length (range_with_len c.args.cursor.now.place n ++ places_of (drop c.args.cursor.now.run c.args.runs.now))) c.if-cursor-eq0.true c.requires.some))).1
