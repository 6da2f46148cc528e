use Rattle.std.proofs.Common.{◌+◌, ◌<◌, sym, ap, ◌∙◌, subst, arith}
use Rattle.batch_reading.specs.Spots.{DoRun, places_of}
use Rattle.batch_reading.proofs.Running.{places_push}
use Rattle.batch_reading.proofs.Gathering.{run_push}
use Rattle.batch_reading.proofs.inside.close.Goals as goal

pub returns-clause-places : goal.returns-clause-places
returns-clause-places c = ap places_of c.in_ok-push.ensures.items ∙ places_push c.args.runs.now.items c.args.last

pub returns-clause-rising : goal.returns-clause-rising
returns-clause-rising c =
    let some : 0 < c.args.last.count = omega arith in
    subst (DoRun 0 (c.args.last.start + c.args.last.count)) (sym c.in_ok-push.ensures.items)
    (run_push 0 c.args.runs.now.items c.args.last c.requires some)
