use Rattle.std.proofs.Common.{◌+◌, refl, arith}
use Rattle.batch_reading.proofs.Gathering.{gathered_count, longer_places, longer_gathered, next_gathered}
use Rattle.batch_reading.proofs.inside.put_places.Goals as goal

pub overflow_add-spans-then-spans-start-2 : goal.overflow_add-spans-then-spans-start-2
overflow_add-spans-then-spans-start-2 c =
    omega (arith, gathered_count c.requires.kept.0 c.args.spans.now c.requires.kept.1, c.requires.kept.2, c.requires.within)

pub returns-then-spans-start-clause-places : goal.returns-then-spans-start-clause-places
returns-then-spans-start-clause-places c =
    longer_places c.requires.kept.0 c.args.start c.args.count c.args.spans.now
    (record {
      runs = c.args.spans.now.runs;
      last = record { start = c.args.spans.now.last.start; count = c.args.spans.now.last.count + c.args.count };
      count = c.args.spans.now.count + c.args.count;
    })
    c.requires.kept.1 c.if-spans-start.true refl refl refl refl

pub returns-then-spans-start-clause-kept : goal.returns-then-spans-start-clause-kept
returns-then-spans-start-clause-kept c =
    longer_gathered c.requires.kept.0 c.args.start c.args.count c.args.spans.now
    (record {
      runs = c.args.spans.now.runs;
      last = record { start = c.args.spans.now.last.start; count = c.args.spans.now.last.count + c.args.count };
      count = c.args.spans.now.count + c.args.count;
    })
    c.requires.kept.1 c.if-spans-start.true refl refl refl refl

pub overflow_add-spans-2 : goal.overflow_add-spans-2
overflow_add-spans-2 c =
    omega (arith, gathered_count c.requires.kept.0 c.args.spans.now c.requires.kept.1, c.requires.kept.2, c.requires.within)

pub returns-clause-kept : goal.returns-clause-kept
returns-clause-kept c =
    next_gathered c.requires.kept.0 c.args.start c.args.count c.args.spans.now _ c.requires.kept.1 c.requires.kept.2
    c.in_ok-close.ensures.places c.in_ok-close.ensures.rising refl refl refl
