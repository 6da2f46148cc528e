use Rattle.std.proofs.Common.{◌≡◌, ◌<◌, length, map, refl, arith}
use Rattle.proposer.specs.Kept.{reports_in}
use Rattle.proposer.proofs.Keeping.{some_at, none_more, none_at_all, item_in, as_many}
use Rattle.proposer.proofs.ahead.are_some.Goals as goal

pub returns-then-not-are_none : goal.returns-then-not-are_none
returns-then-not-are_none c =
    let within : c.loop-reports.reports-index < length c.args.kept.now = omega (arith, c.loop-reports-test.true, c.loop-reports.auto.reports-index-end) in (
      λ yes. some_at c.loop-reports.reports-index (map reports_in c.args.kept.now) (reports_in c.reports-item.result) (omega (arith, within, as_many c.args.kept.now))
          (item_in c.args.kept.now c.loop-reports.reports-index c.reports-item.result within c.reports-item.is)
          (λ none. let yes = c.are_none.ensures.1 none in absurd (cc)),
      λ some. refl,
    )

pub loop-reports-preserved : goal.loop-reports-preserved
loop-reports-preserved c =
    let within : c.loop-reports.reports-index < length c.args.kept.now = omega (arith, c.loop-reports-test.true, c.loop-reports.auto.reports-index-end) in
    none_more c.loop-reports.reports-index (map reports_in c.args.kept.now) (reports_in c.reports-item.result) (omega (arith, within, as_many c.args.kept.now))
    (item_in c.args.kept.now c.loop-reports.reports-index c.reports-item.result within c.reports-item.is)
    (c.are_none.ensures.0 c.if-not-are_none.false) c.loop-reports.invariant

pub returns : goal.returns
returns c =
    let end : c.loop-reports.reports-index ≡ length (map reports_in c.args.kept.now) = omega (arith, c.loop-reports-test.false, c.loop-reports.auto.reports-index-end, as_many c.args.kept.now) in (
      λ yes. absurd (cc),
      λ some. absurd (none_at_all c.loop-reports.reports-index (map reports_in c.args.kept.now) c.loop-reports.invariant end some),
    )
