use Rattle.std.proofs.Common.{◌≡◌, ◌<◌, length, map, Bor, option_map, arith}
use Rattle.ballots.specs.declared.acceptance.Acceptance.{Acceptance}
use Rattle.proposer.specs.Kept.{reports_in}
use Rattle.proposer.proofs.Keeping.{seen_more, seen_all, item_in, as_many}
use Rattle.proposer.proofs.ahead.seen.Goals as goal

pub loop-reports-preserved : goal.loop-reports-preserved
loop-reports-preserved c =
    let within : c.loop-reports.reports-index < length c.args.kept.now = omega (arith, c.loop-reports-test.true, c.loop-reports.auto.reports-index-end) in
    seen_more c.args.slot (map reports_in c.args.kept.now) c.loop-reports.reports-index (reports_in c.reports-item.result)
    (option_map (λ (report : Bor Acceptance). report.now) c.loop-reports.highest) (option_map (λ (report : Bor Acceptance). report.now) c.higher_report-highest.result) (option_map (λ (report : Bor Acceptance). report.now) c.at.result)
    c.loop-reports.invariant (omega (arith, within, as_many c.args.kept.now))
    (item_in c.args.kept.now c.loop-reports.reports-index c.reports-item.result within c.reports-item.is)
    c.at.ensures c.higher_report-highest.ensures

pub returns : goal.returns
returns c = λ rise.
    let end : c.loop-reports.reports-index ≡ length (map reports_in c.args.kept.now) = omega (arith, c.loop-reports-test.false, c.loop-reports.auto.reports-index-end, as_many c.args.kept.now) in
    c.value_or.ensures _
    (seen_all c.args.slot (map reports_in c.args.kept.now) c.loop-reports.reports-index (option_map (λ (report : Bor Acceptance). report.now) c.loop-reports.highest) c.loop-reports.invariant end rise)
