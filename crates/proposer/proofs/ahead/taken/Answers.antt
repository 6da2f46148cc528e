use Rattle.std.proofs.Common.{◌≡◌, ◌<◌, ◌+◌, suc, IsTrue, length, map, sym, subst, arith}
use Rattle.std.proofs.lemmas.List.{map-set}
use Rattle.proposer.specs.declared.reports.Reports.{Reports as Left}
use Rattle.proposer.specs.Reporting.{report_of, rises_from}
use Rattle.proposer.specs.Kept.{reports_in, from_slot}
use Rattle.proposer.proofs.Keeping.{Taken, taken_more, taken_best, taken_left, item_in, as_many}
use Rattle.proposer.proofs.ahead.taken.Goals as goal

pub loop-reports-preserved : goal.loop-reports-preserved
loop-reports-preserved c =
    let within : c.loop-reports.reports-index < length c.loop-reports.kept = omega (arith, c.loop-reports-test.true, c.loop-reports.auto.reports-index-end) in
    subst (Taken c.args.slot c.args.choice (map reports_in c.args.kept.now) (c.loop-reports.reports-index + 1) c.higher_of-choice.result)
    (sym (map-set reports_in c.loop-reports.kept c.loop-reports.reports-index c.take.new.self))
    (taken_more c.args.slot c.args.choice (map reports_in c.args.kept.now) (map reports_in c.loop-reports.kept) c.loop-reports.reports-index c.loop-reports.choice c.higher_of-choice.result
    (reports_in c.reports-item.result) (reports_in c.take.new.self) c.take.result c.loop-reports.invariant (omega (arith, within, as_many c.loop-reports.kept))
    (item_in c.loop-reports.kept c.loop-reports.reports-index c.reports-item.result within c.reports-item.is)
    (subst (λ (r : Left). IsTrue (rises_from c.args.slot (reports_in r)) → c.take.result ≡ report_of c.args.slot (reports_in r)) (sym c.reports-item.is) c.take.ensures.value)
    (subst (λ (r : Left). IsTrue (rises_from c.args.slot (reports_in r)) → reports_in c.take.new.self ≡ from_slot (suc c.args.slot) (reports_in r)) (sym c.reports-item.is) c.take.ensures.rest)
    c.higher_of-choice.ensures)

pub returns-clause-best : goal.returns-clause-best
returns-clause-best c =
    let end : c.loop-reports.reports-index ≡ length (map reports_in c.args.kept.now) = omega (arith, c.loop-reports-test.false, c.loop-reports.auto.reports-index-end, c.loop-reports.invariant.long, as_many c.loop-reports.kept) in
    taken_best c.args.slot c.args.choice (map reports_in c.args.kept.now) (map reports_in c.loop-reports.kept) c.loop-reports.reports-index c.loop-reports.choice c.loop-reports.invariant end

pub returns-clause-kept : goal.returns-clause-kept
returns-clause-kept c =
    let end : c.loop-reports.reports-index ≡ length (map reports_in c.args.kept.now) = omega (arith, c.loop-reports-test.false, c.loop-reports.auto.reports-index-end, c.loop-reports.invariant.long, as_many c.loop-reports.kept) in
    taken_left c.args.slot c.args.choice (map reports_in c.args.kept.now) (map reports_in c.loop-reports.kept) c.loop-reports.reports-index c.loop-reports.choice c.loop-reports.invariant end
