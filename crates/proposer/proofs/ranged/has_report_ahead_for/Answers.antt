use Rattle.std.proofs.Common.{◌≡◌, false, true, sym, ◌∙◌}
use Rattle.proposer.proofs.Further.{ahead_then, then_ahead, some_next, next_some}
use Rattle.proposer.proofs.ranged.has_report_ahead_for.Goals as goal

pub returns-then-is_some : goal.returns-then-is_some
returns-then-is_some c = λ members calls holds.
    let next = some_next members calls c.next_for.result (sym c.is_some.ensures ∙ c.if-is_some.true) (c.next_for.ensures members calls holds) in (
      λ yes. then_ahead members calls c.args.attempt.now holds next.0 next.1 (c.has_reports.ensures.0 yes),
      λ report. c.has_reports.ensures.1 (ahead_then members calls c.args.attempt.now holds report),
    )

pub returns-else-is_some : goal.returns-else-is_some
returns-else-is_some c = λ members calls holds. (
  λ yes. let no : true ≡ false = sym yes ∙ c.if-is_some.false in absurd (cc),
  λ report. c.is_some.ensures ∙ next_some members calls c.next_for.result (c.next_for.ensures members calls holds) report.next report.may,
)
