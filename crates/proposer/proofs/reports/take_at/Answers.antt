use Rattle.std.proofs.Common.{sym}
use Rattle.proposer.proofs.Rising.{none_there, taken_is, taken_rest}
use Rattle.proposer.proofs.reports.take_at.Goals as goal

pub returns-in_err-front_at-clause-rest : goal.returns-in_err-front_at-clause-rest
returns-in_err-front_at-clause-rest c = λ rises.
    sym (none_there c.args.slot c.args.ahead.now.items rises (sym (c.in_err-front_at.ensures rises)))

pub returns-clause-value : goal.returns-clause-value
returns-clause-value c = λ rises.
    taken_is c.args.slot c.args.ahead.now.items c.pop_front.new.self.items (c.in_ok-report.field-0-0, c.in_ok-report.report) c.in_ok-front_at.field-0.now c.in_ok-report.ensures.items rises (c.in_ok-front_at.ensures rises)

pub returns-clause-rest : goal.returns-clause-rest
returns-clause-rest c = λ rises.
    taken_rest c.args.slot c.args.ahead.now.items c.pop_front.new.self.items (c.in_ok-report.field-0-0, c.in_ok-report.report) c.in_ok-front_at.field-0.now c.in_ok-report.ensures.items rises (c.in_ok-front_at.ensures rises)
