use Rattle.std.proofs.Common.{◌↔◌, inl}
use Rattle.seats.specs.parts.agreement_rules.specs.Views.{HasPrefix}
use Rattle.seats.specs.parts.histories.specs.History.{History}
use Rattle.seats.specs.parts.safe_histories.specs.Learning.{Runs, HasLearnedPrefix}
use Rattle.seats.specs.Steps.{IsDown}
use Rattle.journal_conformance.proofs.Beginnings.{alone}
use Rattle.journal_conformance.proofs.from_nothing.is_shown.Goals as goal

pub returns-clause-agrees : goal.returns-clause-agrees
returns-clause-agrees g c = (
  λ is. (c.agrees.ensures.agrees.0 is).0,
  λ agree. c.agrees.ensures.agrees.1 (agree, inl (c.keeps_as_named.ensures, c.starts_as_named.ensures.whole)),
)

pub returns-clause-runs : goal.returns-clause-runs
returns-clause-runs g c = λ is.
    alone c.nothing_precedes_the_start.ensures.precedes c.nothing_precedes_the_start.ensures.joined c.args.journal.now c.starts_as_named.ensures.start
    (λ (history : History). (IsDown {S = g.row.S.Denot} c.args.seat.now → ⊥) ↔ Runs c.args.seat.now.node.me history.steps)
    (c.agrees.ensures.runs is)

pub returns-clause-prefix : goal.returns-clause-prefix
returns-clause-prefix g c = λ is views values led.
    alone c.nothing_precedes_the_start.ensures.precedes c.nothing_precedes_the_start.ensures.joined c.args.journal.now c.starts_as_named.ensures.start
    (λ (history : History). HasPrefix c.args.seat.now.node.config.members views.learner_calls values
    ↔ HasLearnedPrefix c.args.seat.now.node.config.members history.sent history.steps c.args.seat.now.node.me values)
    (λ before precedes. c.agrees.ensures.prefix is before views values precedes led)
