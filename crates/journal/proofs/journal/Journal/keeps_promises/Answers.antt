use Rattle.std.proofs.Common.{◌++◌, subst}
use Rattle.node_parts.specs.lawful_histories.specs.Lawful.{IsLawful}
use Rattle.node_parts.specs.histories.specs.History.{History}
use Rattle.node_parts.specs.safe_histories.specs.Safe.{IsSafe}
use Rattle.node_parts.specs.joined_histories.specs.Joined.{joined, Precedes}
use Rattle.node_parts.specs.traces.specs.Told.{config_of}
use Rattle.node_parts.specs.traces.specs.Traced.{history_of}
use Rattle.journal.specs.Journaled.{seats_in, Journaled, journaled}
use Rattle.journal.proofs.journal.Journal.keeps_promises.Goals as goal

pub returns-clause-lawful : goal.returns-clause-lawful
returns-clause-lawful g c =
    let view : Journaled = journaled g.J.Beginning.start c.self.inside.kept c.self.inside.progress c.self.inside.outrun in
    subst (λ (j : Journaled). (before : History) → Precedes (config_of j.trace.config) (seats_in j.start) before → IsLawful j.trace.config.members (before.sent ++ j.trace.sent)) c.self.view_is
    (λ before precedes.
    c.joined_replicas_agree.ensures.lawful (config_of view.trace.config) (seats_in view.start) c.self.invariant.0.0 before (history_of view.trace) view.recovered precedes c.self.invariant.0.1)

pub returns-clause-safe : goal.returns-clause-safe
returns-clause-safe g c =
    let view : Journaled = journaled g.J.Beginning.start c.self.inside.kept c.self.inside.progress c.self.inside.outrun in
    subst (λ (j : Journaled). (before : History) → Precedes (config_of j.trace.config) (seats_in j.start) before → IsSafe (joined before (history_of j.trace))) c.self.view_is
    (λ before precedes.
    c.joined_replicas_agree.ensures.safe (config_of view.trace.config) (seats_in view.start) c.self.invariant.0.0 before (history_of view.trace) view.recovered precedes c.self.invariant.0.1)
