use Rattle.std.proofs.Common.{sym, refl, subst, [], ◌∷◌, ◌++◌}
use Rattle.ballots.specs.declared.record.Record.{Record}
use Rattle.acceptor.specs.AcceptorState.{AcceptorState, at, standing}
use Rattle.acceptor.specs.Ranges.{ranged_at}
use Rattle.acceptor.specs.Restored.{IsRestored}
use Rattle.acceptor.proofs.Restoring.{began_more, promised_more, accepted_more, promised_from_more}
use Rattle.acceptor.proofs.Promising.{raises_promise, raises_ranged}
use Rattle.acceptor.proofs.acceptor.Acceptor.apply.Goals as goal

pub returns-in-Began-clause-restored : goal.returns-in-Began-clause-restored
returns-in-Began-clause-restored c records is =
    subst (λ (r : Record). IsRestored (records ++ r ∷ []) (standing c.args.self.now)) (sym c.in-Began.is) (began_more records c.in-Began.field-0 _ is)

pub returns-in-Promised-clause-restored : goal.returns-in-Promised-clause-restored
returns-in-Promised-clause-restored c records is =
    rw c.in-Promised.is
    (promised_more records c.in-Promised.slot c.in-Promised.ballot _ _ (subst (λ (h : AcceptorState). IsRestored records (standing h)) (sym c.self.view_is) is)
    (raises_promise (at c.self.inside.promises.entries) (ranged_at c.self.inside.ranges.ranges) (at c.raise_promise.new.promises.entries) c.in-Promised.slot c.in-Promised.ballot c.raise_promise.ensures.raises)
    (λ s. refl))

pub returns-in-Accepted-clause-restored : goal.returns-in-Accepted-clause-restored
returns-in-Accepted-clause-restored c records is =
    rw c.in-Accepted.is
    (accepted_more records c.in-Accepted.slot c.in-Accepted.acceptance _ _ (subst (λ (h : AcceptorState). IsRestored records (standing h)) (sym c.self.view_is) is)
    (raises_promise (at c.self.inside.promises.entries) (ranged_at c.self.inside.ranges.ranges) (at c.raise_promise-in-Accepted.new.promises.entries) c.in-Accepted.slot c.in-Accepted.acceptance.ballot
    c.raise_promise-in-Accepted.ensures.raises)
    c.raise_acceptance.ensures.raises)

pub returns-in-Promised-clause-applies : goal.returns-in-Promised-clause-applies
returns-in-Promised-clause-applies c = rw (c.in-Promised.is, ← c.self.view_is) (
  raises_promise (at c.self.inside.promises.entries) (ranged_at c.self.inside.ranges.ranges) (at c.raise_promise.new.promises.entries) c.in-Promised.slot c.in-Promised.ballot
      c.raise_promise.ensures.raises,
  (λ s. refl),
)

pub returns-in-Accepted-clause-applies : goal.returns-in-Accepted-clause-applies
returns-in-Accepted-clause-applies c = rw (c.in-Accepted.is, ← c.self.view_is) (
  raises_promise (at c.self.inside.promises.entries) (ranged_at c.self.inside.ranges.ranges) (at c.raise_promise-in-Accepted.new.promises.entries) c.in-Accepted.slot c.in-Accepted.acceptance.ballot
      c.raise_promise-in-Accepted.ensures.raises,
  c.raise_acceptance.ensures.raises,
)

pub returns-in-PromisedFrom-clause-restored : goal.returns-in-PromisedFrom-clause-restored
returns-in-PromisedFrom-clause-restored c records is =
    rw c.in-PromisedFrom.is
    (promised_from_more records c.in-PromisedFrom.first c.in-PromisedFrom.ballot _ _ (subst (λ (h : AcceptorState). IsRestored records (standing h)) (sym c.self.view_is) is)
    (raises_ranged (at c.self.inside.promises.entries) (ranged_at c.self.inside.ranges.ranges) (ranged_at c.raise_from.new.self.ranges) c.in-PromisedFrom.first c.in-PromisedFrom.ballot
    c.raise_from.ensures.raises)
    (λ s. refl))

pub returns-in-PromisedFrom-clause-applies : goal.returns-in-PromisedFrom-clause-applies
returns-in-PromisedFrom-clause-applies c = rw (c.in-PromisedFrom.is, ← c.self.view_is) (
  raises_ranged (at c.self.inside.promises.entries) (ranged_at c.self.inside.ranges.ranges) (ranged_at c.raise_from.new.self.ranges) c.in-PromisedFrom.first c.in-PromisedFrom.ballot
      c.raise_from.ensures.raises,
  (λ s. refl),
)
