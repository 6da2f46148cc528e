use Rattle.std.proofs.Common.{sym, subst, List, [], ◌∷◌, ◌++◌}
use Rattle.ballots.specs.declared.record.Record.{Record}
use Rattle.acceptor.specs.AcceptorState.{standing}
use Rattle.acceptor.specs.Restored.{IsRestored}
use Rattle.acceptor.proofs.Restoring.{restored_as_before}
use Rattle.acceptor.proofs.acceptor.Acceptor.apply_copy.Goals as goal

pub returns : goal.returns
returns c records is =
    subst (λ (r : Record). IsRestored (records ++ r ∷ []) (standing c.apply.new.self)) c.in_ok-copy.ensures
    (c.apply.ensures.restored records (restored_as_before records _ _ c.in_ok-reserve.ensures.same is))
