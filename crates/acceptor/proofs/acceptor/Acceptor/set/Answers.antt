use Rattle.std.proofs.Common.{Some, sym, subst, rules}
use Rattle.ballots.specs.Ballot.{IsAtLeast}
use Rattle.acceptor.specs.AcceptorState.{AcceptorState, at, promised_at, accepted_at, standing}
use Rattle.acceptor.specs.Standing.{IsSame}
use Rattle.acceptor.specs.Ranges.{higher, ranged_at}
use Rattle.acceptor.proofs.Promising.{set_after, sets_promise}
use Rattle.acceptor.proofs.acceptor.Acceptor.set.Goals as goal

pub returns-in_err-reserve-clause-ok : goal.returns-in_err-reserve-clause-ok
returns-in_err-reserve-clause-ok c = search rules steps 300000

pub returns-in_err-reserve-clause-err : goal.returns-in_err-reserve-clause-err
returns-in_err-reserve-clause-err c = search rules steps 300000

pub returns-clause-ok : goal.returns-clause-ok
returns-clause-ok c =
    let own = at c.self.inside.promises.entries in
    let ranged = ranged_at c.self.inside.ranges.ranges in
    let same = subst (λ (state : AcceptorState). IsSame (standing c.args.self.now) (standing state)) (sym c.self.view_is) c.reserve.ensures.same in
    let more = subst (IsAtLeast c.args.granted.ballot) (sym (same.promises c.args.slot)) c.requires in
    record {
      promises = set_after (promised_at c.args.self.now) (λ slot. higher (own slot) (ranged slot)) (λ slot. higher (at c.put_promise.new.promises.entries slot) (ranged slot))
          c.args.slot (Some c.args.granted.ballot) same.promises
          (sets_promise own ranged (at c.put_promise.new.promises.entries) c.args.slot c.args.granted.ballot c.put_promise.ensures.puts more);
      acceptances = set_after (accepted_at c.args.self.now) (at c.self.inside.acceptances.entries) (at c.put_acceptance.new.acceptances.entries) c.args.slot (Some c.args.granted) same.acceptances
          c.put_acceptance.ensures.puts;
    }

pub returns-clause-err : goal.returns-clause-err
returns-clause-err c = search rules steps 300000
