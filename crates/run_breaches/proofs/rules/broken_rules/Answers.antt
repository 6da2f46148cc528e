use Rattle.std.proofs.Common.{sym, subst}
use Rattle.ballots.specs.declared.message.Body.{Body}
use Rattle.run_breaches.specs.Rules.{BodyTells}
use Rattle.run_breaches.proofs.rules.broken_rules.Goals as goal

pub returns-in-Promise : goal.returns-in-Promise
returns-in-Promise c =
    let m = c.args.message.now in
    subst (λ (x : Body). BodyTells c.args.members m.slot c.args.before.now m.sender x c.broken_by_promise.result) (sym c.in-Promise.is) (c.broken_by_promise.ensures c.args.members)

pub returns-in-Accept : goal.returns-in-Accept
returns-in-Accept c =
    let m = c.args.message.now in
    subst (λ (x : Body). BodyTells c.args.members m.slot c.args.before.now m.sender x c.broken_by_accept.result) (sym c.in-Accept.is) (c.broken_by_accept.ensures m.sender)

pub returns-in-Accepted : goal.returns-in-Accepted
returns-in-Accepted c =
    let m = c.args.message.now in
    subst (λ (x : Body). BodyTells c.args.members m.slot c.args.before.now m.sender x c.broken_by_accepted.result) (sym c.in-Accepted.is) (c.broken_by_accepted.ensures c.args.members)

pub returns-in-Decided : goal.returns-in-Decided
returns-in-Decided c =
    let m = c.args.message.now in
    subst (λ (x : Body). BodyTells c.args.members m.slot c.args.before.now m.sender x c.broken_by_decided.result) (sym c.in-Decided.is) (c.broken_by_decided.ensures m.sender)
