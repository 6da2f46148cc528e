use Rattle.std.proofs.Common.{◌≡◌, ◌+◌, ◌∷◌, [], arith, rules}
use Rattle.std.proofs.lemmas.Grind.{common_steps}
use Rattle.decided_log.specs.Asked.{decided_messages}
use Rattle.decided_log.proofs.Asking.{next_message}
use Rattle.decided_log.proofs.copies.decided_from.Goals as goal

pub loop-k-preserved : goal.loop-k-preserved
loop-k-preserved c =
    let one : decided_messages c.args.node (c.args.first + c.loop-k.k) (c.index-values-k.result ∷ []) ≡ c.in_ok-decided.field-0 ∷ [] = rw (← c.number.ensures.value) c.in_ok-decided.ensures in
    rw c.in_ok-push.ensures.items
    (next_message c.args.node c.args.first c.loop-k.k c.args.values.now c.index-values-k.result _ _ c.loop-k-test.true c.index-values-k.is c.loop-k.invariant one)

pub returns-in_err-decided-clause-messages : goal.returns-in_err-decided-clause-messages
returns-in_err-decided-clause-messages c = search rules steps 300000

pub returns-in_err-decided-clause-memory : goal.returns-in_err-decided-clause-memory
returns-in_err-decided-clause-memory c = search rules steps 300000

pub returns-in_err-push-clause-messages : goal.returns-in_err-push-clause-messages
returns-in_err-push-clause-messages c = grind (arith, common_steps) steps 600000

pub returns-in_err-push-clause-memory : goal.returns-in_err-push-clause-memory
returns-in_err-push-clause-memory c = grind (arith, common_steps) steps 600000

pub returns-clause-messages : goal.returns-clause-messages
returns-clause-messages c = grind (arith, common_steps) steps 600000

pub returns-clause-memory : goal.returns-clause-memory
returns-clause-memory c = search rules steps 300000
