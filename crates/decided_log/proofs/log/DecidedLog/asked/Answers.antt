use Rattle.std.proofs.Common.{◌≡◌, ◌∙◌, length, arith, rules}
use Rattle.std.proofs.lemmas.Grind.{common_steps}
use Rattle.decided_log.proofs.Lookups.{if_ok, on_err}
use Rattle.decided_log.proofs.Asking.{answered, counted, some_asked}
use Rattle.decided_log.proofs.log.DecidedLog.asked.Goals as goal

pub returns-clause-messages : goal.returns-clause-messages
returns-clause-messages c =
    let len_is : c.len-len.result ≡ length c.self.inside.prefix.items = grind (arith, common_steps) steps 600000 in
    rw (← c.self.view_is)
    (if_ok c.decided_from.result (λ messages are before is_before. are ∙ answered c.self.inside.prefix.items c.self.inside.later.entries _ c.self.invariant c.self.inside.node c.args.from c.number.result _ _ _ _ c.deref.ensures.value len_is c.number.ensures.value c.min-start.ensures c.min-end.ensures before is_before) c.decided_from.ensures.messages)

pub returns-clause-count : goal.returns-clause-count
returns-clause-count c =
    let len_is : c.len-len.result ≡ length c.self.inside.prefix.items = grind (arith, common_steps) steps 600000 in
    rw (← c.self.view_is)
    (if_ok c.decided_from.result (λ messages are before is_before. counted c.self.inside.prefix.items c.self.inside.later.entries _ c.self.invariant c.self.inside.node c.args.from c.number.result _ _ _ _ c.deref.ensures.value len_is c.number.ensures.value c.min-start.ensures c.min-end.ensures before is_before messages.items are) c.decided_from.ensures.messages)

pub returns-clause-memory : goal.returns-clause-memory
returns-clause-memory c =
    let len_is : c.len-len.result ≡ length c.self.inside.prefix.items = grind (arith, common_steps) steps 600000 in
    rw (← c.self.view_is)
    (on_err c.decided_from.result (λ some before is_before. some_asked c.self.inside.prefix.items c.self.inside.later.entries _ c.self.invariant c.self.inside.node c.args.from c.number.result _ _ _ _ c.deref.ensures.value len_is c.number.ensures.value c.min-start.ensures c.min-end.ensures before is_before some) c.decided_from.ensures.memory)

pub decided_from-requires : goal.decided_from-requires
decided_from-requires c = search rules steps 300000
