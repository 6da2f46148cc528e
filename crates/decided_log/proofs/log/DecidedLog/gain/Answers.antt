use Rattle.std.proofs.Common.{◌≡◌, ◌≢◌, length, arith, inr, rules}
use Rattle.std.proofs.lemmas.Grind.{common_steps}
use Rattle.decided_log.proofs.Lookups.{if_ok, on_any_err}
use Rattle.decided_log.proofs.Gaining.{gained, gained_none, ends_there}
use Rattle.decided_log.proofs.log.DecidedLog.gain.Goals as goal

pub returns-clause-gain : goal.returns-clause-gain
returns-clause-gain c =
    let at_end : c.args.slot ≡ length c.self.inside.prefix.items = grind (arith, common_steps) steps 600000 in
    rw (← c.self.view_is)
    (if_ok c.prefix_growth.result (λ values is. gained c.self.inside.prefix.items c.self.inside.later.entries c.reserve-2.new.self.entries _ c.args.slot c.args.value.now c.self.invariant c.in_ok-reserve-2.ensures.entries at_end values.items is) c.prefix_growth.ensures)

pub returns-clause-memory : goal.returns-clause-memory
returns-clause-memory c =
    let at_end : c.args.slot ≡ length c.self.inside.prefix.items = grind (arith, common_steps) steps 600000 in
    rw (← c.self.view_is)
    (on_any_err c.prefix_growth.result (λ before is_before. inr (ends_there c.self.inside.prefix.items c.self.inside.later.entries _ c.args.slot c.self.invariant at_end before is_before)))

pub invariant_of-self : goal.invariant_of-self
invariant_of-self c = search rules steps 300000

pub returns-in_err-reserve-clause-gain : goal.returns-in_err-reserve-clause-gain
returns-in_err-reserve-clause-gain c = search rules steps 300000

pub returns-in_err-reserve-clause-ready : goal.returns-in_err-reserve-clause-ready
returns-in_err-reserve-clause-ready c = search rules steps 300000

pub returns-in_err-reserve-clause-same : goal.returns-in_err-reserve-clause-same
returns-in_err-reserve-clause-same c = search rules steps 300000

pub returns-in_err-reserve-clause-node : goal.returns-in_err-reserve-clause-node
returns-in_err-reserve-clause-node c = search rules steps 300000

pub returns-in_err-reserve-clause-room : goal.returns-in_err-reserve-clause-room
returns-in_err-reserve-clause-room c = search rules steps 300000

pub returns-in_err-reserve-clause-memory : goal.returns-in_err-reserve-clause-memory
returns-in_err-reserve-clause-memory c = search rules steps 300000

pub invariant_of-self-in_err-reserve-2 : goal.invariant_of-self-in_err-reserve-2
invariant_of-self-in_err-reserve-2 c = search rules steps 300000

pub returns-in_err-reserve-2-clause-gain : goal.returns-in_err-reserve-2-clause-gain
returns-in_err-reserve-2-clause-gain c = search rules steps 300000

pub returns-in_err-reserve-2-clause-ready : goal.returns-in_err-reserve-2-clause-ready
returns-in_err-reserve-2-clause-ready c = search rules steps 300000

pub returns-in_err-reserve-2-clause-same : goal.returns-in_err-reserve-2-clause-same
returns-in_err-reserve-2-clause-same c = search rules steps 300000

pub returns-in_err-reserve-2-clause-node : goal.returns-in_err-reserve-2-clause-node
returns-in_err-reserve-2-clause-node c = search rules steps 300000

pub returns-in_err-reserve-2-clause-room : goal.returns-in_err-reserve-2-clause-room
returns-in_err-reserve-2-clause-room c = grind (arith, common_steps) steps 600000

pub returns-in_err-reserve-2-clause-memory : goal.returns-in_err-reserve-2-clause-memory
returns-in_err-reserve-2-clause-memory c = search rules steps 300000

pub invariant_of-self-then-number-len : goal.invariant_of-self-then-number-len
invariant_of-self-then-number-len c = search rules steps 300000

pub returns-then-number-len-clause-ready : goal.returns-then-number-len-clause-ready
returns-then-number-len-clause-ready c = grind (arith, common_steps) steps 600000

pub returns-then-number-len-clause-same : goal.returns-then-number-len-clause-same
returns-then-number-len-clause-same c = search rules steps 300000

pub returns-then-number-len-clause-node : goal.returns-then-number-len-clause-node
returns-then-number-len-clause-node c = grind (arith, common_steps) steps 600000

pub returns-then-number-len-clause-room : goal.returns-then-number-len-clause-room
returns-then-number-len-clause-room c = grind (arith, common_steps) steps 600000

pub returns-then-number-len-clause-memory : goal.returns-then-number-len-clause-memory
returns-then-number-len-clause-memory c = search rules steps 300000

pub invariant_of-self-2 : goal.invariant_of-self-2
invariant_of-self-2 c = search rules steps 300000

pub returns-clause-ready : goal.returns-clause-ready
returns-clause-ready c = grind (arith, common_steps) steps 600000

pub returns-clause-same : goal.returns-clause-same
returns-clause-same c = search rules steps 300000

pub returns-clause-node : goal.returns-clause-node
returns-clause-node c = grind (arith, common_steps) steps 600000

pub returns-clause-room : goal.returns-clause-room
returns-clause-room c = grind (arith, common_steps) steps 600000

pub returns-then-number-len-clause-gain : goal.returns-then-number-len-clause-gain
returns-then-number-len-clause-gain c =
    let apart : c.args.slot ≢ length c.self.inside.prefix.items = grind (arith, common_steps) steps 600000 in
    rw (← c.self.view_is, c.new.ensures.items)
    (gained_none c.self.inside.prefix.items c.self.inside.later.entries _ c.args.slot c.args.value.now c.self.invariant apart)
