use Rattle.std.proofs.Common.{rules, arith, ◌≡◌, ◌<◌, length}
use Rattle.std.proofs.lemmas.Grind.{common_steps}
use Rattle.decided_log.proofs.Joining.{joined, in_prefix}
use Rattle.decided_log.proofs.steps.put.Goals as goal

pub returns-then-number-len-clause-kept : goal.returns-then-number-len-clause-kept
returns-then-number-len-clause-kept c = search rules steps 300000

pub returns-then-number-len-clause-inserts : goal.returns-then-number-len-clause-inserts
returns-then-number-len-clause-inserts c = search rules steps 300000

pub returns-then-number-len-clause-count : goal.returns-then-number-len-clause-count
returns-then-number-len-clause-count c = search rules steps 300000

pub returns-then-number-len-clause-capacity : goal.returns-then-number-len-clause-capacity
returns-then-number-len-clause-capacity c = search rules steps 300000

pub returns-then-number-len-clause-room : goal.returns-then-number-len-clause-room
returns-then-number-len-clause-room c = search rules steps 300000

pub returns-then-number-len-2-clause-kept : goal.returns-then-number-len-2-clause-kept
returns-then-number-len-2-clause-kept c = search rules steps 300000

pub returns-then-number-len-2-clause-count : goal.returns-then-number-len-2-clause-count
returns-then-number-len-2-clause-count c = search rules steps 300000

pub returns-then-number-len-2-clause-capacity : goal.returns-then-number-len-2-clause-capacity
returns-then-number-len-2-clause-capacity c = search rules steps 300000

pub returns-then-number-len-2-clause-room : goal.returns-then-number-len-2-clause-room
returns-then-number-len-2-clause-room c = search rules steps 300000

pub returns-else-number-len-2-clause-kept : goal.returns-else-number-len-2-clause-kept
returns-else-number-len-2-clause-kept c = search rules steps 300000

pub returns-else-number-len-2-clause-count : goal.returns-else-number-len-2-clause-count
returns-else-number-len-2-clause-count c = search rules steps 300000

pub returns-else-number-len-2-clause-capacity : goal.returns-else-number-len-2-clause-capacity
returns-else-number-len-2-clause-capacity c = search rules steps 300000

pub returns-else-number-len-2-clause-room : goal.returns-else-number-len-2-clause-room
returns-else-number-len-2-clause-room c = search rules steps 300000

pub returns-then-number-len-2-clause-inserts : goal.returns-then-number-len-2-clause-inserts
returns-then-number-len-2-clause-inserts c =
    let at_end : c.args.slot ≡ length c.args.prefix.now.items = grind (arith, common_steps) steps 600000 in
    joined c.args.prefix.now.items c.push_reserved.new.self.items c.advance_prefix.new.prefix.items c.args.later.now.entries c.advance_prefix.new.later.entries c.args.slot c.args.value c.push_reserved.ensures.items at_end c.requires.kept.gap c.advance_prefix.ensures.joins

pub returns-else-number-len-2-clause-inserts : goal.returns-else-number-len-2-clause-inserts
returns-else-number-len-2-clause-inserts c =
    let within : c.args.slot < length c.args.prefix.now.items = grind (arith, common_steps) steps 600000 in
    in_prefix c.args.prefix.now.items c.args.later.now.entries c.args.slot c.args.value within
