use Rattle.std.proofs.Common.{◌+◌, length}
use Rattle.histories.specs.Event as event
use Rattle.histories.specs.EventResult as results
use Rattle.table_types.specs.Tables.{applied}
use Rattle.joined_histories.specs.Joined.{moved}
use Rattle.joined_histories.proofs.Places.{get_mapped}
use Rattle.joined_histories.proofs.laws.tails_are_safe.Goals as goal

pub returns-clause-tickets : goal.returns-clause-tickets
returns-clause-tickets c = λ config start seats before tail recovered precedes reaches i j k l version table x y one other.
    let safe = c.joined_replicas_agree.ensures.safe config start seats before tail recovered precedes reaches in
    safe.same_ticket_same_bytes (length before.steps + i) (length before.steps + j) k l version table x y
    (get_mapped (moved (length before.sent)) before.steps tail.steps i (record { event = event.Get k table version; result = results.Answer x }) one)
    (get_mapped (moved (length before.sent)) before.steps tail.steps j (record { event = event.Get l table version; result = results.Answer y }) other)

pub returns-clause-acknowledged : goal.returns-clause-acknowledged
returns-clause-acknowledged c = λ config start seats before tail recovered precedes reaches i j k l number version text y upload is_text told le answered.
    let safe = c.joined_replicas_agree.ensures.safe config start seats before tail recovered precedes reaches in
    safe.acknowledged_stands_once (length before.steps + i) (length before.steps + j) k l number version text y upload is_text
    (get_mapped (moved (length before.sent)) before.steps tail.steps i (record { event = event.Outcome k text; result = results.Outcome (applied number) }) told) le
    (get_mapped (moved (length before.sent)) before.steps tail.steps j (record { event = event.Get l upload.table version; result = results.Answer y }) answered)
