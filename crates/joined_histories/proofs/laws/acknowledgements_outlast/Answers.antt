use Rattle.std.proofs.Common.{◌+◌, length, map}
use Rattle.histories.specs.Event as event
use Rattle.histories.specs.EventResult as results
use Rattle.joined_histories.specs.Joined.{moved}
use Rattle.joined_histories.proofs.Places.{get_before, get_mapped}
use Rattle.joined_histories.proofs.laws.acknowledgements_outlast.Goals as goal

pub returns-clause-stands : goal.returns-clause-stands
returns-clause-stands c = λ config start seats before tail recovered i j k l number version text y upload precedes reaches is_text told le answered.
    let safe = c.joined_replicas_agree.ensures.safe config start seats before tail recovered precedes reaches in
    safe.acknowledged_stands_once i (length before.steps + j) k l number version text y upload is_text
    (get_before before.steps (map (moved (length before.sent)) tail.steps) i _ told) le
    (get_mapped (moved (length before.sent)) before.steps tail.steps j (record { event = event.Get l upload.table version; result = results.Answer y }) answered)

pub returns-clause-same : goal.returns-clause-same
returns-clause-same c = λ config start seats before tail recovered i j k l version table x y precedes reaches one other.
    let safe = c.joined_replicas_agree.ensures.safe config start seats before tail recovered precedes reaches in
    safe.same_ticket_same_bytes i (length before.steps + j) k l version table x y
    (get_before before.steps (map (moved (length before.sent)) tail.steps) i _ one)
    (get_mapped (moved (length before.sent)) before.steps tail.steps j (record { event = event.Get l table version; result = results.Answer y }) other)
