use Rattle.flight_calls.proofs.Replying.{described_by}
use Rattle.flight_calls.proofs.responding.describe.Goals as goal

pub returns-in-Ok : goal.returns-in-Ok
returns-in-Ok g c =
    let b = g.B.Backend in
    described_by b.may_answer b.handed b.leaves b.stays c.args.b.now c.info.new.self c.info.ensures.same c.info.ensures.stays c.args.table.now c.in-Ok.described c.info_frame.result
    c.in-Ok.ensures.described c.info_frame.ensures
