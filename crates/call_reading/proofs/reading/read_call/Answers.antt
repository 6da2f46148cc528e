use Rattle.call_reading.proofs.Calls.{call_read}
use Rattle.call_reading.proofs.reading.read_call.Goals as goal

pub returns : goal.returns
returns g c =
    call_read c.in_ok-method.method c.read_messages.result (g.R.Read.remaining c.args.r.now) (g.R.Read.remaining c.read_method.new.r) (g.R.Read.remaining c.read_messages.new.r)
    c.in_ok-method.ensures c.read_messages.ensures
