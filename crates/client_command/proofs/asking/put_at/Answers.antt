use Rattle.std.proofs.Common.{ℕ}
use Rattle.client_calls.specs.Results.{GivesVersion, HasVersion}
use Rattle.client_calls.specs.Requests.{put_request}
use Rattle.client_command.proofs.Called.{called, called_in_vain}
use Rattle.client_command.proofs.asking.put_at.Goals as goal

pub returns-in-Ok-told : goal.returns-in-Ok-told
returns-in-Ok-told g c = λ u is same.
    called {T = ℕ} c.args.address (put_request u) (GivesVersion u.id) (HasVersion u.id) (g.C.Connect.log c.args.connect.now) (g.C.Connect.log c.open.new.self) (g.C.Connect.log c.close.new.self)
    (g.C.Input.Read.remaining c.in-Ok.ends.0) (g.C.Input.Read.remaining c.call_put-told.new.r) (g.C.Output.Write.contents c.in-Ok.ends.1) (g.C.Output.Write.contents c.call_put-told.new.w)
    c.in-Ok.ensures.opened c.close.ensures c.in-Ok-told.version (c.in-Ok-told.ensures.sent u is same) (c.in-Ok-told.ensures.told u is same)

pub returns-in-Err-told : goal.returns-in-Err-told
returns-in-Err-told g c = λ u is same.
    called_in_vain {T = ℕ} c.args.address (put_request u) (GivesVersion u.id) (HasVersion u.id) (g.C.Connect.log c.args.connect.now) (g.C.Connect.log c.open.new.self) (g.C.Connect.log c.close.new.self)
    (g.C.Input.Read.remaining c.in-Ok.ends.0) (g.C.Input.Read.remaining c.call_put-told.new.r) (g.C.Output.Write.contents c.in-Ok.ends.1) (g.C.Output.Write.contents c.call_put-told.new.w)
    c.in-Ok.ensures.opened c.close.ensures c.in-Err-told.fault (c.in-Err-told.ensures.sent u is same) (c.in-Err-told.ensures.told u is same)
