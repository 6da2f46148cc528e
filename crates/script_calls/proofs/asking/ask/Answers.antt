use Rattle.script_calls.specs.Asking.{request_of}
use Rattle.script_calls.proofs.Heard.{told_received, told_requested}
use Rattle.script_calls.proofs.asking.ask.Goals as goal

pub returns-in-Ok-clause-sent : goal.returns-in-Ok-clause-sent
returns-in-Ok-clause-sent g c = λ q is.
    told_requested (request_of q) c.in-Ok.told (g.W.Write.contents c.args.w.now) (g.W.Write.contents c.answer.new.w) (c.in-Ok.ensures.sent q is)

pub returns-in-Ok-clause-told : goal.returns-in-Ok-clause-told
returns-in-Ok-clause-told g c = λ q is.
    told_received q c.in-Ok.told (g.R.Read.remaining c.args.r.now) (g.R.Read.remaining c.answer.new.r) (c.in-Ok.ensures.told q is)
