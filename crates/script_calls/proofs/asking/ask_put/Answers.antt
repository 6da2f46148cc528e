use Rattle.std.proofs.Common.{ℕ, Ok}
use Rattle.std.proofs.lemmas.Result.{err_from_is_err_and}
use Rattle.client_calls.specs.Results.{GivesVersion, HasVersion}
use Rattle.client_calls.specs.Requests.{put_request}
use Rattle.script_calls.specs.declared.told.Told.{Told}
use Rattle.script_calls.specs.declared.told.Told.TheVariants as told
use Rattle.script_calls.specs.Asking.{puts, Tells, CanTell}
use Rattle.script_calls.proofs.Heard.{requested, request_stays, fault_stays, value_says}
use Rattle.script_calls.proofs.asking.ask_put.Goals as goal

pub returns-clause-sent : goal.returns-clause-sent
returns-clause-sent g c = λ u is same.
    requested (put_request u) c.in_ok-version.version (Ok (told.Put c.in_ok-version.version)) (g.W.Write.contents c.args.w.now) (g.W.Write.contents c.call_put.new.w) (c.in_ok-version.ensures.sent u is same)

pub returns-clause-told : goal.returns-clause-told
returns-clause-told g c = λ u is same.
    value_says (GivesVersion u.id) (HasVersion u.id) (Tells (puts u)) (CanTell (puts u)) (g.R.Read.remaining c.args.r.now) (g.R.Read.remaining c.call_put.new.r) c.in_ok-version.version
    (told.Put c.in_ok-version.version) (c.in_ok-version.ensures.told u is same) (λ messages gives. gives)

pub returns-in_err-version-clause-sent : goal.returns-in_err-version-clause-sent
returns-in_err-version-clause-sent g c = λ u is same.
    let p = err_from_is_err_and c.from_residual.result c.from_residual.ensures.1 in
    rw (p.1, p.2)
    (request_stays ℕ Told (put_request u) c.in_err-version.field-0.0 (g.W.Write.contents c.args.w.now) (g.W.Write.contents c.call_put.new.w) (c.in_err-version.ensures.sent u is same))

pub returns-in_err-version-clause-told : goal.returns-in_err-version-clause-told
returns-in_err-version-clause-told g c = λ u is same.
    let p = err_from_is_err_and c.from_residual.result c.from_residual.ensures.1 in
    rw (p.1, p.2)
    (fault_stays (GivesVersion u.id) (HasVersion u.id) (Tells (puts u)) (CanTell (puts u)) (g.R.Read.remaining c.args.r.now) (g.R.Read.remaining c.call_put.new.r) c.in_err-version.field-0.0
    (c.in_err-version.ensures.told u is same) (λ messages has. has))
