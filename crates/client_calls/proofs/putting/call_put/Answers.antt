use Rattle.std.proofs.Common.{ℕ, List, subst}
use Rattle.grpc_frames.specs.FrameFaults.{WhereKnown}
use Rattle.client_calls.specs.Answers.{Receives}
use Rattle.client_calls.specs.Requests.{put_request}
use Rattle.client_calls.specs.Results.{GivesVersion, HasVersion}
use Rattle.client_calls.proofs.Called.{requested, not_requested, nothing_read}
use Rattle.client_calls.proofs.putting.call_put.Goals as goal

pub returns-clause-sent : goal.returns-clause-sent
returns-clause-sent g c = λ u is same.
    requested ℕ (put_request u) c.read_version.result (g.W.Write.contents c.args.w.now) (g.W.Write.contents c.send_put_request.new.w) (c.in_default.ensures u is same)

pub returns-clause-told : goal.returns-clause-told
returns-clause-told g c = λ u is same.
    subst (λ (id : List ℕ). WhereKnown (g.R.Read.remaining c.args.r.now) (g.R.Read.remaining c.read_version.new.r) (Receives (GivesVersion id) (HasVersion id) c.read_version.result))
    (c.id-id.ensures u is same) c.read_version.ensures

pub returns-in-Err-clause-sent : goal.returns-in-Err-clause-sent
returns-in-Err-clause-sent g c = λ u is same.
    not_requested ℕ (put_request u) c.in-Err.fault (g.W.Write.contents c.args.w.now) (g.W.Write.contents c.send_put_request.new.w) (c.in-Err.ensures u is same)

pub returns-in-Err-clause-told : goal.returns-in-Err-clause-told
returns-in-Err-clause-told g c = λ u is same. nothing_read (GivesVersion u.id) (HasVersion u.id) c.in-Err.fault (g.R.Read.remaining c.args.r.now)
