use Rattle.std.proofs.Common.{subst, ◌∙◌, List, ℕ}
use Rattle.std.proofs.lemmas.Result.{err_from_is_err_and}
use Rattle.grpc_frames.specs.FrameFaults.{WhereKnown}
use Rattle.table_types.specs.Served.{in_frame}
use Rattle.client_calls.specs.Requests.{opening_message}
use Rattle.client_calls.specs.Sending.{Sends}
use Rattle.client_calls.proofs.Sent.{nothing_sent}
use Rattle.client_calls.proofs.uploading.send_opening.Goals as goal

pub returns-in_err-message : goal.returns-in_err-message
returns-in_err-message g c = λ u is same.
    let p = err_from_is_err_and c.from_residual.result c.from_residual.ensures.1 in
    rw (p.1, p.2)
    (nothing_sent c.in_err-message.field-0.0 (in_frame (opening_message u)) (g.W.Write.contents c.args.w.now) (c.in_err-message.ensures u is same))

pub returns : goal.returns
returns g c = λ u is same.
    subst (λ (m : List ℕ). WhereKnown (g.W.Write.contents c.args.w.now) (g.W.Write.contents c.send_message.new.w) (Sends c.send_message.result (in_frame m)))
    (c.deref.ensures.value ∙ c.in_ok-message.ensures u is same) c.send_message.ensures
