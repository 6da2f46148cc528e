use Rattle.std.proofs.Common.{refl, subst, ◌∙◌, [], List, ℕ}
use Rattle.grpc_frames.specs.FrameFaults.{WhereKnown}
use Rattle.table_types.specs.Served.{in_frame, data_text}
use Rattle.call_protocol.specs.declared.call_fault.CallFault.TheVariants as calls
use Rattle.client_calls.specs.Sending.{Sends}
use Rattle.client_calls.proofs.Sent.{nothing_sent}
use Rattle.client_calls.proofs.uploading.send_batch.Goals as goal

pub returns-in_default : goal.returns-in_default
returns-in_default g c = nothing_sent calls.OutOfMemory (in_frame (data_text c.args.header.now [] c.args.body.now)) (g.W.Write.contents c.args.w.now) refl

pub returns : goal.returns
returns g c =
    subst (λ (m : List ℕ). WhereKnown (g.W.Write.contents c.args.w.now) (g.W.Write.contents c.send_message.new.w) (Sends c.send_message.result (in_frame m)))
    (c.deref.ensures.value ∙ c.in-Ok.ensures) c.send_message.ensures
