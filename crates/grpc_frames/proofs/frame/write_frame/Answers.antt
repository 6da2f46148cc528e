use Rattle.std.proofs.Common.{sym, subst, rules}
use Rattle.grpc_frames.specs.Frame.{frame_text}
use Rattle.grpc_frames.specs.FrameFaults.{WhereKnown, Writes}
use Rattle.grpc_frames.proofs.FrameParts.{frame_written, frame_cut, residual}
use Rattle.grpc_frames.proofs.frame.write_frame.Goals as goal

pub returns-in_err-put-clause-written : goal.returns-in_err-put-clause-written
returns-in_err-put-clause-written g c =
    let e = c.in_err-put.field-0.0 in
    subst (λ r. WhereKnown (g.W.Write.contents c.args.w.now) (g.W.Write.contents c.put.new.w) (Writes r (frame_text (record { flag = c.args.flag; payload = c.args.payload.now })))) (sym (residual c.from_residual.result e c.from_residual.ensures.1))
    (frame_cut _ _ c.args.flag c.to_be_bytes.result c.args.payload.now e c.to_be_bytes.ensures c.in_err-put.ensures.written)

pub returns-clause-written : goal.returns-clause-written
returns-clause-written g c =
    frame_written _ _ _ c.args.flag c.to_be_bytes.result c.args.payload.now _ c.to_be_bytes.ensures c.in_ok-put.ensures.written c.put-2.ensures.written

pub returns-in_err-put-clause-io : goal.returns-in_err-put-clause-io
returns-in_err-put-clause-io g c = search rules steps 300000

pub returns-clause-io : goal.returns-clause-io
returns-clause-io g c = search rules steps 300000
