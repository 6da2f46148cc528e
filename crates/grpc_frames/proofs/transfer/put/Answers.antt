use Rattle.std.proofs.Common.{rules, arith}
use Rattle.std.proofs.lemmas.Grind.{common_steps}
use Rattle.std.proofs.KnownBytes.{Appends-kept}
use Rattle.grpc_frames.specs.declared.fault.FrameFault.TheVariants.{Io}
use Rattle.grpc_frames.proofs.Transfers.{Appends-more, Writes-part}
use Rattle.grpc_frames.proofs.transfer.put.Goals as goal

pub returns-in-Ok-eq0-clause-written : goal.returns-in-Ok-eq0-clause-written
returns-in-Ok-eq0-clause-written g c =
    Writes-part _ _ _ _ Io (omega (arith, c.loop-at-test.true, c.in-Ok-eq0.field-0-test)) (Appends-more _ _ _ _ _ c.args.bytes.now c.loop-at.invariant.1 c.in-Ok-eq0.ensures.bytes)

pub loop-at-preserved : goal.loop-at-preserved
loop-at-preserved g c =
    (search rules, Appends-more _ _ _ _ _ c.args.bytes.now c.loop-at.invariant.1 c.in-Ok.ensures.bytes)

pub returns-in-Err-clause-written : goal.returns-in-Err-clause-written
returns-in-Err-clause-written g c =
    Writes-part _ _ c.loop-at.at _ Io (omega (arith, c.loop-at-test.true)) (Appends-kept _ _ _ _ c.loop-at.invariant.1 c.in-Err.ensures.bytes)

pub returns-in-Ok-eq0-clause-io : goal.returns-in-Ok-eq0-clause-io
returns-in-Ok-eq0-clause-io g c = search rules steps 300000

pub returns-in-Err-clause-io : goal.returns-in-Err-clause-io
returns-in-Err-clause-io g c = search rules steps 300000

pub returns-clause-written : goal.returns-clause-written
returns-clause-written g c = grind (arith, common_steps) steps 600000

pub returns-clause-io : goal.returns-clause-io
returns-clause-io g c = search rules steps 300000
