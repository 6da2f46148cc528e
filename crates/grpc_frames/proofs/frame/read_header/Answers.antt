use Rattle.std.proofs.Common.{rules}
use Rattle.grpc_frames.proofs.FrameParts.{header_came}
use Rattle.grpc_frames.proofs.frame.read_header.Goals as goal

pub returns-in-5 : goal.returns-in-5
returns-in-5 g c = record {
  read = header_came _ _ c.fill.new.buf _ c.header_of.result c.fill.auto.buf c.in-5.is c.header_of.ensures.parts c.header_of.ensures.fits c.in_ok-fill.ensures.bytes;
}

pub returns-in_err-fill : goal.returns-in_err-fill
returns-in_err-fill g c = search rules steps 300000

pub returns-in-0 : goal.returns-in-0
returns-in-0 g c = search rules steps 300000

pub returns-in_default : goal.returns-in_default
returns-in_default g c = search rules steps 300000
