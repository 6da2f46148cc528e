use Rattle.std.proofs.Common.{rules}
use Rattle.grpc_frames.proofs.FrameParts.{header_parts}
use Rattle.grpc_frames.proofs.frame.header_of.Goals as goal

pub returns-clause-parts : goal.returns-clause-parts
returns-clause-parts c = header_parts c.args.bytes.now _ c.told-bytes c.fits-bytes c.from_be_bytes-len.ensures

pub returns-clause-fits : goal.returns-clause-fits
returns-clause-fits c = search rules steps 300000
