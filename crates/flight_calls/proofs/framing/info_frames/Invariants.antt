use Rattle.std.proofs.Common.{map, take}
use Rattle.flight_calls.specs.Describing.{message_of}
use Rattle.flight_calls.proofs.Frames.{Framed}
use Rattle.flight_calls.proofs.framing.info_frames.Given as goal

abbrev pub invariant-loop-described : goal.invariant-loop-described
invariant-loop-described l = Framed (map message_of (take l.described-index l.all)) l.frames.items
