use Rattle.std.proofs.Common.{Ok, take}
use Rattle.std.specs.List.{flat_map}
use Rattle.grpc_frames.specs.FrameFaults.{WhereKnown}
use Rattle.header_types.specs.Views.{schema_of}
use Rattle.json_client.specs.Prints.{Prints, rows_served}
use Rattle.json_client.proofs.printing.write_uploads.Given as goal

abbrev pub invariant-loop-upload : goal.invariant-loop-upload
invariant-loop-upload g l =
    WhereKnown (g.O.Write.contents l.initial.out) (g.O.Write.contents l.out) (Prints (schema_of l.schema).fields (flat_map rows_served (take l.upload-index l.uploads)) (Ok tt))
