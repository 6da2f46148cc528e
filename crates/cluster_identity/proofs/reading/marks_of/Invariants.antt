use Rattle.std.proofs.Common.{map, take}
use Rattle.std.specs.List.{AllZip}
use Rattle.serde_json.specs.View.{view}
use Rattle.cluster_identity.specs.Identities.{TellsMark}
use Rattle.cluster_identity.proofs.reading.marks_of.Given as goal

abbrev pub invariant-loop-value : goal.invariant-loop-value
invariant-loop-value l = AllZip TellsMark (map view (take l.value-index l.fn.values)) l.marks.items
