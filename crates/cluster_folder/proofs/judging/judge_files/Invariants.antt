use Rattle.std.proofs.Common.{option_map}
use Rattle.cluster_folder.specs.Judging.{AreWhole}
use Rattle.cluster_folder.proofs.judging.judge_files.Given as goal

abbrev pub invariant-loop-number : goal.invariant-loop-number
invariant-loop-number l = AreWhole l.number l.sizes (option_map (λ all. all.now) l.marks)
