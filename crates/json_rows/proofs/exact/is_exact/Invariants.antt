use Rattle.std.proofs.Common.{◌↔◌}
use Rattle.json_rows.specs.Numbers.{IsExactBelow}
use Rattle.json_rows.proofs.exact.is_exact.Given as goal

abbrev pub invariant-loop-rest : goal.invariant-loop-rest
invariant-loop-rest l = IsExactBelow l.limit l.initial.rest ↔ IsExactBelow l.limit l.rest

abbrev pub decreases-loop-rest : goal.decreases-loop-rest
decreases-loop-rest l = l.rest
