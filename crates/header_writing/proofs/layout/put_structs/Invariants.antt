use Rattle.std.proofs.Common.{◌≡◌, ◌++◌, drop}
use Rattle.std.specs.List.{AllByRecursion}
use Rattle.header_writing.specs.Canonical.{pairs_text}
use Rattle.header_writing.specs.Written.{FitsPair}
use Rattle.header_writing.proofs.layout.put_structs.Given as goal

abbrev pub invariant-loop-pair : goal.invariant-loop-pair
invariant-loop-pair l =
    (l.text.items ++ pairs_text (drop l.pair-index l.pairs) ≡ l.fn.text.items ++ pairs_text l.pairs)
    × (AllByRecursion FitsPair (drop l.pair-index l.pairs) → AllByRecursion FitsPair l.pairs)
