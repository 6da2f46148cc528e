use Rattle.std.proofs.Common.{◌≡◌, drop}
use Rattle.header_types.specs.FieldView.{bare_fields}
use Rattle.header_types.proofs.shape.+same_fields.Given as goal

abbrev pub decreases-same_fields : goal.decreases-same_fields
decreases-same_fields l = goal.size-same_fields l

abbrev pub invariant-loop-index : goal.invariant-loop-index
invariant-loop-index l =
    (bare_fields (drop l.index l.one) ≡ bare_fields (drop l.index l.other) → bare_fields l.one ≡ bare_fields l.other)
    × (bare_fields l.one ≡ bare_fields l.other → bare_fields (drop l.index l.one) ≡ bare_fields (drop l.index l.other))
