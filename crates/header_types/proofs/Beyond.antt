-- Lemmas that callers may cite: sums beyond the limits.
use Rattle.std.proofs.Common.{◌≤◌, inl, inr, arith}
use Rattle.header_types.specs.Limits.{SchemaTotals, IsBeyond}

-- what is beyond the limits stays beyond them
pub beyond_more : (x y : SchemaTotals) → IsBeyond x → x.fields ≤ y.fields → x.entries ≤ y.entries → x.bytes ≤ y.bytes
    → IsBeyond y
beyond_more x y (inl fields) f e b = inl (omega arith)
beyond_more x y (inr (inl entries)) f e b = inr (inl (omega arith))
beyond_more x y (inr (inr bytes)) f e b = inr (inr (omega arith))
