use Rattle.std.proofs.Common.{refl, []}
use Rattle.table_versions.proofs.States.{nothing_taken}
use Rattle.table_versions.proofs.tables.Tables.new.Goals as goal

pub invariant_of-result : goal.invariant_of-result
invariant_of-result c =
    ([], nothing_taken _ c.with_hasher.ensures.empty c.with_hasher-2.ensures.empty c.with_hasher-3.ensures.empty refl)

pub returns : goal.returns
returns c = nothing_taken _ c.with_hasher.ensures.empty c.with_hasher-2.ensures.empty c.with_hasher-3.ensures.empty refl
