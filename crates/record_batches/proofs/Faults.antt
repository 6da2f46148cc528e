-- What is told of a header and a body is right.
use Rattle.std.proofs.Common.{◌≡◌, refl, sym, ap, ◌∙◌, ℕ, Bool, true, false, true≢false, List, [], ◌∷◌}
use mathlib.Core.Logic.{inl, inr}
use Rattle.header_types.specs.Fields.{SchemaTree}
use Rattle.header_types.specs.Header.{Head}
use Rattle.batch_types.specs.Cells.{Rows}
use Rattle.batch_types.specs.Laid.{LaidColumn, laid, LaidColumns, no_column, column_then}
use Rattle.batch_types.specs.LaysOut.{LaysOut, IsFaultOf, KeepsHeadRule, KeepsRule, HasFault, HaveFault, body_of}
use Rattle.batch_types.specs.Order.{IsFirstBroken, head_order, column_order}
use Rattle.batch_types.specs.declared.fault.BatchFault.{BatchFault}
use Rattle.batch_types.specs.declared.fault.BatchFault.TheVariants as fault
use Rattle.record_batches.specs.Reading.{IsToldOf}

abbrev is_memory : BatchFault → Bool
is_memory fault.Compressed = false
is_memory fault.TooManyRows = false
is_memory fault.NodeCount = false
is_memory fault.BufferCount = false
is_memory fault.BufferRange = false
is_memory fault.NullCount = false
is_memory fault.OffsetsFall = false
is_memory fault.ChildShort = false
is_memory fault.NotUtf8 = false
is_memory fault.OutOfMemory = true

-- none of these is want of memory
abbrev AreOthers : List BatchFault → Type 0
AreOthers [] = Unit {0}
AreOthers (rule ∷ rest) = (is_memory rule ≡ false) × AreOthers rest

not_first : (Keeps : BatchFault → Type 0) (rules : List BatchFault) → AreOthers rules → IsFirstBroken Keeps rules fault.OutOfMemory → ⊥
not_first Keeps [] others told = told
not_first Keeps (rule ∷ rest) others (inl broken) = true≢false (ap is_memory broken.0 ∙ others.0)
not_first Keeps (rule ∷ rest) others (inr later) = not_first Keeps rest others.1 later.1

mutual
  not_of_column : (body : List ℕ) (column : LaidColumn) (asked : ℕ) (places : List ℕ) → HasFault body column asked places fault.OutOfMemory → ⊥
  not_of_column body (laid layout node ranges inner) asked places (inl own) =
      not_first (KeepsRule body layout node ranges inner asked places) column_order (refl, (refl, (refl, (refl, (refl, tt))))) own
  not_of_column body (laid layout node ranges inner) asked places (inr inside) = not_of_columns body inner _ _ inside.1

  not_of_columns : (body : List ℕ) (columns : LaidColumns) (asked : ℕ) (places : List ℕ) → HaveFault body columns asked places fault.OutOfMemory → ⊥
  not_of_columns body no_column asked places told = told
  not_of_columns body (column_then column rest) asked places (inl first) = not_of_column body column asked places first
  not_of_columns body (column_then column rest) asked places (inr later) = not_of_columns body rest asked places later.1

no_memory : (schema : SchemaTree) (head : Head) (body : List ℕ) → IsFaultOf schema head body fault.OutOfMemory → ⊥
no_memory schema head body (inl first) = not_first (KeepsHeadRule schema head body) head_order (refl, (refl, (refl, (refl, (refl, tt))))) first
no_memory schema head body (inr behind) = not_of_columns (body_of head body) behind.1.0 _ _ behind.1.2

pub memory_of_batches : (schema : SchemaTree) (head : Head) (body : List ℕ) → IsToldOf schema head body fault.OutOfMemory → (rows : Rows) × LaysOut schema head body rows
memory_of_batches schema head body (inl fault) = absurd (no_memory schema head body fault)
memory_of_batches schema head body (inr (is, there)) = there

module _ (apart : (schema : SchemaTree) (head : Head) (body : List ℕ) (rows : Rows) (f : BatchFault) → LaysOut schema head body rows → IsFaultOf schema head body f → ⊥) where
  pub none_of_batches : (schema : SchemaTree) (head : Head) (body : List ℕ) (f : BatchFault) (rows : Rows) → IsToldOf schema head body f
      → LaysOut schema head body rows → f ≡ fault.OutOfMemory
  none_of_batches schema head body f rows (inl told) there = absurd (apart schema head body rows f there told)
  none_of_batches schema head body f rows (inr refused) there = refused.0
