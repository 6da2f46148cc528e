-- Receipts whose entries a journal holds. Receipts are this service's own.
use Rattle.std.specs.Prelude.{◌≡◌, ◌⊎◌, Bool, true, IsTrue, List, [], ◌∷◌, ◌++◌}
use Rattle.node_threads.specs.journal.specs.declared.receipt.Receipt.{Receipt}
use Rattle.node_threads.specs.journal.specs.Journaled.{Journaled}
use Rattle.node_threads.specs.journal.specs.Receipts.{IsReceiptOf}

-- the journal holds its steps, and the one of the receipt's number is the one that it tells of
unfoldable pub IsHeldReceipt : Journaled → Receipt → Type 0
IsHeldReceipt journal receipt = IsTrue journal.whole × IsReceiptOf journal.trace receipt

-- receipts in the order in which they were kept, and whether one was lost
pub record KeptReceipts : Type 0 where
  pub receipts : List Receipt
  pub is_short : Bool

-- the receipt is the last of those that are kept, or it is known that one was lost
abbrev pub KeepsOrLoses : KeptReceipts → Receipt → KeptReceipts → Type 0
KeepsOrLoses old receipt new =
    (new ≡ record { receipts = old.receipts ++ receipt ∷ []; is_short = old.is_short })
    ⊎ (new ≡ record { receipts = old.receipts; is_short = true })
