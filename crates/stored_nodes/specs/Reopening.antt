-- Why a node does not start over a store that has records: Lamport, "Paxos Made Simple", section 2.5, where a node that restarts has
-- what it recorded. The faults of stores are this service's own.
use Rattle.std.specs.Prelude.{◌≡◌, ℕ, Bool, IsTrue, Option, Some, List}
use Rattle.ballots.specs.declared.record.Record.{Record}
use Rattle.stable_records.specs.declared.fault.StoreFault.{StoreFault}
use Rattle.stable_records.specs.Found.{Found}
use Rattle.agreement.specs.declared.refusal.Refusal.{Refusal}
use Rattle.agreement.specs.declared.refusal.Refusal.TheVariants as refusal
use Rattle.agreement_rules.specs.Views.{AgreementConfig}
use Rattle.node_core.specs.State.{CanStart}
use Rattle.node_core.specs.declared.reopening.OpenFault.{OpenFault}
use Rattle.node_core.specs.declared.reopening.OpenFault.TheVariants.{Store, OutOfRange, OutOfMemory}

-- The store failed to give its records back, as it may; or those that it gave are none of this member; or they are, and memory
-- for the node was refused.
abbrev pub ReopenFails : (tells : Bool) → AgreementConfig → ℕ → (finds : Found → Type 0) → (StoreFault → Type 0) → OpenFault → Type 0
ReopenFails tells config me finds MayFail (Store why) = MayFail why
ReopenFails tells config me finds MayFail OutOfRange =
    (records : List Record) × (IsTrue tells → finds (Some records)) × (CanStart config me records → ⊥)
ReopenFails tells config me finds MayFail OutOfMemory =
    (records : List Record) × (IsTrue tells → finds (Some records)) × CanStart config me records

-- a refusal to open a node, as such a fault
abbrev pub IsOpenFaultFor : Refusal → OpenFault → Type 0
IsOpenFaultFor refusal.OutOfRange fault = fault ≡ OutOfRange
IsOpenFaultFor refusal.SlotsSpent fault = fault ≡ OutOfRange
IsOpenFaultFor refusal.RoundsSpent fault = fault ≡ OutOfRange
IsOpenFaultFor refusal.OutOfMemory fault = fault ≡ OutOfMemory
