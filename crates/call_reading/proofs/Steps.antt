-- Steps of reading a call, one behind the other.
use Rattle.std.proofs.Common.{◌≡◌, ℕ, List, ◌++◌, Vec, Option, Some, None, Result, Ok, Err, refl, ap, ◌∙◌, inr}
use Rattle.std.specs.declared.alloc.Global.{Global}
use Rattle.grpc_frames.specs.FrameFaults.{WhereKnown}
use Rattle.proto_fields.specs.declared.fault.WireFault.{WireFault}
use Rattle.proto_fields.specs.declared.fault.WireFault.TheVariants as wires
use Rattle.proto_messages.specs.Descriptor.{Descriptor, IsMessageFault, IsFaultless}
use Rattle.table_types.specs.Served.{in_frame}
use Rattle.call_protocol.specs.declared.refusal.CallRefusal.{CallRefusal}
use Rattle.call_protocol.specs.declared.refusal.CallRefusal.TheVariants as refusals
use Rattle.call_reading.specs.Faults.{IsNoMessage}
use Rattle.call_reading.specs.Reading.{ReadsFirst, ReadsEnd, ReadsOne}

-- what could not be decoded is no message
pub no_message : {T : Type 0} (type : Descriptor) (message : List ℕ) (r : Result T WireFault) (fault : WireFault) → r ≡ Err fault → IsMessageFault type message fault
    → (r ≡ Err wires.OutOfMemory → IsFaultless type message) → IsNoMessage type message (refusals.Wire fault)
no_message type message r fault is stands memory =
    record { fault = fault; is = refl; stands = stands; memory = λ e. memory (is ∙ ap (λ (f : WireFault). Err f) e) }

-- the end follows the one message
pub one_ends : {T : Type 0} (Q : List ℕ → T → Type 0) (P : List ℕ → Type 0) (F : List ℕ → CallRefusal → Type 0) (here mid after : Option (List ℕ)) (message : Vec ℕ Global) (read : T)
    → WhereKnown here mid (ReadsFirst (Ok message)) → Q message.items read → WhereKnown mid after (ReadsEnd (Ok tt))
    → WhereKnown here after (ReadsOne Q P F (Ok read))
one_ends Q P F None mid after message read first holds end = tt
one_ends Q P F (Some x) None after message read first holds end = absurd first
one_ends Q P F (Some x) (Some y) None message read first holds end = absurd end
one_ends Q P F (Some x) (Some y) (Some z) message read first holds end =
    (message.items, first.1 ∙ ap (λ (l : List ℕ). in_frame message.items ++ l) end, first.0, holds)

-- something else does
pub one_breaks : {T : Type 0} (Q : List ℕ → T → Type 0) (P : List ℕ → Type 0) (F : List ℕ → CallRefusal → Type 0) (here mid after : Option (List ℕ)) (message : Vec ℕ Global) (refusal : CallRefusal)
    → WhereKnown here mid (ReadsFirst (Ok message)) → P message.items → WhereKnown mid after (ReadsEnd (Err refusal))
    → WhereKnown here after (ReadsOne {T = T} Q P F (Err refusal))
one_breaks Q P F None mid after message refusal first holds end = tt
one_breaks Q P F (Some x) None after message refusal first holds end = absurd first
one_breaks Q P F (Some x) (Some y) None message refusal first holds end = absurd end
one_breaks Q P F (Some x) (Some y) (Some z) message refusal first holds end =
    inr (inr (inr (message.items, y, first.1, first.0, holds, end)))
