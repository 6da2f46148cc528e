-- Answers of one message.
use Rattle.std.proofs.Common.{◌≡◌, ◌<◌, ℕ, List, [], ◌∷◌, length, Vec, Option, Some, None, Result, Ok, Err, sym, ap, subst, ◌∙◌, arith}
use Rattle.std.specs.declared.alloc.Global.{Global}
use Rattle.std.specs.List.{AllByRecursion}
use Rattle.std.specs.Prelude.{get_or}
use Rattle.table_types.specs.Valid.{FitsFrame}
use Rattle.proto_fields.specs.declared.fault.WireFault.{WireFault}
use Rattle.proto_fields.specs.declared.fault.WireFault.TheVariants as wires
use Rattle.proto_fields.specs.Field.{IsUnlessRefused}
use Rattle.proto_messages.specs.Descriptor.{Values, IsMessage}
use Rattle.proto_wire.specs.Flight.{info_descriptor}
use Rattle.proto_wire.specs.FlightValues.{info_values}
use Rattle.proto_wire.specs.declared.flight.info.FlightInfo.{FlightInfo}
use Rattle.grpc_frames.specs.FrameFaults.{WhereKnown}
use Rattle.grpc_frames.specs.FrameLaws.{NoFrameBeginsAnother}
use Rattle.call_protocol.specs.declared.call_fault.CallFault.TheVariants as calls
use Rattle.client_calls.specs.declared.client_fault.ClientFault.{ClientFault}
use Rattle.client_calls.specs.declared.client_fault.ClientFault.TheVariants as faults
use Rattle.client_calls.specs.declared.parts.AnswerPart.TheVariants as parts
use Rattle.client_calls.specs.declared.one.Kept.{Kept}
use Rattle.client_calls.specs.declared.one.Kept.TheVariants as kept
use Rattle.client_calls.specs.Answers.{frames_limit, IsAnswer, Receives}
use Rattle.client_calls.specs.Results.{GivesOne, HasOne, GivesInfo, HasInfo}
use Rattle.client_calls.specs.Parts.{ReadsPart, HasRead, IsKept, KeepsOne, MessageSays, fault_of_wire}
use Rattle.client_calls.proofs.Came.{value_came, no_value_came, says_nothing, fault_stays}

none_is_not_one : (messages : List (List ℕ)) → messages ≡ [] → HasOne messages → ⊥
none_is_not_one messages is has =
    let lengths : 0 ≡ 1 = ap (λ (l : List (List ℕ)). length l) (sym is ∙ has.1) in
    omega (arith, lengths)

several_are_not_one : (messages : List (List ℕ)) → IsKept kept.Several messages → HasOne messages → ⊥
several_are_not_one messages is has =
    let lengths : length (is.0 ∷ is.1 ∷ is.2) ≡ 1 = ap (λ (l : List (List ℕ)). length l) (sym is.3 ∙ has.1) in
    omega (arith, lengths)

-- the trailer of an answer came behind what was kept
pub one_ends : NoFrameBeginsAnother → (k : Kept) (r : Result (Vec ℕ Global) ClientFault) (count : ℕ) (here now after : Option (List ℕ)) → count < frames_limit
    → WhereKnown here now (HasRead (IsKept k) count) → WhereKnown now after (ReadsPart (Ok parts.End)) → KeepsOne k r → WhereKnown here after (Receives GivesOne HasOne r)
one_ends law (kept.One message) r count here now after few h part keeps =
    subst (λ (x : Result (Vec ℕ Global) ClientFault). WhereKnown here after (Receives GivesOne HasOne x)) (sym keeps)
    (value_came law GivesOne HasOne (IsKept (kept.One message)) count here now after message few h part (λ messages is. is))
one_ends law kept.Nothing r count here now after few h part keeps =
    subst (λ (x : Result (Vec ℕ Global) ClientFault). WhereKnown here after (Receives GivesOne HasOne x)) (sym keeps)
    (no_value_came law GivesOne HasOne (IsKept kept.Nothing) count here now after h part none_is_not_one)
one_ends law kept.Several r count here now after few h part keeps =
    subst (λ (x : Result (Vec ℕ Global) ClientFault). WhereKnown here after (Receives GivesOne HasOne x)) (sym keeps)
    (no_value_came law GivesOne HasOne (IsKept kept.Several) count here now after h part several_are_not_one)

module _ {T : Type 0} (law : NoFrameBeginsAnother) (Gives : List (List ℕ) → T → Type 0) (IsResult : List (List ℕ) → Type 0) where
  says : (here after : List ℕ) (message : Vec ℕ Global) (r : Result T ClientFault) (messages : List (List ℕ)) → IsAnswer here messages after → messages ≡ message.items ∷ []
      → MessageSays Gives IsResult message.items r → Receives Gives IsResult r here after
  says here after message (Ok value) messages a is h = (messages, a, subst (λ (ms : List (List ℕ)). Gives ms value) (sym is) h)
  says here after message (Err faults.BadAnswer) messages a is h =
      says_nothing law IsResult here messages after a (λ has. h (subst IsResult is has))
  says here after message (Err (faults.Status code words)) messages a is h = absurd h
  says here after message (Err (faults.Call calls.OutOfMemory)) messages a is h = tt
  says here after message (Err (faults.Call calls.Read)) messages a is h = absurd h
  says here after message (Err (faults.Call calls.Write)) messages a is h = absurd h

  fits_one : (here after : List ℕ) (message : Vec ℕ Global) (messages : List (List ℕ)) → IsAnswer here messages after → messages ≡ message.items ∷ [] → FitsFrame message.items
  fits_one here after message messages a is =
      (let fit : AllByRecursion FitsFrame (message.items ∷ []) = subst (λ (ms : List (List ℕ)). AllByRecursion FitsFrame ms) is a.fit in fit).0

  -- the one message that came says this
  pub one_says : (here after : Option (List ℕ)) (message : Vec ℕ Global) (r : Result T ClientFault) → WhereKnown here after (Receives GivesOne HasOne (Ok message))
      → (FitsFrame message.items → MessageSays Gives IsResult message.items r) → WhereKnown here after (Receives Gives IsResult r)
  one_says None after message r came h = tt
  one_says (Some here) None message r came h = absurd came
  one_says (Some here) (Some after) message r came h = says here after message r came.0 came.1 came.2 (h (fits_one here after message came.0 came.1 came.2))

  -- there was no such
  pub one_fails : (here after : Option (List ℕ)) (fault : ClientFault) → WhereKnown here after (Receives GivesOne HasOne (Err fault))
      → ((messages : List (List ℕ)) → IsResult messages → HasOne messages) → WhereKnown here after (Receives Gives IsResult (Err fault))
  one_fails here after fault h wider = fault_stays GivesOne HasOne Gives IsResult here after fault h wider

-- ---- what is told of a table

head_is : (x y : List ℕ) → x ∷ [] ≡ y ∷ [] → x ≡ y
head_is x y same = ap (λ (l : List (List ℕ)). get_or l 0 []) same

means_none : (message : List ℕ) (fault : WireFault) → ((v : Values info_descriptor) → IsMessage info_descriptor message v → fault ≡ wires.OutOfMemory)
    → (fault ≡ wires.OutOfMemory → ⊥) → HasInfo (message ∷ []) → ⊥
means_none message fault only other has =
    other (only has.0 (subst (λ (m : List ℕ). IsMessage info_descriptor m has.0) (sym (head_is message has.1.0 has.1.1)) has.1.2))

says_fault : (message : List ℕ) (fault : WireFault) → ((v : Values info_descriptor) → IsMessage info_descriptor message v → fault ≡ wires.OutOfMemory)
    → MessageSays GivesInfo HasInfo message (Err (fault_of_wire fault))
says_fault message wires.OutOfMemory only = tt
says_fault message wires.BadVarint only = means_none message wires.BadVarint only (λ e. cc)
says_fault message wires.BadKey only = means_none message wires.BadKey only (λ e. cc)
says_fault message wires.BadWireType only = means_none message wires.BadWireType only (λ e. cc)
says_fault message wires.CutShort only = means_none message wires.CutShort only (λ e. cc)
says_fault message wires.NotUtf8 only = means_none message wires.NotUtf8 only (λ e. cc)

-- the message could not be read
pub no_info : (message : List ℕ) (r : Result FlightInfo WireFault) (fault : WireFault) → r ≡ Err fault
    → ((v : Values info_descriptor) → IsMessage info_descriptor message v → IsUnlessRefused info_values r v) → MessageSays GivesInfo HasInfo message (Err (fault_of_wire fault))
no_info message r fault is only =
    says_fault message fault (λ v means. subst (λ (x : Result FlightInfo WireFault). IsUnlessRefused info_values x v) is (only v means))
