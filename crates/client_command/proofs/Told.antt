-- The text of an answer, printed.
use Rattle.std.proofs.Common.{◌≡◌, ◌⊎◌, inl, inr, ℕ, List, Option, Result, Ok, Err, refl, ap, subst}
use Rattle.std.specs.declared.net.socket_addr.SocketAddrV4.{SocketAddrV4}
use Rattle.grpc_frames.specs.FrameFaults.{WhereKnown}
use Rattle.client_connections.specs.Events.{ConnectionEvent}
use Rattle.client_calls.specs.declared.client_fault.ClientFault.TheVariants.{BadAnswer}
use Rattle.client_command.specs.declared.fault.CommandFault.{CommandFault}
use Rattle.client_command.specs.declared.fault.CommandFault.TheVariants.{Call, OutOfMemory}
use Rattle.client_command.specs.Calls.{Calls}
use Rattle.client_command.specs.Writing.{WritesText}
use Rattle.client_command.specs.Tellings.{TellsAt}

module _ {T : Type 0} (address : SocketAddrV4) (request : List ℕ) (Gives : List (List ℕ) → T → Type 0) (IsResult : List (List ℕ) → Type 0) (IsTextOf : T → List ℕ → Type 0) (value : T)
    (old new : Option (List ConnectionEvent)) (before : Option (List ℕ)) (told : Calls address request Gives IsResult (Ok value) old new) where
  pub text_told : (text bytes : List ℕ) (result : Result (Unit {0}) CommandFault) (after : Option (List ℕ)) → IsTextOf value text → bytes ≡ text
      → WhereKnown before after (WritesText bytes result) → TellsAt address request Gives IsResult IsTextOf result old new before after
  text_told text bytes result after is same written = inl (record {
    value = value;
    told = told;
    text = text;
    is_text = is;
    written = subst (λ (l : List ℕ). WhereKnown before after (WritesText l result)) same written;
  })

  pub nothing_told : (fault : CommandFault) → (fault ≡ OutOfMemory) ⊎ ((fault ≡ Call BadAnswer) × ((text : List ℕ) → ¬ IsTextOf value text))
      → TellsAt address request Gives IsResult IsTextOf (Err fault) old new before before
  nothing_told fault why = inr (inl (record {
    value = value;
    told = told;
    why = elim why [ inl memory ↦ inl (ap Err memory) | inr bad ↦ inr (ap Err bad.0, bad.1) ];
    silent = refl;
  }))
