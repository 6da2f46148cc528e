-- A request and what came of it.
use Rattle.std.proofs.Common.{◌≡◌, ℕ, List, [], ◌++◌, Option, Some, None, Result, Ok, Err, refl, append-nil}
use Rattle.grpc_frames.specs.FrameFaults.{WhereKnown}
use Rattle.call_protocol.specs.declared.call_fault.CallFault.{CallFault}
use Rattle.call_protocol.specs.declared.call_fault.CallFault.TheVariants as calls
use Rattle.client_calls.specs.declared.client_fault.ClientFault.{ClientFault}
use Rattle.client_calls.specs.declared.client_fault.ClientFault.TheVariants as faults
use Rattle.client_calls.specs.Answers.{Receives, Requests}
use Rattle.client_calls.specs.Sending.{Sends}

module _ (T : Type 0) (request : List ℕ) where
  sent_whole : (r : Result T ClientFault) (old new : List ℕ) → new ≡ old ++ request → Requests r request old new
  sent_whole (Ok value) old new is = is
  sent_whole (Err (faults.Status code words)) old new is = is
  sent_whole (Err faults.BadAnswer) old new is = is
  sent_whole (Err (faults.Call calls.Read)) old new is = is
  sent_whole (Err (faults.Call calls.Write)) old new is = (request, ([], append-nil request), is)
  sent_whole (Err (faults.Call calls.OutOfMemory)) old new is = (request, ([], append-nil request), is)

  -- the whole request went out, whatever came of it
  pub requested : (r : Result T ClientFault) (old new : Option (List ℕ)) → WhereKnown old new (Sends (Ok tt) request) → WhereKnown old new (Requests r request)
  requested r None new h = tt
  requested r (Some old) None h = absurd h
  requested r (Some old) (Some new) h = sent_whole r old new h

  sent_part : (fault : CallFault) (old new : List ℕ) → Sends (Err fault) request old new → Requests {T = T} (Err (faults.Call fault)) request old new
  sent_part calls.Write old new h = h
  sent_part calls.OutOfMemory old new h = h
  sent_part calls.Read old new h = absurd h

  -- it could not be sent
  pub not_requested : (fault : CallFault) (old new : Option (List ℕ)) → WhereKnown old new (Sends (Err fault) request)
      → WhereKnown old new (Requests {T = T} (Err (faults.Call fault)) request)
  not_requested fault None new h = tt
  not_requested fault (Some old) None h = absurd h
  not_requested fault (Some old) (Some new) h = sent_part fault old new h

module _ {T : Type 0} (Gives : List (List ℕ) → T → Type 0) (IsResult : List (List ℕ) → Type 0) where
  -- and so nothing was read
  pub nothing_read : (fault : CallFault) (held : Option (List ℕ)) → WhereKnown held held (Receives Gives IsResult (Err (faults.Call fault)))
  nothing_read fault None = tt
  nothing_read calls.Write (Some held) = refl
  nothing_read calls.OutOfMemory (Some held) = tt
  nothing_read calls.Read (Some held) = tt
