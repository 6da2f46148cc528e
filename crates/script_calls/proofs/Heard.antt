-- What was told, of what a client received.
use Rattle.std.proofs.Common.{◌≡◌, ℕ, List, [], ◌∷◌, ◌++◌, Option, Some, None, Result, Ok, Err, sym, ap, subst, ◌∙◌, append-nil}
use Rattle.std.specs.Prelude.{get_or}
use Rattle.grpc_frames.specs.FrameFaults.{WhereKnown}
use Rattle.proto_messages.specs.Descriptor.{Descriptor, Values, IsMessage}
use Rattle.proto_wire.specs.Flight.{info_descriptor}
use Rattle.proto_wire.specs.FlightValues.{info_values}
use Rattle.proto_wire.specs.declared.flight.info.FlightInfo.{FlightInfo}
use Rattle.call_protocol.specs.declared.call_fault.CallFault.TheVariants as calls
use Rattle.client_calls.specs.declared.client_fault.ClientFault.{ClientFault}
use Rattle.client_calls.specs.declared.client_fault.ClientFault.TheVariants as faults
use Rattle.client_calls.specs.Answers.{IsAnswer, IsRefused, IsNoAnswer, Receives, Requests}
use Rattle.client_calls.specs.Results.{GivesInfo, HasInfo, MeansInfo}
use Rattle.script_calls.specs.declared.told.Told.{Told}
use Rattle.script_calls.specs.declared.told.Told.TheVariants as told
use Rattle.script_calls.specs.Asking.{RequestMeaning, puts, gets, informs, Tells, CanTell, as_received}
use Rattle.script_calls.specs.Informing.{InfoSays}

-- ---- requests

-- the whole request went out, whatever came of it
sent_whole : {T : Type 0} (request : List ℕ) (r : Result T ClientFault) (old new : List ℕ) → new ≡ old ++ request → Requests r request old new
sent_whole request (Ok value) old new is = is
sent_whole request (Err (faults.Status code words)) old new is = is
sent_whole request (Err faults.BadAnswer) old new is = is
sent_whole request (Err (faults.Call calls.Read)) old new is = is
sent_whole request (Err (faults.Call calls.Write)) old new is = (request, ([], append-nil request), is)
sent_whole request (Err (faults.Call calls.OutOfMemory)) old new is = (request, ([], append-nil request), is)

pub requested : {S T : Type 0} (request : List ℕ) (value : S) (r : Result T ClientFault) (old new : Option (List ℕ)) → WhereKnown old new (Requests (Ok value) request) → WhereKnown old new (Requests r request)
requested request value r None new h = tt
requested request value r (Some old) None h = absurd h
requested request value r (Some old) (Some new) h = sent_whole request r old new h

fault_sent : (S T : Type 0) (request : List ℕ) (fault : ClientFault) (old new : List ℕ) → Requests {T = S} (Err fault) request old new → Requests {T = T} (Err fault) request old new
fault_sent S T request (faults.Status code words) old new h = h
fault_sent S T request faults.BadAnswer old new h = h
fault_sent S T request (faults.Call calls.Read) old new h = h
fault_sent S T request (faults.Call calls.Write) old new h = h
fault_sent S T request (faults.Call calls.OutOfMemory) old new h = h

-- the same fault
pub request_stays : (S T : Type 0) (request : List ℕ) (fault : ClientFault) (old new : Option (List ℕ)) → WhereKnown old new (Requests {T = S} (Err fault) request)
    → WhereKnown old new (Requests {T = T} (Err fault) request)
request_stays S T request fault None new h = tt
request_stays S T request fault (Some old) None h = absurd h
request_stays S T request fault (Some old) (Some new) h = fault_sent S T request fault old new h

-- ---- faults that are handed on

fault_of_both : {S T : Type 0} (Gives : List (List ℕ) → S → Type 0) (IsResult : List (List ℕ) → Type 0) (Further : List (List ℕ) → T → Type 0) (IsFurther : List (List ℕ) → Type 0)
    (here after : List ℕ) (fault : ClientFault) → Receives Gives IsResult (Err fault) here after → ((messages : List (List ℕ)) → IsFurther messages → IsResult messages)
    → Receives Further IsFurther (Err fault) here after
fault_of_both Gives IsResult Further IsFurther here after (faults.Status code words) h wider = h
fault_of_both Gives IsResult Further IsFurther here after faults.BadAnswer h wider =
    record { no_result = λ messages rest a is. h.no_result messages rest a (wider messages is); no_refusal = h.no_refusal; left = h.left }
fault_of_both Gives IsResult Further IsFurther here after (faults.Call calls.Write) h wider = h
fault_of_both Gives IsResult Further IsFurther here after (faults.Call calls.Read) h wider = h
fault_of_both Gives IsResult Further IsFurther here after (faults.Call calls.OutOfMemory) h wider = h

-- the same fault, where fewer messages are a result
pub fault_stays : {S T : Type 0} (Gives : List (List ℕ) → S → Type 0) (IsResult : List (List ℕ) → Type 0) (Further : List (List ℕ) → T → Type 0) (IsFurther : List (List ℕ) → Type 0)
    (here after : Option (List ℕ)) (fault : ClientFault) → WhereKnown here after (Receives Gives IsResult (Err fault)) → ((messages : List (List ℕ)) → IsFurther messages → IsResult messages)
    → WhereKnown here after (Receives Further IsFurther (Err fault))
fault_stays Gives IsResult Further IsFurther None after fault h wider = tt
fault_stays Gives IsResult Further IsFurther (Some here) None fault h wider = absurd h
fault_stays Gives IsResult Further IsFurther (Some here) (Some after) fault h wider = fault_of_both Gives IsResult Further IsFurther here after fault h wider

-- a value of which another is made
pub value_says : {S T : Type 0} (Gives : List (List ℕ) → S → Type 0) (IsResult : List (List ℕ) → Type 0) (Further : List (List ℕ) → T → Type 0) (IsFurther : List (List ℕ) → Type 0)
    (here after : Option (List ℕ)) (value : S) (made : T) → WhereKnown here after (Receives Gives IsResult (Ok value))
    → ((messages : List (List ℕ)) → Gives messages value → Further messages made) → WhereKnown here after (Receives Further IsFurther (Ok made))
value_says Gives IsResult Further IsFurther None after value made h says = tt
value_says Gives IsResult Further IsFurther (Some here) None value made h says = absurd h
value_says Gives IsResult Further IsFurther (Some here) (Some after) value made h says = (h.0, h.1, says h.0 h.2)

-- ---- what is told of a table

module _ (one : (text rest after : List ℕ) (messages others : List (List ℕ)) → IsAnswer text messages rest → IsAnswer text others after → (others ≡ messages) × (rest ≡ after))
    (apart : (text words rest after : List ℕ) (messages : List (List ℕ)) (code : ℕ) → IsAnswer text messages rest → ¬ IsRefused text code words after)
    (meaning : (descriptor : Descriptor) (text : List ℕ) (v w : Values descriptor) → IsMessage descriptor text v → IsMessage descriptor text w → v ≡ w)
    (table : List ℕ) where
  head_is : (x y : List ℕ) → x ∷ [] ≡ y ∷ [] → x ≡ y
  head_is x y same = ap (λ (l : List (List ℕ)). get_or l 0 []) same

  -- messages mean one thing
  means_one : (messages : List (List ℕ)) (v w : Values info_descriptor) → MeansInfo messages v → MeansInfo messages w → v ≡ w
  means_one messages v w p q =
      meaning info_descriptor q.0 v w (subst (λ (m : List ℕ). IsMessage info_descriptor m v) (head_is p.0 q.0 (sym p.1 ∙ q.1)) p.2) q.2

  tells_none : (text rest : List ℕ) (info : FlightInfo) → InfoSays table (info_values info) (Err faults.BadAnswer) → (messages : List (List ℕ)) → IsAnswer text messages rest
      → GivesInfo messages info → IsNoAnswer (CanTell (informs table)) text rest
  tells_none text rest info says messages a gives = record {
    no_result = λ others after b can.
        let same = one text rest after messages others a b in
        let tells = can.2 in
        let values : tells.values ≡ info_values info
        = means_one messages tells.values (info_values info) (subst (λ (ms : List (List ℕ)). MeansInfo ms tells.values) same.0 tells.means) gives in
        says can.0 can.1 (rw values at tells.served);
    no_refusal = λ code words after r. apart text words rest after messages code a r;
    left = λ others behind b. (one text rest behind messages others a b).1;
  }

  heard : (info : FlightInfo) (r : Result Told ClientFault) (text rest : List ℕ) → InfoSays table (info_values info) r → Receives GivesInfo HasInfo (Ok info) text rest
      → Receives (Tells (informs table)) (CanTell (informs table)) r text rest
  heard info (Ok (told.Info version locations)) text rest says got = (got.0, got.1, record { values = info_values info; means = got.2; served = says })
  heard info (Ok (told.Put version)) text rest says got = absurd says
  heard info (Ok (told.Get frames)) text rest says got = absurd says
  heard info (Ok (told.Status code words)) text rest says got = absurd says
  heard info (Err faults.BadAnswer) text rest says got = tells_none text rest info says got.0 got.1 got.2
  heard info (Err (faults.Status code words)) text rest says got = absurd says
  heard info (Err (faults.Call calls.OutOfMemory)) text rest says got = tt
  heard info (Err (faults.Call calls.Read)) text rest says got = absurd says
  heard info (Err (faults.Call calls.Write)) text rest says got = absurd says

  pub info_heard : (info : FlightInfo) (r : Result Told ClientFault) (here after : Option (List ℕ)) → InfoSays table (info_values info) r
      → WhereKnown here after (Receives GivesInfo HasInfo (Ok info)) → WhereKnown here after (Receives (Tells (informs table)) (CanTell (informs table)) r)
  info_heard info r None after says got = tt
  info_heard info r (Some here) None says got = absurd got
  info_heard info r (Some here) (Some after) says got = heard info r here after says got

pub tells_of_info : (table : List ℕ) (messages : List (List ℕ)) → CanTell (informs table) messages → HasInfo messages
tells_of_info table messages can = let tells = can.2 in (tells.values, tells.means)

-- ---- a refusal is told

received : (q : RequestMeaning) (t : Told) (text rest : List ℕ) → Receives (Tells q) (CanTell q) (Ok t) text rest → Receives (Tells q) (CanTell q) (as_received (Ok t)) text rest
received q (told.Put version) text rest h = h
received q (told.Get frames) text rest h = h
received q (told.Info version locations) text rest h = h
received (puts upload) (told.Status code words) text rest h = absurd h.2
received (gets version) (told.Status code words) text rest h = absurd h.2
received (informs table) (told.Status code words) text rest h = absurd h.2

pub told_received : (q : RequestMeaning) (t : Told) (here after : Option (List ℕ)) → WhereKnown here after (Receives (Tells q) (CanTell q) (Ok t))
    → WhereKnown here after (Receives (Tells q) (CanTell q) (as_received (Ok t)))
told_received q t None after h = tt
told_received q t (Some here) None h = absurd h
told_received q t (Some here) (Some after) h = received q t here after h

told_asked : (request : List ℕ) (t : Told) (old new : List ℕ) → Requests {T = Told} (Ok t) request old new → Requests (as_received (Ok t)) request old new
told_asked request (told.Put version) old new h = h
told_asked request (told.Get frames) old new h = h
told_asked request (told.Info version locations) old new h = h
told_asked request (told.Status code words) old new h = h

pub told_requested : (request : List ℕ) (t : Told) (old new : Option (List ℕ)) → WhereKnown old new (Requests {T = Told} (Ok t) request) → WhereKnown old new (Requests (as_received (Ok t)) request)
told_requested request t None new h = tt
told_requested request t (Some old) None h = absurd h
told_requested request t (Some old) (Some new) h = told_asked request t old new h
