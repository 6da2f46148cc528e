-- What is told of tables, one message behind the other.
use Rattle.std.proofs.Common.{◌≡◌, ◌<◌, ℕ, List, [], ◌∷◌, ◌++◌, map, Vec, Option, Result, Ok, Err, IfOk, IfErr, refl, sym, ap, subst, ◌∙◌}
use Rattle.std.specs.declared.alloc.Global.{Global}
use Rattle.std.proofs.lemmas.List.{map_push}
use Rattle.proto_fields.specs.declared.fault.WireFault.{WireFault}
use Rattle.proto_fields.specs.declared.fault.WireFault.TheVariants as wires
use Rattle.proto_fields.specs.Field.{IsUnlessRefused}
use Rattle.proto_messages.specs.Descriptor.{Values, IsMessage}
use Rattle.proto_wire.specs.Flight.{info_descriptor}
use Rattle.proto_wire.specs.FlightValues.{info_values}
use Rattle.proto_wire.specs.declared.flight.info.FlightInfo.{FlightInfo}
use Rattle.grpc_frames.specs.FrameFaults.{WhereKnown}
use Rattle.grpc_frames.specs.FrameLaws.{NoFrameBeginsAnother}
use Rattle.call_protocol.specs.declared.call_fault.CallFault.TheVariants as calls
use Rattle.client_calls.specs.declared.client_fault.ClientFault.{ClientFault}
use Rattle.client_calls.specs.declared.client_fault.ClientFault.TheVariants as faults
use Rattle.client_calls.specs.declared.parts.AnswerPart.TheVariants as parts
use Rattle.client_calls.specs.declared.listing.Listing.{Listing}
use Rattle.client_calls.specs.declared.listing.Listing.TheVariants as listing
use Rattle.client_calls.specs.Answers.{frames_limit, Receives}
use Rattle.client_calls.specs.Results.{MeanInfos, GivesInfos, HasInfos}
use Rattle.client_calls.specs.Parts.{ReadsPart, HasRead, AddsInfo, IsListed, ListsAll, ListsMore, listing_without}
use Rattle.client_calls.proofs.Came.{value_came, no_value_came}

-- ---- one message more

means_more : (messages : List (List ℕ)) (all : List (Values info_descriptor)) (message : List ℕ) (values : Values info_descriptor) → MeanInfos messages all
    → IsMessage info_descriptor message values → MeanInfos (messages ++ message ∷ []) (all ++ values ∷ [])
means_more [] [] message values h is = (is, tt)
means_more [] (first ∷ all) message values h is = absurd h
means_more (one ∷ messages) [] message values h is = absurd h
means_more (one ∷ messages) (first ∷ all) message values h is = (h.0, means_more messages all message values h.1 is)

-- those before the last message tell of tables too
front_means : (messages : List (List ℕ)) (message : List ℕ) (all : List (Values info_descriptor)) → MeanInfos (messages ++ message ∷ []) all → HasInfos messages
front_means [] message all h = ([], tt)
front_means (one ∷ messages) message [] h = absurd h
front_means (one ∷ messages) message (first ∷ all) h =
    let front = front_means messages message all h.1 in
    (first ∷ front.0, (h.0, front.1))

-- and so does the last one
last_means : (messages : List (List ℕ)) (message : List ℕ) (all : List (Values info_descriptor)) → MeanInfos (messages ++ message ∷ []) all
    → (values : Values info_descriptor) × IsMessage info_descriptor message values
last_means [] message [] h = absurd h
last_means [] message (first ∷ all) h = (first, h.0)
last_means (one ∷ messages) message [] h = absurd h
last_means (one ∷ messages) message (first ∷ all) h = last_means messages message all h.1

-- ---- a message that was read

mapped : (infos : Vec FlightInfo Global) (info : FlightInfo) (more : Vec FlightInfo Global) → more.items ≡ infos.items ++ info ∷ []
    → map info_values more.items ≡ map info_values infos.items ++ info_values info ∷ []
mapped infos info more is = ap (λ (l : List FlightInfo). map info_values l) is ∙ map_push info_values infos.items info

pub is_more : (infos : Vec FlightInfo Global) (info : FlightInfo) (message : List ℕ) (messages : List (List ℕ)) (r : Result Listing ClientFault)
    → IsMessage info_descriptor message (info_values info) → GivesInfos messages infos → IfOk r (AddsInfo infos info)
    → IfErr r (λ fault. fault ≡ faults.Call calls.OutOfMemory) → ListsMore messages message r
is_more infos info message messages (Ok (listing.Told more)) is told adds refused =
    subst (λ (all : List (Values info_descriptor)). MeanInfos (messages ++ message ∷ []) all) (sym (mapped infos info more adds))
    (means_more messages (map info_values infos.items) message (info_values info) told is)
is_more infos info message messages (Ok listing.Spoiled) is told adds refused = absurd adds
is_more infos info message messages (Err fault) is told adds refused = refused

-- ---- one that could not be read

tells_none : (messages : List (List ℕ)) (message : List ℕ) → ((values : Values info_descriptor) → IsMessage info_descriptor message values → ⊥)
    → HasInfos (messages ++ message ∷ []) → ⊥
tells_none messages message none has =
    let last = last_means messages message has.0 has.1 in
    none last.0 last.1

without : (messages : List (List ℕ)) (message : List ℕ) (fault : WireFault)
    → ((values : Values info_descriptor) → IsMessage info_descriptor message values → fault ≡ wires.OutOfMemory) → ListsMore messages message (listing_without fault)
without messages message wires.OutOfMemory only = refl
without messages message wires.BadVarint only = tells_none messages message (λ values is. (let e = only values is in cc))
without messages message wires.BadKey only = tells_none messages message (λ values is. (let e = only values is in cc))
without messages message wires.BadWireType only = tells_none messages message (λ values is. (let e = only values is in cc))
without messages message wires.CutShort only = tells_none messages message (λ values is. (let e = only values is in cc))
without messages message wires.NotUtf8 only = tells_none messages message (λ values is. (let e = only values is in cc))

pub is_without : (messages : List (List ℕ)) (message : List ℕ) (read : Result FlightInfo WireFault) (fault : WireFault) (r : Result Listing ClientFault) → read ≡ Err fault
    → ((values : Values info_descriptor) → IsMessage info_descriptor message values → IsUnlessRefused info_values read values) → r ≡ listing_without fault
    → ListsMore messages message r
is_without messages message read fault r is only made =
    subst (λ (x : Result Listing ClientFault). ListsMore messages message x) (sym made)
    (without messages message fault (λ values means. subst (λ (x : Result FlightInfo WireFault). IsUnlessRefused info_values x values) is (only values means)))

-- behind a message that tells of no table, whatever comes
pub stays_spoiled : (kept : Listing) (messages : List (List ℕ)) (message : List ℕ) → kept ≡ listing.Spoiled → IsListed kept messages
    → ListsMore messages message (Ok listing.Spoiled)
stays_spoiled kept messages message is none has =
    (let spoiled : IsListed listing.Spoiled messages = subst (λ (k : Listing). IsListed k messages) is none in spoiled)
    (front_means messages message has.0 has.1)

-- ---- the trailer of an answer

pub list_ends : NoFrameBeginsAnother → (kept : Listing) (r : Result (Vec FlightInfo Global) ClientFault) (count : ℕ) (here now after : Option (List ℕ)) → count < frames_limit
    → WhereKnown here now (HasRead (IsListed kept) count) → WhereKnown now after (ReadsPart (Ok parts.End)) → ListsAll kept r → WhereKnown here after (Receives GivesInfos HasInfos r)
list_ends law (listing.Told infos) r count here now after few h part all =
    subst (λ (x : Result (Vec FlightInfo Global) ClientFault). WhereKnown here after (Receives GivesInfos HasInfos x)) (sym all)
    (value_came law GivesInfos HasInfos (IsListed (listing.Told infos)) count here now after infos few h part (λ messages is. is))
list_ends law listing.Spoiled r count here now after few h part all =
    subst (λ (x : Result (Vec FlightInfo Global) ClientFault). WhereKnown here after (Receives GivesInfos HasInfos x)) (sym all)
    (no_value_came law GivesInfos HasInfos (IsListed listing.Spoiled) count here now after h part (λ messages none. none))
