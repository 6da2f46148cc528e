-- Whole calls: a path, messages, an end.
use Rattle.std.specs.Prelude.{String}
use Rattle.std.specs.declared.alloc.Global.{Global}
use Rattle.std.proofs.Common.{string_bytes, Option, Some, None, Result, Ok, Err, ◌≡◌, ℕ, ◌⊎◌, List, [], ◌∷◌, ◌++◌, refl, sym, ap, subst, ◌∙◌, append-nil, append_assoc, arith, inl, inr}
use Rattle.grpc_frames.specs.FrameFaults.{WhereKnown}
use Rattle.proto_wire.specs.Flight.{flight_descriptor_descriptor, ticket_descriptor, criteria_descriptor}
use Rattle.table_types.specs.Ticket.{TableVersion}
use Rattle.table_types.specs.Served.{in_frame}
use Rattle.table_types.specs.Valid.{FitsFrame}
use Rattle.call_protocol.specs.declared.method.Method.{Method}
use Rattle.call_protocol.specs.declared.method.Method.TheVariants as methods
use Rattle.call_protocol.specs.declared.refusal.CallRefusal.{CallRefusal}
use Rattle.call_protocol.specs.declared.refusal.CallRefusal.TheVariants as refusals
use Rattle.call_protocol.specs.Methods.{path_text}
use Rattle.call_protocol.specs.Texts.{messages_text, end_text}
use Rattle.call_protocol.specs.Names.{TableFault}
use Rattle.call_reading.specs.declared.request.FlightRequest.{FlightRequest}
use Rattle.call_reading.specs.declared.request.FlightRequest.TheVariants as asks
use Rattle.call_reading.specs.Requests.{Request, lists, serves, AsksForTable, AsksForAll, AsksForVersion, method_of, MessagesMean, IsCall}
use Rattle.call_reading.specs.Faults.{MeansAtFault, CriteriaFault, TicketFault, FrameBreaks, MessageBreaks, MessageFault, EndFault, IsFaultlessSoFar, BreaksMessages, RefusalStands}
use Rattle.call_reading.specs.Reading.{OneBreaks, ReadsTable, ReadsCriteria, ReadsTicket, AsksFor, request_of, ReadsMethod, ReadsMessages, ReadsCall}
use Rattle.call_reading.specs.Uploading.{ReadsUpload}

one_text : (message rest : List ℕ) → messages_text (message ∷ []) ++ rest ≡ in_frame message ++ rest
one_text message rest = ap (λ (l : List ℕ). l ++ rest) (append-nil (in_frame message))

-- ---- a method that asks for one message

pub one_asks : (request : Request) (here after message : List ℕ) → here ≡ in_frame message ++ (end_text ++ after) → FitsFrame message → MessagesMean request (message ∷ []) → AsksFor request here after
one_asks request here after message front fits mean = record {
  messages = message ∷ [];
  parts = front ∙ sym (one_text message (end_text ++ after));
  fit = (fits, tt);
  few = omega arith;
  mean = mean;
}

-- what such a method is told of its messages
pub record AsksForOne (method : Method) (P : List ℕ → Type 0) (F : List ℕ → CallRefusal → Type 0) : Type 0 where
  pub none : IsFaultlessSoFar method []
  pub one : (message : List ℕ) → P message → IsFaultlessSoFar method (message ∷ [])
  pub fault : (message : List ℕ) (refusal : CallRefusal) → F message refusal → MessageFault method [] message refusal
  pub more : (message second : List ℕ) → MessageFault method (message ∷ []) second refusals.MessageCount
  pub early : EndFault method [] refusals.MessageCount

at_front : (method : Method) (here after : List ℕ) (refusal : CallRefusal) → IsFaultlessSoFar method [] → FrameBreaks here after refusal ⊎ MessageBreaks method [] here after refusal → BreaksMessages method here after refusal
at_front method here after refusal none breaks =
    record { before = []; place = here; parts = refl; fit = tt; faultless = none; breaks = breaks }

pub one_breaks : (method : Method) (P : List ℕ → Type 0) (F : List ℕ → CallRefusal → Type 0) → AsksForOne method P F → (here after : List ℕ) (refusal : CallRefusal) → OneBreaks P F here after refusal
    → BreaksMessages method here after refusal
one_breaks method P F h here after refusal breaks =
    elim breaks [
      | inl frame ↦ at_front method here after refusal h.none (inl frame)
      | inr behind ↦
          elim behind [
            | inl ended ↦
                at_front method here after refusal h.none
                (inr (inr (ended.0, inl (subst (λ (r : CallRefusal). EndFault method [] r) (sym ended.1) h.early))))
            | inr further ↦
                elim further [
                  | inl m ↦
                      at_front method here after refusal h.none
                      (inr (inl (m.0, m.1, m.2, elim m.3 [ inl f ↦ inl (h.fault m.0 refusal f) | inr refused ↦ inr (h.one m.0 refused.0, refused.1) ])))
                  | inr b ↦
                      record {
                        before = b.0 ∷ [];
                        place = b.1;
                        parts = b.2 ∙ sym (one_text b.0 b.1);
                        fit = (b.3, tt);
                        faultless = h.one b.0 b.4;
                        breaks =
                            elim b.5 [
                              | inl frame ↦ inl frame
                              | inr s ↦ inr (inl (s.0, s.1, s.2, inl (subst (λ (r : CallRefusal). MessageFault method (b.0 ∷ []) s.0 r) (sym s.3) (h.more b.0 s.0))))
                            ];
                      }
                ]
          ]
    ]

-- ---- the path in front

pub call_of : (request : Request) (text here rest : List ℕ) → text ≡ in_frame (path_text (method_of request)) ++ here → AsksFor request here rest → IsCall text request rest
call_of request text here rest front h =
    let path = in_frame (path_text (method_of request)) in
    let messages = messages_text h.messages in
    record {
      messages = h.messages;
      parts =
          front ∙ ap (λ (l : List ℕ). path ++ l) h.parts ∙ sym (append_assoc path messages (end_text ++ rest))
          ∙ sym (append_assoc (path ++ messages) end_text rest);
      fit = h.fit;
      few = h.few;
      mean = h.mean;
    }

call_faults : (method : Method) (text here after : List ℕ) (refusal : CallRefusal) → text ≡ in_frame (path_text method) ++ here → BreaksMessages method here after refusal
    → RefusalStands refusal text after
call_faults method text here after refusal front breaks = inr (inr (method, here, front, breaks))

-- ---- the methods that ask for one message

abbrev pub AsksForSomeTable : List ℕ → Type 0
AsksForSomeTable message = (table : List ℕ) × AsksForTable message table

pub info_one : AsksForOne methods.GetFlightInfo AsksForSomeTable (MeansAtFault flight_descriptor_descriptor TableFault)
info_one = record { none = tt; one = λ message h. h; fault = λ message refusal f. f; more = λ message second. refl; early = (refl, refl) }

pub schema_one : AsksForOne methods.GetSchema AsksForSomeTable (MeansAtFault flight_descriptor_descriptor TableFault)
schema_one = record { none = tt; one = λ message h. h; fault = λ message refusal f. f; more = λ message second. refl; early = (refl, refl) }

pub list_one : AsksForOne methods.ListFlights AsksForAll (MeansAtFault criteria_descriptor CriteriaFault)
list_one = record { none = tt; one = λ message h. h; fault = λ message refusal f. f; more = λ message second. refl; early = (refl, refl) }

pub get_one : AsksForOne methods.DoGet (λ message. (asked : TableVersion) × AsksForVersion message asked) (MeansAtFault ticket_descriptor TicketFault)
get_one = record { none = tt; one = λ message h. h; fault = λ message refusal f. f; more = λ message second. refl; early = (refl, refl) }

-- ---- where the bytes are told

pub table_known : (method : Method) (asked : FlightRequest) (table : String Global) (here after : Option (List ℕ)) → method ≡ method_of (request_of asked)
    → ((message : List ℕ) → AsksForTable message (string_bytes table) → MessagesMean (request_of asked) (message ∷ []))
    → WhereKnown here after (ReadsTable (Ok table)) → WhereKnown here after (ReadsMessages method (Ok asked))
table_known method asked table None after is mean reads = tt
table_known method asked table (Some a) None is mean reads = absurd reads
table_known method asked table (Some a) (Some b) is mean reads =
    (is, one_asks (request_of asked) a b reads.0 reads.1 reads.2 (mean reads.0 reads.3))

pub table_fails : (method : Method) (refusal : CallRefusal) (here after : Option (List ℕ)) → AsksForOne method AsksForSomeTable (MeansAtFault flight_descriptor_descriptor TableFault)
    → WhereKnown here after (ReadsTable (Err refusal)) → WhereKnown here after (ReadsMessages method (Err refusal))
table_fails method refusal None after h reads = tt
table_fails method refusal (Some a) None h reads = absurd reads
table_fails method refusal (Some a) (Some b) h reads =
    one_breaks method AsksForSomeTable (MeansAtFault flight_descriptor_descriptor TableFault) h a b refusal reads

pub all_known : (here after : Option (List ℕ)) → WhereKnown here after (ReadsCriteria (Ok tt)) → WhereKnown here after (ReadsMessages methods.ListFlights (Ok asks.ListFlights))
all_known None after reads = tt
all_known (Some a) None reads = absurd reads
all_known (Some a) (Some b) reads = (refl, one_asks lists a b reads.0 reads.1 reads.2 (reads.0, refl, reads.3))

pub all_fails : (refusal : CallRefusal) (here after : Option (List ℕ)) → WhereKnown here after (ReadsCriteria (Err refusal)) → WhereKnown here after (ReadsMessages methods.ListFlights (Err refusal))
all_fails refusal None after reads = tt
all_fails refusal (Some a) None reads = absurd reads
all_fails refusal (Some a) (Some b) reads = one_breaks methods.ListFlights AsksForAll (MeansAtFault criteria_descriptor CriteriaFault) list_one a b refusal reads

pub get_known : (ticket : TableVersion) (here after : Option (List ℕ)) → WhereKnown here after (ReadsTicket (Ok ticket)) → WhereKnown here after (ReadsMessages methods.DoGet (Ok (asks.DoGet ticket)))
get_known ticket None after reads = tt
get_known ticket (Some a) None reads = absurd reads
get_known ticket (Some a) (Some b) reads = (refl, one_asks (serves ticket) a b reads.0 reads.1 reads.2 (reads.0, refl, reads.3))

pub get_fails : (refusal : CallRefusal) (here after : Option (List ℕ)) → WhereKnown here after (ReadsTicket (Err refusal)) → WhereKnown here after (ReadsMessages methods.DoGet (Err refusal))
get_fails refusal None after reads = tt
get_fails refusal (Some a) None reads = absurd reads
get_fails refusal (Some a) (Some b) reads =
    one_breaks methods.DoGet (λ message. (asked : TableVersion) × AsksForVersion message asked) (MeansAtFault ticket_descriptor TicketFault) get_one a b refusal reads

pub put_known : (text : List ℕ) (here after : Option (List ℕ)) → WhereKnown here after (ReadsUpload (Ok text)) → WhereKnown here after (ReadsMessages methods.DoPut (Ok (asks.DoPut text)))
put_known text None after reads = tt
put_known text (Some a) None reads = absurd reads
put_known text (Some a) (Some b) reads = (refl, reads)

pub put_fails : (refusal : CallRefusal) (here after : Option (List ℕ)) → WhereKnown here after (ReadsUpload (Err refusal)) → WhereKnown here after (ReadsMessages methods.DoPut (Err refusal))
put_fails refusal None after reads = tt
put_fails refusal (Some a) None reads = absurd reads
put_fails refusal (Some a) (Some b) reads = reads

call_known : (method : Method) (asked : FlightRequest) (text here after : Option (List ℕ)) → WhereKnown text here (ReadsMethod (Ok method)) → WhereKnown here after (ReadsMessages method (Ok asked))
    → WhereKnown text after (ReadsCall (Ok asked))
call_known method asked None here after path messages = tt
call_known method asked (Some x) None after path messages = absurd path
call_known method asked (Some x) (Some y) None path messages = absurd messages
call_known method asked (Some x) (Some y) (Some z) path messages =
    call_of (request_of asked) x y z (subst (λ m. x ≡ in_frame (path_text m) ++ y) messages.0 path) messages.1

call_fails : (method : Method) (refusal : CallRefusal) (text here after : Option (List ℕ)) → WhereKnown text here (ReadsMethod (Ok method)) → WhereKnown here after (ReadsMessages method (Err refusal))
    → WhereKnown text after (ReadsCall (Err refusal))
call_fails method refusal None here after path messages = tt
call_fails method refusal (Some x) None after path messages = absurd path
call_fails method refusal (Some x) (Some y) None path messages = absurd messages
call_fails method refusal (Some x) (Some y) (Some z) path messages = call_faults method x y z refusal path messages

pub call_read : (method : Method) (result : Result FlightRequest CallRefusal) (text here after : Option (List ℕ)) → WhereKnown text here (ReadsMethod (Ok method))
    → WhereKnown here after (ReadsMessages method result) → WhereKnown text after (ReadsCall result)
call_read method (Ok asked) text here after path messages = call_known method asked text here after path messages
call_read method (Err refusal) text here after path messages = call_fails method refusal text here after path messages
