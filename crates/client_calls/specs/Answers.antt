-- What stands in front of a reader behind a request: an answer, or why there is none. gRPC over HTTP2, "Responses" (Response →
-- (Response-Headers *Length-Prefixed-Message Trailers) / Trailers-Only). That the trailers stand in a frame of their own, and
-- how many frames are read, is this service's own.
use Rattle.std.specs.Prelude.{◌≡◌, ◌≢◌, ◌<◌, ℕ, List, ◌∷◌, ◌++◌, length, IsUtf8, string_bytes, Result, Ok, Err}
use Rattle.std.specs.List.{AllByRecursion}
use Rattle.grpc_frames.specs.FrameFaults.{IsBeginning}
use Rattle.table_types.specs.Valid.{FitsFrame}
use Rattle.call_protocol.specs.Statuses.{trailer_text}
use Rattle.call_protocol.specs.Texts.{messages_text, answer_text}
use Rattle.call_protocol.specs.declared.call_fault.CallFault.TheVariants as calls
use Rattle.client_calls.specs.declared.client_fault.ClientFault.{ClientFault}
use Rattle.client_calls.specs.declared.client_fault.ClientFault.TheVariants as faults

-- The most frames that are read. An answer of 1,000,000 uploads, each of 1,024 batches, has one message a batch, one with the
-- schema, and its trailer.
abbrev pub frames_limit : ℕ
frames_limit = 1024000002

-- the text begins with an answer of these messages, of which a frame has room for each; and this is left
pub record IsAnswer (text : List ℕ) (messages : List (List ℕ)) (rest : List ℕ) : Type 0 where
  pub parts : text ≡ answer_text messages ++ rest
  pub fit : AllByRecursion FitsFrame messages
  pub few : length messages < frames_limit

-- behind messages, whatever they say, stands a trailer of this status, which is not that of an answer, and with this text of
-- UTF-8; and this is left
pub record IsRefused (text : List ℕ) (code : ℕ) (words rest : List ℕ) : Type 0 where
  pub messages : List (List ℕ)
  pub parts : text ≡ messages_text messages ++ (trailer_text code words ++ rest)
  pub fit : AllByRecursion FitsFrame messages
  pub few : length messages < frames_limit
  pub trailer_fits : FitsFrame (code ∷ words)
  pub not_ok : code ≢ 0
  pub utf8 : IsUtf8 words

-- The text begins neither with an answer of such messages nor with a refusal. Where it begins with an answer of other messages,
-- what stands behind its trailer is left.
pub record IsNoAnswer (IsResult : List (List ℕ) → Type 0) (text rest : List ℕ) : Type 0 where
  pub no_result : (messages : List (List ℕ)) (behind : List ℕ) → IsAnswer text messages behind → ¬ IsResult messages
  pub no_refusal : (code : ℕ) (words behind : List ℕ) → ¬ IsRefused text code words behind
  pub left : (messages : List (List ℕ)) (behind : List ℕ) → IsAnswer text messages behind → rest ≡ behind

-- What a call gives of a text of which this is left, where the messages of an answer that is a result give a value: the value of
-- an answer, the status and the text of a refusal, or that it is neither. A read that failed and refused memory say nothing of
-- the text; and where the request could not be written, nothing was read.
abbrev pub Receives : {T : Type 0} → (List (List ℕ) → T → Type 0) → (List (List ℕ) → Type 0) → Result T ClientFault → List ℕ → List ℕ → Type 0
Receives Gives IsResult (Ok value) text rest = (messages : List (List ℕ)) × IsAnswer text messages rest × Gives messages value
Receives Gives IsResult (Err (faults.Status code words)) text rest = IsRefused text code (string_bytes words) rest
Receives Gives IsResult (Err faults.BadAnswer) text rest = IsNoAnswer IsResult text rest
Receives Gives IsResult (Err (faults.Call calls.Write)) text rest = rest ≡ text
Receives Gives IsResult (Err (faults.Call calls.Read)) text rest = Unit {0}
Receives Gives IsResult (Err (faults.Call calls.OutOfMemory)) text rest = Unit {0}

-- What has gone out: the whole request; or, where a write failed or memory was refused, a beginning of it.
abbrev pub Requests : {T : Type 0} → Result T ClientFault → List ℕ → List ℕ → List ℕ → Type 0
Requests (Err (faults.Call calls.Write)) request old new =
    (written : List ℕ) × IsBeginning written request × (new ≡ old ++ written)
Requests (Err (faults.Call calls.OutOfMemory)) request old new =
    (written : List ℕ) × IsBeginning written request × (new ≡ old ++ written)
Requests (Err (faults.Call calls.Read)) request old new = new ≡ old ++ request
Requests (Err (faults.Status code words)) request old new = new ≡ old ++ request
Requests (Err faults.BadAnswer) request old new = new ≡ old ++ request
Requests (Ok value) request old new = new ≡ old ++ request
