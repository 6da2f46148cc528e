-- What serving a call gives, of what its parts give.
use Rattle.std.proofs.Common.{◌≡◌, ◌⊎◌, ℕ, List, [], ◌∷◌, ◌++◌, Option, Some, None, Result, Ok, Err, refl, ap, subst, inl, inr, ◌∙◌}
use Rattle.grpc_frames.specs.FrameFaults.{WhereKnown}
use Rattle.call_protocol.specs.declared.back_fault.BackFault.TheVariants as backs
use Rattle.call_protocol.specs.declared.refusal.CallRefusal.{CallRefusal}
use Rattle.call_protocol.specs.declared.refusal.CallRefusal.TheVariants as refusals
use Rattle.call_reading.specs.declared.request.FlightRequest.{FlightRequest}
use Rattle.call_reading.specs.Requests.{Request, describes, shows, lists, serves, puts, IsCall}
use Rattle.call_reading.specs.Reading.{request_of, ReadsCall}
use Rattle.call_reading.specs.Faults.{RefusalStands, IsOfTheMachine}
use Rattle.call_protocol.specs.declared.call_fault.CallFault.{CallFault}
use Rattle.call_protocol.specs.declared.call_fault.CallFault.TheVariants as faults
use Rattle.flight_calls.specs.declared.outgoing.Outgoing.{Outgoing}
use Rattle.flight_calls.specs.Replies.{Reply, refuses, reply_text}
use Rattle.flight_calls.specs.Serving.{MayAnswer, Handed, Leaves, Stays, HandsOneAtMost, Responds, IsDue, Serves}
use Rattle.flight_calls.specs.Responding.{AnswersIn, RespondsBy, AnswersText}
use Rattle.flight_calls.specs.Sending.{SendsReply}

-- ---- an answer to what was read

-- the backend has answered the request that was read
pub answered : {B : Type 0} (may : MayAnswer B) (handed : Handed B) (leaves : Leaves B) (stays : Stays B) (old new : B) (asked : FlightRequest) (r : Result Outgoing CallRefusal) (text rest : Option (List ℕ))
    → WhereKnown text rest (ReadsCall (Ok asked)) → RespondsBy may handed leaves stays (request_of asked) old new r
    → WhereKnown text rest (AnswersText may handed leaves stays old new r)
answered may handed leaves stays old new asked r None rest call responds = tt
answered may handed leaves stays old new asked r (Some x) None call responds = absurd call
answered may handed leaves stays old new asked r (Some x) (Some y) call responds =
    (responds.0, inr (request_of asked, call, responds.1), responds.2)

-- a refusal stands in what was read, and the backend was not asked
pub refused : {B : Type 0} (may : MayAnswer B) (handed : Handed B) (leaves : Leaves B) (stays : Stays B) (b : B) (refusal : CallRefusal) (text rest : Option (List ℕ))
    → WhereKnown text rest (ReadsCall (Err refusal)) → WhereKnown text rest (AnswersText may handed leaves stays b b (Err refusal))
refused may handed leaves stays b refusal None rest stands = tt
refused may handed leaves stays b refusal (Some x) None stands = absurd stands
refused may handed leaves stays b refusal (Some x) (Some y) stands = (refuses refusal, inl (refusal, stands, refl, refl), refl)

-- ---- and what has gone out of it

serves_by : {B : Type 0} (may : MayAnswer B) (handed : Handed B) (leaves : Leaves B) (stays : Stays B) (old new : B) (reply : Reply) (r : Result (Unit {0}) CallFault) (text rest before after : List ℕ)
    → IsDue may handed leaves stays text rest old new reply → SendsReply r reply before after → Serves may handed leaves stays r old new text rest before after
serves_by may handed leaves stays old new reply (Ok done) text rest before after due sends = (reply, due, sends.0, sends.1)
serves_by may handed leaves stays old new reply (Err faults.Read) text rest before after due sends = (
  subst (λ (x : Reply). IsDue may handed leaves stays text rest old new x) sends.0 due,
  sends.1 ∙ ap (λ (x : Reply). before ++ reply_text x) sends.0,
)
serves_by may handed leaves stays old new reply (Err faults.Write) text rest before after due sends = (reply, due, sends)
serves_by may handed leaves stays old new reply (Err faults.OutOfMemory) text rest before after due sends = absurd sends

serves_where_known : {B : Type 0} (may : MayAnswer B) (handed : Handed B) (leaves : Leaves B) (stays : Stays B) (old new : B) (reply : Reply) (r : Result (Unit {0}) CallFault) (text rest : List ℕ) (before after : Option (List ℕ))
    → IsDue may handed leaves stays text rest old new reply → WhereKnown before after (SendsReply r reply)
    → WhereKnown before after (Serves may handed leaves stays r old new text rest)
serves_where_known may handed leaves stays old new reply r text rest None after due sends = tt
serves_where_known may handed leaves stays old new reply r text rest (Some x) None due sends = absurd sends
serves_where_known may handed leaves stays old new reply r text rest (Some x) (Some y) due sends =
    serves_by may handed leaves stays old new reply r text rest x y due sends

pub served : {B : Type 0} (may : MayAnswer B) (handed : Handed B) (leaves : Leaves B) (stays : Stays B) (old new : B) (answer : Result Outgoing CallRefusal) (r : Result (Unit {0}) CallFault) (text rest before after : Option (List ℕ))
    → WhereKnown text rest (AnswersText may handed leaves stays old new answer)
    → ((reply : Reply) → AnswersIn answer reply → WhereKnown before after (SendsReply r reply))
    → WhereKnown text rest (λ x y. WhereKnown before after (Serves may handed leaves stays r old new x y))
served may handed leaves stays old new answer r None rest before after due sends = tt
served may handed leaves stays old new answer r (Some x) None before after due sends = absurd due
served may handed leaves stays old new answer r (Some x) (Some y) before after due sends =
    serves_where_known may handed leaves stays old new due.0 r x y before after due.1 (sends due.0 due.2)

-- ---- what a backend hears of a call

-- what was handed over for a request
abbrev Hands : {B : Type 0} → Handed B → Request → B → B → Type 0
Hands handed request old new =
    (handed new ≡ handed old) ⊎ ((upload : List ℕ) × (request ≡ puts upload) × (handed new ≡ handed old ++ upload ∷ []))

hands : {B : Type 0} (may : MayAnswer B) (handed : Handed B) (leaves : Leaves B) (stays : Stays B) (request : Request) (old new : B) (reply : Reply) → Responds may handed leaves stays request old new reply
    → Hands handed request old new
hands may handed leaves stays (describes table) old new reply h = inl h.hands_nothing
hands may handed leaves stays (shows table) old new reply h = inl h.hands_nothing
hands may handed leaves stays lists old new reply h = inl h.hands_nothing
hands may handed leaves stays (serves asked) old new reply h = inl h.hands_nothing
hands may handed leaves stays (puts text) old new reply h =
    elim h.hands [
      | inl put ↦ inr (text, refl, put)
      | inr refused ↦ inl refused.1
    ]

pub hands_one : {B : Type 0} (may : MayAnswer B) (handed : Handed B) (leaves : Leaves B) (stays : Stays B) (old new : B) (asked : FlightRequest) (r : Result Outgoing CallRefusal)
    → RespondsBy may handed leaves stays (request_of asked) old new r → HandsOneAtMost handed old new
hands_one may handed leaves stays old new asked r responds =
    elim (hands may handed leaves stays (request_of asked) old new responds.0 responds.1) [
      | inl nothing ↦ inl nothing
      | inr put ↦ inr (put.0, put.2)
    ]

pub handed_behind_an_end : {B : Type 0} (may : MayAnswer B) (handed : Handed B) (leaves : Leaves B) (stays : Stays B) (text rest : List ℕ) (old new : B) (reply : Reply) → IsDue may handed leaves stays text rest old new reply
    → (handed new ≡ handed old) ⊎ ((upload : List ℕ) × IsCall text (puts upload) rest × (handed new ≡ handed old ++ upload ∷ []))
handed_behind_an_end may handed leaves stays text rest old new reply due =
    elim due [
      | inl refused ↦ inl (ap handed refused.2)
      | inr asked ↦
          elim (hands may handed leaves stays asked.0 old new reply asked.2) [
            | inl nothing ↦ inl nothing
            | inr put ↦ inr (put.0, subst (λ (request : Request). IsCall text request rest) put.1 asked.1, put.2)
          ]
    ]

-- what an ended put hands over: its upload; or nothing, where memory was refused or a read failed
abbrev pub HandsOver : {B : Type 0} → Handed B → List ℕ → B → B → Reply → Type 0
HandsOver handed upload old new reply =
    (handed new ≡ handed old ++ upload ∷ [])
    ⊎ ((refusal : CallRefusal) × IsOfTheMachine refusal × (reply ≡ refuses refusal) × (handed new ≡ handed old))

module _ (one : (text a b : List ℕ) (x y : Request) → IsCall text x a → IsCall text y b → (x ≡ y) × (a ≡ b))
    (faultless : (text rest after : List ℕ) (request : Request) (refusal : CallRefusal) → IsCall text request rest → RefusalStands refusal text after → IsOfTheMachine refusal) where
  pub ended_hands : {B : Type 0} (may : MayAnswer B) (handed : Handed B) (leaves : Leaves B) (stays : Stays B) (text rest left upload : List ℕ) (old new : B) (reply : Reply) → IsCall text (puts upload) rest
      → IsDue may handed leaves stays text left old new reply → HandsOver handed upload old new reply
  ended_hands may handed leaves stays text rest left upload old new reply call due =
      elim due [
        | inl refused ↦ inr (refused.0, faultless text rest left (puts upload) refused.0 call refused.1, refused.3, ap handed refused.2)
        | inr asked ↦
            let same = one text left rest asked.0 (puts upload) asked.1 call in
            let responds = subst (λ (request : Request). Responds may handed leaves stays request old new reply) same.0 asked.2 in
            elim responds.hands [
              | inl put ↦ inl put
              | inr refused ↦ inr (refusals.Back backs.OutOfMemory, inl refl, refused.0, refused.1)
            ]
      ]

-- ---- and what it takes

-- nothing was taken; or a put left what was asked then
abbrev Takes : {B : Type 0} → Leaves B → Stays B → Request → B → B → Type 0
Takes {B} leaves stays request old new =
    stays old new ⊎ ((upload : List ℕ) × (mid : B) × (request ≡ puts upload) × leaves old upload mid × stays mid new)

takes : {B : Type 0} (may : MayAnswer B) (handed : Handed B) (leaves : Leaves B) (stays : Stays B) (request : Request) (old new : B) (reply : Reply) → Responds may handed leaves stays request old new reply
    → Takes leaves stays request old new
takes may handed leaves stays (describes table) old new reply h = inl h.takes_nothing
takes may handed leaves stays (shows table) old new reply h = inl h.takes_nothing
takes may handed leaves stays lists old new reply h = inl h.takes_nothing
takes may handed leaves stays (serves asked) old new reply h = inl h.takes_nothing
takes may handed leaves stays (puts text) old new reply h =
    elim h.replies [
      | inl refused ↦ inl refused.2
      | inr put ↦ inr (text, put.0, refl, put.1, put.2)
    ]

pub taken_behind_an_end : {B : Type 0} (may : MayAnswer B) (handed : Handed B) (leaves : Leaves B) (stays : Stays B) (text rest : List ℕ) (old new : B) (reply : Reply) → IsDue may handed leaves stays text rest old new reply
    → (new ≡ old) ⊎ stays old new ⊎ ((upload : List ℕ) × (mid : B) × IsCall text (puts upload) rest × leaves old upload mid × stays mid new)
taken_behind_an_end may handed leaves stays text rest old new reply due =
    elim due [
      | inl refused ↦ inl refused.2
      | inr asked ↦
          elim (takes may handed leaves stays asked.0 old new reply asked.2) [
            | inl nothing ↦ inr (inl nothing)
            | inr put ↦ inr (inr (put.0, put.1, subst (λ (request : Request). IsCall text request rest) put.2 asked.1, put.3, put.4))
          ]
    ]
