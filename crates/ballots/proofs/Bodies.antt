-- Messages by their kind: what is read is meant, what is meant is read, and each fault stands.
use Rattle.std.proofs.Common.{◌≡◌, ◌≢◌, ℕ, true, cond, eqb, Some, Result, Ok, Err, refl, sym, ap, subst, ◌∙◌, arith, ◌⊎◌, inl, inr}
use Rattle.std.proofs.lemmas.Bool.{eqb-true, eqb-false, cases_lt}
use Rattle.proto_fields.specs.Reading.{◌>>=◌}
use Rattle.proto_fields.proofs.Steps.{bind_ok, bind_err, chosen, ok_is, err_is, not_ok, not_err}
use Rattle.ballots.specs.declared.node.TheConstants.{MAX_NODE}
use Rattle.ballots.specs.declared.slot.TheConstants.{MAX_SLOT}
use Rattle.ballots.specs.declared.message.numbers.TheConstants.{PREPARE, PROMISE, NACK, ACCEPT, ACCEPTED, ASK, DECIDED}
use Rattle.ballots.specs.declared.acceptance.Acceptance.{Acceptance}
use Rattle.ballots.specs.declared.message.Message.{Message}
use Rattle.ballots.specs.declared.message.Body.{Body}
use Rattle.ballots.specs.declared.message.Body.TheVariants.{Prepare, Promise, Nack, Accept, Accepted, Ask, Decided}
use Rattle.ballots.specs.declared.fault.MessageFault.{MessageFault}
use Rattle.ballots.specs.declared.fault.MessageFault.TheVariants.{BadKind}
use Rattle.ballots.specs.Message.{message, kind_of, Parts, MeansHead, MeansAcceptance, MeansBody, Means, HeadFault, BodyFault, in_prepare, in_promise, in_report, in_nack, in_accept, in_accepted, in_decided, PartsFault, IsUnknownKind, BallotFault, ValueFault}
use Rattle.ballots.specs.MessageReading.{known, within, ballot_at, value_at, acceptance_at, report_at, prepare_at, promise_at, nack_at, accept_at, accepted_at, decided_at, body_at, message_at}
use Rattle.ballots.proofs.Numbers.{within_takes, within_again, within_faults, ballot_takes, ballot_again, ballot_faults, value_takes, value_again, value_faults, acceptance_takes, acceptance_again, acceptance_faults, report_takes, report_again, report_faults, misfit_of, known_takes, known_faults}

abbrev Read : Type 0
Read = Result Body MessageFault

-- ---- what is read for each kind

-- an Accept or an Accepted
abbrev valued_at : (Acceptance → Body) → Parts → Read
valued_at make p = acceptance_at p.round p.node p.value >>= λ a. Ok (make a)

abbrev ask_at : Parts → Read
ask_at p = Ok Ask

abbrev from_decided : ℕ → Parts → Read
from_decided kind p = cond (eqb kind DECIDED) (decided_at p) (Err BadKind)

abbrev from_ask : ℕ → Parts → Read
from_ask kind p = cond (eqb kind ASK) (ask_at p) (from_decided kind p)

abbrev from_accepted : ℕ → Parts → Read
from_accepted kind p = cond (eqb kind ACCEPTED) (accepted_at p) (from_ask kind p)

abbrev from_accept : ℕ → Parts → Read
from_accept kind p = cond (eqb kind ACCEPT) (accept_at p) (from_accepted kind p)

abbrev from_nack : ℕ → Parts → Read
from_nack kind p = cond (eqb kind NACK) (nack_at p) (from_accept kind p)

abbrev from_promise : ℕ → Parts → Read
from_promise kind p = cond (eqb kind PROMISE) (promise_at p) (from_nack kind p)

abbrev from_prepare : ℕ → Parts → Read
from_prepare kind p = cond (eqb kind PREPARE) (prepare_at p) (from_promise kind p)

-- ---- what is read is meant

-- the body is of this kind, and is meant
abbrev Is : Parts → ℕ → Body → Type 0
Is p kind body = (kind_of body ≡ kind) × MeansBody p body

takes_prepare : (p : Parts) (body : Body) → prepare_at p ≡ Ok body → Is p PREPARE body
takes_prepare p body e =
    let b = bind_ok (ballot_at p.round p.node) (λ b. Ok (Prepare b)) body e in
    subst (Is p PREPARE) (ok_is (Prepare b.0) body b.2) (refl, ballot_takes _ _ b.0 b.1)

takes_promise : (p : Parts) (body : Body) → promise_at p ≡ Ok body → Is p PROMISE body
takes_promise p body e =
    let b = bind_ok (ballot_at p.round p.node) (λ b. report_at p >>= λ r. Ok (Promise b r)) body e in
    let r = bind_ok (report_at p) (λ r. Ok (Promise b.0 r)) body b.2 in
    subst (Is p PROMISE) (ok_is (Promise b.0 r.0) body r.2) (refl, (ballot_takes _ _ b.0 b.1, report_takes p r.0 r.1))

takes_nack : (p : Parts) (body : Body) → nack_at p ≡ Ok body → Is p NACK body
takes_nack p body e =
    let b = bind_ok (ballot_at p.round p.node) (λ b. ballot_at p.second_round p.second_node >>= λ c. Ok (Nack b c)) body e in
    let c = bind_ok (ballot_at p.second_round p.second_node) (λ c. Ok (Nack b.0 c)) body b.2 in
    subst (Is p NACK) (ok_is (Nack b.0 c.0) body c.2) (refl, (ballot_takes _ _ b.0 b.1, ballot_takes _ _ c.0 c.1))

takes_valued : (make : Acceptance → Body) (kind : ℕ) (p : Parts) (body : Body)
    → ((a : Acceptance) → MeansAcceptance p.round p.node p.value a → Is p kind (make a)) → valued_at make p ≡ Ok body → Is p kind body
takes_valued make kind p body means e =
    let a = bind_ok (acceptance_at p.round p.node p.value) (λ a. Ok (make a)) body e in
    subst (Is p kind) (ok_is (make a.0) body a.2) (means a.0 (acceptance_takes _ _ _ a.0 a.1))

takes_accept : (p : Parts) (body : Body) → accept_at p ≡ Ok body → Is p ACCEPT body
takes_accept p body e = takes_valued Accept ACCEPT p body (λ a means. (refl, means)) e

takes_accepted : (p : Parts) (body : Body) → accepted_at p ≡ Ok body → Is p ACCEPTED body
takes_accepted p body e = takes_valued Accepted ACCEPTED p body (λ a means. (refl, means)) e

takes_ask : (p : Parts) (body : Body) → ask_at p ≡ Ok body → Is p ASK body
takes_ask p body e = subst (Is p ASK) (ok_is Ask body e) (refl, tt)

takes_decided : (p : Parts) (body : Body) → decided_at p ≡ Ok body → Is p DECIDED body
takes_decided p body e =
    let v = bind_ok (value_at p.value) (λ v. Ok (Decided v)) body e in
    subst (Is p DECIDED) (ok_is (Decided v.0) body v.2) (refl, value_takes _ v.0 v.1)

of_kind : (p : Parts) (kind other : ℕ) (body : Body) → eqb kind other ≡ true → Is p other body → Is p kind body
of_kind p kind other body e is = (is.0 ∙ sym (eqb-true kind other e), is.1)

body_takes : (kind : ℕ) (p : Parts) (body : Body) → from_prepare kind p ≡ Ok body → Is p kind body
body_takes kind p body e =
    elim (chosen (eqb kind PREPARE) (prepare_at p) (from_promise kind p) (Ok body) e) [
      | inl h0 ↦ of_kind p kind PREPARE body h0.0 (takes_prepare p body h0.1)
      | inr h0 ↦
          elim (chosen (eqb kind PROMISE) (promise_at p) (from_nack kind p) (Ok body) h0.1) [
            | inl h1 ↦ of_kind p kind PROMISE body h1.0 (takes_promise p body h1.1)
            | inr h1 ↦
                elim (chosen (eqb kind NACK) (nack_at p) (from_accept kind p) (Ok body) h1.1) [
                  | inl h2 ↦ of_kind p kind NACK body h2.0 (takes_nack p body h2.1)
                  | inr h2 ↦
                      elim (chosen (eqb kind ACCEPT) (accept_at p) (from_accepted kind p) (Ok body) h2.1) [
                        | inl h3 ↦ of_kind p kind ACCEPT body h3.0 (takes_accept p body h3.1)
                        | inr h3 ↦
                            elim (chosen (eqb kind ACCEPTED) (accepted_at p) (from_ask kind p) (Ok body) h3.1) [
                              | inl h4 ↦ of_kind p kind ACCEPTED body h4.0 (takes_accepted p body h4.1)
                              | inr h4 ↦
                                  elim (chosen (eqb kind ASK) (ask_at p) (from_decided kind p) (Ok body) h4.1) [
                                    | inl h5 ↦ of_kind p kind ASK body h5.0 (takes_ask p body h5.1)
                                    | inr h5 ↦
                                        elim (chosen (eqb kind DECIDED) (decided_at p) (Err BadKind) (Ok body) h5.1) [
                                          | inl h6 ↦ of_kind p kind DECIDED body h6.0 (takes_decided p body h6.1)
                                          | inr h6 ↦ not_err body BadKind h6.1
                                        ]
                                  ]
                            ]
                      ]
                ]
          ]
    ]

-- the body of an envelope, and the envelope
abbrev then_body : ℕ → ℕ → ℕ → Parts → Result Message MessageFault
then_body kind sender slot p = from_prepare kind p >>= λ body. Ok (message sender slot body)

pub message_takes : (p : Parts) (m : Message) → message_at p ≡ Ok m → Means p m
unfolding message_at body_at
message_takes p m e =
    let a = bind_ok (known p.kind) (λ kind. within MAX_NODE p.sender >>= λ sender. within MAX_SLOT p.slot >>= λ slot. then_body kind sender slot p) m e in
    let b = bind_ok (within MAX_NODE p.sender) (λ sender. within MAX_SLOT p.slot >>= λ slot. then_body a.0 sender slot p) m a.2 in
    let c = bind_ok (within MAX_SLOT p.slot) (λ slot. then_body a.0 b.0 slot p) m b.2 in
    let d = bind_ok (from_prepare a.0 p) (λ body. Ok (message b.0 c.0 body)) m c.2 in
    let sender = within_takes MAX_NODE p.sender b.0 b.1 in
    let slot = within_takes MAX_SLOT p.slot c.0 c.1 in
    let body = body_takes a.0 p d.0 d.1 in
    let kind = known_takes p.kind a.0 a.1 ∙ ap Some (sym body.0) in
    subst (Means p) (ok_is (message b.0 c.0 d.0) m d.2)
    (record { kind_is = kind; sender_is = sender.0; slot_is = slot.0; sender_within = sender.1; slot_within = slot.1 }, body.1)

-- ---- what is meant is read

body_again : (p : Parts) (body : Body) → MeansBody p body → from_prepare (kind_of body) p ≡ Ok body
body_again p (Prepare b) h = rw (ballot_again _ _ b h) refl
body_again p (Promise b r) h = rw (ballot_again _ _ b h.0, report_again p r h.1) refl
body_again p (Nack b c) h = rw (ballot_again p.round p.node b h.0, ballot_again p.second_round p.second_node c h.1) refl
body_again p (Accept a) h = rw (acceptance_again p.round p.node p.value a h) refl
body_again p (Accepted a) h = rw (acceptance_again p.round p.node p.value a h) refl
body_again p Ask h = refl
body_again p (Decided v) h = rw (value_again p.value v h) refl

head_again : (p : Parts) (kind sender slot : ℕ) → MeansHead p kind sender slot → message_at p ≡ then_body kind sender slot p
unfolding message_at body_at known
head_again p kind sender slot h =
    rw (h.kind_is, h.sender_is, h.slot_is, within_again MAX_NODE sender h.sender_within, within_again MAX_SLOT slot h.slot_within) refl

pub message_again : (p : Parts) (m : Message) → Means p m → message_at p ≡ Ok m
message_again p m h =
    head_again p (kind_of m.body) m.sender m.slot h.0 ∙ ap (λ (r : Read). r >>= λ body. Ok (message m.sender m.slot body)) (body_again p m.body h.1)

-- ---- each fault stands

faults_prepare : (p : Parts) (fault : MessageFault) → p.kind ≡ Some PREPARE → prepare_at p ≡ Err fault → BodyFault p fault
faults_prepare p fault kind e =
    elim (bind_err {B = Body} (ballot_at p.round p.node) (λ b. Ok (Prepare b)) fault e) [
      | inl h ↦ in_prepare kind (ballot_faults _ _ fault h)
      | inr b ↦ not_ok _ _ b.2
    ]

faults_promise : (p : Parts) (fault : MessageFault) → p.kind ≡ Some PROMISE → promise_at p ≡ Err fault → BodyFault p fault
faults_promise p fault kind e =
    elim (bind_err {B = Body} (ballot_at p.round p.node) (λ b. report_at p >>= λ r. Ok (Promise b r)) fault e) [
      | inl h ↦ in_promise kind (ballot_faults _ _ fault h)
      | inr b ↦
          elim (bind_err {B = Body} (report_at p) (λ r. Ok (Promise b.0 r)) fault b.2) [
            | inl h ↦ let r = report_faults p fault h in in_report kind r.0 r.1
            | inr r ↦ not_ok _ _ r.2
          ]
    ]

faults_nack : (p : Parts) (fault : MessageFault) → p.kind ≡ Some NACK → nack_at p ≡ Err fault → BodyFault p fault
faults_nack p fault kind e =
    elim (bind_err {B = Body} (ballot_at p.round p.node) (λ b. ballot_at p.second_round p.second_node >>= λ c. Ok (Nack b c)) fault e) [
      | inl h ↦ in_nack kind (inl (ballot_faults _ _ fault h))
      | inr b ↦
          elim (bind_err {B = Body} (ballot_at p.second_round p.second_node) (λ c. Ok (Nack b.0 c)) fault b.2) [
            | inl h ↦ in_nack kind (inr (ballot_faults _ _ fault h))
            | inr c ↦ not_ok _ _ c.2
          ]
    ]

faults_valued : (make : Acceptance → Body) (p : Parts) (fault : MessageFault) → valued_at make p ≡ Err fault → BallotFault p.round p.node fault ⊎ ValueFault p.value fault
faults_valued make p fault e =
    elim (bind_err {B = Body} (acceptance_at p.round p.node p.value) (λ a. Ok (make a)) fault e) [
      | inl h ↦ acceptance_faults _ _ _ fault h
      | inr a ↦ not_ok _ _ a.2
    ]

faults_accept : (p : Parts) (fault : MessageFault) → p.kind ≡ Some ACCEPT → accept_at p ≡ Err fault → BodyFault p fault
faults_accept p fault kind e = in_accept kind (faults_valued Accept p fault e)

faults_accepted : (p : Parts) (fault : MessageFault) → p.kind ≡ Some ACCEPTED → accepted_at p ≡ Err fault → BodyFault p fault
faults_accepted p fault kind e = in_accepted kind (faults_valued Accepted p fault e)

faults_ask : (p : Parts) (fault : MessageFault) → p.kind ≡ Some ASK → ask_at p ≡ Err fault → BodyFault p fault
faults_ask p fault kind e = not_ok Ask fault e

faults_decided : (p : Parts) (fault : MessageFault) → p.kind ≡ Some DECIDED → decided_at p ≡ Err fault → BodyFault p fault
faults_decided p fault kind e =
    elim (bind_err {B = Body} (value_at p.value) (λ v. Ok (Decided v)) fault e) [
      | inl h ↦ in_decided kind (value_faults _ fault h)
      | inr v ↦ not_ok _ _ v.2
    ]

is_kind : (p : Parts) (kind other : ℕ) → eqb kind other ≡ true → p.kind ≡ Some kind → p.kind ≡ Some other
is_kind p kind other e is = is ∙ ap Some (eqb-true _ _ e)

-- a kind that is none of the seven
no_kind : (p : Parts) (kind : ℕ) → p.kind ≡ Some kind → kind ≢ PREPARE → kind ≢ PROMISE → kind ≢ NACK → kind ≢ ACCEPT → kind ≢ ACCEPTED → kind ≢ ASK → kind ≢ DECIDED → IsUnknownKind p
no_kind p kind is a b c d e f g =
    record {
      kind = kind;
      is = is;
      unknown = elim (cases_lt kind PREPARE) [ inl lt ↦ inl lt | inr le ↦ inr (omega arith) ];
    }

body_faults : (kind : ℕ) (p : Parts) (fault : MessageFault) → p.kind ≡ Some kind → from_prepare kind p ≡ Err fault → PartsFault p fault
body_faults kind p fault is e =
    elim (chosen (eqb kind PREPARE) (prepare_at p) (from_promise kind p) (Err fault) e) [
      | inl h0 ↦ inr (inl (faults_prepare p fault (is_kind p kind PREPARE h0.0 is) h0.1))
      | inr h0 ↦
          elim (chosen (eqb kind PROMISE) (promise_at p) (from_nack kind p) (Err fault) h0.1) [
            | inl h1 ↦ inr (inl (faults_promise p fault (is_kind p kind PROMISE h1.0 is) h1.1))
            | inr h1 ↦
                elim (chosen (eqb kind NACK) (nack_at p) (from_accept kind p) (Err fault) h1.1) [
                  | inl h2 ↦ inr (inl (faults_nack p fault (is_kind p kind NACK h2.0 is) h2.1))
                  | inr h2 ↦
                      elim (chosen (eqb kind ACCEPT) (accept_at p) (from_accepted kind p) (Err fault) h2.1) [
                        | inl h3 ↦ inr (inl (faults_accept p fault (is_kind p kind ACCEPT h3.0 is) h3.1))
                        | inr h3 ↦
                            elim (chosen (eqb kind ACCEPTED) (accepted_at p) (from_ask kind p) (Err fault) h3.1) [
                              | inl h4 ↦ inr (inl (faults_accepted p fault (is_kind p kind ACCEPTED h4.0 is) h4.1))
                              | inr h4 ↦
                                  elim (chosen (eqb kind ASK) (ask_at p) (from_decided kind p) (Err fault) h4.1) [
                                    | inl h5 ↦ inr (inl (faults_ask p fault (is_kind p kind ASK h5.0 is) h5.1))
                                    | inr h5 ↦
                                        elim (chosen (eqb kind DECIDED) (decided_at p) (Err BadKind) (Err fault) h5.1) [
                                          | inl h6 ↦ inr (inl (faults_decided p fault (is_kind p kind DECIDED h6.0 is) h6.1))
                                          | inr h6 ↦ inr (inr (sym (err_is BadKind fault h6.1), no_kind p kind is (eqb-false _ _ h0.0) (eqb-false _ _ h1.0) (eqb-false _ _ h2.0) (eqb-false _ _ h3.0) (eqb-false _ _ h4.0) (eqb-false _ _ h5.0) (eqb-false _ _ h6.0)))
                                        ]
                                  ]
                            ]
                      ]
                ]
          ]
    ]

pub message_faults : (p : Parts) (fault : MessageFault) → message_at p ≡ Err fault → PartsFault p fault
unfolding message_at body_at
message_faults p fault e =
    elim (bind_err {B = Message} (known p.kind) (λ kind. within MAX_NODE p.sender >>= λ sender. within MAX_SLOT p.slot >>= λ slot. then_body kind sender slot p) fault e) [
      | inl h ↦ let k = known_faults p.kind fault h in inl (subst (HeadFault p) k.0 (inl k.1))
      | inr a ↦
          elim (bind_err {B = Message} (within MAX_NODE p.sender) (λ sender. within MAX_SLOT p.slot >>= λ slot. then_body a.0 sender slot p) fault a.2) [
            | inl h ↦ inl (misfit_of fault (λ x. inr (inl x)) (λ y. inl y) (within_faults MAX_NODE p.sender fault h))
            | inr b ↦
                elim (bind_err {B = Message} (within MAX_SLOT p.slot) (λ slot. then_body a.0 b.0 slot p) fault b.2) [
                  | inl h ↦ inl (misfit_of fault (λ x. inr (inr x)) (λ y. inr y) (within_faults MAX_SLOT p.slot fault h))
                  | inr c ↦
                      elim (bind_err {B = Message} (from_prepare a.0 p) (λ body. Ok (message b.0 c.0 body)) fault c.2) [
                        | inl h ↦ body_faults a.0 p fault (known_takes p.kind a.0 a.1) h
                        | inr d ↦ not_ok _ _ d.2
                      ]
                ]
          ]
    ]
