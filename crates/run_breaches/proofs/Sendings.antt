-- What a message says, as one of the messages of its slot.
use Rattle.std.proofs.Common.{◌≡◌, ℕ, Some, ap, ◌∙◌}
use Rattle.ballots.specs.Ballot.{Ballot}
use Rattle.ballots.specs.declared.value.Value.{Value}
use Rattle.ballots.specs.declared.acceptance.Acceptance.{Acceptance}
use Rattle.ballots.specs.declared.message.Message.{Message}
use Rattle.ballots.specs.declared.message.Body.{Body}
use Rattle.ballots.specs.declared.message.Body.TheVariants as body
use Rattle.ballots.specs.Message.{message}
use Rattle.lawful_histories.specs.Saying.{Report}
use Rattle.lawful_histories.specs.Messages.{promise, accept, accepted, decided}
use Rattle.run_breaches.specs.Earlier.{Proposes, Accepts, Promises, Reports, Decides}

-- the same body of this node and this slot
pub as_of : (p t a s : ℕ) (x : Body) → t ≡ s → p ≡ a → message p t x ≡ message a s x
as_of p t a s x same_slot same_node = ap (λ (i : ℕ). message p i x) same_slot ∙ ap (λ (i : ℕ). message i s x) same_node

proposal_of : (s : ℕ) (b : Ballot) (v : Value) (p t : ℕ) (x : Body) → Proposes s b v (message p t x) → message p t x ≡ accept p s b v
proposal_of s b v p t (body.Accept q) h =
    ap (λ (i : ℕ). accept p i q.ballot q.value) h.0 ∙ ap (λ (c : Ballot). accept p s c q.value) h.1.0 ∙ ap (λ (w : Value). accept p s b w) h.1.1
proposal_of s b v p t other h = absurd h.1

pub proposal_is : (s : ℕ) (b : Ballot) (v : Value) (e : Message) → Proposes s b v e → e ≡ accept e.sender s b v
proposal_is s b v e h = proposal_of s b v e.sender e.slot e.body h

acceptance_of : (s : ℕ) (b : Ballot) (v : Value) (a p t : ℕ) (x : Body) → Accepts s b v a (message p t x) → message p t x ≡ accepted a s b v
acceptance_of s b v a p t (body.Accepted q) h =
    as_of p t a s (body.Accepted q) h.0 h.1 ∙ ap (λ (c : Ballot). accepted a s c q.value) h.2.0 ∙ ap (λ (w : Value). accepted a s b w) h.2.1
acceptance_of s b v a p t other h = absurd h.2

pub acceptance_is : (s : ℕ) (b : Ballot) (v : Value) (a : ℕ) (e : Message) → Accepts s b v a e → e ≡ accepted a s b v
acceptance_is s b v a e h = acceptance_of s b v a e.sender e.slot e.body h

promise_of : (s : ℕ) (b : Ballot) (P : Report → Type 0) (a p t : ℕ) (x : Body) → Promises s b P a (message p t x)
    → (r : Report) × (message p t x ≡ promise a s b r) × P r
promise_of s b P a p t (body.Promise c r) h = (r, as_of p t a s (body.Promise c r) h.0 h.1 ∙ ap (λ (d : Ballot). promise a s d r) h.2.0, h.2.1)
promise_of s b P a p t other h = absurd h.2

pub promise_is : (s : ℕ) (b : Ballot) (P : Report → Type 0) (a : ℕ) (e : Message) → Promises s b P a e → (r : Report) × (e ≡ promise a s b r) × P r
promise_is s b P a e h = promise_of s b P a e.sender e.slot e.body h

report_of : (n s : ℕ) (b : Ballot) (P : Acceptance → Type 0) (p t : ℕ) (x : Body) → Reports n s b P (message p t x)
    → (q : Acceptance) × (message p t x ≡ promise p s b (Some q)) × P q
report_of n s b P p t (body.Promise c (Some q)) h =
    (q, ap (λ (i : ℕ). promise p i c (Some q)) h.0 ∙ ap (λ (d : Ballot). promise p s d (Some q)) h.2.0, h.2.1)
report_of n s b P p t (body.Promise c r) h = absurd h.2.1
report_of n s b P p t other h = absurd h.2

pub report_is : (n s : ℕ) (b : Ballot) (P : Acceptance → Type 0) (e : Message) → Reports n s b P e
    → (q : Acceptance) × (e ≡ promise e.sender s b (Some q)) × P q
report_is n s b P e h = report_of n s b P e.sender e.slot e.body h

decision_of : (s : ℕ) (v : Value) (p t : ℕ) (x : Body) → Decides s v (message p t x) → message p t x ≡ decided p s v
decision_of s v p t (body.Decided w) h = ap (λ (i : ℕ). decided p i w) h.0 ∙ ap (λ (u : Value). decided p s u) h.1
decision_of s v p t other h = absurd h.1

pub decision_is : (s : ℕ) (v : Value) (e : Message) → Decides s v e → e ≡ decided e.sender s v
decision_is s v e h = decision_of s v e.sender e.slot e.body h
