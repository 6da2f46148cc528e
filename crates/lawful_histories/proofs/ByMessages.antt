-- What is said of a slot, and the messages that say it.
use Rattle.std.proofs.Common.{◌≡◌, ◌≢◌, ◌↔◌, ℕ, Bool, true, false, cond, ◌==◌, List, get_or, refl, sym, ap, subst, ◌∙◌, eq-eqb, arith, Some}
use Rattle.std.proofs.lemmas.Bool.Decides.{nat_tests}
use Rattle.std.proofs.lemmas.List.{get_or_default}
use Rattle.ballots.specs.Ballot.{Ballot}
use Rattle.ballots.specs.declared.value.Value.{Value}
use Rattle.ballots.specs.declared.message.Message.{Message}
use Rattle.ballots.specs.declared.message.Body.{Body}
use Rattle.ballots.specs.declared.message.Body.TheVariants as body
use Rattle.ballots.specs.Acceptance.{acceptance}
use Rattle.ballots.specs.Message.{message}
use Rattle.lawful_histories.specs.Saying.{Saying, Silent, Prepare, Promise, Accept, Accepted, Decided, of_one, saying, says, sayings}
use Rattle.lawful_histories.specs.Lawful.{Said, SaidBefore, IsOfHighestReport}
use Rattle.lawful_histories.specs.Messages.{prepare, promise, accept, accepted, decided, IsSaidBy, Says, SaysBefore, HasHighestReport}
use Rattle.lawful_histories.proofs.Places.{blank, within_sent, said_by, said_there}

-- something is said
abbrev pub IsSpoken : Saying → Type 0
IsSpoken Silent = ⊥
IsSpoken (Prepare b) = Unit {0}
IsSpoken (Promise a b r) = Unit {0}
IsSpoken (Accept b v) = Unit {0}
IsSpoken (Accepted a b v) = Unit {0}
IsSpoken (Decided v) = Unit {0}

not_silent : (x : Saying) → IsSpoken x → x ≢ Silent
not_silent x spoken silent = subst IsSpoken silent spoken

-- ---- from what a message says to its form

at_test : (m : Message) (slot s : ℕ) (x : Saying) (t : Bool) → (t ≡ true → slot ≡ s) → (slot ≡ s → x ≢ Silent → IsSaidBy m s x)
    → cond t x Silent ≢ Silent → IsSaidBy m s (cond t x Silent)
at_test m slot s x true same h not = h (same refl) not
at_test m slot s x false same h not = absurd (not refl)

of_its_slot : (m : Message) (slot s : ℕ) (x : Saying) → (slot ≡ s → x ≢ Silent → IsSaidBy m s x) → of_one slot s x ≢ Silent → IsSaidBy m s (of_one slot s x)
of_its_slot m slot s x h = at_test m slot s x (slot == s) (λ e. grind (arith, nat_tests)) h

by_its_body : (sender slot : ℕ) (b : Body) (s : ℕ) → slot ≡ s → saying sender b ≢ Silent → IsSaidBy (message sender slot b) s (saying sender b)
by_its_body p slot (body.Prepare b) s e not = (p, ap (λ (t : ℕ). prepare p t b) e)
by_its_body a slot (body.Promise b r) s e not = ap (λ (t : ℕ). promise a t b r) e
by_its_body p slot (body.Nack b c) s e not = absurd (not refl)
by_its_body p slot (body.Accept a) s e not = (p, ap (λ (t : ℕ). accept p t a.ballot a.value) e)
by_its_body d slot (body.Accepted a) s e not = ap (λ (t : ℕ). accepted d t a.ballot a.value) e
by_its_body p slot body.Ask s e not = absurd (not refl)
by_its_body p slot (body.Decided v) s e not = (p, ap (λ (t : ℕ). decided p t v) e)

said_by_it : (m : Message) (s : ℕ) → says m s ≢ Silent → IsSaidBy m s (says m s)
said_by_it m s = of_its_slot m m.slot s (saying m.sender m.body) (λ e. by_its_body m.sender m.slot m.body s e)

-- ---- and back

own_slot : (s : ℕ) (x : Saying) → of_one s s x ≡ x
own_slot s x = ap (λ (t : Bool). cond t x Silent) (eq-eqb s s refl)

as_message : (m n : Message) (s : ℕ) (x : Saying) → m ≡ n → says n s ≡ x → says m s ≡ x
as_message m n s x is says_it = ap (λ (o : Message). says o s) is ∙ says_it

it_says : (m : Message) (s : ℕ) (x : Saying) → IsSaidBy m s x → says m s ≡ x
it_says m s Silent by = absurd by
it_says m s (Prepare b) by = as_message m (prepare by.0 s b) s (Prepare b) by.1 (own_slot s (Prepare b))
it_says m s (Promise a b r) by = as_message m (promise a s b r) s (Promise a b r) by (own_slot s (Promise a b r))
it_says m s (Accept b v) by = as_message m (accept by.0 s b v) s (Accept b v) by.1 (own_slot s (Accept b v))
it_says m s (Accepted a b v) by = as_message m (accepted a s b v) s (Accepted a b v) by (own_slot s (Accepted a b v))
it_says m s (Decided v) by = as_message m (decided by.0 s v) s (Decided v) by.1 (own_slot s (Decided v))

is_spoken : (m : Message) (s : ℕ) (x : Saying) → IsSaidBy m s x → IsSpoken x
is_spoken m s Silent by = by
is_spoken m s (Prepare b) by = tt
is_spoken m s (Promise a b r) by = tt
is_spoken m s (Accept b v) by = tt
is_spoken m s (Accepted a b v) by = tt
is_spoken m s (Decided v) by = tt

-- ---- both ways

it_is_said : (m : Message) (s : ℕ) (x : Saying) → says m s ≡ x → x ≢ Silent → IsSaidBy m s x
it_is_said m s x is not = subst (IsSaidBy m s) is (said_by_it m s (λ silent. not (sym is ∙ silent)))

pub says_what_it_is : (m : Message) (s : ℕ) (x : Saying) → IsSaidBy m s x ↔ ((says m s ≡ x) × (x ≢ Silent))
says_what_it_is m s x = (λ by. (it_says m s x by, not_silent x (is_spoken m s x by)), λ it. it_is_said m s x it.0 it.1)

module _ (sent : List Message) where
  pub says_said : (k s : ℕ) (x : Saying) → Says sent k s x → Said (sayings sent s) k x
  says_said k s x (m, h, by) = subst (Said (sayings sent s) k) (ap (λ (n : Message). says n s) h.1 ∙ it_says m s x by) (said_there sent s k m h.0)

  said_says_it : (k s : ℕ) (x : Saying) → Said (sayings sent s) k x → x ≢ Silent → Says sent k s x
  said_says_it k s x h not =
      let lt = within_sent sent s k x h in
      let m = get_or sent k blank in
      (m, (lt, get_or_default sent k m blank lt), it_is_said m s x (said_by sent s k blank x h) not)

  pub says_what_is_said : (k s : ℕ) (x : Saying) → Says sent k s x ↔ (Said (sayings sent s) k x × (x ≢ Silent))
  says_what_is_said k s x = (λ it. (says_said k s x it, not_silent x (is_spoken it.0 s x it.2)), λ it. said_says_it k s x it.0 it.1)

  pub said_says : (k s : ℕ) (x : Saying) → IsSpoken x → Said (sayings sent s) k x → Says sent k s x
  said_says k s x spoken h = said_says_it k s x h (not_silent x spoken)

  -- what stands before a place
  pub says_said_before : (k s : ℕ) (x : Saying) → SaysBefore sent k s x → SaidBefore (sayings sent s) k x
  says_said_before k s x h = (h.0, h.1, says_said h.0 s x h.2)

  pub said_says_before : (k s : ℕ) (x : Saying) → IsSpoken x → SaidBefore (sayings sent s) k x → SaysBefore sent k s x
  said_says_before k s x spoken h = (h.0, h.1, said_says h.0 s x spoken h.2)

  module _ (n : ℕ) (k s : ℕ) (b : Ballot) (v : Value) where
    pub highest_says : IsOfHighestReport n (sayings sent s) k b v → HasHighestReport n sent k s b v
    highest_says h = record {
      highest = h.highest;
      promised = record {
        is_in = h.promised.is_in;
        majority = h.promised.majority;
        each = λ a lt in'. let p = h.promised.each a lt in' in (p.0, said_says_before k s (Promise a b p.0) tt p.1, p.2);
      };
      reporter = h.reporter;
      is_member = h.is_member;
      is_in = h.is_in;
      reported = said_says_before k s (Promise h.reporter b (Some (acceptance h.highest v))) tt h.reported;
    }

    pub says_highest : HasHighestReport n sent k s b v → IsOfHighestReport n (sayings sent s) k b v
    says_highest h = record {
      highest = h.highest;
      promised = record {
        is_in = h.promised.is_in;
        majority = h.promised.majority;
        each = λ a lt in'. let p = h.promised.each a lt in' in (p.0, says_said_before k s (Promise a b p.0) p.1, p.2);
      };
      reporter = h.reporter;
      is_member = h.is_member;
      is_in = h.is_in;
      reported = says_said_before k s (Promise h.reporter b (Some (acceptance h.highest v))) h.reported;
    }
