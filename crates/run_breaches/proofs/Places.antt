-- The places of messages, before one more and with it.
use Rattle.std.proofs.Common.{◌≡◌, ℕ, ◌+◌, ◌<◌, ◌≤◌, List, [], ◌∷◌, ◌++◌, length, get_or, refl, sym, subst, ◌∙◌, arith}
use Rattle.std.specs.List.{All, Any}
use Rattle.std.proofs.lemmas.List.{length_push, get_or_push, get_or_append_left, get_or_default}
use Rattle.ballots.specs.declared.message.Message.{Message}
use Rattle.lawful_histories.specs.Saying.{Saying}
use Rattle.lawful_histories.specs.Messages.{Sent, IsSaidBy, Says, SaysBefore}

module _ (before : List Message) where
  -- the message in a place
  pub sent_there : (j : ℕ) (d : Message) → j < length before → Sent before j (get_or before j d)
  sent_there j d lt = (lt, get_or_default before j (get_or before j d) d lt)

  -- what all let be, that in this place does
  pub all_let : (K : Message → Type 0) (j : ℕ) (x : Message) → All K before → Sent before j x → K x
  all_let K j x all h = subst K h.1 (all j x h.0)

  pub let_all : (K : Message → Type 0) → ((j : ℕ) (x : Message) → Sent before j x → K x) → All K before
  let_all K each j d lt = each j (get_or before j d) (sent_there j d lt)

  pub any_there : (P : Message → Type 0) (j : ℕ) (x : Message) → Sent before j x → P x → Any P before
  any_there P j x h p = (j, x, h.0, h.1, p)

  -- what is found there says it
  pub found_says : (P : Message → Type 0) (h : Any P before) (s : ℕ) (x : Saying) → IsSaidBy h.1 s x → Says before h.0 s x
  found_says P h s x by = (h.1, (h.2, h.3), by)

  module _ (m : Message) where
    abbrev pub longer : List Message
    longer = before ++ m ∷ []

    longer_length : length longer ≡ length before + 1
    longer_length = length_push before m

    pub older : (j : ℕ) (x : Message) → j < length before → Sent longer j x → Sent before j x
    older j x lt h = (lt, sym (get_or_append_left before (m ∷ []) x j lt) ∙ h.1)

    pub newer : (j : ℕ) (x : Message) → Sent before j x → Sent longer j x
    newer j x h = (omega (arith, h.0, longer_length), get_or_append_left before (m ∷ []) x j h.0 ∙ h.1)

    -- the place of the last message
    pub at_last : (k : ℕ) (x : Message) → length before ≤ k → Sent longer k x → length before ≡ k
    at_last k x le h = let lt : k < length longer = h.0 in omega (arith, le, lt, longer_length)

    pub last_is : (k : ℕ) (x : Message) → length before ≤ k → Sent longer k x → m ≡ x
    last_is k x le h = sym (get_or_push before m x k (at_last k x le h)) ∙ h.1

    pub last_sent : Sent longer (length before) m
    last_sent = (omega (arith, longer_length), get_or_push before m m (length before) refl)

    -- ---- and of what they say

    pub older_says : (j s : ℕ) (x : Saying) → j < length before → Says longer j s x → Says before j s x
    older_says j s x lt (y, h, by) = (y, older j y lt h, by)

    newer_says : (j s : ℕ) (x : Saying) → Says before j s x → Says longer j s x
    newer_says j s x (y, h, by) = (y, newer j y h, by)

    -- what is said in the last place, the last message says
    pub last_by : (k s : ℕ) (x : Saying) → length before ≤ k → Says longer k s x → IsSaidBy m s x
    last_by k s x le (y, h, by) = subst (λ (z : Message). IsSaidBy z s x) (sym (last_is k y le h)) by

    pub last_says : (s : ℕ) (x : Saying) → IsSaidBy m s x → Says longer (length before) s x
    last_says s x by = (m, last_sent, by)

    pub earlier_says : (j k s t : ℕ) (x y : Saying) → j < k → length before ≤ k → Says longer k s x → Says longer j t y → Says before j t y
    earlier_says j k s t x y lt le there here = let last = at_last k there.0 le there.1 in older_says j t y (omega (arith, lt, last)) here

    -- what was said before a place was said before it still
    pub still_before : (k s : ℕ) (x : Saying) → SaysBefore before k s x → SaysBefore longer k s x
    still_before k s x h = (h.0, h.1, newer_says h.0 s x h.2)

    pub before_last : (k j s : ℕ) (x : Saying) → length before ≤ k → Says before j s x → SaysBefore longer k s x
    before_last k j s x le h = (j, (let lt : j < length before = h.1.0 in omega (arith, le, lt)), newer_says j s x h)

    pub last_before : (s : ℕ) (x : Saying) → SaysBefore longer (length before) s x → (j : ℕ) × Says before j s x
    last_before s x h = (h.0, older_says h.0 s x h.1 h.2)
