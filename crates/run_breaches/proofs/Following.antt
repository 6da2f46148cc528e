-- A message may follow lawful ones exactly where it keeps every rule.
use Rattle.std.proofs.Common.{◌≡◌, ℕ, ◌<◌, ◌≤◌, ◌⊎◌, inl, inr, List, [], ◌∷◌, ◌++◌, length, Some, None, refl, sym, ap, subst, ◌∙◌, arith}
use Rattle.std.specs.List.{All, Any}
use Rattle.std.proofs.lemmas.Bool.{cases_lt}
use Rattle.ballots.specs.Ballot.{Ballot, IsBelow}
use Rattle.ballots.proofs.CallerLemmas.{not_below_itself}
use Rattle.ballots.specs.declared.value.Value.{Value}
use Rattle.ballots.specs.declared.acceptance.Acceptance.{Acceptance}
use Rattle.ballots.specs.declared.message.Message.{Message}
use Rattle.ballots.specs.declared.message.Body.{Body}
use Rattle.ballots.specs.declared.message.Body.TheVariants as body
use Rattle.ballots.specs.Acceptance.{acceptance}
use Rattle.ballots.specs.Message.{message}
use Rattle.lawful_histories.specs.Saying.{Report, IsUpTo, Saying, Silent, Prepare, Promise, Accept, Accepted, Decided}
use Rattle.lawful_histories.specs.Majorities.{MajorityOf}
use Rattle.lawful_histories.specs.Judging.{ReportCovers}
use Rattle.lawful_histories.specs.Messages.{promise, accept, accepted, Sent, IsSaidBy, Says, SaysBefore, HasHighestReport, KeepsTheRules}
use Rattle.run_breaches.specs.Earlier.{LetsPropose, LetsAccept, LetsPromise, LetsReport, Proposes, Accepts, Promises, WasProposed, MostPromised, IsWithin, ShowsSafe, MayBeProposed, WasChosen}
use Rattle.run_breaches.specs.Rules.{IsReportBelow, IsReportProposed, KeepsPromise, KeepsAccept, KeepsAccepted, BodyKeeps, Keeps}
use Rattle.run_breaches.proofs.Majorities.{most_weaker, most_with}
use Rattle.run_breaches.proofs.Places.{all_let, let_all, any_there, found_says, older_says, newer, last_by, last_sent, earlier_says, still_before, before_last, last_before}
use Rattle.run_breaches.proofs.Sendings.{as_of, proposal_is, acceptance_is, promise_is, report_is}

-- the value of a proposal
abbrev value_of : Value → Body → Value
value_of v (body.Accept p) = p.value
value_of v other = v

-- ---- what was said, and what a rule asks for

-- a Promise that was said is a message of its slot
promise_sent : (sent : List Message) (k s a : ℕ) (b : Ballot) (r : Report) → Says sent k s (Promise a b r) → Sent sent k (promise a s b r)
promise_sent sent k s a b r (m, h, by) = subst (Sent sent k) by h

-- likewise an Accepted
accepted_sent : (sent : List Message) (k s a : ℕ) (b : Ballot) (v : Value) → Says sent k s (Accepted a b v) → Sent sent k (accepted a s b v)
accepted_sent sent k s a b v (m, h, by) = subst (Sent sent k) by h

-- and an Accept
accept_sent : (sent : List Message) (k s : ℕ) (b : Ballot) (v : Value) → Says sent k s (Accept b v) → (p : ℕ) × Sent sent k (accept p s b v)
accept_sent sent k s b v (m, h, (p, by)) = (p, subst (Sent sent k) by h)

module _ (n s : ℕ) (before : List Message) where
  proposed_as : (b : Ballot) (v : Value) → WasProposed s before b v → (j : ℕ) × Says before j s (Accept b v)
  proposed_as b v h = (h.0, found_says before (Proposes s b v) h s (Accept b v) (h.1.sender, proposal_is s b v h.1 h.4))

  as_proposed : (b : Ballot) (v : Value) (j : ℕ) → Says before j s (Accept b v) → WasProposed s before b v
  as_proposed b v j h = let it = accept_sent before j s b v h in any_there before (Proposes s b v) j (accept it.0 s b v) it.1 (refl, (refl, refl))

  accepted_as : (b : Ballot) (v : Value) (a : ℕ) → Any (Accepts s b v a) before → (j : ℕ) × Says before j s (Accepted a b v)
  accepted_as b v a h = (h.0, found_says before (Accepts s b v a) h s (Accepted a b v) (acceptance_is s b v a h.1 h.4))

  pub as_accepted : (b : Ballot) (v : Value) (a j : ℕ) → Says before j s (Accepted a b v) → Any (Accepts s b v a) before
  as_accepted b v a j h = any_there before (Accepts s b v a) j (accepted a s b v) (accepted_sent before j s a b v h) (refl, refl, (refl, refl))

  promised_as : (b : Ballot) (P : Report → Type 0) (a : ℕ) → Any (Promises s b P a) before → (r : Report) × (j : ℕ) × Says before j s (Promise a b r) × P r
  promised_as b P a h =
      let it = promise_is s b P a h.1 h.4 in
      (it.0, h.0, found_says before (Promises s b P a) h s (Promise a b it.0) it.1, it.2)

  as_promised : (b : Ballot) (P : Report → Type 0) (a : ℕ) (r : Report) (j : ℕ) → Says before j s (Promise a b r) → P r → Any (Promises s b P a) before
  as_promised b P a r j h p = any_there before (Promises s b P a) j (promise a s b r) (promise_sent before j s a b r h) (refl, refl, (refl, p))

  module _ (m : Message) where
    abbrev sent : List Message
    sent = before ++ m ∷ []

    -- ---- safe, before the last place

    safe_sent : (k : ℕ) (b : Ballot) (v : Value) → length before ≤ k → MayBeProposed n s before b v
        → MajorityOf n (λ a. SaysBefore sent k s (Promise a b None)) ⊎ HasHighestReport n sent k s b v
    safe_sent k b v le (inl free) =
        inl (most_weaker n (λ a. Any (Promises s b (IsWithin None) a) before) (λ a. SaysBefore sent k s (Promise a b None)) (λ a lt h.
        let it = promised_as b (IsWithin None) a h in
        before_last before m k it.1 s (Promise a b None) le (subst (λ (r : Report). Says before it.1 s (Promise a b r)) it.3 it.2)) free)
    safe_sent k b v le (inr found) =
        let shown = report_is n s b (λ q. (q.value ≡ v) × MostPromised n s before b (IsWithin (Some q.ballot))) found.1 found.4 in
        let e : Message = found.1 in
        let q : Acceptance = shown.0 in
        let top : Ballot = q.ballot in
        let here : Says before found.0 s (Promise e.sender b (Some (acceptance top q.value))) = found_says before (ShowsSafe n s before b v) found s (Promise e.sender b (Some q)) shown.1 in
        let reported : SaysBefore sent k s (Promise e.sender b (Some (acceptance top v))) =
        before_last before m k found.0 s (Promise e.sender b (Some (acceptance top v))) le
        (subst (λ (w : Value). Says before found.0 s (Promise e.sender b (Some (acceptance top w)))) shown.2.0 here) in
        let most = most_weaker n (λ a. Any (Promises s b (IsWithin (Some top)) a) before) (λ a. (r : Report) × SaysBefore sent k s (Promise a b r) × IsUpTo r top) (λ a lt h.
        let it = promised_as b (IsWithin (Some top)) a h in (it.0, before_last before m k it.1 s (Promise a b it.0) le it.2, it.3)) shown.2.1 in
        let with_it = most_with n (λ a. (r : Report) × SaysBefore sent k s (Promise a b r) × IsUpTo r top) e.sender (Some (acceptance top v), reported, not_below_itself top) most in
        inr (record { highest = top; promised = with_it.most; reporter = e.sender; is_member = found.4.1; is_in = with_it.is_in; reported = reported })

    sent_safe : (b : Ballot) (v : Value) → MajorityOf n (λ a. SaysBefore sent (length before) s (Promise a b None)) ⊎ HasHighestReport n sent (length before) s b v
        → MayBeProposed n s before b v
    sent_safe b v (inl free) =
        inl (most_weaker n (λ a. SaysBefore sent (length before) s (Promise a b None)) (λ a. Any (Promises s b (IsWithin None) a) before) (λ a lt h.
        let it = last_before before m s (Promise a b None) h in as_promised b (IsWithin None) a None it.0 it.1 refl) free)
    sent_safe b v (inr h) =
        let top : Ballot = h.highest in
        let it = last_before before m s (Promise h.reporter b (Some (acceptance top v))) h.reported in
        let most = most_weaker n (λ a. (r : Report) × SaysBefore sent (length before) s (Promise a b r) × IsUpTo r top) (λ a. Any (Promises s b (IsWithin (Some top)) a) before) (λ a lt p.
        let was = last_before before m s (Promise a b p.0) p.1 in as_promised b (IsWithin (Some top)) a p.0 was.0 was.1 p.2) h.promised in
        inr (any_there before (ShowsSafe n s before b v) it.0 (promise h.reporter s b (Some (acceptance top v)))
        (promise_sent before it.0 s h.reporter b (Some (acceptance top v)) it.1) (refl, h.is_member, (refl, (refl, most))))

    still_highest : (k : ℕ) (b : Ballot) (v : Value) → HasHighestReport n before k s b v → HasHighestReport n sent k s b v
    still_highest k b v h = record {
      highest = h.highest;
      promised = record {
        is_in = h.promised.is_in;
        majority = h.promised.majority;
        each = λ a lt in'. let p = h.promised.each a lt in' in (p.0, still_before before m k s (Promise a b p.0) p.1, p.2);
      };
      reporter = h.reporter;
      is_member = h.is_member;
      is_in = h.is_in;
      reported = still_before before m k s (Promise h.reporter b (Some (acceptance h.highest v))) h.reported;
    }

-- ---- from the rule of the last message to the rules of all

-- what is said of the slot keeps the rule that there is for it
abbrev SayingKeeps : ℕ → ℕ → List Message → Saying → Type 0
SayingKeeps n s before Silent = Unit {0}
SayingKeeps n s before (Prepare b) = Unit {0}
SayingKeeps n s before (Promise a b r) = KeepsPromise s before a b r
SayingKeeps n s before (Accept b v) = KeepsAccept n s before b v
SayingKeeps n s before (Accepted a b v) = KeepsAccepted s before a b v
SayingKeeps n s before (Decided v) = WasChosen n s before v

saying_keeps : (n s : ℕ) (before : List Message) (m : Message) (x : Saying) → Keeps n before m → IsSaidBy m s x → SayingKeeps n s before x
saying_keeps n s before m Silent keeps by = tt
saying_keeps n s before m (Prepare b) keeps by = tt
saying_keeps n s before m (Promise a b r) keeps by = subst (Keeps n before) by keeps
saying_keeps n s before m (Accept b v) keeps by = subst (Keeps n before) by.1 keeps
saying_keeps n s before m (Accepted a b v) keeps by = subst (Keeps n before) by keeps
saying_keeps n s before m (Decided v) keeps by = subst (Keeps n before) by.1 keeps

-- what an earlier message says, where all let the later one be
module _ (before : List Message) (j s : ℕ) where
  promise_lets : (K : Message → Type 0) (a : ℕ) (b : Ballot) (r : Report) → All K before → Says before j s (Promise a b r) → K (promise a s b r)
  promise_lets K a b r all h = all_let before K j (promise a s b r) all (promise_sent before j s a b r h)

  accepted_lets : (K : Message → Type 0) (a : ℕ) (b : Ballot) (v : Value) → All K before → Says before j s (Accepted a b v) → K (accepted a s b v)
  accepted_lets K a b v all h = all_let before K j (accepted a s b v) all (accepted_sent before j s a b v h)

one_proposal : (m : Message) (s : ℕ) (b : Ballot) (v w : Value) → IsSaidBy m s (Accept b v) → IsSaidBy m s (Accept b w) → v ≡ w
one_proposal m s b v w (p, is) (q, is') = let same : accept p s b v ≡ accept q s b w = sym is ∙ is' in ap (λ (x : Message). value_of v x.body) same

module _ (n : ℕ) (before : List Message) (m : Message) (rules : KeepsTheRules n before) (keeps : Keeps n before m) where
  abbrev with_it : List Message
  with_it = before ++ m ∷ []

  -- what the last message says keeps its rule
  kept_as : (k s : ℕ) (x : Saying) → length before ≤ k → Says with_it k s x → SayingKeeps n s before x
  kept_as k s x le h = saying_keeps n s before m x keeps (last_by before m k s x le h)

  proposed_last : (k s : ℕ) (b : Ballot) (v : Value) → length before ≤ k → WasProposed s before b v → SaysBefore with_it k s (Accept b v)
  proposed_last k s b v le h = let it = proposed_as n s before b v h in before_last before m k it.0 s (Accept b v) le it.1

  accepted_was_proposed : (k a s : ℕ) (b : Ballot) (v : Value) → Says with_it k s (Accepted a b v) → SaysBefore with_it k s (Accept b v)
  accepted_was_proposed k a s b v h = elim (cases_lt k (length before)) as (λ _. SaysBefore with_it k s (Accept b v)) [
    | inl lt ↦ still_before before m k s (Accept b v) (rules.accepted_was_proposed k a s b v (older_says before m k s (Accepted a b v) lt h))
    | inr le ↦ let kept : KeepsAccepted s before a b v = kept_as k s (Accepted a b v) le h in proposed_last k s b v le kept.proposed
  ]

  accepted_above_promise : (j k a s : ℕ) (b c : Ballot) (r : Report) (v : Value) → j < k
      → Says with_it j s (Promise a b r) → Says with_it k s (Accepted a c v) → IsBelow c b → ⊥
  accepted_above_promise j k a s b c r v lt g h below = elim (cases_lt k (length before)) as (λ _. ⊥) [
    | inl in' ↦
        rules.accepted_above_promise j k a s b c r v lt (older_says before m j s (Promise a b r) (omega (arith, lt, in')) g) (older_says before m k s (Accepted a c v) in' h) below
    | inr le ↦
        let kept : KeepsAccepted s before a c v = kept_as k s (Accepted a c v) le h in
        promise_lets before j s (LetsAccept s a c) a b r kept.least (earlier_says before m j k s s (Accepted a c v) (Promise a b r) lt le h g) refl refl below
  ]

  accepted_above_accepted : (j k a s : ℕ) (b c : Ballot) (u v : Value) → j < k
      → Says with_it j s (Accepted a b u) → Says with_it k s (Accepted a c v) → IsBelow c b → ⊥
  accepted_above_accepted j k a s b c u v lt g h below = elim (cases_lt k (length before)) as (λ _. ⊥) [
    | inl in' ↦
        rules.accepted_above_accepted j k a s b c u v lt (older_says before m j s (Accepted a b u) (omega (arith, lt, in')) g) (older_says before m k s (Accepted a c v) in' h) below
    | inr le ↦
        let kept : KeepsAccepted s before a c v = kept_as k s (Accepted a c v) le h in
        accepted_lets before j s (LetsAccept s a c) a b u kept.least (earlier_says before m j k s s (Accepted a c v) (Accepted a b u) lt le h g) refl refl below
  ]

  promise_above_promise : (j k a s : ℕ) (b c : Ballot) (q r : Report) → j < k
      → Says with_it j s (Promise a b q) → Says with_it k s (Promise a c r) → IsBelow b c
  promise_above_promise j k a s b c q r lt g h = elim (cases_lt k (length before)) as (λ _. IsBelow b c) [
    | inl in' ↦ rules.promise_above_promise j k a s b c q r lt (older_says before m j s (Promise a b q) (omega (arith, lt, in')) g) (older_says before m k s (Promise a c r) in' h)
    | inr le ↦
        let kept : KeepsPromise s before a c r = kept_as k s (Promise a c r) le h in
        promise_lets before j s (LetsPromise s a c) a b q kept.above (earlier_says before m j k s s (Promise a c r) (Promise a b q) lt le h g) refl refl
  ]

  promise_above_accepted : (j k a s : ℕ) (b c : Ballot) (u : Value) (r : Report) → j < k
      → Says with_it j s (Accepted a b u) → Says with_it k s (Promise a c r) → IsBelow b c
  promise_above_accepted j k a s b c u r lt g h = elim (cases_lt k (length before)) as (λ _. IsBelow b c) [
    | inl in' ↦ rules.promise_above_accepted j k a s b c u r lt (older_says before m j s (Accepted a b u) (omega (arith, lt, in')) g) (older_says before m k s (Promise a c r) in' h)
    | inr le ↦
        let kept : KeepsPromise s before a c r = kept_as k s (Promise a c r) le h in
        accepted_lets before j s (LetsPromise s a c) a b u kept.above (earlier_says before m j k s s (Promise a c r) (Accepted a b u) lt le h g) refl refl
  ]

  nothing_was_accepted : (j k a s : ℕ) (b c : Ballot) (v : Value) → j < k
      → Says with_it k s (Promise a b None) → Says with_it j s (Accepted a c v) → ⊥
  nothing_was_accepted j k a s b c v lt h g = elim (cases_lt k (length before)) as (λ _. ⊥) [
    | inl in' ↦ rules.nothing_was_accepted j k a s b c v lt (older_says before m k s (Promise a b None) in' h) (older_says before m j s (Accepted a c v) (omega (arith, lt, in')) g)
    | inr le ↦
        let kept : KeepsPromise s before a b None = kept_as k s (Promise a b None) le h in
        accepted_lets before j s (LetsReport s a None) a c v kept.highest (earlier_says before m j k s s (Promise a b None) (Accepted a c v) lt le h g) refl refl
  ]

  report_is_below : (k a s : ℕ) (b c : Ballot) (v : Value) → Says with_it k s (Promise a b (Some (acceptance c v))) → IsBelow c b
  report_is_below k a s b c v h = elim (cases_lt k (length before)) as (λ _. IsBelow c b) [
    | inl in' ↦ rules.report_is_below k a s b c v (older_says before m k s (Promise a b (Some (acceptance c v))) in' h)
    | inr le ↦ let kept : KeepsPromise s before a b (Some (acceptance c v)) = kept_as k s (Promise a b (Some (acceptance c v))) le h in kept.below
  ]

  report_was_proposed : (k a s : ℕ) (b c : Ballot) (v : Value) → Says with_it k s (Promise a b (Some (acceptance c v)))
      → SaysBefore with_it k s (Accept c v)
  report_was_proposed k a s b c v h = elim (cases_lt k (length before)) as (λ _. SaysBefore with_it k s (Accept c v)) [
    | inl in' ↦ still_before before m k s (Accept c v) (rules.report_was_proposed k a s b c v (older_says before m k s (Promise a b (Some (acceptance c v))) in' h))
    | inr le ↦
        let kept : KeepsPromise s before a b (Some (acceptance c v)) = kept_as k s (Promise a b (Some (acceptance c v))) le h in
        proposed_last k s c v le kept.proposed
  ]

  report_is_highest : (j k a s : ℕ) (b c d : Ballot) (v w : Value) → j < k
      → Says with_it k s (Promise a b (Some (acceptance c v))) → Says with_it j s (Accepted a d w) → IsBelow c d → ⊥
  report_is_highest j k a s b c d v w lt h g below = elim (cases_lt k (length before)) as (λ _. ⊥) [
    | inl in' ↦
        rules.report_is_highest j k a s b c d v w lt (older_says before m k s (Promise a b (Some (acceptance c v))) in' h)
        (older_says before m j s (Accepted a d w) (omega (arith, lt, in')) g) below
    | inr le ↦
        let kept : KeepsPromise s before a b (Some (acceptance c v)) = kept_as k s (Promise a b (Some (acceptance c v))) le h in
        accepted_lets before j s (LetsReport s a (Some (acceptance c v))) a d w kept.highest
        (earlier_says before m j k s s (Promise a b (Some (acceptance c v))) (Accepted a d w) lt le h g) refl refl below
  ]

  later_value : (j k s : ℕ) (b : Ballot) (v w : Value) → j < length before → length before ≤ k
      → Says with_it j s (Accept b v) → Says with_it k s (Accept b w) → v ≡ w
  later_value j k s b v w lt le g h =
      let kept : KeepsAccept n s before b w = kept_as k s (Accept b w) le h in
      let it = accept_sent before j s b v (older_says before m j s (Accept b v) lt g) in
      all_let before (LetsPropose s b w) j (accept it.0 s b v) kept.only it.1 refl refl

  one_value_a_ballot : (j k s : ℕ) (b : Ballot) (v w : Value) → Says with_it j s (Accept b v) → Says with_it k s (Accept b w) → v ≡ w
  one_value_a_ballot j k s b v w g h = elim (cases_lt j (length before)) as (λ _. v ≡ w) [
    | inl first ↦ elim (cases_lt k (length before)) as (λ _. v ≡ w) [
      | inl second ↦ rules.one_value_a_ballot j k s b v w (older_says before m j s (Accept b v) first g) (older_says before m k s (Accept b w) second h)
      | inr le ↦ later_value j k s b v w first le g h
    ]
    | inr ge ↦ elim (cases_lt k (length before)) as (λ _. v ≡ w) [
      | inl second ↦ sym (later_value k j s b w v second ge h g)
      | inr le ↦ one_proposal m s b v w (last_by before m j s (Accept b v) ge g) (last_by before m k s (Accept b w) le h)
    ]
  ]

  accept_is_safe : (k s : ℕ) (b : Ballot) (v : Value) → Says with_it k s (Accept b v)
      → MajorityOf n (λ a. SaysBefore with_it k s (Promise a b None)) ⊎ HasHighestReport n with_it k s b v
  accept_is_safe k s b v h = elim (cases_lt k (length before)) as (λ _. MajorityOf n (λ a. SaysBefore with_it k s (Promise a b None)) ⊎ HasHighestReport n with_it k s b v) [
    | inl in' ↦ elim (rules.accept_is_safe k s b v (older_says before m k s (Accept b v) in' h)) as (λ _. MajorityOf n (λ a. SaysBefore with_it k s (Promise a b None)) ⊎ HasHighestReport n with_it k s b v) [
      | inl free ↦
          inl (most_weaker n (λ a. SaysBefore before k s (Promise a b None)) (λ a. SaysBefore with_it k s (Promise a b None)) (λ a lt was. still_before before m k s (Promise a b None) was) free)
      | inr highest ↦ inr (still_highest n s before m k b v highest)
    ]
    | inr le ↦ let kept : KeepsAccept n s before b v = kept_as k s (Accept b v) le h in safe_sent n s before m k b v le kept.safe
  ]

  decided_was_chosen : (k s : ℕ) (v : Value) → Says with_it k s (Decided v) → (b : Ballot) × MajorityOf n (λ a. SaysBefore with_it k s (Accepted a b v))
  decided_was_chosen k s v h = elim (cases_lt k (length before)) as (λ _. (b : Ballot) × MajorityOf n (λ a. SaysBefore with_it k s (Accepted a b v))) [
    | inl in' ↦
        let it = rules.decided_was_chosen k s v (older_says before m k s (Decided v) in' h) in
        (it.0, most_weaker n (λ a. SaysBefore before k s (Accepted a it.0 v)) (λ a. SaysBefore with_it k s (Accepted a it.0 v)) (λ a lt was. still_before before m k s (Accepted a it.0 v) was) it.1)
    | inr le ↦
        let kept : WasChosen n s before v = kept_as k s (Decided v) le h in (
          kept.0,
          most_weaker n (λ a. Any (Accepts s kept.0 v a) before) (λ a. SaysBefore with_it k s (Accepted a kept.0 v)) (λ a lt found.
              let it = accepted_as n s before kept.0 v a found in before_last before m k it.0 s (Accepted a kept.0 v) le it.1) kept.1,
        )
  ]

  pub rules_with_it : KeepsTheRules n with_it
  rules_with_it = record {
    accepted_was_proposed = accepted_was_proposed;
    accepted_above_promise = accepted_above_promise;
    accepted_above_accepted = accepted_above_accepted;
    promise_above_promise = promise_above_promise;
    promise_above_accepted = promise_above_accepted;
    nothing_was_accepted = nothing_was_accepted;
    report_is_below = report_is_below;
    report_was_proposed = report_was_proposed;
    report_is_highest = report_is_highest;
    one_value_a_ballot = one_value_a_ballot;
    accept_is_safe = accept_is_safe;
    decided_was_chosen = decided_was_chosen;
  }

-- ---- from the rules of all to the rule of the last message

module _ (n : ℕ) (before : List Message) (a s : ℕ) where
  abbrev after : Body → List Message
  after x = before ++ message a s x ∷ []

  -- what the last message says, and what an earlier one says to it
  here : (x : Body) (y : Saying) → IsSaidBy (message a s x) s y → Says (after x) (length before) s y
  here x y by = (message a s x, last_sent before (message a s x), by)

  there : (x : Body) (j p t : ℕ) (y : Body) (z : Saying) → Sent before j (message p t y) → t ≡ s → p ≡ a → IsSaidBy (message a s y) s z → Says (after x) j s z
  there x j p t y z h same_slot same_node by =
      (message a s y, newer before (message a s x) j (message a s y) (subst (Sent before j) (as_of p t a s y same_slot same_node) h), by)

  was_proposed : (x : Body) (b : Ballot) (v : Value) → SaysBefore (after x) (length before) s (Accept b v) → WasProposed s before b v
  was_proposed x b v h = let it = last_before before (message a s x) s (Accept b v) h in as_proposed n s before b v it.0 it.1

  module _ (b : Ballot) (r : Report) (rules : KeepsTheRules n (after (body.Promise b r))) where
    abbrev it_is : Body
    it_is = body.Promise b r

    lets_promise : (j p t : ℕ) (y : Body) → Sent before j (message p t y) → LetsPromise s a b (message p t y)
    lets_promise j p t (body.Promise c q) h = λ same_slot same_node.
        rules.promise_above_promise j (length before) a s c b q r h.0 (there it_is j p t (body.Promise c q) (Promise a c q) h same_slot same_node refl) (here it_is (Promise a b r) refl)
    lets_promise j p t (body.Accepted q) h = λ same_slot same_node.
        rules.promise_above_accepted j (length before) a s q.ballot b q.value r h.0
        (there it_is j p t (body.Accepted q) (Accepted a q.ballot q.value) h same_slot same_node refl) (here it_is (Promise a b r) refl)
    lets_promise j p t other h = λ same_slot same_node. tt

  covers : (b : Ballot) (r : Report) (rules : KeepsTheRules n (after (body.Promise b r))) (j : ℕ) (q : Acceptance)
      → Says (after (body.Promise b r)) j s (Accepted a q.ballot q.value) → j < length before → ReportCovers r q.ballot
  covers b None rules j q h lt = rules.nothing_was_accepted j (length before) a s b q.ballot q.value lt (here (body.Promise b None) (Promise a b None) refl) h
  covers b (Some top) rules j q h lt = λ below.
      rules.report_is_highest j (length before) a s b top.ballot q.ballot top.value q.value lt (here (body.Promise b (Some top)) (Promise a b (Some top)) refl) h below

  lets_report : (b : Ballot) (r : Report) (rules : KeepsTheRules n (after (body.Promise b r))) (j p t : ℕ) (y : Body) → Sent before j (message p t y)
      → LetsReport s a r (message p t y)
  lets_report b r rules j p t (body.Accepted q) h = λ same_slot same_node.
      covers b r rules j q (there (body.Promise b r) j p t (body.Accepted q) (Accepted a q.ballot q.value) h same_slot same_node refl) h.0
  lets_report b r rules j p t other h = λ same_slot same_node. tt

  is_below : (b : Ballot) (r : Report) (rules : KeepsTheRules n (after (body.Promise b r))) → IsReportBelow r b
  is_below b None rules = tt
  is_below b (Some q) rules = rules.report_is_below (length before) a s b q.ballot q.value (here (body.Promise b (Some q)) (Promise a b (Some q)) refl)

  is_proposed : (b : Ballot) (r : Report) (rules : KeepsTheRules n (after (body.Promise b r))) → IsReportProposed s before r
  is_proposed b None rules = tt
  is_proposed b (Some q) rules =
      was_proposed (body.Promise b (Some q)) q.ballot q.value
      (rules.report_was_proposed (length before) a s b q.ballot q.value (here (body.Promise b (Some q)) (Promise a b (Some q)) refl))

  lets_accept : (q : Acceptance) (rules : KeepsTheRules n (after (body.Accepted q))) (j p t : ℕ) (y : Body) → Sent before j (message p t y)
      → LetsAccept s a q.ballot (message p t y)
  lets_accept q rules j p t (body.Promise c r) h = λ same_slot same_node below.
      rules.accepted_above_promise j (length before) a s c q.ballot r q.value h.0
      (there (body.Accepted q) j p t (body.Promise c r) (Promise a c r) h same_slot same_node refl) (here (body.Accepted q) (Accepted a q.ballot q.value) refl) below
  lets_accept q rules j p t (body.Accepted o) h = λ same_slot same_node below.
      rules.accepted_above_accepted j (length before) a s o.ballot q.ballot o.value q.value h.0
      (there (body.Accepted q) j p t (body.Accepted o) (Accepted a o.ballot o.value) h same_slot same_node refl) (here (body.Accepted q) (Accepted a q.ballot q.value) refl) below
  lets_accept q rules j p t other h = λ same_slot same_node. tt

  lets_propose : (q : Acceptance) (rules : KeepsTheRules n (after (body.Accept q))) (j p t : ℕ) (y : Body) → Sent before j (message p t y)
      → LetsPropose s q.ballot q.value (message p t y)
  lets_propose q rules j p t (body.Accept o) h = λ same_slot same_ballot.
      let at_slot : Sent before j (accept p s o.ballot o.value) = subst (λ (i : ℕ). Sent before j (accept p i o.ballot o.value)) same_slot h in
      let at_ballot : Sent before j (accept p s q.ballot o.value) = subst (λ (c : Ballot). Sent before j (accept p s c o.value)) same_ballot at_slot in
      rules.one_value_a_ballot j (length before) s q.ballot o.value q.value
      (accept p s q.ballot o.value, newer before (message a s (body.Accept q)) j (accept p s q.ballot o.value) at_ballot, (p, refl))
      (here (body.Accept q) (Accept q.ballot q.value) (a, refl))
  lets_propose q rules j p t other h = λ same_slot. tt

  was_chosen : (v : Value) (rules : KeepsTheRules n (after (body.Decided v))) → WasChosen n s before v
  was_chosen v rules =
      let it = rules.decided_was_chosen (length before) s v (here (body.Decided v) (Decided v) (a, refl)) in (
        it.0,
        most_weaker n (λ i. SaysBefore (after (body.Decided v)) (length before) s (Accepted i it.0 v)) (λ i. Any (Accepts s it.0 v i) before) (λ i lt h.
            let was = last_before before (message a s (body.Decided v)) s (Accepted i it.0 v) h in as_accepted n s before it.0 v i was.0 was.1) it.1,
      )

  body_keeps : (x : Body) → KeepsTheRules n (after x) → BodyKeeps n s before a x
  body_keeps (body.Prepare b) rules = tt
  body_keeps (body.Promise b r) rules = record {
    above = let_all before (LetsPromise s a b) (λ j e h. lets_promise b r rules j e.sender e.slot e.body h);
    highest = let_all before (LetsReport s a r) (λ j e h. lets_report b r rules j e.sender e.slot e.body h);
    below = is_below b r rules;
    proposed = is_proposed b r rules;
  }
  body_keeps (body.Nack b c) rules = tt
  body_keeps (body.Accept q) rules = record {
    only = let_all before (LetsPropose s q.ballot q.value) (λ j e h. lets_propose q rules j e.sender e.slot e.body h);
    safe = sent_safe n s before (message a s (body.Accept q)) q.ballot q.value (rules.accept_is_safe (length before) s q.ballot q.value (here (body.Accept q) (Accept q.ballot q.value) (a, refl)));
  }
  body_keeps (body.Accepted q) rules = record {
    proposed = was_proposed (body.Accepted q) q.ballot q.value (rules.accepted_was_proposed (length before) a s q.ballot q.value (here (body.Accepted q) (Accepted a q.ballot q.value) refl));
    least = let_all before (LetsAccept s a q.ballot) (λ j e h. lets_accept q rules j e.sender e.slot e.body h);
  }
  body_keeps body.Ask rules = tt
  body_keeps (body.Decided v) rules = was_chosen v rules

pub keeps_it : (n : ℕ) (before : List Message) (m : Message) → KeepsTheRules n (before ++ m ∷ []) → Keeps n before m
keeps_it n before m rules = body_keeps n before m.sender m.slot m.body rules
