-- Each message follows those before it exactly where the history is lawful.
use Rattle.std.proofs.Common.{◌≡◌, ℕ, zero, suc, ◌<◌, ◌≤◌, inl, inr, List, length, get_or, take, Some, None, refl, sym, subst, ◌∙◌, arith, Bool, true, false, cond, IfSome, ◌==◌, if◌then◌else◌, eq-eqb}
use Rattle.std.proofs.lemmas.Bool.Decides.{nat_tests}
use Rattle.std.proofs.lemmas.Bool.{cases_lt}
use Rattle.ballots.specs.Ballot.{Ballot, IsBelow}
use Rattle.ballots.specs.declared.value.Value.{Value}
use Rattle.ballots.specs.declared.message.Message.{Message}
use Rattle.ballots.specs.Acceptance.{acceptance}
use Rattle.lawful_histories.specs.Saying.{Report, Saying, Silent, Prepare, Promise, Accept, Accepted, Decided, says, sayings}
use Rattle.lawful_histories.specs.Lawful.{Said, SaidBefore, AcceptsWhatWasProposed, BindsAt, ReportsItsHighest, OneValueABallot, PromisedUpTo, IsOfHighestReport, MayBeProposed, ProposesWhatIsSafe, IsChosenBefore, DecidesWhatWasChosen, IsLawfulSlot, IsLawful}
use Rattle.lawful_histories.specs.Judging.{PromisedAtMost, PromisedBelow, IsReported, HasValueAt, IsWithin, PromisesWithin, HasPromised, LetsPropose, MayPropose, HasAccepted, ShowsChosen, MayDecide, MayReport, MayBeSaid, AllMayBeSent}
use Rattle.lawful_histories.proofs.Majorities.{most_weaker, most_with, majorities_meet}
use Rattle.lawful_histories.proofs.Places.{blank, within_sent, said_by, said_there, any_before, before_any, all_before, before_all, any_said, said_any}

not_below : (b : Ballot) → IsBelow b b → ⊥
not_below b (inl lt) = omega (arith, lt)
not_below b (inr e) = omega (arith, e.1)

-- what is so of the ballot to which a saying binds its acceptor
bound_here : (a : ℕ) (b : Ballot) (P : Ballot → Type 0) → IfSome (if a == a then Some b else None) P → P b
bound_here a b P h = subst (λ (t : Bool). IfSome (cond t (Some b) None) P) (eq-eqb a a refl) h

bound_on : (d a : ℕ) (b : Ballot) (P : Ballot → Type 0) (t : Bool) → (t ≡ true → d ≡ a) → (d ≡ a → P b) → IfSome (cond t (Some b) None) P
bound_on d a b P true same h = h (same refl)
bound_on d a b P false same h = tt

bound_where : (d a : ℕ) (b : Ballot) (P : Ballot → Type 0) → (d ≡ a → P b) → IfSome (if d == a then Some b else None) P
bound_where d a b P h = bound_on d a b P (d == a) (λ e. grind (arith, nat_tests)) h

module _ (n : ℕ) (sent : List Message) (s : ℕ) where
  abbrev xs : List Saying
  xs = sayings sent s

  abbrev before : ℕ → List Message
  before k = take k sent

  -- what is said of the slot at each place follows
  abbrev pub EachMayBeSaid : Type 0
  EachMayBeSaid = (k : ℕ) (x : Saying) → Said xs k x → MayBeSaid n s (before k) x

  -- the places of what is said
  place : (k : ℕ) (x : Saying) → Said xs k x → k ≤ length sent
  place k x said = omega (arith, within_sent sent s k x said)

  -- ---- from each place to the clauses

  module _ (each : EachMayBeSaid) where
    accepts_what_was_proposed : AcceptsWhatWasProposed xs
    accepts_what_was_proposed k a b v said = any_said sent s k (place k (Accepted a b v) said) (Accept b v) (each k (Accepted a b v) said).0

    keeps_accepting : (j k a : ℕ) (b c : Ballot) (v : Value) → j < k → BindsAt xs j a b → Said xs k (Accepted a c v) → IsBelow c b → ⊥
    keeps_accepting j k a b c v lt (inl binds) said =
        bound_here a b (λ e. IsBelow c e → ⊥) (all_before sent s k (place k (Accepted a c v) said) (PromisedAtMost a c) (each k (Accepted a c v) said).1 (Promise a b binds.0) (j, lt, binds.1))
    keeps_accepting j k a b c v lt (inr binds) said =
        bound_here a b (λ e. IsBelow c e → ⊥) (all_before sent s k (place k (Accepted a c v) said) (PromisedAtMost a c) (each k (Accepted a c v) said).1 (Accepted a b binds.0) (j, lt, binds.1))

    keeps_promising : (j k a : ℕ) (b c : Ballot) (r : Report) → j < k → BindsAt xs j a b → Said xs k (Promise a c r) → IsBelow b c
    keeps_promising j k a b c r lt (inl binds) said =
        bound_here a b (λ e. IsBelow e c) (all_before sent s k (place k (Promise a c r) said) (PromisedBelow a c) (each k (Promise a c r) said).0 (Promise a b binds.0) (j, lt, binds.1))
    keeps_promising j k a b c r lt (inr binds) said =
        bound_here a b (λ e. IsBelow e c) (all_before sent s k (place k (Promise a c r) said) (PromisedBelow a c) (each k (Promise a c r) said).0 (Accepted a b binds.0) (j, lt, binds.1))

    reports_its_highest : ReportsItsHighest xs
    reports_its_highest = record {
      nothing = λ k a b said j c v lt vote.
          all_before sent s k (place k (Promise a b None) said) (IsReported a None) (each k (Promise a b None) said).2 (Accepted a c v) (j, lt, vote) refl;
      below = λ k a b c v said. (each k (Promise a b (Some (acceptance c v))) said).1.0;
      proposed = λ k a b c v said.
          any_said sent s k (place k (Promise a b (Some (acceptance c v))) said) (Accept c v) (each k (Promise a b (Some (acceptance c v))) said).1.1;
      highest = λ k a b c v said j d w lt vote below.
          all_before sent s k (place k (Promise a b (Some (acceptance c v))) said) (IsReported a (Some (acceptance c v))) (each k (Promise a b (Some (acceptance c v))) said).2 (Accepted a d w) (j, lt, vote) refl below;
    }

    later_value : (j k : ℕ) (b : Ballot) (v w : Value) → j < k → Said xs j (Accept b v) → Said xs k (Accept b w) → v ≡ w
    later_value j k b v w lt first second =
        all_before sent s k (place k (Accept b w) second) (HasValueAt b w) (each k (Accept b w) second).0 (Accept b v) (j, lt, first) refl

    one_value_a_ballot : OneValueABallot xs
    one_value_a_ballot j k b v w first second =
        elim (cases_lt j k) as (λ _. v ≡ w) [
          | inl lt ↦ later_value j k b v w lt first second
          | inr ge ↦ elim (cases_lt k j) as (λ _. v ≡ w) [
            | inl gt ↦ sym (later_value k j b w v gt second first)
            | inr le ↦
                let same : j ≡ k = omega (arith, ge, le) in
                let alike : Accept b v ≡ Accept b w = sym (subst (λ (i : ℕ). Said xs i (Accept b v)) same first).1 ∙ second.1 in
                cc
          ]
        ]

    -- a promise before, by what the judge finds
    promise_before : (k : ℕ) (le : k ≤ length sent) (b : Ballot) (bound : Report) (a : ℕ) → HasPromised s (before k) b bound a
        → (r : Report) × SaidBefore xs k (Promise a b r) × IsWithin bound r
    promise_before k le b bound a h =
        let found = any_before sent s k le (PromisesWithin a b bound) h in
        promise_of found.0 found.1 found.2
      where
        promise_of : (x : Saying) → SaidBefore xs k x → PromisesWithin a b bound x → (r : Report) × SaidBefore xs k (Promise a b r) × IsWithin bound r
        promise_of Silent said p = absurd p
        promise_of (Prepare c) said p = absurd p
        promise_of (Promise d c r) said p =
            (r, subst (λ (e : ℕ). SaidBefore xs k (Promise e b r)) p.0 (subst (λ (c' : Ballot). SaidBefore xs k (Promise d c' r)) p.1 said), p.2)
        promise_of (Accept c v) said p = absurd p
        promise_of (Accepted d c v) said p = absurd p
        promise_of (Decided v) said p = absurd p

    free_promise : (k : ℕ) (le : k ≤ length sent) (b : Ballot) (a : ℕ) → HasPromised s (before k) b None a → SaidBefore xs k (Promise a b None)
    free_promise k le b a h =
        let p = promise_before k le b None a h in
        subst (λ (r : Report). SaidBefore xs k (Promise a b r)) p.2 p.1

    -- the highest report, by the promise that the judge finds
    highest_report : (k : ℕ) (le : k ≤ length sent) (b : Ballot) (v : Value) (x : Saying) → SaidBefore xs k x → LetsPropose n s (before k) b v x → IsOfHighestReport n xs k b v
    highest_report k le b v Silent said p = absurd p
    highest_report k le b v (Prepare c) said p = absurd p
    highest_report k le b v (Promise d c None) said p = absurd p.2
    highest_report k le b v (Promise d c (Some q)) said p =
        let top : Ballot = q.ballot in
        let w : Value = q.value in
        let reported : SaidBefore xs k (Promise d b (Some (acceptance top v))) =
        subst (λ (u : Value). SaidBefore xs k (Promise d b (Some (acceptance top u)))) p.2 (subst (λ (e : Ballot). SaidBefore xs k (Promise d e (Some (acceptance top w)))) p.1 said) in
        let most = most_weaker n (HasPromised s (before k) b (Some (acceptance top w))) (PromisedUpTo xs k b top) (λ a lt h. promise_before k le b (Some (acceptance top w)) a h) p.3 in
        let with_it = most_with n (PromisedUpTo xs k b top) d (Some (acceptance top v), reported, not_below top) most in
        record { highest = top; promised = with_it.most; reporter = d; is_member = p.0; is_in = with_it.is_in; reported = reported }
    highest_report k le b v (Accept c w) said p = absurd p
    highest_report k le b v (Accepted d c w) said p = absurd p
    highest_report k le b v (Decided w) said p = absurd p

    proposes_what_is_safe : ProposesWhatIsSafe n xs
    proposes_what_is_safe k b v said =
        let le = place k (Accept b v) said in
        elim (each k (Accept b v) said).1 as (λ _. MayBeProposed n xs k b v) [
          | inl free ↦ inl (most_weaker n (HasPromised s (before k) b None) (λ a. SaidBefore xs k (Promise a b None)) (λ a lt h. free_promise k le b a h) free)
          | inr found ↦
              let it = any_before sent s k le (LetsPropose n s (before k) b v) found in
              inr (highest_report k le b v it.0 it.1 it.2)
        ]

    -- a choice, by the vote that the judge finds
    choice_shown : (k : ℕ) (le : k ≤ length sent) (v : Value) (x : Saying) → ShowsChosen n s (before k) v x → (b : Ballot) × IsChosenBefore n xs k b v
    choice_shown k le v Silent p = absurd p
    choice_shown k le v (Prepare c) p = absurd p
    choice_shown k le v (Promise d c r) p = absurd p
    choice_shown k le v (Accept c w) p = absurd p
    choice_shown k le v (Accepted d c w) p =
        (c, most_weaker n (HasAccepted s (before k) c v) (λ a. SaidBefore xs k (Accepted a c v)) (λ a lt h. any_said sent s k le (Accepted a c v) h) p.1)
    choice_shown k le v (Decided w) p = absurd p

    chosen_later : (j k : ℕ) (v : Value) → j < k → (b : Ballot) × IsChosenBefore n xs j b v → (b : Ballot) × IsChosenBefore n xs k b v
    chosen_later j k v lt h =
        (h.0, most_weaker n (λ a. SaidBefore xs j (Accepted a h.0 v)) (λ a. SaidBefore xs k (Accepted a h.0 v)) (λ a in' vote. (vote.0, omega (arith, vote.1, lt), vote.2)) h.1)

    decided_below : (bound k : ℕ) (v : Value) → k < bound → Said xs k (Decided v) → (b : Ballot) × IsChosenBefore n xs k b v
    decided_below zero k v lt said = absurd (omega (arith, lt))
    decided_below (suc bound) k v lt said =
        let le = place k (Decided v) said in
        elim (each k (Decided v) said) as (λ _. (b : Ballot) × IsChosenBefore n xs k b v) [
          | inl again ↦
              let first = any_said sent s k le (Decided v) again in
              chosen_later first.0 k v first.1 (decided_below bound first.0 v (omega (arith, first.1, lt)) first.2)
          | inr found ↦
              let it = any_before sent s k le (ShowsChosen n s (before k) v) found in
              choice_shown k le v it.0 it.2
        ]

    decides_what_was_chosen : DecidesWhatWasChosen n xs
    decides_what_was_chosen k v said = decided_below (suc k) k v (omega arith) said

    pub slot_from_each : IsLawfulSlot n xs
    slot_from_each = record {
      accepts_what_was_proposed = accepts_what_was_proposed;
      keeps_its_promise = record { accepts = keeps_accepting; promises = keeps_promising };
      reports_its_highest = reports_its_highest;
      one_value_a_ballot = one_value_a_ballot;
      proposes_what_is_safe = proposes_what_is_safe;
      decides_what_was_chosen = decides_what_was_chosen;
    }

  -- ---- from the clauses to each place

  module _ (lawful : IsLawfulSlot n xs) where
    promised_below : (k a : ℕ) (c : Ballot) (r : Report) → Said xs k (Promise a c r) → (x : Saying) → SaidBefore xs k x → PromisedBelow a c x
    promised_below k a c r said Silent b = tt
    promised_below k a c r said (Prepare e) b = tt
    promised_below k a c r said (Promise d e q) b = bound_where d a e (λ o. IsBelow o c) (λ same.
        lawful.keeps_its_promise.promises b.0 k a e c r b.1 (inl (q, subst (λ (o : ℕ). Said xs b.0 (Promise o e q)) same b.2)) said)
    promised_below k a c r said (Accept e v) b = tt
    promised_below k a c r said (Accepted d e v) b = bound_where d a e (λ o. IsBelow o c) (λ same.
        lawful.keeps_its_promise.promises b.0 k a e c r b.1 (inr (v, subst (λ (o : ℕ). Said xs b.0 (Accepted o e v)) same b.2)) said)
    promised_below k a c r said (Decided v) b = tt

    promised_at_most : (k a : ℕ) (c : Ballot) (w : Value) → Said xs k (Accepted a c w) → (x : Saying) → SaidBefore xs k x → PromisedAtMost a c x
    promised_at_most k a c w said Silent b = tt
    promised_at_most k a c w said (Prepare e) b = tt
    promised_at_most k a c w said (Promise d e q) b = bound_where d a e (λ o. IsBelow c o → ⊥) (λ same.
        lawful.keeps_its_promise.accepts b.0 k a e c w b.1 (inl (q, subst (λ (o : ℕ). Said xs b.0 (Promise o e q)) same b.2)) said)
    promised_at_most k a c w said (Accept e v) b = tt
    promised_at_most k a c w said (Accepted d e v) b = bound_where d a e (λ o. IsBelow c o → ⊥) (λ same.
        lawful.keeps_its_promise.accepts b.0 k a e c w b.1 (inr (v, subst (λ (o : ℕ). Said xs b.0 (Accepted o e v)) same b.2)) said)
    promised_at_most k a c w said (Decided v) b = tt

    is_reported : (k a : ℕ) (c : Ballot) (r : Report) → Said xs k (Promise a c r) → (x : Saying) → SaidBefore xs k x → IsReported a r x
    is_reported k a c r said Silent b = tt
    is_reported k a c r said (Prepare e) b = tt
    is_reported k a c r said (Promise d e q) b = tt
    is_reported k a c r said (Accept e v) b = tt
    is_reported k a c None said (Accepted d e v) b = λ same.
        lawful.reports_its_highest.nothing k a c said b.0 e v b.1 (subst (λ (o : ℕ). Said xs b.0 (Accepted o e v)) same b.2)
    is_reported k a c (Some q) said (Accepted d e v) b = λ same below.
        lawful.reports_its_highest.highest k a c q.ballot q.value said b.0 e v b.1 (subst (λ (o : ℕ). Said xs b.0 (Accepted o e v)) same b.2) below
    is_reported k a c r said (Decided v) b = tt

    has_value_at : (k : ℕ) (c : Ballot) (w : Value) → Said xs k (Accept c w) → (x : Saying) → SaidBefore xs k x → HasValueAt c w x
    has_value_at k c w said Silent b = tt
    has_value_at k c w said (Prepare e) b = tt
    has_value_at k c w said (Promise d e q) b = tt
    has_value_at k c w said (Accept e v) b = λ same.
        lawful.one_value_a_ballot b.0 k c v w (subst (λ (o : Ballot). Said xs b.0 (Accept o v)) same b.2) said
    has_value_at k c w said (Accepted d e v) b = tt
    has_value_at k c w said (Decided v) b = tt

    has_promised : (k : ℕ) (le : k ≤ length sent) (b : Ballot) (bound r : Report) (a : ℕ) → SaidBefore xs k (Promise a b r) → IsWithin bound r → HasPromised s (before k) b bound a
    has_promised k le b bound r a said within = before_any sent s k le (PromisesWithin a b bound) (Promise a b r) said (refl, refl, within)

    may_propose : (k : ℕ) (le : k ≤ length sent) (b : Ballot) (v : Value) → MayBeProposed n xs k b v → MayPropose n s (before k) b v
    may_propose k le b v (inl free) =
        inl (most_weaker n (λ a. SaidBefore xs k (Promise a b None)) (HasPromised s (before k) b None) (λ a lt said. has_promised k le b None None a said refl) free)
    may_propose k le b v (inr h) =
        let top : Report = Some (acceptance h.highest v) in
        let most = most_weaker n (PromisedUpTo xs k b h.highest) (HasPromised s (before k) b top) (λ a lt p. has_promised k le b top p.0 a p.1 p.2) h.promised in
        inr (before_any sent s k le (LetsPropose n s (before k) b v) (Promise h.reporter b top) h.reported (h.is_member, refl, refl, most))

    may_decide : (k : ℕ) (le : k ≤ length sent) (v : Value) → (b : Ballot) × IsChosenBefore n xs k b v → MayDecide n s (before k) v
    may_decide k le v (b, chosen) =
        let one = majorities_meet n (λ a. SaidBefore xs k (Accepted a b v)) (λ a. SaidBefore xs k (Accepted a b v)) chosen chosen in
        let most = most_weaker n (λ a. SaidBefore xs k (Accepted a b v)) (HasAccepted s (before k) b v) (λ a lt said. said_any sent s k le (Accepted a b v) said) chosen in
        inr (before_any sent s k le (ShowsChosen n s (before k) v) (Accepted one.member b v) (chosen.each one.member one.within one.in_first) (refl, most))

    may_report : (k : ℕ) (le : k ≤ length sent) (a : ℕ) (b : Ballot) (r : Report) → Said xs k (Promise a b r) → MayReport s (before k) b r
    may_report k le a b None said = tt
    may_report k le a b (Some q) said =
        (lawful.reports_its_highest.below k a b q.ballot q.value said, said_any sent s k le (Accept q.ballot q.value) (lawful.reports_its_highest.proposed k a b q.ballot q.value said))

    pub each_from_slot : EachMayBeSaid
    each_from_slot k Silent said = tt
    each_from_slot k (Prepare b) said = tt
    each_from_slot k (Promise a b r) said =
        let le = place k (Promise a b r) said in
        (before_all sent s k le (PromisedBelow a b) (promised_below k a b r said), may_report k le a b r said, before_all sent s k le (IsReported a r) (is_reported k a b r said))
    each_from_slot k (Accept b v) said =
        let le = place k (Accept b v) said in
        (before_all sent s k le (HasValueAt b v) (has_value_at k b v said), may_propose k le b v (lawful.proposes_what_is_safe k b v said))
    each_from_slot k (Accepted a b v) said =
        let le = place k (Accepted a b v) said in
        (said_any sent s k le (Accept b v) (lawful.accepts_what_was_proposed k a b v said), before_all sent s k le (PromisedAtMost a b) (promised_at_most k a b v said))
    each_from_slot k (Decided v) said = may_decide k (place k (Decided v) said) v (lawful.decides_what_was_chosen k v said)

-- ---- whole histories

pub lawful_from_judged : (n : ℕ) (sent : List Message) → AllMayBeSent n sent → IsLawful n sent
lawful_from_judged n sent h s = slot_from_each n sent s each
  where
    each : EachMayBeSaid n sent s
    each k x said =
        let lt = within_sent sent s k x said in
        subst (λ (y : Saying). MayBeSaid n s (take k sent) y) (said_by sent s k blank x said) (h k blank lt s)

pub judged_from_lawful : (n : ℕ) (sent : List Message) → IsLawful n sent → AllMayBeSent n sent
judged_from_lawful n sent lawful k d lt s = each_from_slot n sent s (lawful s) k (says (get_or sent k d) s) (said_there sent s k d lt)
