use Rattle.std.proofs.Common.{ℕ, List, Some, None, inl, inr}
use Rattle.ballots.specs.declared.message.Message.{Message}
use Rattle.ballots.specs.Acceptance.{acceptance}
use Rattle.lawful_histories.specs.Saying.{Promise, Accept, Accepted, Decided}
use Rattle.lawful_histories.specs.Lawful.{IsLawful}
use Rattle.lawful_histories.specs.Messages.{KeepsTheRules}
use Rattle.lawful_histories.proofs.Majorities.{most_weaker}
use Rattle.lawful_histories.proofs.ByMessages.{says_what_it_is, says_what_is_said, says_said, said_says, says_said_before, said_says_before, highest_says, says_highest}
use Rattle.lawful_histories.proofs.laws.lawful_by_messages.Goals as goal

pub returns-clause-says : goal.returns-clause-says
returns-clause-says g = says_what_it_is

pub returns-clause-sent : goal.returns-clause-sent
returns-clause-sent g = says_what_is_said

rules_kept : (n : ℕ) (sent : List Message) → IsLawful n sent → KeepsTheRules n sent
rules_kept n sent lawful = record {
  accepted_was_proposed = λ k a s b v h.
      said_says_before sent k s (Accept b v) tt ((lawful s).accepts_what_was_proposed k a b v (says_said sent k s (Accepted a b v) h));
  accepted_above_promise = λ j k a s b c r v lt h i.
      (lawful s).keeps_its_promise.accepts j k a b c v lt (inl (r, says_said sent j s (Promise a b r) h)) (says_said sent k s (Accepted a c v) i);
  accepted_above_accepted = λ j k a s b c u v lt h i.
      (lawful s).keeps_its_promise.accepts j k a b c v lt (inr (u, says_said sent j s (Accepted a b u) h)) (says_said sent k s (Accepted a c v) i);
  promise_above_promise = λ j k a s b c q r lt h i.
      (lawful s).keeps_its_promise.promises j k a b c r lt (inl (q, says_said sent j s (Promise a b q) h)) (says_said sent k s (Promise a c r) i);
  promise_above_accepted = λ j k a s b c u r lt h i.
      (lawful s).keeps_its_promise.promises j k a b c r lt (inr (u, says_said sent j s (Accepted a b u) h)) (says_said sent k s (Promise a c r) i);
  nothing_was_accepted = λ j k a s b c v lt h i.
      (lawful s).reports_its_highest.nothing k a b (says_said sent k s (Promise a b None) h) j c v lt (says_said sent j s (Accepted a c v) i);
  report_is_below = λ k a s b c v h. (lawful s).reports_its_highest.below k a b c v (says_said sent k s (Promise a b (Some (acceptance c v))) h);
  report_was_proposed = λ k a s b c v h.
      said_says_before sent k s (Accept c v) tt ((lawful s).reports_its_highest.proposed k a b c v (says_said sent k s (Promise a b (Some (acceptance c v))) h));
  report_is_highest = λ j k a s b c d v w lt h i.
      (lawful s).reports_its_highest.highest k a b c v (says_said sent k s (Promise a b (Some (acceptance c v))) h) j d w lt (says_said sent j s (Accepted a d w) i);
  one_value_a_ballot = λ j k s b v w h i. (lawful s).one_value_a_ballot j k b v w (says_said sent j s (Accept b v) h) (says_said sent k s (Accept b w) i);
  accept_is_safe = λ k s b v h. elim ((lawful s).proposes_what_is_safe k b v (says_said sent k s (Accept b v) h)) [
    | inl free ↦ inl (most_weaker n _ _ (λ a lt q. said_says_before sent k s (Promise a b None) tt q) free)
    | inr highest ↦ inr (highest_says sent n k s b v highest)
  ];
  decided_was_chosen = λ k s v h.
      let choice = (lawful s).decides_what_was_chosen k v (says_said sent k s (Decided v) h) in
      (choice.0, most_weaker n _ _ (λ a lt q. said_says_before sent k s (Accepted a choice.0 v) tt q) choice.1);
}

rules_are_lawful : (n : ℕ) (sent : List Message) → KeepsTheRules n sent → IsLawful n sent
rules_are_lawful n sent rules s = record {
  accepts_what_was_proposed = λ k a b v h.
      says_said_before sent k s (Accept b v) (rules.accepted_was_proposed k a s b v (said_says sent k s (Accepted a b v) tt h));
  keeps_its_promise = record {
    accepts = λ j k a b c v lt binds h. elim binds [
      | inl promise ↦ rules.accepted_above_promise j k a s b c promise.0 v lt (said_says sent j s (Promise a b promise.0) tt promise.1) (said_says sent k s (Accepted a c v) tt h)
      | inr vote ↦ rules.accepted_above_accepted j k a s b c vote.0 v lt (said_says sent j s (Accepted a b vote.0) tt vote.1) (said_says sent k s (Accepted a c v) tt h)
    ];
    promises = λ j k a b c r lt binds h. elim binds [
      | inl promise ↦ rules.promise_above_promise j k a s b c promise.0 r lt (said_says sent j s (Promise a b promise.0) tt promise.1) (said_says sent k s (Promise a c r) tt h)
      | inr vote ↦ rules.promise_above_accepted j k a s b c vote.0 r lt (said_says sent j s (Accepted a b vote.0) tt vote.1) (said_says sent k s (Promise a c r) tt h)
    ];
  };
  reports_its_highest = record {
    nothing = λ k a b h j c v lt vote.
        rules.nothing_was_accepted j k a s b c v lt (said_says sent k s (Promise a b None) tt h) (said_says sent j s (Accepted a c v) tt vote);
    below = λ k a b c v h. rules.report_is_below k a s b c v (said_says sent k s (Promise a b (Some (acceptance c v))) tt h);
    proposed = λ k a b c v h.
        says_said_before sent k s (Accept c v) (rules.report_was_proposed k a s b c v (said_says sent k s (Promise a b (Some (acceptance c v))) tt h));
    highest = λ k a b c v h j d w lt vote.
        rules.report_is_highest j k a s b c d v w lt (said_says sent k s (Promise a b (Some (acceptance c v))) tt h) (said_says sent j s (Accepted a d w) tt vote);
  };
  one_value_a_ballot = λ j k b v w h i. rules.one_value_a_ballot j k s b v w (said_says sent j s (Accept b v) tt h) (said_says sent k s (Accept b w) tt i);
  proposes_what_is_safe = λ k b v h. elim (rules.accept_is_safe k s b v (said_says sent k s (Accept b v) tt h)) [
    | inl free ↦ inl (most_weaker n _ _ (λ a lt q. says_said_before sent k s (Promise a b None) q) free)
    | inr highest ↦ inr (says_highest sent n k s b v highest)
  ];
  decides_what_was_chosen = λ k v h.
      let choice = rules.decided_was_chosen k s v (said_says sent k s (Decided v) tt h) in
      (choice.0, most_weaker n _ _ (λ a lt q. says_said_before sent k s (Accepted a choice.0 v) q) choice.1);
}

pub returns-clause-lawful : goal.returns-clause-lawful
returns-clause-lawful g = λ n sent. (rules_kept n sent, rules_are_lawful n sent)
