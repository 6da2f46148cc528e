-- What a node has after a message: its record, and what its parts were told.
use Rattle.std.proofs.Common.{◌≡◌, ℕ, List, [], ◌++◌, refl, sym, subst}
use Rattle.std.specs.List.{cons_option}
use Rattle.std.proofs.lemmas.List.{append-nil}
use Rattle.ballots.specs.Ballot.{Ballot}
use Rattle.ballots.specs.declared.acceptance.Acceptance.{Acceptance}
use Rattle.ballots.specs.declared.record.Record.{Record}
use Rattle.ballots.specs.declared.message.Body.{Body}
use Rattle.ballots.specs.declared.message.Body.TheVariants.{Prepare, Promise, Nack, Accept, Accepted, Ask, Decided}
use Rattle.acceptor.specs.declared.answer.Answer.{Answer}
use Rattle.acceptor.specs.declared.answer.Answer.TheVariants as answer
use Rattle.proposer.specs.Call.{ProposerCall}
use Rattle.learner.specs.Calls.{LearnerCall}
use Rattle.agreement_rules.specs.Views.{AgreementConfig, Views}
use Rattle.agreement_rules.specs.Due.{Plan, ReplyToPrepare, ReplyToAccept, PartIsDue}
use Rattle.agreement_rules.specs.Calling.{proposer_calls_of, learner_calls_of}

-- these views with more records and calls
abbrev pub with_more : Views → List Record → List ProposerCall → List LearnerCall → Views
with_more views kept asked told = record {
  records = views.records ++ kept;
  seen_round = views.seen_round;
  waiting = views.waiting;
  proposer_calls = views.proposer_calls ++ asked;
  learner_calls = views.learner_calls ++ told;
}

abbrev IsAfter : Views → List ProposerCall → List LearnerCall → Plan → Type 0
IsAfter views asked told plan = plan.after ≡ with_more views (cons_option plan.kept []) asked told

-- the same views, where some of these have no more
same_views : (views : Views) (kept kept' : List Record) (asked asked' : List ProposerCall) (told told' : List LearnerCall) → kept ≡ kept' → asked ≡ asked' → told ≡ told'
    → (let v : Views = record { records = kept; seen_round = views.seen_round; waiting = views.waiting; proposer_calls = asked; learner_calls = told } in v)
    ≡ (let v : Views = record { records = kept'; seen_round = views.seen_round; waiting = views.waiting; proposer_calls = asked'; learner_calls = told' } in v)
same_views views kept kept' asked asked' told told' one two three = cc

no_more : {X : Type 0} (xs : List X) → xs ≡ xs ++ []
no_more xs = sym (append-nil xs)

module _ (config : AgreementConfig) (me : ℕ) (views : Views) (sender slot : ℕ) (plan : Plan) where
  is_after : (asked : List ProposerCall) (told : List LearnerCall) (due : Plan) → plan ≡ due → IsAfter views asked told due → IsAfter views asked told plan
  is_after asked told due is after = subst (IsAfter views asked told) (sym is) after

  -- no part is told, and no record kept
  untold : views ≡ with_more views [] [] []
  untold = same_views views _ _ _ _ _ _ (no_more views.records) (no_more views.proposer_calls) (no_more views.learner_calls)

  after_prepare : (ballot : Ballot) (reply : Answer) → ReplyToPrepare me views slot ballot reply plan → IsAfter views [] [] plan
  after_prepare ballot (answer.Promise report) is = is_after [] [] _ is (same_views views _ _ _ _ _ _ refl (no_more views.proposer_calls) (no_more views.learner_calls))
  after_prepare ballot (answer.Nack promised) is = is_after [] [] _ is untold
  after_prepare ballot answer.Granted is = absurd is
  after_prepare ballot (answer.PromiseFrom reports) is = absurd is

  after_accept : (proposal : Acceptance) (reply : Answer) → ReplyToAccept me views slot proposal reply plan → IsAfter views [] [] plan
  after_accept proposal answer.Granted is = is_after [] [] _ is (same_views views _ _ _ _ _ _ refl (no_more views.proposer_calls) (no_more views.learner_calls))
  after_accept proposal (answer.Nack promised) is = is_after [] [] _ is untold
  after_accept proposal (answer.Promise report) is = absurd is
  after_accept proposal (answer.PromiseFrom reports) is = absurd is

  pub told_after : (said : Body) → PartIsDue config me views sender slot said plan
      → IsAfter views (proposer_calls_of sender slot said) (learner_calls_of sender slot said) plan
  told_after (Prepare ballot) (old, new, reply, restored, prepares, replies) = after_prepare ballot reply replies
  told_after (Accept proposal) (old, new, reply, restored, accepts, replies) = after_accept proposal reply replies
  told_after (Promise ballot report) (accept, answers, is) =
      is_after _ [] _ is (same_views views _ _ _ _ _ _ (no_more views.records) refl (no_more views.learner_calls))
  told_after (Nack ballot promised) is =
      is_after _ [] _ is (same_views views _ _ _ _ _ _ (no_more views.records) refl (no_more views.learner_calls))
  told_after (Accepted acceptance) is =
      is_after [] _ _ is (same_views views _ _ _ _ _ _ (no_more views.records) (no_more views.proposer_calls) refl)
  told_after (Decided value) is =
      is_after [] _ _ is (same_views views _ _ _ _ _ _ (no_more views.records) (no_more views.proposer_calls) refl)
  told_after Ask (values, prefix, is) = is_after [] [] _ is untold
