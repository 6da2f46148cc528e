use Rattle.std.proofs.Common.{◌≡◌, ℕ, None, [], refl, sym, subst, ◌∙◌, arith}
use Rattle.acceptor.specs.Restored.{IsHighestRound}
use Rattle.learner.specs.State.{decided_at as learned_at}
use Rattle.learner.specs.Learned.{StateAfter as LearnerAfter}
use Rattle.proposer.specs.State.{StateAfter as ProposerAfter}
use Rattle.agreement.proofs.Parts as parts
use Rattle.agreement.proofs.agreement.Agreement.open.Goals as goal

pub returns-clause-stands : goal.returns-clause-stands
returns-clause-stands c =
    let none : (slot : ℕ) → learned_at c.new-2.result slot ≡ None =
    λ slot. parts.nothing_learned c.members-members.result slot (learned_at c.new-2.result slot) (c.new-2.ensures.learned slot) in
    record {
      restored = c.in_ok-acceptor.ensures;
      begun = subst (λ (r : ℕ). IsHighestRound c.args.records.now r) (sym c.new.ensures.highest_round) c.highest_begun_round.ensures;
      first_round = c.highest_begun_round.result;
      proposer_calls = subst (λ (n : ℕ). ProposerAfter (record { me = c.args.me; members = n; highest_round = c.highest_begun_round.result }) [] c.new.result) c.members-members.ensures c.new.ensures;
      learner_calls = subst (λ (n : ℕ). LearnerAfter n [] c.new-2.result) c.members-members.ensures c.new-2.ensures;
      logged = λ slot. c.new-3.ensures.empty slot ∙ sym (none slot);
      log_is = c.new-3.ensures.node;
      beyond = λ slot le. none slot;
      seen = refl;
      slots = omega (arith, c.slot_limit-slots.ensures.within.1);
    }
