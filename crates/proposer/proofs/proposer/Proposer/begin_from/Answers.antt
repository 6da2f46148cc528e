use Rattle.std.proofs.Common.{arith, ◌≡◌, [], ◌∷◌, ◌++◌, sym, subst}
use Rattle.std.proofs.lemmas.Grind.{common_steps}
use Rattle.proposer.specs.Call.{AllFrom, Begun, Begins}
use Rattle.proposer.specs.Attempting.{next_ballot}
use Rattle.proposer.specs.State.{ProposerState, StateAfter}
use Rattle.proposer.proofs.Standing.{stands_after_begin}
use Rattle.proposer.proofs.proposer.Proposer.begin_from.Goals as goal

pub invariant_of-self : goal.invariant_of-self
invariant_of-self c =
    let old : ProposerState = record { me = c.self.inside.me; members = c.self.inside.members; highest_round = c.self.inside.highest_round; attempt = c.self.inside.attempt } in
    let begun : Begun = record { slot = c.args.slot; reach = AllFrom; seen_round = c.args.seen_round; candidate = c.args.candidate; ballot = c.in_ok-ballot.ballot } in
    record {
      start = c.self.invariant.start;
      calls = c.self.invariant.calls ++ Begins begun ∷ [];
      after = stands_after_begin c.self.invariant.start c.self.invariant.calls old begun c.new_from.result c.round-self-inside.result c.self.invariant.after
          (subst (λ (h : ProposerState). c.in_ok-ballot.ballot ≡ next_ballot h.me h.highest_round c.args.seen_round) (sym c.self.view_is) c.in_ok-ballot.ensures.ballot)
          c.round-self-inside.ensures.value c.new_from.ensures.slot c.new_from.ensures.ballot c.new_from.ensures.counts (c.new_from.ensures.ahead c.args.seen_round);
    }

pub returns-clause-stands : goal.returns-clause-stands
returns-clause-stands c = λ start calls stands.
    stands_after_begin start calls (record { me = c.self.inside.me; members = c.self.inside.members; highest_round = c.self.inside.highest_round; attempt = c.self.inside.attempt })
    (record { slot = c.args.slot; reach = AllFrom; seen_round = c.args.seen_round; candidate = c.args.candidate; ballot = c.in_ok-ballot.ballot }) c.new_from.result c.round-self-inside.result
    (subst (StateAfter start calls) (sym c.self.view_is) stands) (subst (λ (h : ProposerState). c.in_ok-ballot.ballot ≡ next_ballot h.me h.highest_round c.args.seen_round) (sym c.self.view_is) c.in_ok-ballot.ensures.ballot) c.round-self-inside.ensures.value c.new_from.ensures.slot c.new_from.ensures.ballot c.new_from.ensures.counts (c.new_from.ensures.ahead c.args.seen_round)

pub returns-clause-opens : goal.returns-clause-opens
returns-clause-opens c = grind (arith, common_steps) steps 600000

pub returns-clause-next : goal.returns-clause-next
returns-clause-next c = grind (arith, common_steps) steps 600000

pub returns-clause-round : goal.returns-clause-round
returns-clause-round c = grind (arith, common_steps) steps 600000
