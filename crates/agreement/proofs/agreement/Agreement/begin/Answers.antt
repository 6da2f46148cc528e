use Rattle.std.proofs.Common.{◌≡◌, ℕ, suc, ◌<◌, max, [], ◌∷◌, ◌++◌, refl, sym, ap, subst, ◌∙◌, arith}
use Rattle.ballots.specs.Limits.{max_round}
use Rattle.ballots.specs.Ballot.{Ballot as Pair}
use Rattle.ballots.specs.declared.record.Record.TheVariants as kept_as
use Rattle.acceptor.specs.Restored.{IsHighestRound}
use Rattle.proposer.specs.Attempting.{next_ballot}
use Rattle.proposer.specs.Call.{Start, OneSlot, Begins}
use Rattle.proposer.specs.State.{StateAfter as ProposerAfter}
use Rattle.agreement.specs.State.{AgreementState, Has}
use Rattle.agreement.proofs.Parts as parts
use Rattle.agreement.proofs.agreement.Agreement.begin.Goals as goal

pub returns-clause-stands : goal.returns-clause-stands
returns-clause-stands c views ballot had next =
    let given = subst (λ (s : AgreementState). Has s views × (ballot ≡ next_ballot s.proposer.me s.proposer.highest_round s.seen_round) × (max s.seen_round s.proposer.highest_round < max_round))
    (sym c.self.view_is) (had, next, c.requires) in
    let has = given.0 in
    let start : Start = record { me = c.self.inside.me; members = c.self.inside.config.members; highest_round = has.first_round } in
    let ok = parts.begun_ok c.begin.result max_round _ c.begin.ensures.limit given.2 in
    let is_next = parts.at_ok _ c.begin.result ok.0 ok.1 c.begin.ensures.next in
    let round = parts.at_ok _ c.begin.result ok.0 ok.1 c.begin.ensures.round in
    let stands = parts.at_ok _ c.begin.result ok.0 ok.1 c.begin.ensures.stands in
    let same : ok.0 ≡ ballot = is_next ∙ sym given.1 in
    record {
      restored = c.applied_is_restored.ensures views.records _ _ (kept_as.Began ballot) has.restored (record { promises = λ s. refl; acceptances = λ s. refl });
      begun = subst (λ (r : ℕ). IsHighestRound (views.records ++ kept_as.Began ballot ∷ []) r) (sym (round ∙ ap (λ (b : Pair). b.round) same))
          (parts.begun_above views.records c.self.inside.proposer.highest_round ballot has.begun
          (let e : ballot.round ≡ suc (max c.self.inside.seen_round c.self.inside.proposer.highest_round) = ap (λ (b : Pair). b.round) given.1 in omega (arith, e)));
      first_round = has.first_round;
      proposer_calls = subst (λ (b : Pair). ProposerAfter start (views.proposer_calls ++ Begins (record { slot = c.args.slot; reach = OneSlot; seen_round = views.seen_round; candidate = c.args.candidate; ballot = b }) ∷ []) c.begin.new.self) same
          (subst (λ (n : ℕ). ProposerAfter start (views.proposer_calls ++ Begins (record { slot = c.args.slot; reach = OneSlot; seen_round = n; candidate = c.args.candidate; ballot = ok.0 }) ∷ []) c.begin.new.self) has.seen
          (stands start views.proposer_calls has.proposer_calls));
      learner_calls = has.learner_calls;
      logged = has.logged;
      log_is = has.log_is;
      beyond = has.beyond;
      seen = has.seen;
      slots = has.slots;
    }
