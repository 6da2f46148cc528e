-- What a node's part in agreement holds, and how it stands for what decides what the node does: Lamport, "Paxos Made Simple",
-- sections 2.5 and 3.
use Rattle.std.specs.Prelude.{◌≡◌, refl, ℕ, suc, ◌≤◌, None}
use Rattle.std.specs.Coded.{Coded, code_by, coded×, coded_ℕ}
use Rattle.ballots.specs.Limits.{max_slot}
use Rattle.acceptor.specs.AcceptorState.{AcceptorState, standing}
use Rattle.acceptor.specs.Restored.{IsRestored, IsHighestRound}
use Rattle.proposer.specs.State.{ProposerState, StateAfter as ProposerAfter}
use Rattle.learner.specs.State.{LearnerState, decided_at as learned_at}
use Rattle.learner.specs.Learned.{StateAfter as LearnerAfter}
use Rattle.decided_log.specs.LogState.{LogState, decided_at}
use Rattle.agreement_rules.specs.Views.{AgreementConfig, Views}

pub record AgreementState : Type 0 where
  pub me : ℕ
  pub config : AgreementConfig
  pub seen_round : ℕ
  pub acceptor : AcceptorState
  pub proposer : ProposerState
  pub learner : LearnerState
  pub log : LogState

abbrev pub coded_config : Coded AgreementConfig
coded_config = code_by (ℕ × ℕ) (coded× coded_ℕ coded_ℕ) (λ c. (c.members, c.slot_limit))
    (λ p. record { members = p.0; slot_limit = p.1 }) (λ _. refl)

-- a state is stored as its fields
abbrev pub agreement_code : Coded AcceptorState → Coded ProposerState → Coded LearnerState → Coded LogState → Coded AgreementState
agreement_code acceptor proposer learner log =
    code_by ((ℕ × (AgreementConfig × ℕ)) × ((AcceptorState × ProposerState) × (LearnerState × LogState)))
    (coded× (coded× coded_ℕ (coded× coded_config coded_ℕ)) (coded× (coded× acceptor proposer) (coded× learner log)))
    (λ a. ((a.me, (a.config, a.seen_round)), ((a.acceptor, a.proposer), (a.learner, a.log))))
    (λ p. record {
      me = p.0.0;
      config = p.0.1.0;
      seen_round = p.0.1.1;
      acceptor = p.1.0.0;
      proposer = p.1.0.1;
      learner = p.1.1.0;
      log = p.1.1.1;
    })
    (λ _. refl)

-- it stands where these records and these calls leave it
pub record Has (state : AgreementState) (views : Views) : Type 0 where
  pub restored : IsRestored views.records (standing state.acceptor)
  pub begun : IsHighestRound views.records state.proposer.highest_round
  pub first_round : ℕ
  pub proposer_calls : ProposerAfter (record { me = state.me; members = state.config.members; highest_round = first_round })
      views.proposer_calls state.proposer
  pub learner_calls : LearnerAfter state.config.members views.learner_calls state.learner
  pub logged : (slot : ℕ) → decided_at state.log slot ≡ learned_at state.learner slot
  pub log_is : state.log.node ≡ state.me
  pub beyond : (slot : ℕ) → state.config.slot_limit ≤ slot → learned_at state.learner slot ≡ None
  pub seen : state.seen_round ≡ views.seen_round
  pub slots : state.config.slot_limit ≤ suc max_slot
