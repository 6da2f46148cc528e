-- The record that is due is that of the plan, stands behind what the plan sends, and is among the records afterwards.
use Rattle.std.proofs.Common.{◌≡◌, ℕ, suc, ◌⊎◌, inl, inr, List, [], ◌∷◌, ◌++◌, take, drop, filter_map, Option, Some, None, refl, sym, ap, subst}
use Rattle.std.specs.List.{cons_option}
use Rattle.std.proofs.lemmas.List.{append-nil}
use Rattle.ballots.specs.Ballot.{Ballot, IsBelow, IsAbove, IsAtLeast}
use Rattle.ballots.specs.declared.value.Value.{Value}
use Rattle.ballots.specs.declared.acceptance.Acceptance.{Acceptance}
use Rattle.ballots.specs.declared.record.Record.{Record}
use Rattle.ballots.specs.declared.message.Message.{Message}
use Rattle.ballots.specs.declared.message.Body.{Body}
use Rattle.ballots.specs.declared.message.Body.TheVariants.{Prepare, Promise, Nack, Accept, Accepted, Ask, Decided}
use Rattle.ballots.proofs.CallerLemmas.{at_least_where_not_below}
use Rattle.acceptor.specs.Standing.{Standing}
use Rattle.acceptor.specs.declared.answer.Answer.{Answer}
use Rattle.acceptor.specs.declared.answer.Answer.TheVariants as answer
use Rattle.acceptor.specs.Answering.{Prepares, Accepts}
use Rattle.acceptor.specs.Restored.{IsRestored}
use Rattle.decided_log.specs.Asked.{decided_messages, max_asked}
use Rattle.agreement_rules.specs.Views.{AgreementConfig, Views}
use Rattle.agreement_rules.specs.Due.{Refusal, Plan, Plans, Refuses, Aim, Attempts, AsksFrom, AsksAt, AimIsDue, TickIsDue, IsMessageOf, has_seen, accept_of, ReplyToPrepare, ReplyToAccept, PartIsDue, BodyKeeps, MessageKeeps, TickKeeps}
use Rattle.agreement_rules.specs.Keeping.{record_of}
use Rattle.agreement_rules.proofs.OneDue.{Laws, one_record_of_body, one_record_of_message, one_record_of_tick}

-- ---- the record that is due is the plan's

abbrev pub kept_of : Plan → Option Record
kept_of plan = plan.kept

-- a record that is kept where something holds, and else none
abbrev KeepsWhere : Type 0 → Record → Option Record → Type 0
KeepsWhere P r kept = (P × (kept ≡ Some r)) ⊎ ((P → ⊥) × (kept ≡ None))

module _ (me : ℕ) (views : Views) (slot : ℕ) (plan : Plan) (old new : Standing) (restored : IsRestored views.records old) where
  prepare_keeps : (ballot : Ballot) (reply : Answer) → Prepares old new slot ballot reply → ReplyToPrepare me views slot ballot reply plan
      → BodyKeeps views.records slot (Prepare ballot) plan.kept
  prepare_keeps ballot (answer.Promise report) (above, reported, sets) is = (old, restored, inl (above, ap kept_of is))
  prepare_keeps ballot (answer.Nack promised) (has, at_least, same) is =
      let not : IsBelow promised ballot → ⊥ = (at_least_where_not_below ballot promised).0 at_least in
      (old, restored, inr (λ above. not (subst (IsAbove ballot) has above), ap kept_of is))
  prepare_keeps ballot answer.Granted prepares is = absurd prepares
  prepare_keeps ballot (answer.PromiseFrom reports) prepares is = absurd prepares

  accept_keeps : (proposal : Acceptance) (reply : Answer) → Accepts old new slot proposal reply → ReplyToAccept me views slot proposal reply plan
      → BodyKeeps views.records slot (Accept proposal) plan.kept
  accept_keeps proposal answer.Granted (at_least, sets) is = (old, restored, inl (at_least, ap kept_of is))
  accept_keeps proposal (answer.Nack promised) (has, below, same) is =
      (old, restored, inr (λ at_least. (at_least_where_not_below promised proposal.ballot).0 (subst (IsAtLeast proposal.ballot) has at_least) below, ap kept_of is))
  accept_keeps proposal (answer.Promise report) accepts is = absurd accepts
  accept_keeps proposal (answer.PromiseFrom reports) accepts is = absurd accepts

pub body_keeps : (config : AgreementConfig) (me : ℕ) (views : Views) (sender slot : ℕ) (said : Body) (plan : Plan) → PartIsDue config me views sender slot said plan
    → BodyKeeps views.records slot said plan.kept
body_keeps config me views sender slot (Prepare ballot) plan (old, new, reply, restored, prepares, replies) = prepare_keeps me views slot plan old new restored ballot reply prepares replies
body_keeps config me views sender slot (Accept proposal) plan (old, new, reply, restored, accepts, replies) = accept_keeps me views slot plan old new restored proposal reply accepts replies
body_keeps config me views sender slot (Promise ballot report) plan (accept, answers, is) = ap kept_of is
body_keeps config me views sender slot (Nack ballot promised) plan is = ap kept_of is
body_keeps config me views sender slot (Accepted acceptance) plan is = ap kept_of is
body_keeps config me views sender slot (Decided value) plan is = ap kept_of is
body_keeps config me views sender slot Ask plan (values, prefix, is) = ap kept_of is

module _ (laws : Laws) (config : AgreementConfig) (me : ℕ) (views : Views) where
  pub body_record_is : (sender slot : ℕ) (said : Body) (plan : Plan) (kept : Option Record) → PartIsDue config me views sender slot said plan
      → BodyKeeps views.records slot said kept → plan.kept ≡ kept
  body_record_is sender slot said plan kept due keeps = one_record_of_body laws views.records slot said plan.kept kept (body_keeps config me views sender slot said plan due) keeps

  pub message_keeps : (m : Message) (plan : Plan) → IsMessageOf config m → PartIsDue config me (has_seen views m) m.sender m.slot m.body plan → MessageKeeps config views m plan.kept
  message_keeps m plan is due = inl (is, body_keeps config me (has_seen views m) m.sender m.slot m.body plan due)

  pub message_record_is : (m : Message) (plan : Plan) (kept : Option Record) → IsMessageOf config m → PartIsDue config me (has_seen views m) m.sender m.slot m.body plan
      → MessageKeeps config views m kept → plan.kept ≡ kept
  message_record_is m plan kept is due keeps = one_record_of_message laws config views m plan.kept kept (message_keeps m plan is due) keeps

  pub no_record_of_others : (m : Message) (kept : Option Record) → (IsMessageOf config m → ⊥) → MessageKeeps config views m kept → kept ≡ None
  no_record_of_others m kept not (inl (is, keeps)) = absurd (not is)
  no_record_of_others m kept not (inr (other, none)) = none

  pub tick_record_is : (left : ℕ) (plan : Plan) (kept : Option Record) → TickIsDue config me views left (Plans plan) → TickKeeps config me views left kept → plan.kept ≡ kept
  tick_record_is left plan kept due keeps = one_record_of_tick laws config me views left plan.kept kept (Plans plan, due, refl) keeps

  pub tick_keeps : (left : ℕ) (plan : Plan) → TickIsDue config me views left (Plans plan) → TickKeeps config me views left plan.kept
  tick_keeps left plan due = (Plans plan, due, refl)

  pub no_record_of_refused : (left : ℕ) (refusal : Refusal) (kept : Option Record) → TickIsDue config me views left (Refuses refusal) → TickKeeps config me views left kept → kept ≡ None
  no_record_of_refused left refusal kept due keeps = one_record_of_tick laws config me views left kept None keeps (Refuses refusal, due, refl)

-- ---- it stands behind what is sent, and among the records

abbrev pub kept_list : Option Record → List Record
kept_list kept = cons_option kept []

-- what is sent has this record behind it, which is kept
abbrev pub StandsBehind : Views → Plan → Type 0
StandsBehind views plan = (filter_map record_of plan.sends ≡ kept_list plan.kept) × (plan.after.records ≡ views.records ++ kept_list plan.kept)

stands : (views : Views) (plan due : Plan) → plan ≡ due → StandsBehind views due → StandsBehind views plan
stands views plan due is stands_due = subst (StandsBehind views) (sym is) stands_due

-- no record is kept
same_records : (records : List Record) → records ≡ records ++ []
same_records records = sym (append-nil records)

no_record_of_decided : (me from : ℕ) (values : List Value) → filter_map record_of (decided_messages me from values) ≡ []
no_record_of_decided me from [] = refl
no_record_of_decided me from (value ∷ values) = no_record_of_decided me (suc from) values

module _ (config : AgreementConfig) (me : ℕ) (views : Views) (plan : Plan) where
  prepare_stands : (slot : ℕ) (ballot : Ballot) (reply : Answer) → ReplyToPrepare me views slot ballot reply plan → StandsBehind views plan
  prepare_stands slot ballot (answer.Promise report) is = stands views plan _ is (refl, refl)
  prepare_stands slot ballot (answer.Nack promised) is = stands views plan _ is (refl, same_records views.records)
  prepare_stands slot ballot answer.Granted is = absurd is
  prepare_stands slot ballot (answer.PromiseFrom reports) is = absurd is

  accept_stands : (slot : ℕ) (proposal : Acceptance) (reply : Answer) → ReplyToAccept me views slot proposal reply plan → StandsBehind views plan
  accept_stands slot proposal answer.Granted is = stands views plan _ is (refl, refl)
  accept_stands slot proposal (answer.Nack promised) is = stands views plan _ is (refl, same_records views.records)
  accept_stands slot proposal (answer.Promise report) is = absurd is
  accept_stands slot proposal (answer.PromiseFrom reports) is = absurd is

  no_record_of_accept : (accept : Option (ℕ × Ballot × Value)) → filter_map record_of (accept_of me accept) ≡ []
  no_record_of_accept None = refl
  no_record_of_accept (Some accept) = refl

  pub body_stands : (sender slot : ℕ) (said : Body) → PartIsDue config me views sender slot said plan → StandsBehind views plan
  body_stands sender slot (Prepare ballot) (old, new, reply, restored, prepares, replies) = prepare_stands slot ballot reply replies
  body_stands sender slot (Accept proposal) (old, new, reply, restored, accepts, replies) = accept_stands slot proposal reply replies
  body_stands sender slot (Promise ballot report) (accept, answers, is) = stands views plan _ is (no_record_of_accept accept, same_records views.records)
  body_stands sender slot (Nack ballot promised) is = stands views plan _ is (refl, same_records views.records)
  body_stands sender slot (Accepted acceptance) is = stands views plan _ is (refl, same_records views.records)
  body_stands sender slot (Decided value) is = stands views plan _ is (refl, same_records views.records)
  body_stands sender slot Ask (values, prefix, is) =
      stands views plan _ is (no_record_of_decided me slot (take max_asked (drop slot values)), same_records views.records)

  asks_stands : (slot : ℕ) → AsksAt config me views slot plan → StandsBehind views plan
  asks_stands slot (inl (within, is)) = stands views plan _ is (refl, same_records views.records)
  asks_stands slot (inr (spent, is)) = stands views plan _ is (refl, same_records views.records)

  aim_stands : (aim : Aim) → AimIsDue config me views aim (Plans plan) → StandsBehind views plan
  aim_stands (Attempts slot value) (highest, within, is_highest, left, is) = stands views plan _ is (refl, refl)
  aim_stands (AsksFrom slot) asks = asks_stands slot asks

  pub tick_stands : (left : ℕ) → TickIsDue config me views left (Plans plan) → StandsBehind views plan
  tick_stands left (inl (over, is)) = absurd (let no : Plans plan ≡ Refuses _ = is in cc)
  tick_stands left (inr (aim, within, is_aim, due)) = aim_stands aim due
