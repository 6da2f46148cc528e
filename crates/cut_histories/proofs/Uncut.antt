-- What a node owes that went down where a record was due: a plan that keeps the record, and so sends what stands behind it.
use Rattle.std.proofs.Common.{◌≡◌, ℕ, inl, inr, Bool, cond, nat_eq, [], ◌∷◌, ◌++◌, Option, Some, refl, sym, ap, ◌∙◌, eq-eqb, ne_eqb}
use Rattle.std.specs.List.{cons_option}
use Rattle.ballots.specs.Slots.{SetsSlot}
use Rattle.ballots.specs.Ballot.{Ballot}
use Rattle.ballots.specs.Message.{message}
use Rattle.ballots.specs.declared.acceptance.Acceptance.{Acceptance}
use Rattle.ballots.specs.declared.message.Message.{Message}
use Rattle.ballots.specs.declared.message.Body.{Body}
use Rattle.ballots.specs.declared.message.Body.TheVariants as body
use Rattle.ballots.specs.declared.record.Record.{Record}
use Rattle.ballots.specs.declared.record.Record.TheVariants.{Promised, Accepted as HasAccepted}
use Rattle.acceptor.specs.Standing.{Standing, Sets}
use Rattle.acceptor.specs.declared.answer.Answer.TheVariants as answer
use Rattle.agreement_rules.specs.Views.{AgreementConfig, Views}
use Rattle.agreement_rules.specs.Due.{Plan, Refuses, Plans, TickKeeps, BodyKeeps, MessageKeeps, has_seen, answers_with}
use Rattle.histories.specs.Due.{Input, IsDue, BodyIsDue}
use Rattle.histories.specs.Due as input
use Rattle.cut_histories.proofs.Lists.{none_is_some, some_same}
use Rattle.cut_histories.proofs.Saying.{KeepingLaws}

-- ---- an acceptor that grants

set_at : {X : Type 0} → (ℕ → X) → ℕ → X → ℕ → X
set_at old slot now s = cond (nat_eq s slot) now (old s)

sets_slot : {X : Type 0} (old : ℕ → X) (slot : ℕ) (now : X) → SetsSlot old (set_at old slot now) slot now
unfolding set_at
sets_slot old slot now = record {
  here = ap (λ (b : Bool). cond b now (old slot)) (eq-eqb slot slot refl);
  others = λ s apart. ap (λ (b : Bool). cond b now (old s)) (ne_eqb s slot apart);
}

-- it has promised the ballot then, and accepted this
granting : Standing → ℕ → Ballot → Option Acceptance → Standing
granting old slot ballot held = record { promised = set_at old.promised slot (Some ballot); accepted = set_at old.accepted slot held }

granting_sets : (old : Standing) (slot : ℕ) (ballot : Ballot) (held : Option Acceptance) → Sets old (granting old slot ballot held) slot ballot held
unfolding granting
granting_sets old slot ballot held =
    record { promises = sets_slot old.promised slot (Some ballot); acceptances = sets_slot old.accepted slot held }

-- ---- a plan that keeps the record

pub record KeepsIt (config : AgreementConfig) (me : ℕ) (views : Views) (asked : Input) (r : Record) : Type 0 where
  pub plan : Plan
  pub is_due : IsDue config me views asked (Plans plan)
  pub records : plan.after.records ≡ views.records ++ r ∷ []

-- likewise of a message's body
record BodyKeepsIt (config : AgreementConfig) (me : ℕ) (views : Views) (sender slot : ℕ) (b : Body) (r : Record) : Type 0 where
  plan : Plan
  is_due : BodyIsDue config me views sender slot b plan
  records : plan.after.records ≡ views.records ++ r ∷ []

body_uncut : (config : AgreementConfig) (me : ℕ) (views : Views) (sender slot : ℕ) (b : Body) (r : Record) → BodyKeeps views.records slot b (Some r)
    → BodyKeepsIt config me views sender slot b r
body_uncut config me views sender slot (body.Prepare ballot) r (standing, restored, inl (above, is)) = record {
  plan = answers_with views (Promised slot ballot) (message me slot (body.Promise ballot (standing.accepted slot)));
  is_due = (
    standing,
    granting standing slot ballot (standing.accepted slot),
    answer.Promise (standing.accepted slot),
    restored,
    (above, refl, granting_sets standing slot ballot (standing.accepted slot)),
    refl,
  );
  records = ap (λ (k : Record). views.records ++ k ∷ []) (sym (some_same r (Promised slot ballot) is));
}
body_uncut config me views sender slot (body.Prepare ballot) r (standing, restored, inr (below, is)) = absurd (none_is_some r (sym is))
body_uncut config me views sender slot (body.Accept proposal) r (standing, restored, inl (least, is)) = record {
  plan = answers_with views (HasAccepted slot proposal) (message me slot (body.Accepted proposal));
  is_due = (
    standing,
    granting standing slot proposal.ballot (Some proposal),
    answer.Granted,
    restored,
    (least, granting_sets standing slot proposal.ballot (Some proposal)),
    refl,
  );
  records = ap (λ (k : Record). views.records ++ k ∷ []) (sym (some_same r (HasAccepted slot proposal) is));
}
body_uncut config me views sender slot (body.Accept proposal) r (standing, restored, inr (below, is)) = absurd (none_is_some r (sym is))
body_uncut config me views sender slot (body.Promise ballot report) r is = absurd (none_is_some r (sym is))
body_uncut config me views sender slot (body.Nack ballot promised) r is = absurd (none_is_some r (sym is))
body_uncut config me views sender slot (body.Accepted acceptance) r is = absurd (none_is_some r (sym is))
body_uncut config me views sender slot (body.Decided value) r is = absurd (none_is_some r (sym is))
body_uncut config me views sender slot body.Ask r is = absurd (none_is_some r (sym is))

pub message_uncut : (config : AgreementConfig) (me : ℕ) (views : Views) (m : Message) (r : Record) → MessageKeeps config views m (Some r) → KeepsIt config me views (input.Deliver m) r
message_uncut config me views m r (inl (is_of, keeps)) =
    let it = body_uncut config me (has_seen views m) m.sender m.slot m.body r keeps in
    record { plan = it.plan; is_due = (is_of, it.is_due); records = it.records }
message_uncut config me views m r (inr (is_none, is)) = absurd (none_is_some r (sym is))

pub tick_uncut : (laws : KeepingLaws) (config : AgreementConfig) (me : ℕ) (views : Views) (left : ℕ) (r : Record) → TickKeeps config me views left (Some r)
    → KeepsIt config me views (input.Tick left) r
tick_uncut laws config me views left r (Refuses refusal, is_due, is) = absurd (none_is_some r (sym is))
tick_uncut laws config me views left r (Plans plan, is_due, is) = record {
  plan = plan;
  is_due = is_due;
  records = (laws.tick config me views left plan is_due).records ∙ ap (λ (o : Option Record). views.records ++ cons_option o []) (sym is);
}
