use Rattle.std.proofs.Common.{◌≡◌, ℕ, Bool, true, false, MatchBool, List, subst}
use Rattle.std.proofs.lemmas.List.{take_all}
use Rattle.ballots.specs.declared.message.Message.{Message}
use Rattle.lawful_histories.specs.Lawful.{IsLawful}
use Rattle.run_breaches.specs.Rules.{Keeps}
use Rattle.run_breaches.specs.Slots.{messages_at, Joins}
use Rattle.run_breaches.proofs.Apart.{refused, joined}
use Rattle.run_breaches.proofs.by_slot.first_unlawful.Goals as goal

pub returns-then-not-branch-clause-place : goal.returns-then-not-branch-clause-place
returns-then-not-branch-clause-place c =
    let n : ℕ = c.args.members in
    let m : Message = c.index-sent-place.result in
    let told : Keeps n (messages_at c.loop-place.slots.entries m.slot) m → ⊥ =
    subst (λ (t : Bool). MatchBool t (Keeps n (messages_at c.loop-place.slots.entries m.slot) m × Joins c.loop-place.slots.entries c.joins.new.slots.entries m) (Keeps n (messages_at c.loop-place.slots.entries m.slot) m → ⊥))
    c.if-not-branch.true c.in_ok-joins.ensures in
    let inv = c.loop-place.invariant in
    refused n c.args.sent.now c.loop-place.place m c.loop-place-test.true c.index-sent-place.is c.a_message_follows_where_it_keeps_the_rules.ensures.lawful inv.0
    (subst (λ (l : List Message). Keeps n l m → ⊥) (inv.1 m.slot) told)

pub loop-place-preserved : goal.loop-place-preserved
loop-place-preserved c =
    let n : ℕ = c.args.members in
    let m : Message = c.index-sent-place.result in
    let told : Keeps n (messages_at c.loop-place.slots.entries m.slot) m × Joins c.loop-place.slots.entries c.joins.new.slots.entries m =
    subst (λ (t : Bool). MatchBool t (Keeps n (messages_at c.loop-place.slots.entries m.slot) m × Joins c.loop-place.slots.entries c.joins.new.slots.entries m) (Keeps n (messages_at c.loop-place.slots.entries m.slot) m → ⊥))
    c.if-not-branch.false c.in_ok-joins.ensures in
    joined n c.args.sent.now c.loop-place.place m c.loop-place-test.true c.index-sent-place.is c.a_message_follows_where_it_keeps_the_rules.ensures.lawful c.loop-place.slots.entries c.joins.new.slots.entries told.1 told.0 c.loop-place.invariant

pub returns-clause-place : goal.returns-clause-place
returns-clause-place c = subst (IsLawful c.args.members) (take_all c.loop-place.place c.args.sent.now c.loop-place-test.false) c.loop-place.invariant.0
