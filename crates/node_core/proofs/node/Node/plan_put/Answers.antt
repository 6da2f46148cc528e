use Rattle.std.proofs.Common.{refl, sym, subst}
use Rattle.agreement_rules.specs.Views.{Views}
use Rattle.histories.specs.Due.{Put}
use Rattle.agreement.specs.declared.refusal.Refusal.TheVariants.{OutOfMemory}
use Rattle.node_core.specs.State.{NodeState, NodeHas}
use Rattle.node_core.specs.Plans.{PlanGives}
use Rattle.node_core.proofs.Beginning.{handed_on}
use Rattle.node_core.proofs.Leading.{node_of}
use Rattle.node_core.proofs.Standing.{stands_on, same_as_it_is}
use Rattle.node_core.proofs.Putting.{Knows, IsFirstFree, stays_planned, spent_refused, waits_planned, memory_refused}
use Rattle.node_core.proofs.node.Node.plan_put.Goals as goal

pub returns-then-knows-clause-gives : goal.returns-then-knows-clause-gives
returns-then-knows-clause-gives c = stays_planned c.args.self.now c.args.upload c.knows.result c.knows.ensures c.if-knows.true

pub returns-then-is_none-clause-gives : goal.returns-then-is_none-clause-gives
returns-then-is_none-clause-gives c =
    spent_refused c.args.self.now c.args.upload c.knows.result c.knows.ensures c.if-knows.false c.first_free.result
    (subst (λ (s : NodeState). IsFirstFree s c.first_free.result) c.self.view_is c.first_free.ensures) c.if-is_none.ensures

pub invariant_of-self : goal.invariant_of-self
invariant_of-self c = (
  c.self.invariant.0,
  stands_on c.self.inside.agreement c.self.inside.agreement c.self.inside.tables c.self.inside.tables c.self.inside.waiting c.make_room.new.self
      (λ views has. has) refl (same_as_it_is c.self.inside.tables) c.make_room.ensures.same c.self.invariant.0 c.self.invariant.1,
)

pub returns-in_err-make_room-clause-gives : goal.returns-in_err-make_room-clause-gives
returns-in_err-make_room-clause-gives c =
    let first = subst (λ (s : NodeState). IsFirstFree s c.first_free.result) c.self.view_is c.first_free.ensures in
    subst (PlanGives c.args.self.now (Put c.args.upload)) (sym (handed_on c.from_residual.result OutOfMemory c.from_residual.ensures.1))
    (memory_refused c.args.self.now c.args.upload c.knows.result c.knows.ensures c.if-knows.false c.first_free.result first c.if-is_none.ensures)

pub returns-in_err-make_room-clause-same : goal.returns-in_err-make_room-clause-same
returns-in_err-make_room-clause-same c =
    subst (λ (s : NodeState). (views : Views) → NodeHas s views → NodeHas (node_of c.self.inside.agreement c.self.inside.tables c.make_room.new.self) views) c.self.view_is
    (stands_on c.self.inside.agreement c.self.inside.agreement c.self.inside.tables c.self.inside.tables c.self.inside.waiting c.make_room.new.self
    (λ views has. has) refl (same_as_it_is c.self.inside.tables) c.make_room.ensures.same)

pub invariant_of-self-2 : goal.invariant_of-self-2
invariant_of-self-2 c = (
  c.self.invariant.0,
  stands_on c.self.inside.agreement c.self.inside.agreement c.self.inside.tables c.self.inside.tables c.self.inside.waiting c.make_room.new.self
      (λ views has. has) refl (same_as_it_is c.self.inside.tables) c.make_room.ensures.same c.self.invariant.0 c.self.invariant.1,
)

pub returns-clause-gives : goal.returns-clause-gives
returns-clause-gives c =
    let first = subst (λ (s : NodeState). IsFirstFree s c.first_free.result) c.self.view_is c.first_free.ensures in
    waits_planned c.args.self.now c.args.upload c.knows.result c.knows.ensures c.if-knows.false c.first_free.result first c.if-is_none.ensures

pub returns-clause-can : goal.returns-clause-can
returns-clause-can c =
    let knows = subst (λ (s : NodeState). Knows s c.args.upload c.knows.result) (sym c.self.view_is) c.knows.ensures in
    let planned = waits_planned (node_of c.self.inside.agreement c.self.inside.tables c.self.inside.waiting) c.args.upload c.knows.result knows c.if-knows.false
    c.first_free.result c.first_free.ensures c.if-is_none.ensures c.self.invariant.0 c.self.invariant.1 in
    record {
      room = c.in_ok-make_room.ensures.made;
      views = c.self.invariant.0;
      has = stands_on c.self.inside.agreement c.self.inside.agreement c.self.inside.tables c.self.inside.tables c.self.inside.waiting c.make_room.new.self
          (λ views has. has) refl (same_as_it_is c.self.inside.tables) c.make_room.ensures.same c.self.invariant.0 c.self.invariant.1;
      after = planned.plan.after;
      leads = planned.leads;
    }

pub returns-clause-same : goal.returns-clause-same
returns-clause-same c =
    subst (λ (s : NodeState). (views : Views) → NodeHas s views → NodeHas (node_of c.self.inside.agreement c.self.inside.tables c.make_room.new.self) views) c.self.view_is
    (stands_on c.self.inside.agreement c.self.inside.agreement c.self.inside.tables c.self.inside.tables c.self.inside.waiting c.make_room.new.self
    (λ views has. has) refl (same_as_it_is c.self.inside.tables) c.make_room.ensures.same)
