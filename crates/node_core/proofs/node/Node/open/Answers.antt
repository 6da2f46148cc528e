use Rattle.std.proofs.Common.{ℕ, ◌<◌, subst}
use Rattle.agreement_rules.specs.Views.{started_with}
use Rattle.node_core.proofs.Starting.{starts}
use Rattle.node_core.proofs.node.Node.open.Goals as goal

pub invariant_of-result : goal.invariant_of-result
invariant_of-result c =
    (started_with c.args.records.now, starts c.in_ok-agreement.agreement c.new.result c.new-2.result c.args.records.now c.in_ok-agreement.ensures.stands c.new.ensures c.new-2.ensures)

pub returns : goal.returns
returns c = record {
  can = record {
    member = subst (λ (n : ℕ). c.args.me < n) c.members.ensures (c.have.ensures.0 c.if-not-have.false);
    records_are = c.are_records_of.ensures.0 c.if-not-are_records_of.false;
  };
  me_is = c.in_ok-agreement.ensures.me;
  config_is = c.in_ok-agreement.ensures.config;
  has = starts c.in_ok-agreement.agreement c.new.result c.new-2.result c.args.records.now c.in_ok-agreement.ensures.stands c.new.ensures c.new-2.ensures;
}
