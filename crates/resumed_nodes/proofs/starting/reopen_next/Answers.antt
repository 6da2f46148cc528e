use Rattle.std.proofs.Common.{◌≡◌, [], Bool, true, false, IsTrue, length, sym, subst, ◌∙◌}
use Rattle.resumed_nodes.specs.Starting.{AreOwn, AreStarted}
use Rattle.resumed_nodes.proofs.Restarted.{one_more, opened}
use Rattle.resumed_nodes.proofs.starting.reopen_next.Goals as goal

not_both : (b : Bool) → b ≡ false → IsTrue b → ⊥
not_both b is given =
    let same : false ≡ true = sym is ∙ given in
    absurd (cc)

pub returns-then-not-are_own-clause-fault : goal.returns-then-not-are_own-clause-fault
returns-then-not-are_own-clause-fault g c = (
  c.in-Ok.node.records,
  c.in-Ok.ensures.found,
  λ own. not_both c.are_own.result c.if-not-are_own.true (c.are_own.ensures.1 (subst (AreOwn c.args.me) (sym c.records.ensures) own)),
)

pub returns-clause-added : goal.returns-clause-added
returns-clause-added g c = record {
  node = c.in-Ok.node;
  behind = c.in_ok-push.ensures.added;
  found = c.in-Ok.ensures.found;
  own = subst (AreOwn c.args.me) c.records.ensures (c.are_own.ensures.0 c.if-not-are_own.false);
}

pub returns-clause-started : goal.returns-clause-started
returns-clause-started g c =
    let nodes = c.args.nodes.now.items in
    let node = c.in-Ok.node in
    let is = opened c.args.config (length nodes) node (c.in-Ok.ensures.me ∙ sym c.requires.next) c.in-Ok.ensures.config c.in-Ok.ensures.placed c.in-Ok.ensures.stands in
    subst (AreStarted c.args.config []) (sym c.in_ok-push.ensures.added) (one_more c.args.config nodes node c.requires.started is)
