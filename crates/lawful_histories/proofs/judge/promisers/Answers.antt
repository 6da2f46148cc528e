use Rattle.std.proofs.Common.{ℕ, ◌+◌, List, take, subst}
use Rattle.std.proofs.lemmas.List.{take_all}
use Rattle.ballots.specs.Majority.{NodeSet}
use Rattle.ballots.specs.declared.message.Message.{Message}
use Rattle.lawful_histories.specs.Saying.{says}
use Rattle.lawful_histories.specs.Judging.{IsSetOf, HasPromised, PromisesWithin}
use Rattle.lawful_histories.proofs.Majorities.{set_found, set_kept}
use Rattle.lawful_histories.proofs.judge.promisers.Goals as goal
use Rattle.lawful_histories.proofs.judge.promisers.Goals.{in-Some, in_default}

pub loop-place-preserved : goal.loop-place-preserved
loop-place-preserved g = elim g.match-promiser_within.branch [
  | in-Some w ↦
      let next : IsSetOf w.with-nodes.result (HasPromised g.args.slot (take (g.loop-place.place + 1) g.args.before.now) g.args.ballot g.args.bound.now) =
      set_found (λ a m. PromisesWithin a g.args.ballot g.args.bound.now (says m g.args.slot)) g.args.before.now g.loop-place.place g.index-before-place.result g.loop-place.nodes w.with-nodes.result w.in-Some.node g.promiser_within.result
      g.loop-place-test.true g.index-before-place.is g.loop-place.invariant w.with-nodes.ensures w.in-Some.is g.promiser_within.ensures in
      rw w.nodes-is next
  | in_default w ↦
      let same : IsSetOf g.loop-place.nodes (HasPromised g.args.slot (take (g.loop-place.place + 1) g.args.before.now) g.args.ballot g.args.bound.now) =
      set_kept (λ a m. PromisesWithin a g.args.ballot g.args.bound.now (says m g.args.slot)) g.args.before.now g.loop-place.place g.index-before-place.result g.loop-place.nodes g.promiser_within.result
      g.loop-place-test.true g.index-before-place.is g.loop-place.invariant w.in_default.is g.promiser_within.ensures in
      rw w.nodes-is same
]

pub returns : goal.returns
returns g =
    subst (λ (l : List Message). IsSetOf g.loop-place.nodes (HasPromised g.args.slot l g.args.ballot g.args.bound.now)) (take_all g.loop-place.place g.args.before.now g.loop-place-test.false) g.loop-place.invariant
