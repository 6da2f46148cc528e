use Rattle.std.proofs.Common.{◌≡◌, ℕ, ◌+◌, List, take, subst}
use Rattle.std.proofs.lemmas.List.{take_all}
use Rattle.ballots.specs.Majority.{NodeSet}
use Rattle.ballots.specs.declared.message.Message.{Message}
use Rattle.lawful_histories.specs.Saying.{says, Accepted}
use Rattle.lawful_histories.specs.Judging.{IsSetOf, HasAccepted}
use Rattle.lawful_histories.proofs.Majorities.{set_found, set_kept}
use Rattle.lawful_histories.proofs.judge.acceptors_of.Goals as goal
use Rattle.lawful_histories.proofs.judge.acceptors_of.Goals.{in-Some, in_default}

pub loop-place-preserved : goal.loop-place-preserved
loop-place-preserved g = elim g.match-acceptor_in.branch [
  | in-Some w ↦
      let next : IsSetOf w.with-nodes.result (HasAccepted g.args.slot (take (g.loop-place.place + 1) g.args.before.now) g.args.ballot g.args.value.now) =
      set_found (λ a m. says m g.args.slot ≡ Accepted a g.args.ballot g.args.value.now) g.args.before.now g.loop-place.place g.index-before-place.result g.loop-place.nodes w.with-nodes.result w.in-Some.node g.acceptor_in.result
      g.loop-place-test.true g.index-before-place.is g.loop-place.invariant w.with-nodes.ensures w.in-Some.is g.acceptor_in.ensures in
      rw w.nodes-is next
  | in_default w ↦
      let same : IsSetOf g.loop-place.nodes (HasAccepted g.args.slot (take (g.loop-place.place + 1) g.args.before.now) g.args.ballot g.args.value.now) =
      set_kept (λ a m. says m g.args.slot ≡ Accepted a g.args.ballot g.args.value.now) g.args.before.now g.loop-place.place g.index-before-place.result g.loop-place.nodes g.acceptor_in.result
      g.loop-place-test.true g.index-before-place.is g.loop-place.invariant w.in_default.is g.acceptor_in.ensures in
      rw w.nodes-is same
]

pub returns : goal.returns
returns g =
    subst (λ (l : List Message). IsSetOf g.loop-place.nodes (HasAccepted g.args.slot l g.args.ballot g.args.value.now)) (take_all g.loop-place.place g.args.before.now g.loop-place-test.false) g.loop-place.invariant
