use Rattle.std.proofs.Common.{ℕ, ◌+◌, List, take, subst}
use Rattle.std.specs.List.{Any}
use Rattle.std.proofs.lemmas.List.{take_all}
use Rattle.ballots.specs.declared.message.Message.{Message}
use Rattle.lawful_histories.specs.Judging.{IsSetOf}
use Rattle.run_breaches.specs.Earlier.{Accepts}
use Rattle.run_breaches.proofs.Sets.{one_more, set_none, set_with, set_kept}
use Rattle.run_breaches.proofs.searches.acceptors_of.Goals as goal
use Rattle.run_breaches.proofs.searches.acceptors_of.Goals.{in-Some, in_default}

pub loop-place-init : goal.loop-place-init
loop-place-init g = set_none (λ a. Accepts g.args.slot g.args.ballot g.args.value.now a) g.new-nodes.result g.new-nodes.ensures

pub loop-place-preserved : goal.loop-place-preserved
loop-place-preserved g =
    let P : ℕ → Message → Type 0 = λ a. Accepts g.args.slot g.args.ballot g.args.value.now a in
    let before : List Message = g.args.before.now in
    let k : ℕ = g.loop-place.place in
    let m : Message = g.index-before-place.result in
    let more = one_more before k m g.loop-place-test.true g.index-before-place.is in
    elim g.match-acceptor_in.branch [
      | in-Some w ↦
          let next : IsSetOf w.with-nodes.result (λ a. Any (P a) (take (k + 1) before)) =
          subst (λ (l : List Message). IsSetOf w.with-nodes.result (λ a. Any (P a) l)) more
          (set_with P (take k before) m g.loop-place.nodes g.acceptor_in.result g.loop-place.invariant g.acceptor_in.ensures w.with-nodes.result w.in-Some.node w.in-Some.is w.with-nodes.ensures) in
          rw w.nodes-is next
      | in_default w ↦
          let same : IsSetOf g.loop-place.nodes (λ a. Any (P a) (take (k + 1) before)) =
          subst (λ (l : List Message). IsSetOf g.loop-place.nodes (λ a. Any (P a) l)) more
          (set_kept P (take k before) m g.loop-place.nodes g.acceptor_in.result g.loop-place.invariant g.acceptor_in.ensures w.in_default.is) in
          rw w.nodes-is same
    ]

pub returns : goal.returns
returns g =
    subst (λ (l : List Message). IsSetOf g.loop-place.nodes (λ a. Any (Accepts g.args.slot g.args.ballot g.args.value.now a) l)) (take_all g.loop-place.place g.args.before.now g.loop-place-test.false) g.loop-place.invariant
