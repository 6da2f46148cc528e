use Rattle.std.proofs.Common.{rules, ◌≡◌, List, [], ◌∷◌, ◌++◌, take, ap, ◌∙◌}
use Rattle.std.proofs.lemmas.List.{take_all}
use Rattle.ballots.specs.declared.record.Record.{Record}
use Rattle.resumed_nodes.proofs.Told.{one_further}
use Rattle.resumed_nodes.proofs.choosing.copies.Goals as goal

pub loop-told-init : goal.loop-told-init
loop-told-init c = c.in_ok-copies.ensures.items

pub loop-told-preserved : goal.loop-told-preserved
loop-told-preserved c =
    let copied : c.in_ok-clone.field-0 ≡ c.told-item.result = search rules in
    one_further (λ (l : List Record). c.push.new.self.items ≡ l) c.args.records.now c.loop-told.told-index c.told-item.result c.loop-told-test.true c.told-item.is
    (c.in_ok-push.ensures.items
    ∙ ap (λ (l : List Record). l ++ c.in_ok-clone.field-0 ∷ []) c.loop-told.invariant
    ∙ ap (λ (x : Record). take c.loop-told.told-index c.args.records.now ++ x ∷ []) copied)

pub returns : goal.returns
returns c = c.loop-told.invariant ∙ take_all c.loop-told.told-index c.args.records.now c.loop-told-test.false
