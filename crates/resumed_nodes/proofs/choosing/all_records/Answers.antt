use Rattle.std.proofs.Common.{◌≡◌, List, [], ◌∷◌, ◌++◌, map, take, sym, ap, ◌∙◌}
use Rattle.std.proofs.lemmas.List.{map-append, take_all}
use Rattle.ballots.specs.declared.record.Record.{Record}
use Rattle.stored_nodes.specs.State.{StoredNodeState}
use Rattle.resumed_nodes.specs.Starting.{records_at_nodes}
use Rattle.resumed_nodes.proofs.Told.{one_further}
use Rattle.resumed_nodes.proofs.choosing.all_records.Goals as goal

pub loop-node-init : goal.loop-node-init
loop-node-init g c = ap (map (λ own. own.items)) c.new-all.ensures.items

pub loop-node-preserved : goal.loop-node-preserved
loop-node-preserved g c =
    let seen = take c.loop-node.node-index c.args.nodes.now in
    let node = c.node-item.result in
    one_further (λ (l : List (StoredNodeState g.row.S.Denot)). map (λ own. own.items) c.push.new.self.items ≡ records_at_nodes l)
    c.args.nodes.now c.loop-node.node-index node c.loop-node-test.true c.node-item.is
    (ap (map (λ own. own.items)) c.in_ok-push.ensures.items
    ∙ map-append (λ own. own.items) c.loop-node.all.items (c.in_ok-copies.field-0 ∷ [])
    ∙ ap (λ (l : List (List Record)). l ++ c.in_ok-copies.field-0.items ∷ []) c.loop-node.invariant
    ∙ ap (λ (rs : List Record). records_at_nodes seen ++ rs ∷ []) (c.in_ok-copies.ensures ∙ c.records.ensures)
    ∙ sym (map-append (λ (n : StoredNodeState g.row.S.Denot). n.records) seen (node ∷ [])))

pub returns : goal.returns
returns g c = c.loop-node.invariant ∙ ap records_at_nodes (take_all c.loop-node.node-index c.args.nodes.now c.loop-node-test.false)
