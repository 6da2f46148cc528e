use Rattle.resumed_histories.proofs.Outlasting.{preceded}
use Rattle.resumed_histories.proofs.laws.a_process_may_start_over.Goals as goal

pub returns : goal.returns
returns c = λ config left start before recovered told precedes recorded starts.
    let it = preceded c.a_cluster_starts_over.ensures c.a_cut_may_have_sent.ensures c.nodes_have_the_same_records.ensures.records c.nodes_have_the_same_records.ensures.outside
    c.nodes_have_the_same_records.ensures.accepted config left start before recovered told precedes recorded starts in
    (it.whole, it.precedes, it.clients)
