use Rattle.std.proofs.Common.{◌≡◌, length, take, refl, ◌∙◌}
use Rattle.std.proofs.lemmas.List.{length-map}
use Rattle.histories.specs.History.{History}
use Rattle.histories.specs.Following.{Follows, at_first}
use Rattle.stored_nodes.specs.State.{StoredNodeState}
use Rattle.resumed_nodes.specs.Heard.{heard, learner_calls_from}
use Rattle.resumed_nodes.specs.Starting.{records_at_nodes}
use Rattle.resumed_nodes.proofs.Learned.{goes_further}
use Rattle.resumed_nodes.proofs.Knowing.{tells_from, start, is_member, stands_up, has_its_records, knows}
use Rattle.resumed_nodes.proofs.laws.members_know_what_was_acknowledged.Goals as goal

pub returns : goal.returns
returns g c = λ config nodes told count started recorded tells left before found precedes back place k number text upload is_text step member records there uploads has.
    let n = config.members in
    let all = records_at_nodes nodes in
    let many : length all ≡ n = length-map nodes (λ (node : StoredNodeState _). node.records) ∙ count in
    let begin = start n all told at_first many in
    -- the history that precedes the nodes as they have started
    let (whole, goes_before, clients) = c.members_go_on.ensures config nodes told count started recorded left before found precedes back in
    let sent = whole.sent in
    let steps = whole.steps in
    let history : History = record { config = config; sent = sent; steps = steps } in
    let follows : Follows history = record { recovered = goes_before.recovered; seats = begin; reached = goes_before.reached } in
    let lawful = c.replicas_agree.ensures.lawful history follows in
    -- who told of the upload told it from its tables
    let (at, there_too) = c.what_clients_did_stands.ensures steps before.steps clients place _ refl step in
    let from = tells_from n sent (take at steps) k number text upload c.uploads_have_one_encoding.ensures is_text
    (c.running_is_shown.ensures.strangers history at _ follows there_too)
    (λ inside not. c.running_is_shown.ensures.down history at _ follows there_too inside not refl)
    (λ inside runs. c.running_members_answer.ensures.outcome history at k text _ (c.replicas_agree.ensures.safe history follows) inside runs there_too) in
    -- what that had learned, the node has learned again
    let shown = (c.prefix_is_shown.ensures config sent steps goes_before.recovered begin member (heard records told) has.values
    (is_member n all told at_first many member records there) goes_before.reached (stands_up n all told at_first many member records there)).0 has.prefix in
    let longer = goes_further config sent all told ((c.lawful_by_messages.ensures.lawful n sent).0 lawful)
    (λ m kept inside was_sent is. has_its_records n all told at_first many m.sender kept inside
    (c.what_was_sent_is_recorded.ensures config sent steps goes_before.recovered begin m kept inside goes_before.reached was_sent is))
    tells (c.learned_is_decided_or_chosen.ensures.chosen n (learner_calls_from told))
    (take at steps) k from.tables.values has.values from.tables.prefix has.prefix
    (c.prefixes_begin_one_another.ensures n sent (take at steps) steps k member from.tables.values has.values lawful from.tables.prefix shown) in
    knows c.texts_have_one_list_of_uploads.ensures.begins c.tables_grow.ensures.outcomes c.uploads_count_once.ensures.placed
    from.tables.values longer.0 has.values from.uploads uploads upload number longer.1 from.tables.are has.are from.outcome
