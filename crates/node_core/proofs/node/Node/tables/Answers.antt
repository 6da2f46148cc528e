use Rattle.table_types.specs.Tables.{table_names}
use Rattle.std.proofs.Common.{◌≡◌, ◌≢◌, List, [], map, string_bytes, IfOk, OnErr, subst}
use Rattle.std.proofs.lemmas.Result.{on_err_weaker}
use Rattle.table_types.specs.Uploads.{Upload}
use Rattle.agreement_rules.specs.Views.{Views}
use Rattle.histories.specs.Texts.{HasUploads}
use Rattle.node_core.specs.State.{NodeState, NodeHas}
use Rattle.node_core.proofs.Prefixes.{same_uploads}
use Rattle.node_core.proofs.node.Node.tables.Goals as goal

pub returns-clause-names : goal.returns-clause-names
returns-clause-names c =
    subst (λ (s : NodeState). (views : Views) (uploads : List Upload) → NodeHas s views → HasUploads s.agreement.config.members views.learner_calls uploads
    → IfOk c.tables.result (λ names. map string_bytes names.items ≡ table_names uploads)) c.self.view_is
    (λ views uploads has of. c.tables.ensures.names has.values uploads has.taken
    (same_uploads c.prefixes_are_one.ensures.one c.learned_is_one.ensures.learned _ views.learner_calls has.values uploads has.prefix of))

pub returns-clause-memory : goal.returns-clause-memory
returns-clause-memory c =
    subst (λ (s : NodeState). OnErr c.tables.result ((views : Views) (uploads : List Upload) → NodeHas s views → HasUploads s.agreement.config.members views.learner_calls uploads
    → table_names uploads ≢ [])) c.self.view_is
    (on_err_weaker c.tables.result (λ memory views uploads has of. memory has.values uploads has.taken
    (same_uploads c.prefixes_are_one.ensures.one c.learned_is_one.ensures.learned _ views.learner_calls has.values uploads has.prefix of)) c.tables.ensures.memory)
