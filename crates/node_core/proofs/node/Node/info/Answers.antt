use Rattle.std.proofs.Common.{◌≢◌, List, [], IfOk, OnErr, subst}
use Rattle.std.proofs.lemmas.Result.{on_err_weaker}
use Rattle.table_types.specs.Uploads.{Upload}
use Rattle.table_types.specs.Tables.{effective}
use Rattle.table_versions.specs.Info.{IsLatest}
use Rattle.agreement_rules.specs.Views.{Views}
use Rattle.histories.specs.Texts.{HasUploads}
use Rattle.node_core.specs.State.{NodeState, NodeHas}
use Rattle.node_core.proofs.Prefixes.{same_uploads}
use Rattle.node_core.proofs.node.Node.info.Goals as goal

pub returns-clause-latest : goal.returns-clause-latest
returns-clause-latest c =
    subst (λ (s : NodeState). (views : Views) (uploads : List Upload) → NodeHas s views → HasUploads s.agreement.config.members views.learner_calls uploads
    → IfOk c.latest.result (λ info. IsLatest info c.args.table.now (effective c.args.table.now uploads))) c.self.view_is
    (λ views uploads has of. c.latest.ensures.latest has.values uploads has.taken
    (same_uploads c.prefixes_are_one.ensures.one c.learned_is_one.ensures.learned _ views.learner_calls has.values uploads has.prefix of))

pub returns-clause-memory : goal.returns-clause-memory
returns-clause-memory c =
    subst (λ (s : NodeState). OnErr c.latest.result ((views : Views) (uploads : List Upload) → NodeHas s views → HasUploads s.agreement.config.members views.learner_calls uploads
    → effective c.args.table.now uploads ≢ [])) c.self.view_is
    (on_err_weaker c.latest.result (λ memory views uploads has of. memory has.values uploads has.taken
    (same_uploads c.prefixes_are_one.ensures.one c.learned_is_one.ensures.learned _ views.learner_calls has.values uploads has.prefix of)) c.latest.ensures.memory)
