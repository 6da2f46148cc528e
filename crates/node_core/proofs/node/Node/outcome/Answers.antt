use Rattle.std.proofs.Common.{◌≡◌, List, subst}
use Rattle.table_types.specs.Uploads.{Upload}
use Rattle.table_types.specs.Texts.{IsTextOf}
use Rattle.table_types.specs.Tables.{outcome_of}
use Rattle.table_versions.specs.Outcomes.{told}
use Rattle.agreement_rules.specs.Views.{Views}
use Rattle.histories.specs.Texts.{HasUploads}
use Rattle.node_core.specs.State.{NodeState, NodeHas}
use Rattle.node_core.proofs.Prefixes.{same_uploads}
use Rattle.node_core.proofs.node.Node.outcome.Goals as goal

pub returns : goal.returns
returns c =
    subst (λ (s : NodeState). (views : Views) (uploads : List Upload) (uploaded : Upload) → NodeHas s views → HasUploads s.agreement.config.members views.learner_calls uploads
    → IsTextOf c.args.upload.now uploaded → told c.outcome.result ≡ outcome_of uploads uploaded) c.self.view_is
    (λ views uploads uploaded has of text. c.outcome.ensures has.values uploads uploaded has.taken
    (same_uploads c.prefixes_are_one.ensures.one c.learned_is_one.ensures.learned _ views.learner_calls has.values uploads has.prefix of) text.0 text.1)
