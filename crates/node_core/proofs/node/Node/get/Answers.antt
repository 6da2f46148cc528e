use Rattle.std.proofs.Common.{◌≡◌, List, IfOk, OnErr, IsSome, subst}
use Rattle.std.specs.Option.{option_map}
use Rattle.std.proofs.lemmas.Result.{on_err_weaker}
use Rattle.table_types.specs.Uploads.{Upload}
use Rattle.table_types.specs.Tables.{version_of}
use Rattle.table_types.specs.Answers.{answer_of}
use Rattle.agreement_rules.specs.Views.{Views}
use Rattle.histories.specs.Texts.{HasUploads}
use Rattle.node_core.specs.State.{NodeState, NodeHas}
use Rattle.node_core.proofs.Prefixes.{same_uploads}
use Rattle.node_core.proofs.node.Node.get.Goals as goal

pub returns-clause-answer : goal.returns-clause-answer
returns-clause-answer c =
    subst (λ (s : NodeState). (views : Views) (uploads : List Upload) → NodeHas s views → HasUploads s.agreement.config.members views.learner_calls uploads
    → IfOk c.answer.result (λ answer. answer ≡ option_map answer_of (version_of c.args.ticket.now.table c.args.ticket.now.version uploads))) c.self.view_is
    (λ views uploads has of. c.answer.ensures.answer has.values uploads has.taken
    (same_uploads c.prefixes_are_one.ensures.one c.learned_is_one.ensures.learned _ views.learner_calls has.values uploads has.prefix of))

pub returns-clause-memory : goal.returns-clause-memory
returns-clause-memory c =
    subst (λ (s : NodeState). OnErr c.answer.result ((views : Views) (uploads : List Upload) → NodeHas s views → HasUploads s.agreement.config.members views.learner_calls uploads
    → IsSome (version_of c.args.ticket.now.table c.args.ticket.now.version uploads))) c.self.view_is
    (on_err_weaker c.answer.result (λ memory views uploads has of. memory has.values uploads has.taken
    (same_uploads c.prefixes_are_one.ensures.one c.learned_is_one.ensures.learned _ views.learner_calls has.values uploads has.prefix of)) c.answer.ensures.memory)
