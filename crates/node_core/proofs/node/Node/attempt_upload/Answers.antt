use Rattle.std.proofs.Common.{◌≡◌, ℕ, List, ◌∷◌, sym, subst}
use Rattle.ballots.specs.declared.value.Value.{Value}
use Rattle.ballots.specs.declared.value.Value.TheVariants.{Upload as UploadValue}
use Rattle.agreement.specs.declared.refusal.Refusal.TheVariants.{OutOfMemory}
use Rattle.agreement.specs.Step.{AttemptGives}
use Rattle.node_core.specs.State.{NodeState}
use Rattle.node_core.specs.Plans.{TickGives}
use Rattle.node_core.proofs.Beginning.{CanAttempt, RoundIsLeft, handed_on, none_begins, no_memory, attempt_gives, aims_there, upload_aims}
use Rattle.node_core.proofs.Leading.{node_of}
use Rattle.node_core.proofs.node.Node.attempt_upload.Goals as goal

pub returns-in_err-slot-clause-gives : goal.returns-in_err-slot-clause-gives
returns-in_err-slot-clause-gives c =
    let state = node_of c.self.inside.agreement c.self.inside.tables c.self.inside.waiting in
    let first = subst (λ (s : NodeState). (others : List (List ℕ)) × (s.waiting.texts ≡ c.args.upload.now ∷ others)) (sym c.self.view_is) c.requires.first in
    let fault = subst (λ (s : NodeState). CanAttempt s c.slot_left.result c.in_err-slot.field-0.0) (sym c.self.view_is) c.in_err-slot.ensures.fault in
    subst (λ (s : NodeState). TickGives s c.args.left c.from_residual.result) c.self.view_is
    (subst (TickGives state c.args.left) (sym (handed_on c.from_residual.result c.in_err-slot.field-0.0 c.from_residual.ensures.1))
    (none_begins state c.args.left c.requires.within (UploadValue c.args.upload.now) c.slot_left.result c.in_err-slot.field-0.0 fault
    (upload_aims state c.args.left c.requires.within c.args.upload.now first.0 first.1 c.slot_left.result c.slot_left.ensures)))

pub returns-in_err-value_of-clause-gives : goal.returns-in_err-value_of-clause-gives
returns-in_err-value_of-clause-gives c =
    let state = node_of c.self.inside.agreement c.self.inside.tables c.self.inside.waiting in
    let first = subst (λ (s : NodeState). (others : List (List ℕ)) × (s.waiting.texts ≡ c.args.upload.now ∷ others)) (sym c.self.view_is) c.requires.first in
    let round = subst RoundIsLeft (sym c.self.view_is) c.in_ok-slot.ensures.round in
    subst (λ (s : NodeState). TickGives s c.args.left c.from_residual-in_err-value_of.result) c.self.view_is
    (subst (TickGives state c.args.left) (sym (handed_on c.from_residual-in_err-value_of.result OutOfMemory c.from_residual-in_err-value_of.ensures.1))
    (no_memory state c.args.left c.requires.within (UploadValue c.args.upload.now) c.slot_left.result c.in_ok-slot.slot c.in_ok-slot.ensures.slot round
    (upload_aims state c.args.left c.requires.within c.args.upload.now first.0 first.1 c.slot_left.result c.slot_left.ensures)))

pub returns-clause-gives : goal.returns-clause-gives
returns-clause-gives c =
    let state = node_of c.self.inside.agreement c.self.inside.tables c.self.inside.waiting in
    let first = subst (λ (s : NodeState). (others : List (List ℕ)) × (s.waiting.texts ≡ c.args.upload.now ∷ others)) (sym c.self.view_is) c.requires.first in
    let round = subst RoundIsLeft (sym c.self.view_is) c.in_ok-slot.ensures.round in
    let gives = subst (λ (v : Value). AttemptGives c.self.inside.agreement c.in_ok-slot.slot v c.plan_attempt.result) c.in_ok-value_of.ensures c.plan_attempt.ensures.gives in
    subst (λ (s : NodeState). TickGives s c.args.left c.plan_attempt.result) c.self.view_is
    (attempt_gives state c.args.left c.requires.within (UploadValue c.args.upload.now) c.in_ok-slot.slot round
    (aims_there state c.args.left c.requires.within (UploadValue c.args.upload.now) c.slot_left.result c.in_ok-slot.slot c.in_ok-slot.ensures.slot
    (upload_aims state c.args.left c.requires.within c.args.upload.now first.0 first.1 c.slot_left.result c.slot_left.ensures))
    c.plan_attempt.result gives)
