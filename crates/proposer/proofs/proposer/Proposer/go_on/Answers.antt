use Rattle.std.proofs.Common.{ℕ, List, [], ◌∷◌, ◌++◌, refl, sym, ap, subst, ◌∙◌}
use Rattle.proposer.specs.Call.{ProposerCall, GoesOn}
use Rattle.proposer.specs.State.{ProposerState, HoldsOpen, attempt_of, StateAfter}
use Rattle.proposer.proofs.Results.{some_weaker}
use Rattle.proposer.proofs.Standing.{stands_after, history_further}
use Rattle.proposer.proofs.proposer.Proposer.go_on.Goals as goal

pub invariant_of-self : goal.invariant_of-self
invariant_of-self c =
    let old : ProposerState = record { me = c.self.inside.me; members = c.self.inside.members; highest_round = c.self.inside.highest_round; attempt = c.self.inside.attempt } in
    history_further c.go_on_in.result c.self.invariant.start c.self.invariant.calls c.args.candidate old c.go_on_in.new.held c.self.invariant.after c.go_on_in.ensures.none c.go_on_in.ensures.stands

pub returns-clause-answers : goal.returns-clause-answers
returns-clause-answers c = λ start calls stands.
    let old : ProposerState = record { me = c.self.inside.me; members = c.self.inside.members; highest_round = c.self.inside.highest_round; attempt = c.self.inside.attempt } in
    let was : StateAfter start calls old = subst (StateAfter start calls) (sym c.self.view_is) stands in
    c.go_on_in.ensures.answers start.members calls was.attempt

pub returns-clause-stands : goal.returns-clause-stands
returns-clause-stands c =
    let old : ProposerState = record { me = c.self.inside.me; members = c.self.inside.members; highest_round = c.self.inside.highest_round; attempt = c.self.inside.attempt } in
    some_weaker ((members : ℕ) (calls : List ProposerCall) → HoldsOpen members calls c.self.inside.attempt → HoldsOpen members (calls ++ GoesOn c.args.candidate ∷ []) c.go_on_in.new.held) _ c.go_on_in.result
    (λ holds start calls stands.
    let was : StateAfter start calls old = subst (StateAfter start calls) (sym c.self.view_is) stands in
    stands_after start calls (GoesOn c.args.candidate) old c.go_on_in.new.held refl was (holds start.members calls was.attempt))
    c.go_on_in.ensures.stands

pub returns-clause-attempt : goal.returns-clause-attempt
returns-clause-attempt c = c.go_on_in.ensures.attempt ∙ ap attempt_of c.self.view_is
