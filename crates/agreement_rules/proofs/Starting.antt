-- A learner that was told nothing has learned nothing, and a proposer without calls has no attempt open.
use Rattle.std.proofs.Common.{◌≡◌, ℕ, List, [], ◌∷◌, ◌++◌, sym, subst}
use Rattle.std.specs.List.{Contains}
use Rattle.std.proofs.lemmas.List.Elements.{Contains-append_right}
use Rattle.ballots.specs.declared.value.Value.{Value}
use Rattle.proposer.specs.Call.{Begun, ProposerCall as Asked, Begins}
use Rattle.proposer.specs.Attempting.{IsOpen}
use Rattle.learner.specs.Calls.{IsLearned}
use Rattle.agreement_rules.proofs.Lists.{nothing_in, in_front}

nothing_in_the_middle : {X : Type 0} (before after : List X) (x : X) → [] ≡ before ++ x ∷ after → ⊥
nothing_in_the_middle {X} before after x is =
    nothing_in x (subst (λ (l : List X). Contains l x) (sym is) (Contains-append_right before (x ∷ after) x (in_front x after)))

pub free_at_first : (members slot : ℕ) (value : Value) → IsLearned members [] slot value → ⊥
free_at_first members slot value learned = nothing_in_the_middle learned.before learned.after learned.call learned.parts

pub none_open_at_first : (begun : Begun) (since : List Asked) → IsOpen [] begun since → ⊥
none_open_at_first begun since is_open = nothing_in_the_middle is_open.before since (Begins begun) is_open.split
