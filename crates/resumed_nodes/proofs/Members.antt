-- Members that were opened again, and who is no member.
use Rattle.std.proofs.Common.{◌≡◌, ℕ, zero, suc, ◌+◌, ◌<◌, ◌≤◌, inl, inr, Bool, Some, List, [], ◌∷◌, length, map, slice_get, slice_index_or, refl, sym, ap, subst, ◌∙◌, arith}
use Rattle.ballots.specs.declared.message.Message.{Message}
use Rattle.ballots.specs.declared.record.Record.{Record}
use Rattle.agreement_rules.specs.Views.{AgreementConfig, started_with}
use Rattle.histories.specs.EventResult.{count_of}
use Rattle.histories.specs.History.{Step, History}
use Rattle.histories.specs.Following.{UpOrDown, IsUp, recovered_in, StepFollows, StepsReach, at_first}
use Rattle.joined_histories.specs.Joined.{Precedes}
use Rattle.resumed_histories.specs.StartingOver.{Hears, StartsOver}
use Rattle.resumed_nodes.specs.Heard.{heard, starts_of}

-- ---- who is no member

stranger_step : (config : AgreementConfig) (sent : List Message) (next node : ℕ) (seats after : ℕ → UpOrDown) (step : Step) (found : Bool) → config.members ≤ node
    → StepFollows config sent next seats step found after → after node ≡ seats node
stranger_step config sent next node seats after step found outside (inl (member, gives, others)) =
    others node (λ same. absurd (omega (arith, outside, member, same)))
stranger_step config sent next node seats after step found outside (inr (out, is, same)) = same node

-- no step changes it
pub strangers_stay : (config : AgreementConfig) (sent : List Message) (node : ℕ) → config.members ≤ node → (steps : List Step) (found : List Bool) (seats last : ℕ → UpOrDown) (next : ℕ)
    → StepsReach config sent seats next steps found last → last node ≡ seats node
strangers_stay config sent node outside [] found seats last next (none, end, same) = ap (λ (f : ℕ → UpOrDown). f node) same
strangers_stay config sent node outside (s ∷ steps) [] seats last next reaches = absurd reaches
strangers_stay config sent node outside (s ∷ steps) (f ∷ found) seats last next (after, one, asked, rest) =
    strangers_stay config sent node outside steps found after last (next + count_of s.result) rest
    ∙ stranger_step config sent next node seats after s f outside one

-- ---- where the list has a node

pub there : {X Y : Type 0} (f : X → Y) (xs : List X) (node : ℕ) (d : Y) → node < length xs → (x : X) × (slice_get xs node ≡ Some x) × (slice_index_or (map f xs) node d ≡ f x)
there f [] node d within = absurd (omega (arith, within))
there f (x ∷ xs) zero d within = (x, refl, refl)
there f (x ∷ xs) (suc node) d within = there f xs node d (omega (arith, within))

beyond : {X Y : Type 0} (f : X → Y) (xs : List X) (node : ℕ) (d : Y) → length xs ≤ node → slice_index_or (map f xs) node d ≡ d
beyond f [] node d past = refl
beyond f (x ∷ xs) zero d past = absurd (omega (arith, past))
beyond f (x ∷ xs) (suc node) d past = beyond f xs node d (omega (arith, past))

pub started_over : (config : AgreementConfig) (left : ℕ → UpOrDown) (before : History) (recovered : ℕ → Bool) (all : List (List Record)) (told : List Message) → Precedes config left before
    → length all ≡ config.members
    → ((node : ℕ) (records : List Record) → slice_get all node ≡ Some records
    → (records ≡ recovered_in (recovered node) (left node)) × Hears config node (started_with records) told (heard records told))
    → StartsOver config left recovered told (λ node. slice_index_or (starts_of all told) node (at_first node))
started_over config left before recovered all told precedes count each = record {
  members = λ node member.
      (let place = there (λ (records : List Record). IsUp (heard records told)) all node (at_first node) (omega (arith, member, count)) in
      let has = each node place.0 place.1 in (
        heard place.0 told,
        place.2,
        subst (λ (rs : List Record). Hears config node (started_with rs) told (heard place.0 told)) has.0 has.1,
      ));
  others = λ node outside.
      beyond (λ (records : List Record). IsUp (heard records told)) all node (at_first node) (omega (arith, outside, count))
      ∙ sym (strangers_stay config before.sent node outside before.steps precedes.recovered at_first left 0 precedes.reached);
}
