use Rattle.std.proofs.Common.{ℕ, List, map, IfOk, ap, subst, ◌∙◌}
use Rattle.std.specs.List.{All}
use Rattle.ballots.specs.Ballot.{Ballot}
use Rattle.ballots.specs.declared.record.Record.{Record}
use Rattle.ballots.specs.declared.value.Value.{Value}
use Rattle.chosen_records.specs.Chosen.{IsRecorded, TellsChosen, IsChosenAt, IsToldChosen}
use Rattle.resumed_nodes.specs.Starting.{records_at_nodes}
use Rattle.resumed_nodes.proofs.Restarted.{may_all}
use Rattle.resumed_nodes.proofs.choosing.chosen_by.Goals as goal

pub returns-clause-recorded : goal.returns-clause-recorded
returns-clause-recorded g c =
    subst (λ (all : List (List Record)). IfOk c.chosen_again.result (λ told. All (IsRecorded all) told.items))
    (ap (map (λ own. own.items)) c.as_slice.ensures.value ∙ c.in_ok-records.ensures)
    c.chosen_again.ensures.recorded

pub returns-clause-may : goal.returns-clause-may
returns-clause-may g c =
    may_all c.args.config c.args.nodes.now (λ told. told.items) c.chosen_again.result c.requires.all c.requires.started (returns-clause-recorded g c)

pub returns-clause-only : goal.returns-clause-only
returns-clause-only g c =
    subst (λ (members : ℕ). IfOk c.chosen_again.result (λ told. All (TellsChosen members (records_at_nodes c.args.nodes.now)) told.items)) c.members.ensures
    (subst (λ (all : List (List Record)). IfOk c.chosen_again.result (λ told. All (TellsChosen c.members.result all) told.items))
    (ap (map (λ own. own.items)) c.as_slice.ensures.value ∙ c.in_ok-records.ensures)
    c.chosen_again.ensures.only)

pub returns-clause-chosen : goal.returns-clause-chosen
returns-clause-chosen g c =
    subst (λ (members : ℕ). IfOk c.chosen_again.result (λ told. (slot : ℕ) (ballot : Ballot) (value : Value)
    → IsChosenAt members (records_at_nodes c.args.nodes.now) slot ballot value → IsToldChosen members told.items slot)) c.members.ensures
    (subst (λ (all : List (List Record)). IfOk c.chosen_again.result (λ told. (slot : ℕ) (ballot : Ballot) (value : Value)
    → IsChosenAt c.members.result all slot ballot value → IsToldChosen c.members.result told.items slot))
    (ap (map (λ own. own.items)) c.as_slice.ensures.value ∙ c.in_ok-records.ensures)
    c.chosen_again.ensures.chosen)
