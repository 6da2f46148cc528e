use Rattle.std.proofs.Common.{List, sym, subst, ◌∙◌}
use Rattle.std.specs.List.{All}
use Rattle.flight_service.specs.parts.ballots.specs.declared.message.Message.{Message}
use Rattle.flight_service.specs.parts.ballots.specs.declared.record.Record.{Record}
use Rattle.flight_service.specs.parts.agreement_rules.specs.Views.{AgreementConfig}
use Rattle.chosen_records.specs.Chosen.{IsRecorded}
use Rattle.resumed_nodes.specs.Starting.{AreStarted, GoesOn, records_at_nodes}
use Rattle.resumed_nodes.specs.Knowing.{TellsAll, KnowsAcknowledged}
use Rattle.serve_command.proofs.restarting.restart.Goals as goal

pub returns-in-Ok-heard-clause-goes_on : goal.returns-in-Ok-heard-clause-goes_on
returns-in-Ok-heard-clause-goes_on g c =
    let nodes = c.in-Ok-heard.nodes.items in
    let told = c.in-Ok.told.items in
    let started = subst (λ (t : List Message). AreStarted c.in_ok-agreed.agreed t nodes) c.as_slice.ensures.value c.in-Ok-heard.ensures.heard in
    let recorded = subst (λ (all : List (List Record)). All (IsRecorded all) told) (sym c.in-Ok-heard.ensures.records) c.in-Ok.ensures.recorded in
    subst (λ (config : AgreementConfig). GoesOn config (records_at_nodes nodes) told) c.in_ok-agreed.ensures
    (c.members_go_on.ensures c.in_ok-agreed.agreed nodes told (c.in-Ok-heard.ensures.all ∙ c.in-Ok.ensures.all) started recorded)

pub returns-in-Ok-heard-clause-knows : goal.returns-in-Ok-heard-clause-knows
returns-in-Ok-heard-clause-knows g c =
    let nodes = c.in-Ok-heard.nodes.items in
    let told = c.in-Ok.told.items in
    let started = subst (λ (t : List Message). AreStarted c.in_ok-agreed.agreed t nodes) c.as_slice.ensures.value c.in-Ok-heard.ensures.heard in
    let recorded = subst (λ (all : List (List Record)). All (IsRecorded all) told) (sym c.in-Ok-heard.ensures.records) c.in-Ok.ensures.recorded in
    let chosen = subst (λ (all : List (List Record)). TellsAll c.in_ok-agreed.agreed all told) (sym c.in-Ok-heard.ensures.records) c.in-Ok.ensures.chosen in
    subst (λ (config : AgreementConfig). KnowsAcknowledged config (records_at_nodes nodes) told) c.in_ok-agreed.ensures
    (c.members_know_what_was_acknowledged.ensures c.in_ok-agreed.agreed nodes told (c.in-Ok-heard.ensures.all ∙ c.in-Ok.ensures.all) started recorded chosen)
