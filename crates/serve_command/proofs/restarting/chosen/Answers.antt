use Rattle.std.proofs.Common.{subst}
use Rattle.std.specs.List.{All}
use Rattle.chosen_records.specs.Chosen.{IsRecorded}
use Rattle.resumed_nodes.specs.Starting.{records_at_nodes}
use Rattle.resumed_nodes.specs.Knowing.{TellsAll}
use Rattle.serve_command.proofs.restarting.chosen.Goals as goal

pub returns-in-Ok-clause-recorded : goal.returns-in-Ok-clause-recorded
returns-in-Ok-clause-recorded c =
    subst (λ nodes. All (IsRecorded (records_at_nodes nodes)) c.in-Ok.told.items) c.as_slice.ensures.value c.in-Ok.ensures.recorded

pub returns-in-Ok-clause-chosen : goal.returns-in-Ok-clause-chosen
returns-in-Ok-clause-chosen c =
    subst (λ nodes. TellsAll c.args.agreed (records_at_nodes nodes) c.in-Ok.told.items) c.as_slice.ensures.value c.in-Ok.ensures.chosen
