use Rattle.std.proofs.Common.{List, ℕ, subst}
use Rattle.safe_histories.specs.Safe.{IsStep}
use Rattle.histories.specs.Event.{Get}
use Rattle.histories.specs.EventResult.{Answer}
use Rattle.traces.specs.Told.{steps_of}
use Rattle.traces.proofs.Telling.{told_step}
use Rattle.traces.proofs.laws.acknowledged_uploads_stand_once.Goals as goal

pub returns : goal.returns
returns c = λ config events trace i j node other number text y upload ticket run is_text of_table late one two.
    let answered : IsStep (steps_of trace.steps) j (Get other upload.table ticket.version) (Answer y) =
    subst (λ (t : List ℕ). IsStep (steps_of trace.steps) j (Get other t ticket.version) (Answer y)) of_table (told_step trace.steps j _ two) in
    run.safe.acknowledged_stands_once i j node other number ticket.version text y upload is_text (told_step trace.steps i _ one) late answered
