use Rattle.std.proofs.Common.{◌≡◌, List, sym, subst, ◌∙◌}
use Rattle.journal.specs.parts.ballots.specs.declared.record.Record.{Record}
use Rattle.journal.specs.parts.histories.specs.Following.{UpOrDown, IsUp, at_first}
use Rattle.journal.specs.parts.histories.specs.Following as following
use Rattle.journal.specs.parts.histories.specs.Keeping.{AreKept, records_in}
use Rattle.journal.specs.parts.histories.specs.Owning.{OwnReaches}
use Rattle.journal.specs.parts.histories.proofs.Keeping.{TicksKeep, PartsKeep, own_keeps, kept_from_nothing}
use Rattle.stored_nodes.specs.State.{StoredNodeState}
use Rattle.journal.specs.parts.traces.specs.Told.{config_of}
use Rattle.seats.specs.State.{StandsSo}
use Rattle.seats.proofs.laws.own_records_are_kept.Goals as goal

stand_by : {S : Type 0} (state : StoredNodeState S) (stood : UpOrDown) → StandsSo state stood → records_in stood ≡ state.records
stand_by state (IsUp views) stands = sym stands.kept
stand_by state (following.IsDown records due) stands = sym stands.kept

pub returns-clause-whole : goal.returns-clause-whole
returns-clause-whole g c = λ seat stood nothing led.
    let ticks : TicksKeep = λ config me views left plan is_due.
    let keeps = c.plans_keep_what_they_send.ensures.tick config me views left plan is_due in
    record { sends = keeps.0; records = keeps.1 } in
    let parts : PartsKeep = λ config me views sender slot b plan is_due.
    let keeps = c.plans_keep_what_they_send.ensures.body config me views sender slot b plan is_due in
    record { sends = keeps.0; records = keeps.1 } in
    subst (λ (rs : List Record). AreKept (config_of seat.config) (at_first seat.node.me) seat.own rs) (stand_by seat.node stood led.stands)
    (kept_from_nothing ticks parts (config_of seat.config) seat.own stood
    (subst (λ (s : UpOrDown). OwnReaches (config_of seat.config) s seat.own stood) nothing led.led))

pub returns-clause-later : goal.returns-clause-later
returns-clause-later g c = λ seat stood views begun led.
    let ticks : TicksKeep = λ config me before left plan is_due.
    let keeps = c.plans_keep_what_they_send.ensures.tick config me before left plan is_due in
    record { sends = keeps.0; records = keeps.1 } in
    let parts : PartsKeep = λ config me before sender slot b plan is_due.
    let keeps = c.plans_keep_what_they_send.ensures.body config me before sender slot b plan is_due in
    record { sends = keeps.0; records = keeps.1 } in
    let since = own_keeps ticks parts (config_of seat.config) stood seat.own (IsUp views)
    (subst (λ (s : UpOrDown). OwnReaches (config_of seat.config) s seat.own stood) begun led.led) in
    (since.records, since.kept, sym (stand_by seat.node stood led.stands) ∙ since.ends)
