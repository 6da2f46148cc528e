use Rattle.std.proofs.Common.{Option, ◌∷◌, subst}
use Rattle.ballots.specs.declared.message.Message.{Message}
use Rattle.node_worker.specs.Paces.{IsPaceOf, Ticked}
use Rattle.node_worker.proofs.stepping.pass_tick.Goals as goal

pub returns : goal.returns
returns c me members happened paced =
    let Sends : Option Message → Type 0 = λ (message : Option Message). IsPaceOf me members (Ticked message ∷ happened) c.tick.new.self in
    subst Sends c.as_ref.ensures.value (c.tick.ensures me members happened paced)
