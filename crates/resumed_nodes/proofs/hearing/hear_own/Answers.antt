use Rattle.resumed_nodes.proofs.Restarted.{has_started}
use Rattle.resumed_nodes.proofs.Refusing.{only_memory}
use Rattle.resumed_nodes.proofs.hearing.hear_own.Goals as goal

pub returns-in-Ok : goal.returns-in-Ok
returns-in-Ok g c =
    let was = c.args.node in
    let is = c.requires.started in
    let has = c.in-Ok.ensures was.records is.placed is.stands in
    (has_started c.args.config c.args.told.now was.me was c.hear_all.new.seat is has, has.records_are)

pub refused-requires : goal.refused-requires
refused-requires g c =
    let was = c.args.node in
    let is = c.requires.started in
    only_memory c.args.config was c.hear_all.new.seat was.records c.args.told.now c.in-Err.fault is.config_is c.requires.may
    (c.in-Err.ensures was.records is.placed is.stands)
