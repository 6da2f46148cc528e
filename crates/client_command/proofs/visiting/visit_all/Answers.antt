use Rattle.std.proofs.Common.{◌≡◌, ◌&&◌, ℕ, Bool, List, Ok, Err, ◌+◌, map, refl, take, subst, sym, ap, ◌∙◌}
use Rattle.std.proofs.lemmas.List.{take_all}
use Rattle.std.proofs.lemmas.Result.{err_from_is_err_and}
use Rattle.proto_wire.specs.FlightValues.{location_values}
use Rattle.proto_wire.specs.declared.flight.endpoint.Location.{Location}
use Rattle.client_command.specs.Visiting.{VisitsOne}
use Rattle.client_command.proofs.Visited.{VisitedSome, visited_all, visited_more, visited_none, visited_until}
use Rattle.client_command.proofs.visiting.visit_all.Goals as goal
use Rattle.client_command.proofs.visiting.visit_all.Goals.{then-same, else-same}

pub returns-in_err-is_same : goal.returns-in_err-is_same
returns-in_err-is_same g c =
    let p = err_from_is_err_and c.from_residual.result c.from_residual.ensures.1 in
    rw (p.1, p.2)
    (visited_until c.args.ticket.now c.args.frames.now c.args.locations.now c.loop-location.location-index c.location-item.result c.loop-location-test.true c.location-item.is c.loop-location.same
    (g.C.Connect.log c.args.connect.now) (g.C.Connect.log c.loop-location.connect) (g.C.Connect.log c.visit.new.connect) (g.E.Write.contents c.args.err.now)
    (g.E.Write.contents c.loop-location.err) (g.E.Write.contents c.visit.new.err) c.loop-location.invariant c.in_err-is_same.field-0.0
    (subst
    (λ (uri : List ℕ). VisitsOne c.args.ticket.now c.args.frames.now uri (Err c.in_err-is_same.field-0.0) (g.C.Connect.log c.loop-location.connect) (g.C.Connect.log c.visit.new.connect) (g.E.Write.contents c.loop-location.err) (g.E.Write.contents c.visit.new.err))
    c.as_str.ensures.value c.in_err-is_same.ensures))

pub returns : goal.returns
returns g c =
    visited_all c.args.ticket.now c.args.frames.now (map location_values c.args.locations.now) c.loop-location.same (g.C.Connect.log c.args.connect.now) (g.C.Connect.log c.loop-location.connect)
    (g.E.Write.contents c.args.err.now) (g.E.Write.contents c.loop-location.err)
    (subst
    (λ (l : List Location). VisitedSome c.args.ticket.now c.args.frames.now (map location_values l) c.loop-location.same (g.C.Connect.log c.args.connect.now) (g.C.Connect.log c.loop-location.connect) (g.E.Write.contents c.args.err.now) (g.E.Write.contents c.loop-location.err))
    (take_all c.loop-location.location-index c.args.locations.now c.loop-location-test.false) c.loop-location.invariant)

pub loop-location-init : goal.loop-location-init
loop-location-init g c = visited_none c.args.ticket.now c.args.frames.now (g.C.Connect.log c.args.connect.now) (g.E.Write.contents c.args.err.now)

pub loop-location-preserved : goal.loop-location-preserved
loop-location-preserved g c =
    let both : c.if-same.same ≡ (c.loop-location.same && c.in_ok-is_same.is_same)
    = elim c.if-same.branch [
      | then-same w ↦ w.same-is ∙ ap (λ (b : Bool). b && c.in_ok-is_same.is_same) (sym w.if-same.true)
      | else-same w ↦ w.same-is ∙ subst (λ (b : Bool). b ≡ (b && c.in_ok-is_same.is_same)) (sym w.if-same.false) refl
    ] in
    subst
    (λ (b : Bool). VisitedSome c.args.ticket.now c.args.frames.now (map location_values (take (c.loop-location.location-index + 1) c.args.locations.now)) b (g.C.Connect.log c.args.connect.now) (g.C.Connect.log c.visit.new.connect) (g.E.Write.contents c.args.err.now) (g.E.Write.contents c.visit.new.err))
    (sym both)
    (visited_more c.args.ticket.now c.args.frames.now c.args.locations.now c.loop-location.location-index c.location-item.result c.loop-location-test.true c.location-item.is c.loop-location.same
    (g.C.Connect.log c.args.connect.now) (g.C.Connect.log c.loop-location.connect) (g.C.Connect.log c.visit.new.connect) (g.E.Write.contents c.args.err.now)
    (g.E.Write.contents c.loop-location.err) (g.E.Write.contents c.visit.new.err) c.loop-location.invariant c.in_ok-is_same.is_same
    (subst
    (λ (uri : List ℕ). VisitsOne c.args.ticket.now c.args.frames.now uri (Ok c.in_ok-is_same.is_same) (g.C.Connect.log c.loop-location.connect) (g.C.Connect.log c.visit.new.connect) (g.E.Write.contents c.loop-location.err) (g.E.Write.contents c.visit.new.err))
    c.as_str.ensures.value c.in_ok-is_same.ensures))
