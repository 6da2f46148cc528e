use Rattle.std.proofs.Common.{◌∙◌, Bool, Err, Ok, ap, map, sym}
use Rattle.std.proofs.lemmas.Result.{err_from_is_err_and}
use Rattle.proto_wire.specs.FlightValues.{location_values}
use Rattle.client_command.specs.declared.fault.CommandFault.TheVariants.{Differs}
use Rattle.client_command.specs.Everywhere.{outcome_of}
use Rattle.client_command.proofs.Redeemed.{redeemed}
use Rattle.client_command.proofs.everywhere.redeem_at.Goals as goal

pub returns-then-branch : goal.returns-then-branch
returns-then-branch g c =
    redeemed c.args.address c.args.ticket.now (map location_values c.args.locations.now) c.in_ok-frames.frames c.deref.result.now (g.C.Connect.log c.args.connect.now) (g.C.Connect.log c.frames_at.new.connect)
    (g.C.Connect.log c.visit_all.new.connect) (g.E.Write.contents c.args.err.now) (g.E.Write.contents c.visit_all.new.err) c.in_ok-frames.ensures c.deref.ensures.value c.visit_all.result
    c.visit_all.ensures (Ok c.in_ok-frames.frames) (sym (ap (outcome_of c.in_ok-frames.frames) c.in_ok-visit_all.was ∙ ap (λ (b : Bool). outcome_of c.in_ok-frames.frames (Ok b)) c.if-branch.true))

pub returns-else-branch : goal.returns-else-branch
returns-else-branch g c =
    redeemed c.args.address c.args.ticket.now (map location_values c.args.locations.now) c.in_ok-frames.frames c.deref.result.now (g.C.Connect.log c.args.connect.now) (g.C.Connect.log c.frames_at.new.connect)
    (g.C.Connect.log c.visit_all.new.connect) (g.E.Write.contents c.args.err.now) (g.E.Write.contents c.visit_all.new.err) c.in_ok-frames.ensures c.deref.ensures.value c.visit_all.result
    c.visit_all.ensures (Err Differs) (sym (ap (outcome_of c.in_ok-frames.frames) c.in_ok-visit_all.was ∙ ap (λ (b : Bool). outcome_of c.in_ok-frames.frames (Ok b)) c.if-branch.false))

pub returns-in_err-visit_all : goal.returns-in_err-visit_all
returns-in_err-visit_all g c =
    let p = err_from_is_err_and c.from_residual-in_err-visit_all.result c.from_residual-in_err-visit_all.ensures.1 in
    rw (p.1, p.2)
    (redeemed c.args.address c.args.ticket.now (map location_values c.args.locations.now) c.in_ok-frames.frames c.deref.result.now (g.C.Connect.log c.args.connect.now) (g.C.Connect.log c.frames_at.new.connect)
    (g.C.Connect.log c.visit_all.new.connect) (g.E.Write.contents c.args.err.now) (g.E.Write.contents c.visit_all.new.err) c.in_ok-frames.ensures c.deref.ensures.value c.visit_all.result
    c.visit_all.ensures (Err c.in_err-visit_all.field-0.0) (sym (ap (outcome_of c.in_ok-frames.frames) (c.in_err-visit_all.was))))
