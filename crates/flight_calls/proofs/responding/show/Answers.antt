use Rattle.std.proofs.Common.{ℕ, List, [], ◌∷◌, subst}
use Rattle.flight_calls.specs.Describing.{schema_told}
use Rattle.flight_calls.specs.Framing.{Frames}
use Rattle.flight_calls.proofs.Replying.{shown_by}
use Rattle.flight_calls.proofs.responding.show.Goals as goal

pub returns-in-Ok : goal.returns-in-Ok
returns-in-Ok g c =
    let b = g.B.Backend in
    shown_by b.may_answer b.handed b.leaves b.stays c.args.b.now c.schema.new.self c.schema.ensures.same c.schema.ensures.stays c.args.table.now c.in-Ok.schema.items c.schema_frame.result
    c.in-Ok.ensures.shown
    (subst (λ (text : List ℕ). Frames (schema_told text ∷ []) c.schema_frame.result) c.deref.ensures.value c.schema_frame.ensures)
