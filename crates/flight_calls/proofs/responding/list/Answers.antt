use Rattle.std.proofs.Common.{List, map, sym, subst}
use Rattle.std.specs.List.{AllByRecursion}
use Rattle.flight_calls.specs.declared.table_description.TableDescription.{TableDescription}
use Rattle.flight_calls.specs.Describing.{CanBeTold, message_of}
use Rattle.flight_calls.specs.Framing.{Frames}
use Rattle.flight_calls.proofs.Replying.{all_can_be_told, listed_by}
use Rattle.flight_calls.proofs.responding.list.Goals as goal

pub info_frames-requires : goal.info_frames-requires
info_frames-requires g c =
    let told = c.in-Ok.ensures.listed in
    subst (λ (all : List TableDescription). AllByRecursion CanBeTold all) (sym c.deref.ensures.value) (all_can_be_told c.in-Ok.all.items told.0 told.2)

pub returns-in-Ok : goal.returns-in-Ok
returns-in-Ok g c =
    let b = g.B.Backend in
    listed_by b.may_answer b.handed b.leaves b.stays c.args.b.now c.list.new.self c.list.ensures.same c.list.ensures.stays c.in-Ok.all.items c.info_frames.result c.in-Ok.ensures.listed
    (subst (λ (all : List TableDescription). Frames (map message_of all) c.info_frames.result) c.deref.ensures.value c.info_frames.ensures)
