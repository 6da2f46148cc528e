use Rattle.std.proofs.Common.{◌+◌, ◌∙◌, ◌≤◌, refl, arith, length, take, drop, rules}
use Rattle.std.proofs.lemmas.Grind.{common_steps}
use Rattle.std.proofs.lemmas.List.{length-take-le, length-drop}
use Rattle.flat_places.proofs.Bytes.{holds_taken}
use Rattle.flat_places.proofs.Numbers.{uint_within}
use Rattle.flat_places.proofs.elements.vector.Goals as goal

pub returns-in-Some-clause-read : goal.returns-in-Some-clause-read
returns-in-Some-clause-read c =
    let within : c.args.place + 4 ≤ length c.args.buf.now =
    uint_within c.args.buf.now c.args.place 4 c.in_ok-count.count c.in_ok-count.ensures.read in
    let rest : c.in-Some.len ≤ length (drop (c.args.place + 4) c.args.buf.now) = simp length-drop (omega arith) in
    record {
      shown = c.in_ok-count.ensures.read;
      follows = refl;
      elements = take c.in-Some.len (drop (c.args.place + 4) c.args.buf.now);
      held = holds_taken c.args.buf.now (c.args.place + 4) c.in-Some.len (omega arith);
      whole = length-take-le c.in-Some.len (drop (c.args.place + 4) c.args.buf.now) rest ∙ c.in-Some.ensures.1;
    }

pub returns-in_err-count-clause-read : goal.returns-in_err-count-clause-read
returns-in_err-count-clause-read c = search rules steps 300000

pub returns-in_err-count-clause-only : goal.returns-in_err-count-clause-only
returns-in_err-count-clause-only c = search rules steps 300000

pub returns-in_err-count-clause-fault : goal.returns-in_err-count-clause-fault
returns-in_err-count-clause-fault c = search rules steps 300000

pub returns-in-Some-clause-only : goal.returns-in-Some-clause-only
returns-in-Some-clause-only c = search rules steps 300000

pub returns-in-Some-clause-fault : goal.returns-in-Some-clause-fault
returns-in-Some-clause-fault c = search rules steps 300000

pub returns-in_default-clause-read : goal.returns-in_default-clause-read
returns-in_default-clause-read c = search rules steps 300000

pub returns-in_default-clause-only : goal.returns-in_default-clause-only
returns-in_default-clause-only c = grind (arith, common_steps) steps 600000

pub returns-in_default-clause-fault : goal.returns-in_default-clause-fault
returns-in_default-clause-fault c = search rules steps 300000

pub returns-in_default-2-clause-read : goal.returns-in_default-2-clause-read
returns-in_default-2-clause-read c = search rules steps 300000

pub returns-in_default-2-clause-only : goal.returns-in_default-2-clause-only
returns-in_default-2-clause-only c = grind (arith, common_steps) steps 600000

pub returns-in_default-2-clause-fault : goal.returns-in_default-2-clause-fault
returns-in_default-2-clause-fault c = search rules steps 300000
