use Rattle.std.proofs.Common.{◌≡◌, arith, sym, subst, ◌∙◌, take, drop, rules}
use Rattle.std.proofs.lemmas.List.{take_rest}
use Rattle.flat_places.specs.Held.{Holds}
use Rattle.flat_places.proofs.Bytes.{holds_taken}
use Rattle.flat_places.proofs.number.bytes_at.Goals as goal

pub returns-in-Some-clause-read : goal.returns-in-Some-clause-read
returns-in-Some-clause-read c =
    let cut = c.in-Some.ensures.lookup.0 in
    let rest : c.in-Some.rest.now ≡ drop c.args.place c.args.buf.now = cut.2 ∙ take_rest c.args.buf.now c.args.place in
    subst (λ l. Holds c.args.buf.now c.args.place (take c.args.size l)) (sym rest)
    (holds_taken c.args.buf.now c.args.place c.args.size (omega (arith, cut.3)))

pub returns-in-Some-clause-len : goal.returns-in-Some-clause-len
returns-in-Some-clause-len c = search rules steps 300000

pub returns-in-Some-clause-fault : goal.returns-in-Some-clause-fault
returns-in-Some-clause-fault c = search rules steps 300000

pub returns-in_default-clause-read : goal.returns-in_default-clause-read
returns-in_default-clause-read c = search rules steps 300000

pub returns-in_default-clause-len : goal.returns-in_default-clause-len
returns-in_default-clause-len c = search rules steps 300000

pub returns-in_default-clause-fault : goal.returns-in_default-clause-fault
returns-in_default-clause-fault c = search rules steps 300000
