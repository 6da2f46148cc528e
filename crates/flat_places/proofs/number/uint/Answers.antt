use Rattle.std.proofs.Common.{Ok, ap, sym, subst, arith, rules}
use Rattle.std.proofs.lemmas.Grind.{common_steps}
use Rattle.flat_places.specs.Number.{ShowsUint}
use Rattle.flat_places.proofs.Bytes.{held_fit}
use Rattle.flat_places.proofs.Numbers.{uint_shown, uint_same}
use Rattle.flat_places.proofs.number.uint.Goals as goal

pub returns-clause-read : goal.returns-clause-read
returns-clause-read c =
    let held = c.in_ok-bytes.ensures.read in
    let fits = held_fit c.args.buf.now c.args.place c.in_ok-bytes.bytes.now held
    (λ i. omega (arith, c.type_inv.buf i)) in
    subst (ShowsUint c.args.buf.now c.args.place c.args.size) (sym c.read_uint.ensures)
    (uint_shown c.args.buf.now c.args.place c.args.size c.in_ok-bytes.bytes.now held c.in_ok-bytes.ensures.len fits)

pub returns-clause-only : goal.returns-clause-only
returns-clause-only c = λ x shown. ap Ok (uint_same c.args.buf.now c.args.place c.args.size c.read_uint.result x
    (returns-clause-read c) shown)

pub returns-in_err-bytes-clause-read : goal.returns-in_err-bytes-clause-read
returns-in_err-bytes-clause-read c = search rules steps 300000

pub returns-in_err-bytes-clause-only : goal.returns-in_err-bytes-clause-only
returns-in_err-bytes-clause-only c = grind (arith, common_steps) steps 600000

pub returns-in_err-bytes-clause-fault : goal.returns-in_err-bytes-clause-fault
returns-in_err-bytes-clause-fault c = search rules steps 300000

pub returns-clause-fault : goal.returns-clause-fault
returns-clause-fault c = search rules steps 300000
