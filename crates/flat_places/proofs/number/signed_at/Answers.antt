use Rattle.std.proofs.Common.{◌≡◌, ◌∙◌, arith, to_z, of_z, w64}
use Rattle.std.proofs.lemmas.Int.{ints}
use Rattle.flat_places.proofs.Bytes.{held_fit}
use Rattle.flat_places.proofs.Numbers.{uint_shown}
use Rattle.flat_places.proofs.number.signed_at.Goals as goal

pub returns-clause-read : goal.returns-clause-read
returns-clause-read c =
    let held = c.in_ok-bytes.ensures.read in
    let fits = held_fit c.args.buf.now c.args.place c.in_ok-bytes.bytes.now held
    (λ i. omega (arith, c.type_inv.buf i)) in
    let whole : to_z w64 (of_z w64 c.read_int.result) ≡ c.read_int.result = omega (arith, ints) in
    record {
      bits = _;
      shown = uint_shown c.args.buf.now c.args.place 4 c.in_ok-bytes.bytes.now held c.in_ok-bytes.ensures.len fits;
      signed = whole ∙ c.read_int.ensures;
    }
