use Rattle.std.proofs.Common.{◌≡◌, ℕ, ◌*◌, ◌+◌, ◌≤◌, ◌/◌, false, true, sym, subst, arith}
use Rattle.json_rows.specs.Numbers.{IsExactBelow}
use Rattle.json_rows.proofs.Halving.{even_is, odd_is_not}
use Rattle.json_rows.proofs.exact.is_exact.Goals as goal

pub returns-then-rest-eq1 : goal.returns-then-rest-eq1
returns-then-rest-eq1 c =
    let half = c.loop-rest.rest / 2 in
    let odd : c.loop-rest.rest ≡ 2 * half + 1 = omega (arith, c.if-rest-eq1.true) in
    let le : c.args.limit ≤ 2 * half + 1 = omega (arith, odd, c.loop-rest-test.true) in (
      λ no. absurd (let never : false ≡ true = no in cc),
      λ is. absurd (odd_is_not c.args.limit half le (subst (IsExactBelow c.args.limit) odd (c.loop-rest.invariant.0 is))),
    )

pub loop-rest-preserved : goal.loop-rest-preserved
loop-rest-preserved c =
    let half = c.loop-rest.rest / 2 in
    let even : c.loop-rest.rest ≡ 2 * half = omega (arith, c.if-rest-eq1.false) in
    let le : c.args.limit ≤ 2 * half = omega (arith, even, c.loop-rest-test.true) in
    let both = even_is c.args.limit half le in (
      λ is. both.0 (subst (IsExactBelow c.args.limit) even (c.loop-rest.invariant.0 is)),
      λ is. c.loop-rest.invariant.1 (subst (IsExactBelow c.args.limit) (sym even) (both.1 is)),
    )
