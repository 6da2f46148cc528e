use Rattle.std.proofs.Common.{rules, arith, sym, subst, ◌≡◌, ℤ, Bool, true}
use Rattle.std.proofs.lemmas.Int.{ints}
use mir.Syntax.{w128}
use mir.Val.{SFits, to_z, of_z}
use Rattle.json_rows.specs.Numbers.{StandsAs}
use Rattle.json_rows.proofs.numbers.stands_in.Goals as goal

pub returns-then-is_signed-clause-only : goal.returns-then-is_signed-clause-only
returns-then-is_signed-clause-only c = λ n stands.
    let whole : ℤ = c.args.whole in
    let fits : SFits w128 whole = search rules in
    let same : to_z w128 (of_z w128 whole) ≡ whole = omega (arith, ints) in
    c.signed_in.ensures.only n
    (subst (λ (z : ℤ). StandsAs c.args.half true z n) (sym same)
    (subst (λ (b : Bool). StandsAs c.args.half b whole n) c.if-is_signed.true stands))
