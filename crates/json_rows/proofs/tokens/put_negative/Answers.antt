use Rattle.std.proofs.Common.{◌≡◌, ℤ, negsuc, refl, ap, ◌∙◌, arith, rules, ◌++◌, ◌∷◌, []}
use Rattle.std.specs.Fmt.{signed_decimal}
use Rattle.std.specs.Option.{option_map}
use Rattle.std.proofs.lemmas.Int.{ints}
use Rattle.std.proofs.lemmas.Result.{on_ok_weaker}
use mir.Syntax.{w64}
use mir.Val.{SFits, to_z, of_z}
use Rattle.json.specs.Token as token
use Rattle.json.specs.Json as json
use Rattle.serde_json.specs.Data.{number, negative}
use Rattle.serde_json.proofs.Numbers.{number_of-negative}
use Rattle.json_rows.proofs.Texts.{one_text}
use Rattle.json_rows.proofs.tokens.put_negative.Goals as goal

pub returns-clause-written : goal.returns-clause-written
returns-clause-written c =
    let whole : ℤ = c.below_minus_one.result in
    let fits : SFits w64 whole = search rules in
    let same : to_z w64 (of_z w64 whole) ≡ negsuc c.args.below = omega (arith, ints) ∙ c.below_minus_one.ensures in
    on_ok_weaker c.i64.result
    (λ e. one_text (json.number (signed_decimal (negsuc c.args.below))) (number (negative (negsuc c.args.below))) c.args.out.now.tokens c.i64.new.self.tokens
    (e ∙ ap (λ (z : ℤ). c.args.out.now.tokens ++ token.number (signed_decimal z) ∷ []) same)
    (ap (option_map number) (number_of-negative c.args.below c.requires)) refl) c.i64.ensures.ok
