use Rattle.std.proofs.Common.{rules, arith, sym, subst, ◌≡◌, ◌∙◌, true, false, ℤ}
use Rattle.std.proofs.lemmas.Int.{ints}
use mir.Syntax.{w64}
use mir.Val.{SFits, to_z, of_z}
use Rattle.serde_json.specs.View.{view}
use Rattle.run_files.specs.UploadValue.{IsByteOf}
use Rattle.run_files.proofs.UploadValues.{number_told}
use Rattle.run_files.proofs.upload_values.cell_of.Goals as goal

pub returns-in-None-clause-refused : goal.returns-in-None-clause-refused
returns-in-None-clause-refused c = λ cell told.
    let number : ℤ = c.in-Some.number in
    let byte = number_told (view c.args.value.now) number cell (sym c.is_null.ensures ∙ c.if-is_null.false) c.in-Some.ensures told in
    let fits : SFits w64 number = search rules in
    let same : to_z w64 (of_z w64 number) ≡ number = omega (arith, ints) in
    let no : false ≡ true = c.in-None.ensures.only byte.0 (subst (λ (z : ℤ). IsByteOf z byte.0) (sym same) byte.1) in absurd cc
