use Rattle.std.proofs.Common.{◌≤◌, length, arith}
use Rattle.serde_json.specs.View.{view}
use Rattle.run_files.proofs.Words.{two_items}
use Rattle.run_files.proofs.json_values.words_of.Goals as goal

pub returns-in_default-as_slice-clause-only : goal.returns-in_default-as_slice-clause-only
returns-in_default-as_slice-clause-only c = λ word node rest is.
    let two : 2 ≤ length c.as_slice.result.now
    = two_items (view c.args.value.now) c.in-Some.items.now.items c.as_slice.result.now word node rest c.as_slice.ensures.value c.in-Some.ensures is in
    let no : ⊥ = omega arith in absurd no
