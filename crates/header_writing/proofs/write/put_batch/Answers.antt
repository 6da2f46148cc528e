use Rattle.std.proofs.Common.{◌≡◌, ℤ, List, ◌+◌, ap, ◌∙◌, subst, rules, of_z, arith}
use Rattle.std.proofs.lemmas.Grind.{common_steps}
use Rattle.std.specs.Int.{w64}
use Rattle.std.specs.Int.RustNames.{FitsSigned}
use Rattle.std.specs.List.{AllByRecursion}
use Rattle.std.proofs.lemmas.Int.{to_z-of_z}
use Rattle.header_writing.specs.Canonical.{int64_number, pairs_object}
use Rattle.header_writing.specs.Filling.{with_object}
use Rattle.header_types.specs.HeaderViews.{head_of}
use Rattle.header_writing.specs.Written.{FitsPair}
use Rattle.header_writing.proofs.Writers.{batch_put}
use Rattle.header_writing.proofs.write.put_batch.Goals as goal

pub returns-clause-put : goal.returns-clause-put
returns-clause-put c =
    let fits : FitsSigned w64 c.args.head.now.length = search rules in
    let rows : c.cast_unsigned.result ≡ int64_number c.args.head.now.length = c.cast_unsigned.ensures
    ∙ ap (of_z w64) (to_z-of_z w64 c.args.head.now.length fits) in
    batch_put c.args.text.now.items c.put_table.new.text.items c.put_pairs.new.text.items c.put_pairs-2.new.text.items
    c.args.from c.in_ok-first.first c.cast_unsigned.result
    (head_of c.args.head.now) c.requires.within rows c.in_ok-first.ensures.put c.in_ok-first.ensures.first
    (c.in_ok-put_pairs.ensures.put ∙ ap (λ (pairs : List (ℤ × ℤ)). with_object c.put_table.new.text.items
    c.in_ok-first.first (pairs_object pairs)) c.deref.ensures.value)
    (c.in_ok-put_pairs-2.ensures.put ∙ ap (λ (pairs : List (ℤ × ℤ)). with_object c.put_pairs.new.text.items
    (c.in_ok-first.first + 12) (pairs_object pairs)) c.deref-2.ensures.value)

pub returns-clause-fit : goal.returns-clause-fit
returns-clause-fit c =
    let fits : FitsSigned w64 c.args.head.now.length = search rules in
    record {
      length = fits;
      nodes = subst (AllByRecursion FitsPair) c.deref.ensures.value c.in_ok-put_pairs.ensures.fit;
      buffers = subst (AllByRecursion FitsPair) c.deref-2.ensures.value c.in_ok-put_pairs-2.ensures.fit;
    }

pub returns-in_err-first-clause-put : goal.returns-in_err-first-clause-put
returns-in_err-first-clause-put c = grind (arith, common_steps) steps 600000

pub returns-in_err-first-clause-fit : goal.returns-in_err-first-clause-fit
returns-in_err-first-clause-fit c = search rules steps 300000

pub returns-in_err-put_pairs-clause-put : goal.returns-in_err-put_pairs-clause-put
returns-in_err-put_pairs-clause-put c = grind (arith, common_steps) steps 600000

pub returns-in_err-put_pairs-clause-fit : goal.returns-in_err-put_pairs-clause-fit
returns-in_err-put_pairs-clause-fit c = search rules steps 300000

pub returns-in_err-put_pairs-2-clause-put : goal.returns-in_err-put_pairs-2-clause-put
returns-in_err-put_pairs-2-clause-put c = grind (arith, common_steps) steps 600000

pub returns-in_err-put_pairs-2-clause-fit : goal.returns-in_err-put_pairs-2-clause-fit
returns-in_err-put_pairs-2-clause-fit c = grind (arith, common_steps) steps 600000
