use Rattle.std.proofs.Common.{[], ◌∷◌, ◌+◌, ◌%◌, arith, rules}
use Rattle.proto_fields.proofs.Texts.{number_goes_on, grows_more, texts}
use Rattle.std.proofs.lemmas.Grind.{common_steps}
use Rattle.proto_fields.proofs.writing.append_number.Goals as goal

pub loop-left-preserved : goal.loop-left-preserved
loop-left-preserved c =
    let n = c.loop-left.left in
    let b = n % 128 + 128 in
    let grown = c.in_ok-push.ensures.items in
    (rw grown (number_goes_on c.loop-left.out.items _ n (omega arith) (omega arith) c.loop-left.invariant.0), grows_more _ c.loop-left.out.items _ (b ∷ []) c.loop-left.invariant.1 grown)

pub returns-in_err-push-clause-ok : goal.returns-in_err-push-clause-ok
returns-in_err-push-clause-ok c = search rules steps 300000

pub returns-in_err-push-clause-err : goal.returns-in_err-push-clause-err
returns-in_err-push-clause-err c = search rules steps 300000

pub returns-in_err-push-2-clause-ok : goal.returns-in_err-push-2-clause-ok
returns-in_err-push-2-clause-ok c = search rules steps 300000

pub returns-in_err-push-2-clause-err : goal.returns-in_err-push-2-clause-err
returns-in_err-push-2-clause-err c = search rules steps 300000

pub returns-clause-ok : goal.returns-clause-ok
returns-clause-ok c = grind (arith, texts) steps 600000

pub returns-clause-err : goal.returns-clause-err
returns-clause-err c = grind (arith, common_steps) steps 600000
