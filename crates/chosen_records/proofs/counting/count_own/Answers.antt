use Rattle.std.proofs.Common.{◌++◌, ◌∷◌, ◌<◌, [], List, length, take, subst, arith}
use Rattle.std.proofs.lemmas.List.{take_all}
use Rattle.std.proofs.lemmas.Result.{err_from_is_err_and}
use Rattle.ballots.specs.declared.record.Record.{Record}
use Rattle.chosen_records.specs.Tallies.{IsTallyOf}
use Rattle.chosen_records.proofs.Counted.{counted_still}
use Rattle.chosen_records.proofs.Recording.{next_taken, nothing_yet, tells_first_records}
use Rattle.chosen_records.proofs.counting.count_own.Goals as goal

pub loop-told-init : goal.loop-told-init
loop-told-init c = λ done last is. counted_still done (done ++ [] ∷ []) c.args.tallies.now (nothing_yet done) is

pub loop-told-preserved : goal.loop-told-preserved
loop-told-preserved c = λ done last is.
    let within : c.loop-told.told-index < length c.args.own.now = omega arith in
    subst (λ (l : List Record). IsTallyOf (done ++ l ∷ []) c.count_record.new.tallies)
    (next_taken c.args.own.now c.loop-told.told-index c.told-item.result within c.told-item.is)
    (c.in_ok-count_record.ensures.counted done (take c.loop-told.told-index c.args.own.now) last (c.loop-told.invariant done last is))

pub returns-in_err-count_record-clause-differ : goal.returns-in_err-count_record-clause-differ
returns-in_err-count_record-clause-differ c = λ done last is.
    let within : c.loop-told.told-index < length c.args.own.now = omega arith in
    let p = err_from_is_err_and c.from_residual.result c.from_residual.ensures.1 in
    rw (p.1, p.2)
    (tells_first_records done c.args.own.now c.loop-told.told-index c.told-item.result _ within c.told-item.is
    (c.in_err-count_record.ensures.differ done (take c.loop-told.told-index c.args.own.now) last (c.loop-told.invariant done last is)))

pub returns-clause-counted : goal.returns-clause-counted
returns-clause-counted c = λ done last is.
    subst (λ (l : List Record). IsTallyOf (done ++ l ∷ []) c.loop-told.tallies) (take_all c.loop-told.told-index c.args.own.now (omega arith))
    (c.loop-told.invariant done last is)
