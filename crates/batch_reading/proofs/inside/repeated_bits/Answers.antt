use Rattle.std.proofs.Common.{sym, ap, ap₂, ◌∙◌, ◌++◌, ◌∷◌, [], Bool, false, get_or, take, replicate, subst, ◌<◌}
use Rattle.std.proofs.lemmas.List.{take_more, append-nil}
use Rattle.std.proofs.lemmas.Grind.{flat_map-append}
use Rattle.std.specs.List.{flat_map}
use Rattle.batch_reading.proofs.inside.repeated_bits.Goals as goal

pub loop-number-preserved : goal.loop-number-preserved
loop-number-preserved c =
    let there = subst (λ n. c.loop-number.number < n) c.len-number-end.ensures c.loop-number-test.true in
    let bit : Bool = get_or c.args.bits.now c.loop-number.number false in
    let f = replicate {A = Bool} c.args.size in
    c.in_ok-push_run.ensures.extended
    ∙ ap₂ (λ xs b. xs ++ f b) c.loop-number.invariant c.bit_at.ensures
    ∙ ap (λ l. flat_map f (take c.loop-number.number c.args.bits.now) ++ l) (sym (append-nil (f bit)))
    ∙ sym (flat_map-append f (take c.loop-number.number c.args.bits.now) (bit ∷ []))
    ∙ ap (flat_map f) (sym (take_more c.args.bits.now c.loop-number.number false there))
