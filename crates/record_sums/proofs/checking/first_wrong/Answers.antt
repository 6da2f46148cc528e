use Rattle.std.proofs.Common.{◌≡◌, Bool, true, false, IsTrue, rules, sym, ◌∙◌}
use Rattle.record_sums.proofs.Entries.{none_wrong, one_more_seen}
use Rattle.record_sums.proofs.checking.first_wrong.Goals as goal

not_both : (b : Bool) → b ≡ false → IsTrue b → ⊥
not_both b is given =
    let same : false ≡ true = sym is ∙ given in
    absurd (cc)

pub loop-number-preserved : goal.loop-number-preserved
loop-number-preserved c =
    one_more_seen c.args.sums.now c.args.entries.now c.loop-number.number c.loop-number.invariant
    (λ wrong. not_both c.is_wrong_at.result c.if-is_wrong_at.false (c.is_wrong_at.ensures.1 wrong))

pub returns-clause-none : goal.returns-clause-none
returns-clause-none c none =
    none_wrong c.args.sums.now c.args.entries.now c.loop-number.number (search rules) c.loop-number.invariant
