use Rattle.std.proofs.Common.{sym, ap, ap₂, subst, ◌∙◌, if◌then◌else◌, ◌+◌, ◌*◌, ◌<◌, ◌≤◌, length}
use Rattle.std.proofs.lemmas.List.{take_all}
use Rattle.batch_reading.specs.Cleared.{without_block, cleared}
use Rattle.batch_reading.proofs.Clearing.{clear_within, clear_more, cleared_long}
use Rattle.batch_reading.proofs.blocks.clear_unmarked.Goals as goal

pub clear_unless-requires : goal.clear_unless-requires
clear_unless-requires c =
    subst (λ l. c.args.size * c.loop-number.number + c.args.size ≤ length l) (sym c.loop-number.invariant)
    (clear_within c.args.size c.args.marks.now c.args.blocks.now c.loop-number.number
    (subst (λ n. c.loop-number.number < n) c.len-number-end.ensures c.loop-number-test.true) c.requires)

pub loop-number-preserved : goal.loop-number-preserved
loop-number-preserved c =
    c.clear_unless.ensures
    ∙ ap₂ (λ kept l. if kept then l else without_block c.args.size c.loop-number.number l) c.bit_at.ensures c.loop-number.invariant
    ∙ sym (clear_more c.args.size c.args.marks.now c.args.blocks.now c.loop-number.number
    (subst (λ n. c.loop-number.number < n) c.len-number-end.ensures c.loop-number-test.true) c.requires)

pub returns-clause-long : goal.returns-clause-long
returns-clause-long c =
    ap length
    (c.loop-number.invariant
    ∙ ap (λ l. cleared c.args.size l c.args.blocks.now) (take_all c.loop-number.number c.args.marks.now
    (subst (λ n. n ≤ c.loop-number.number) c.len-number-end.ensures c.loop-number-test.false)))
    ∙ cleared_long c.args.size c.args.marks.now c.args.blocks.now c.requires
