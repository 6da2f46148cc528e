use Rattle.std.proofs.Common.{◌≡◌, sym, ap₂, ◌∙◌, ℕ, List, ◌+◌, ◌-◌, ◌++◌, arith}
use Rattle.byteorder.specs.Endian.{little_bytes}
use Rattle.batch_types.specs.Placed.{start_of}
use Rattle.batch_reading.proofs.OneRun.{offsets_more}
use Rattle.batch_reading.proofs.Spanning.{starts_to}
use Rattle.batch_reading.proofs.one_run.moved_offsets.Goals as goal

pub start_at-requires : goal.start_at-requires
start_at-requires c =
    let long =
    c.requires.offsets.2.long (c.requires.offsets.0 - 1) (omega (arith, c.requires.some, c.requires.offsets.3)) in
    omega (arith, long, c.requires.offsets.3, c.requires.some, c.loop-number-test.true)

pub overflow_sub-start_at : goal.overflow_sub-start_at
overflow_sub-start_at c =
    let up =
    starts_to c.args.offsets.now c.requires.offsets.0 c.requires.offsets.1 c.requires.offsets.2 c.args.run.start
    (c.args.run.start + c.loop-number.number) (omega arith) (omega (arith, c.requires.offsets.3, c.loop-number-test.true)) in
    omega (arith, up, c.requires.first, c.start_at.ensures)

pub loop-number-preserved : goal.loop-number-preserved
loop-number-preserved c =
    let start = c.args.run.start in
    let offset : ℕ → List ℕ =
    λ j. little_bytes 4 (start_of 4 c.args.offsets.now (start + j) - start_of 4 c.args.offsets.now start) in
    let value : c.start_at.result - c.args.first ≡ start_of 4 c.args.offsets.now (start + c.loop-number.number) - start_of 4 c.args.offsets.now start =
    omega (arith, c.start_at.ensures, c.requires.first) in
    c.in_ok-put_offset.ensures.ok
    ∙ ap₂ (λ xs k. xs ++ little_bytes 4 k) c.loop-number.invariant value
    ∙ sym (offsets_more offset c.loop-number.number)
