use Rattle.std.proofs.Common.{◌≡◌, sym, ap, ◌∙◌, true, map, length, replicate}
use Rattle.std.proofs.lemmas.Result.{IfOk-weaker}
use Rattle.bitmaps.specs.Joined.{set_in_one}
use Rattle.batch_reading.specs.Spots.{spots_of}
use Rattle.batch_reading.specs.Taken.{bit_taken}
use Rattle.batch_reading.proofs.Marking.{bits_as_long, bits_kept, bits_turned}
use Rattle.batch_reading.proofs.Running.{within_all}
use Rattle.batch_reading.proofs.bits.marked_bits.Goals as goal

pub run_bits-requires : goal.run_bits-requires
run_bits-requires c = within_all c.requires.selection.0 c.args.selection.now c.requires.selection.1

pub set_unmarked-requires : goal.set_unmarked-requires
set_unmarked-requires c =
    c.and_with.ensures.long
    ∙ bits_as_long c.requires.selection.0 c.args.selection.now c.requires.selection.1 c.args.bytes.now c.args.marks.now c.in_ok-bits.bits
    c.requires.marks c.in_ok-bits.ensures

pub returns-then-other : goal.returns-then-other
returns-then-other c =
    let marks = c.args.marks.now in
    let selection = c.args.selection.now in
    let bytes = c.args.bytes.now in
    IfOk-weaker c.set_unmarked.result
    (λ made. made ≡ set_in_one (set_in_one (replicate (length marks) true) marks) c.and_with.new.self)
    (λ made. made ≡ map (bit_taken bytes c.args.other) (spots_of selection))
    (λ made same.
    same
    ∙ bits_turned c.requires.selection.0 selection c.requires.selection.1 bytes marks c.and_with.new.self c.requires.marks
    (c.and_with.ensures.both
    ∙ bits_kept c.requires.selection.0 selection c.requires.selection.1 bytes marks c.in_ok-bits.bits c.requires.marks c.in_ok-bits.ensures)
    ∙ ap (λ other. map (bit_taken bytes other) (spots_of selection)) (sym c.if-other.true))
    c.set_unmarked.ensures

pub returns-else-other : goal.returns-else-other
returns-else-other c =
    c.and_with.ensures.both
    ∙ bits_kept c.requires.selection.0 c.args.selection.now c.requires.selection.1 c.args.bytes.now c.args.marks.now c.in_ok-bits.bits
    c.requires.marks c.in_ok-bits.ensures
    ∙ ap (λ other. map (bit_taken c.args.bytes.now other) (spots_of c.args.selection.now)) (sym c.if-other.false)
