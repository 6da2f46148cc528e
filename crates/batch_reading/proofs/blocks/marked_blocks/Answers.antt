use Rattle.std.proofs.Common.{◌≡◌, sym, ap, ◌∙◌, ◌++◌, length, take, drop, arith}
use Rattle.std.proofs.Math.Seq.{take-append_seam}
use Rattle.batch_reading.specs.Cleared.{cleared}
use Rattle.batch_reading.proofs.Clearing.{wanted_cleared, cleared_fits}
use Rattle.batch_reading.proofs.blocks.marked_blocks.Goals as goal

pub clear_unmarked-requires : goal.clear_unmarked-requires
clear_unmarked-requires c =
    omega (
      arith,
      ap length (c.as_mut_slice.ensures.value ∙ c.in_ok-blocks.ensures),
      cleared_fits c.requires.selection.0 c.args.selection.now c.requires.selection.1 c.args.marks.now c.requires.marks c.args.size c.args.bytes.now c.requires.selection.2,
    )

pub returns : goal.returns
returns c =
    let new = c.clear_unmarked.new.blocks in
    let items = c.in_ok-blocks.blocks.items in
    let long : c.in_ok-blocks.blocks.len ≡ length new = sym (c.clear_unmarked.ensures.long ∙ c.as_mut_slice.ensures.len) in
    ap (λ n. take n (new ++ drop (length new) items)) long
    ∙ take-append_seam new (drop (length new) items)
    ∙ c.clear_unmarked.ensures.cleared
    ∙ ap (cleared c.args.size c.args.marks.now) (c.as_mut_slice.ensures.value ∙ c.in_ok-blocks.ensures)
    ∙ wanted_cleared c.requires.selection.0 c.args.selection.now c.requires.selection.1 c.args.marks.now c.requires.marks c.args.size c.args.bytes.now c.requires.selection.2
