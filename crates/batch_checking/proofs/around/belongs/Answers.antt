use Rattle.std.proofs.Common.{◌≡◌, ◌∙◌, ◌+◌, ◌-◌, ◌<◌, refl, length, None, get_or, arith}
use Rattle.std.specs.List.{range_with_len}
use Rattle.std.proofs.lemmas.Bool.{false≢true}
use Rattle.std.proofs.lemmas.List.{length-set}
use Rattle.batch_checking.proofs.Walking.{steady_at, up_held, held_up, none_up, top_held, held_top, no_source}
use Rattle.batch_checking.proofs.around.belongs.Goals as goal

pub valid_row_of-requires : goal.valid_row_of-requires
valid_row_of-requires c =
    let there : c.loop-depth.depth - 1 < length c.args.around.now = omega arith in
    (steady_at (range_with_len 0 c.args.rows) c.args.around.now (c.loop-depth.depth - 1) _ no_source c.requires.steady there refl).1

pub returns-in-None-clause-belongs : goal.returns-in-None-clause-belongs
returns-in-None-clause-belongs c =
    let there : c.loop-depth.depth - 1 < length c.args.around.now = omega arith in
    let next : c.loop-depth.depth - 1 + 1 ≡ c.loop-depth.depth = omega arith in (
      λ no. absurd (false≢true no),
      λ held.
          absurd (none_up (range_with_len 0 c.args.rows) c.args.around.now c.requires.steady c.loop-depth.depth (c.loop-depth.depth - 1) next there
          (get_or c.args.around.now (c.loop-depth.depth - 1) no_source) no_source refl c.loop-depth.place None refl c.in-None.ensures.found
          (c.loop-depth.invariant.3 held)),
    )

pub loop-depth-preserved : goal.loop-depth-preserved
loop-depth-preserved c =
    let there : c.loop-depth.depth - 1 < length c.args.around.now = omega arith in
    let next : c.loop-depth.depth - 1 + 1 ≡ c.loop-depth.depth = omega arith in (
      omega arith,
      length-set c.loop-depth.guesses (c.loop-depth.depth - 1) _ ∙ c.loop-depth.invariant.1,
      λ held.
          c.loop-depth.invariant.2
          (up_held (range_with_len 0 c.args.rows) c.args.around.now c.requires.steady c.loop-depth.depth (c.loop-depth.depth - 1) next there
          (get_or c.args.around.now (c.loop-depth.depth - 1) no_source) no_source refl c.in-Some.row c.loop-depth.place c.in-Some.ensures.stands held),
      λ held.
          held_up (range_with_len 0 c.args.rows) c.args.around.now c.requires.steady c.loop-depth.depth (c.loop-depth.depth - 1) next there
          (get_or c.args.around.now (c.loop-depth.depth - 1) no_source) no_source refl c.in-Some.row c.loop-depth.place c.in-Some.ensures.found
          (c.loop-depth.invariant.3 held),
    )

pub returns-clause-belongs : goal.returns-clause-belongs
returns-clause-belongs c =
    let none : c.loop-depth.depth ≡ 0 = omega arith in (
      λ yes. c.loop-depth.invariant.2 (top_held c.args.rows c.args.around.now c.loop-depth.depth c.loop-depth.place none (c.is_row.ensures.0 yes)),
      λ held. c.is_row.ensures.1 (held_top c.args.rows c.args.around.now c.loop-depth.depth c.loop-depth.place none (c.loop-depth.invariant.3 held)),
    )
