use Rattle.std.proofs.Common.{arith, sym, ap, ◌∙◌}
use Rattle.header_types.specs.Views.{data_type_of}
use Rattle.header_writing.specs.Canonical.{type_object}
use Rattle.header_writing.specs.Weights.{numbers_in, behind_cells}
use Rattle.header_writing.proofs.Lengths.{type_end, type_room}
use Rattle.header_writing.proofs.length.behind_type.Goals as goal

pub behind_timezone-requires : goal.behind_timezone-requires
behind_timezone-requires c =
    let t = data_type_of c.args.ty.now in
    let is = c.behind_table.ensures (numbers_in (type_object t)) (sym c.type_size-numbers.ensures.numbers)
    ∙ ap (behind_cells c.args.place (numbers_in (type_object t))) c.type_size-numbers.ensures.cells in
    type_room c.args.place c.behind_table.result (data_type_of c.args.ty.now) is
    (omega (arith, c.type_size-numbers.ensures.numbers, c.type_size-numbers.ensures.few.0)) c.requires

pub returns : goal.returns
returns c =
    let t = data_type_of c.args.ty.now in
    let is = c.behind_table.ensures (numbers_in (type_object t)) (sym c.type_size-numbers.ensures.numbers)
    ∙ ap (behind_cells c.args.place (numbers_in (type_object t))) c.type_size-numbers.ensures.cells in
    c.behind_timezone.ensures ∙ type_end c.args.place c.behind_table.result (data_type_of c.args.ty.now) is
