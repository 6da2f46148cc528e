use Rattle.std.proofs.Common.{rules, arith, sym, ap, subst, ◌∙◌, ◌≡◌, ◌<◌, List, [], ◌∷◌, ◌++◌, map, drop, length, Vec, Global}
use Rattle.std.proofs.lemmas.List.{drop_all, get_or-map}
use Rattle.json.specs.Token as token
use Rattle.json.specs.Json as json
use Rattle.header_types.specs.declared.schema.Field.{Field}
use Rattle.header_types.specs.Views.{tree_of}
use Rattle.batch_types.specs.Cells.{Cell as Seen, null_cell}
use Rattle.batch_cells.specs.declared.cell.Cell.{Cell as Plain}
use Rattle.batch_cells.specs.CellViews.{cell_of as seen}
use Rattle.json_rows.specs.Cells.{forest_in}
use Rattle.json_rows.specs.Written.{WritesMember, WritesMembers}
use Rattle.json_rows.specs.Lines.{cell_at}
use Rattle.json_rows.proofs.Columns.{item_at}
use Rattle.json_rows.proofs.Told.{TellsMember, members_zip}
use Rattle.json_rows.proofs.Put.{names_at, member_then, zipped_both}
use Rattle.json_rows.proofs.row_lines.write_row_members.Goals as goal

pub write_member-requires : goal.write_member-requires
write_member-requires c = record {
  names = names_at c.args.fields.now c.loop-index.index c.index-fields-index.result c.loop-index-test.true c.index-fields-index.is c.requires.names;
}

pub loop-index-preserved : goal.loop-index-preserved
loop-index-preserved c =
    let row = c.args.row in
    let cells = c.index-columns-index.result in
    let there = item_at (λ (column : Vec Plain Global). row < length column.items) c.args.columns.now c.loop-index.index cells c.requires.within
    (omega (arith, c.loop-index-test.true, c.requires.counts)) c.index-columns-index.is in
    let same : cell_at row cells ≡ seen c.index.result.now = get_or-map seen cells.items row c.index.result.now null_cell there ∙ ap seen (sym c.index.ensures) in (
      c.write_member.ensures.before ∙ c.loop-index.invariant.0,
      λ end rest. c.loop-index.invariant.1 end
          (member_then (cell_at row) c.args.fields.now c.args.columns.now c.loop-index.index c.index-fields-index.result cells c.loop-index.out.tokens c.write_member.new.out.tokens end
          c.loop-index-test.true (omega (arith, c.loop-index-test.true, c.requires.counts)) c.index-fields-index.is c.index-columns-index.is
          (subst (λ (cell : Seen). WritesMember (tree_of c.index-fields-index.result) cell c.loop-index.out.tokens c.write_member.new.out.tokens) (sym same) c.in_default.ensures.written) rest),
    )

pub returns-in-Ok-clause-written : goal.returns-in-Ok-clause-written
returns-in-Ok-clause-written c =
    let end = c.end_object.new.self.tokens in
    let out = c.loop-index.out.tokens in
    let see = cell_at c.args.row in
    let closed : end ≡ out ++ token.end_object ∷ [] = search rules in
    let fields = drop_all c.loop-index.index c.args.fields.now (omega (arith, c.loop-index-test.false)) in
    let columns = drop_all c.loop-index.index c.args.columns.now (omega (arith, c.loop-index-test.false, c.requires.counts)) in
    c.loop-index.invariant.1 end
    (subst (λ (fs : List Field). WritesMembers (forest_in fs) (map see (drop c.loop-index.index c.args.columns.now)) out end) (sym fields)
    (subst (λ l. WritesMembers (forest_in []) (map see l) out end) (sym columns) (json.no_members, closed, tt)))

pub returns-in-Err-clause-refused : goal.returns-in-Err-clause-refused
returns-in-Err-clause-refused c = λ d told.
    let row = c.args.row in
    let fields = c.args.fields.now in
    let i = c.loop-index.index in
    let x = c.index-fields-index.result in
    let cells = c.index-columns-index.result in
    let fits : i < length c.args.columns.now = omega (arith, c.loop-index-test.true, c.requires.counts) in
    let there = item_at (λ (column : Vec Plain Global). row < length column.items) c.args.columns.now i cells c.requires.within fits c.index-columns-index.is in
    let same : cell_at row cells ≡ seen c.index.result.now = get_or-map seen cells.items row c.index.result.now null_cell there ∙ ap seen (sym c.index.ensures) in
    let zip = members_zip (map tree_of fields) d (map (cell_at row) c.args.columns.now) told in
    let here = zipped_both (TellsMember d) tree_of (cell_at row) fields c.args.columns.now i x cells zip c.loop-index-test.true fits c.index-fields-index.is c.index-columns-index.is in
    c.in-Err.ensures.refused _ (subst (λ (cell : Seen). TellsMember d (tree_of x) cell) same here)
