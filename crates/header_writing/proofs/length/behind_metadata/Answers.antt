use Rattle.std.proofs.Common.{arith, sym, ◌∙◌}
use Rattle.header_writing.proofs.Lengths.{entries_room, entries_begin}
use Rattle.header_writing.proofs.length.behind_metadata.Goals as goal

pub behind_references-requires : goal.behind_references-requires
behind_references-requires c =
    omega (arith, entries_room c.args.place c.args.entries.now (sym c.is_empty.ensures ∙ c.if-is_empty.false) c.requires)

pub behind_entries-requires : goal.behind_entries-requires
behind_entries-requires c =
    (entries_begin c.args.place c.behind_references.result c.args.entries.now (sym c.is_empty.ensures ∙ c.if-is_empty.false)
    c.behind_references.ensures c.requires).room

pub returns : goal.returns
returns c =
    c.behind_entries.ensures
    ∙ (entries_begin c.args.place c.behind_references.result c.args.entries.now (sym c.is_empty.ensures ∙ c.if-is_empty.false)
    c.behind_references.ensures c.requires).at
