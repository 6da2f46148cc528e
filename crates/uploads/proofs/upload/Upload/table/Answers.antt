use Rattle.std.proofs.Common.{sym, ◌∙◌, subst}
use Rattle.std.specs.Str.{IsUtf8}
use Rattle.uploads.proofs.Names.{name_is_utf8}
use Rattle.uploads.proofs.upload.Upload.table.Goals as goal

pub unreachable-requires : goal.unreachable-requires
unreachable-requires c =
    let u = c.self.invariant.0 in
    let is = c.self.invariant.1.0 in
    let parts = c.parts_of-parts.ensures u is (c.self.invariant.1.1 ∙ sym c.as_slice.ensures) in
    c.in-Err.ensures.cases.0 (subst IsUtf8 (sym parts.table_is) (name_is_utf8 u.table is.table_named))
