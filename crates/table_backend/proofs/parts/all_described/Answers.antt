use Rattle.std.proofs.Common.{map, string_bytes, sym, ap, ◌∙◌}
use Rattle.std.specs.List.{list_any}
use Rattle.std.specs.Str.{bytes_eq}
use Rattle.table_types.specs.Tables.{effective}
use Rattle.table_backend.specs.Backing.{TellsLatest}
use Rattle.table_backend.proofs.Tables.{is_named, one_more_told}
use Rattle.table_backend.proofs.parts.all_described.Goals as goal

pub told-requires : goal.told-requires
told-requires c =
    let r = c.requires in
    let there = is_named c.args.names.now c.loop-name.name-index c.name-item.result c.deref.result.now c.loop-name-test.true c.name-item.is c.deref.ensures in (
      r.0,
      r.1,
      r.2,
      r.3,
      (c.tables_have_effective_uploads.ensures c.deref.result.now r.1).0 (ap (λ l. list_any (bytes_eq c.deref.result.now) l) (sym r.4) ∙ there),
    )

pub loop-name-preserved : goal.loop-name-preserved
loop-name-preserved c = λ values uploads taken are.
    one_more_told (λ name found. TellsLatest (map string_bytes c.args.locations.now) name (effective name uploads) found) c.args.names.now c.loop-name.name-index c.name-item.result c.deref.result.now
    c.loop-name.all.items c.push.new.self.items c.in_ok-described.described c.loop-name-test.true c.name-item.is c.deref.ensures
    (c.loop-name.invariant values uploads taken are) (c.in_ok-described.ensures.told values uploads taken are) c.in-Ok.ensures.items
