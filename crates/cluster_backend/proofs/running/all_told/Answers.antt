use Rattle.std.proofs.Common.{map, string_bytes, sym, ap, subst, arith, ◌∙◌}
use Rattle.std.proofs.lemmas.List.{take_all}
use Rattle.std.specs.List.{AllZip, list_any}
use Rattle.std.specs.Str.{bytes_eq}
use Rattle.node_threads.specs.parts.table_types.specs.Tables.{effective}
use Rattle.table_backend.specs.Backing.{TellsLatest}
use Rattle.table_backend.proofs.Tables.{is_named, one_more_told}
use Rattle.cluster_backend.proofs.running.all_told.Goals as goal

pub told-requires : goal.told-requires
told-requires c =
    let r = c.requires in
    let there = is_named c.args.names.now c.loop-name.name-index c.name-item.result c.deref.result.now c.loop-name-test.true c.name-item.is c.deref.ensures in (
      r.0,
      r.1,
      (c.tables_have_effective_uploads.ensures c.deref.result.now r.0).0 (ap (λ l. list_any (bytes_eq c.deref.result.now) l) (sym r.2) ∙ there),
    )

pub loop-name-preserved : goal.loop-name-preserved
loop-name-preserved c = λ uploads has.
    one_more_told (λ name found. TellsLatest (map string_bytes c.args.locations.now) name (effective name uploads) found) c.args.names.now c.loop-name.name-index c.name-item.result c.deref.result.now
    c.loop-name.all.items c.push.new.self.items c.in_ok-found.found c.loop-name-test.true c.name-item.is c.deref.ensures
    (c.loop-name.invariant uploads has) (c.in_ok-found.ensures uploads has) c.in_ok-push.ensures.items

pub returns : goal.returns
returns c = λ uploads has.
    subst (λ names. AllZip (λ name found. TellsLatest (map string_bytes c.args.locations.now) name (effective name uploads) found) (map string_bytes names) c.loop-name.all.items)
    (take_all c.loop-name.name-index c.args.names.now (omega (arith, c.loop-name-test.false)))
    (c.loop-name.invariant uploads has)
