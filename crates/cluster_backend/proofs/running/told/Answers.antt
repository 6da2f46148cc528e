use Rattle.std.proofs.Common.{map, string_bytes, subst}
use Rattle.std.proofs.lemmas.Result.{IfOk-weaker}
use Rattle.node_threads.specs.parts.table_types.specs.Tables.{effective}
use Rattle.node_threads.specs.parts.table_versions.specs.Info.{IsLatest}
use Rattle.table_backend.proofs.Tables.{tells_latest}
use Rattle.cluster_backend.proofs.running.told.Goals as goal

pub unreachable-requires : goal.unreachable-requires
unreachable-requires c =
    let has = c.requires.1 in
    let table = c.args.table.now in
    c.requires.2 (subst (λ latest. IsLatest latest table (effective table c.requires.0)) c.in-Ok-None.field-0-is (c.in-Ok-None.ensures.latest has.0 c.requires.0 has.1 has.2))

pub returns-in-Ok-Some : goal.returns-in-Ok-Some
returns-in-Ok-Some c =
    let table = c.args.table.now in
    IfOk-weaker c.of.result _ _
    (λ found made uploads has. tells_latest (map string_bytes c.args.locations.now) table (effective table uploads) c.in-Ok-Some.field-0 c.in-Ok-Some.info found
    (c.in-Ok-Some.ensures.latest has.0 uploads has.1 has.2) c.in-Ok-Some.field-0-is made.0 made.1)
    c.of.ensures
