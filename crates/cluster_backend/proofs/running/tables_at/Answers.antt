use Rattle.std.proofs.Common.{subst, map, string_bytes, ap, ◌∙◌}
use Rattle.std.specs.List.{AllZip}
use Rattle.node_threads.specs.parts.histories.specs.Texts.{HasUploads}
use Rattle.node_threads.specs.parts.table_types.specs.Tables.{effective}
use Rattle.table_backend.specs.Backing.{TellsLatest}
use Rattle.cluster_backend.proofs.running.tables_at.Goals as goal

pub all_told-requires : goal.all_told-requires
all_told-requires g c =
    let led = c.in_ok-node.ensures.led in
    let has = led.has in
    let are : HasUploads c.in_ok-node.node.now.agreement.config.members led.views.learner_calls has.taken.uploads = record { values = has.values; prefix = has.prefix; are = has.taken.are } in (
      has.taken.uploads,
      (led.views, has, are),
      ap (λ l. map string_bytes l) c.deref.ensures.value ∙ c.in-Ok.ensures.names led.views has.taken.uploads has are,
    )

pub returns-in-Ok-all_told : goal.returns-in-Ok-all_told
returns-in-Ok-all_told g c =
    let led = c.in_ok-node.ensures.led in
    let has = led.has in
    let are : HasUploads c.in_ok-node.node.now.agreement.config.members led.views.learner_calls has.taken.uploads = record { values = has.values; prefix = has.prefix; are = has.taken.are } in (
      has.taken.uploads,
      (has.values, has.taken.are, has.taken.few),
      subst (λ names. AllZip (λ name found. TellsLatest (map string_bytes c.args.locations.now) name (effective name has.taken.uploads) found) names c.in-Ok-all_told.all.items)
          (ap (λ l. map string_bytes l) c.deref.ensures.value ∙ c.in-Ok.ensures.names led.views has.taken.uploads has are)
          (c.in-Ok-all_told.ensures has.taken.uploads (led.views, has, are)),
    )
