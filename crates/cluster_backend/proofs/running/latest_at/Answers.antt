use Rattle.cluster_backend.proofs.running.latest_at.Goals as goal

pub returns-in-Ok : goal.returns-in-Ok
returns-in-Ok g c =
    let led = c.in_ok-node.ensures.led in
    let has = led.has in (
      has.taken.uploads,
      (has.values, has.taken.are, has.taken.few),
      c.in-Ok.ensures.latest led.views has.taken.uploads has (record { values = has.values; prefix = has.prefix; are = has.taken.are }),
    )
