use Rattle.table_versions.proofs.steps.put_frames.Goals as goal

pub returns-clause-puts : goal.returns-clause-puts
returns-clause-puts c = record {
  here = c.in-Ok.ensures.updates.1;
  others = λ number version other. c.in-Ok.ensures.updates.2 (record { table = number; version = version }) other;
}
