use Rattle.cluster_identity.proofs.Told.{read_is_none, read_is_one}
use Rattle.cluster_identity.proofs.reading.read_identity.Goals as goal

pub returns-in-Ok-Some-identity_in-clause-only : goal.returns-in-Ok-Some-identity_in-clause-only
returns-in-Ok-Some-identity_in-clause-only c = λ members id files means.
    read_is_one c.args.text.now c.in-Ok-Some.field-0 c.in-Ok-Some.value c.in-Ok-Some-identity_in.field-0 c.in-Ok-Some-identity_in.identity members id files
    c.in-Ok-Some.field-0-is c.in-Ok-Some.ensures.read c.in-Ok-Some-identity_in.field-0-is c.in-Ok-Some-identity_in.ensures means

pub returns-in-Ok-None-identity_in-clause-only : goal.returns-in-Ok-None-identity_in-clause-only
returns-in-Ok-None-identity_in-clause-only c = λ members id files means.
    absurd (read_is_none c.args.text.now c.in-Ok-Some.field-0 c.in-Ok-Some.value c.in-Ok-None-identity_in.field-0 members id files
    c.in-Ok-Some.field-0-is c.in-Ok-Some.ensures.read c.in-Ok-None-identity_in.field-0-is c.in-Ok-None-identity_in.ensures means)
