use Rattle.std.proofs.Common.{subst}
use Rattle.table_versions.specs.State.{HasTaken}
use Rattle.table_backend.proofs.backend.TableBackendBackend.outcome.Goals as goal

pub returns-clause-decided : goal.returns-clause-decided
returns-clause-decided c =
    let values = c.self.invariant.0 in
    let taken = c.self.invariant.1 in (
      values,
      taken.uploads,
      subst (λ b. HasTaken b.tables values) c.self.view_is taken,
      taken.are,
      λ upload is text. c.outcome.ensures values taken.uploads upload taken taken.are is text,
    )
