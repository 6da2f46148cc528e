use Rattle.std.proofs.Common.{sym, subst, ◌++◌, ◌∷◌, []}
use Rattle.table_versions.specs.State.{HasTaken}
use Rattle.table_backend.proofs.backend.TableBackend.take.Goals as goal

pub invariant_of-self : goal.invariant_of-self
invariant_of-self c =
    let values = c.self.invariant.0 in (
      values ++ c.in-Ok.value ∷ [],
      c.apply.ensures.takes values (c.in-Ok.value ∷ [])
          (c.same_tables_hold_the_same.ensures c.self.inside.tables c.ready_with.new.self values c.in-Ok-ready_with.ensures.same c.self.invariant.1)
          c.in-Ok-ready_with.ensures.ready,
    )

pub returns-in-Ok-ready_with-clause-takes : goal.returns-in-Ok-ready_with-clause-takes
returns-in-Ok-ready_with-clause-takes c = λ values taken.
    let held = subst (λ b. HasTaken b.tables values) (sym c.self.view_is) taken in
    subst (λ v. HasTaken c.apply.new.self (values ++ v ∷ [])) c.in-Ok.ensures
    (c.apply.ensures.takes values (c.in-Ok.value ∷ [])
    (c.same_tables_hold_the_same.ensures c.self.inside.tables c.ready_with.new.self values c.in-Ok-ready_with.ensures.same held)
    c.in-Ok-ready_with.ensures.ready)
