use Rattle.std.proofs.Common.{◌++◌, refl, sym, ap, subst, arith}
use Rattle.table_versions.specs.State.{HasTaken, IsReadyFor}
use Rattle.table_versions.proofs.States.{can_take, taken_both}
use Rattle.table_versions.proofs.tables.Tables.apply.Goals as goal

pub take_all-requires-clause-ledger : goal.take_all-requires-clause-ledger
take_all-requires-clause-ledger c =
    let s = c.self.invariant in
    let r = c.ready.invariant in
    can_take c.texts_hold_one_list_of_uploads.ensures.few _ s.0 r.0 _ s.1 r.1
    (omega (arith, c.requires.few, ap (λ t. t.taken) c.self.view_is, ap (λ t. t.count) c.ready.view_is))

pub invariant_of-self : goal.invariant_of-self
invariant_of-self c =
    let s = c.self.invariant in
    let r = c.ready.invariant in (
      s.0 ++ r.0,
      taken_both c.texts_hold_one_list_of_uploads.ensures.both _ _ s.0 r.0 _ s.1 r.1
          (omega (arith, c.requires.few, ap (λ t. t.taken) c.self.view_is, ap (λ t. t.count) c.ready.view_is)) refl c.take_all.ensures.takes,
    )

pub returns-clause-takes : goal.returns-clause-takes
returns-clause-takes c = λ taken values has is.
    taken_both c.texts_hold_one_list_of_uploads.ensures.both _ _ taken values _ (subst (λ s. HasTaken s taken) (sym c.self.view_is) has) (subst (λ r. IsReadyFor r values) (sym c.ready.view_is) is)
    (omega (arith, c.requires.few, ap (λ t. t.taken) c.self.view_is, ap (λ t. t.count) c.ready.view_is)) refl c.take_all.ensures.takes
