use Rattle.std.proofs.Common.{◌≡◌, ◌<◌, ◌+◌, ◌*◌, Ok, Some, None, inl, inr, true, false, refl, ap, arith, rules}
use Rattle.std.proofs.lemmas.Bool.{cases_lt}
use Rattle.flat_places.specs.Fault.{CutSlotFault}
use Rattle.flat_places.proofs.Numbers.{handed_on}
use Rattle.flat_places.proofs.Fields.{seen_shows, seen_cut, cut_slot_fault, field_same, field_not_cut, field_short}
use Rattle.flat_places.proofs.Fields.{seen_zero, seen_there}
use Rattle.flat_places.proofs.table.Table.slot.Goals as goal

pub returns-then-not-has_slot-clause-only : goal.returns-then-not-has_slot-clause-only
returns-then-not-has_slot-clause-only c = λ field shown.
    let few : c.self.inside.own_size < 6 + 2 * c.args.n = elim (cases_lt c.self.inside.own_size (6 + 2 * c.args.n)) [
      | inl few ↦ few
      | inr has ↦ let no : false ≡ true = c.if-not-has_slot.ensures.1 has in cc
    ] in
    let read = field_short c.args.self.now.buf c.args.self.now.place c.args.n c.self.inside.vtable
    c.self.inside.own_size (seen_shows c.self.inside c.args.self.now c.self.view_is c.self.invariant)
    c.self.invariant.whole few in
    ap Ok (field_same c.args.self.now.buf c.args.self.now.place c.args.n None field read shown)

pub returns-in_err-offset-clause-fault : goal.returns-in_err-offset-clause-fault
returns-in_err-offset-clause-fault c =
    let e = c.in_err-offset.field-0.0 in
    handed_on (CutSlotFault c.args.self.now.buf c.args.self.now.place c.args.n) c.from_residual.result e
    c.from_residual.ensures.1
    (seen_cut c.self.inside c.args.self.now c.args.n e c.self.view_is c.self.invariant
    (c.if-not-has_slot.ensures.0 refl) c.in_err-offset.ensures.fault)

pub returns-in_err-offset-clause-only : goal.returns-in_err-offset-clause-only
returns-in_err-offset-clause-only c = λ field shown.
    let e = c.in_err-offset.field-0.0 in
    let cut = seen_cut c.self.inside c.args.self.now c.args.n e c.self.view_is c.self.invariant
    (c.if-not-has_slot.ensures.0 refl) c.in_err-offset.ensures.fault in
    absurd (field_not_cut c.args.self.now.buf c.args.self.now.place c.args.n e field
    (cut_slot_fault c.args.self.now.buf c.args.self.now.place c.args.n e cut) shown)

pub returns-in-0-clause-read : goal.returns-in-0-clause-read
returns-in-0-clause-read c =
    seen_zero c.self.inside c.args.self.now c.args.n c.in_ok-offset.offset c.self.view_is c.self.invariant
    c.in_ok-offset.ensures.read c.in-0.is

pub returns-in-0-clause-only : goal.returns-in-0-clause-only
returns-in-0-clause-only c = λ field shown.
    ap Ok (field_same c.args.self.now.buf c.args.self.now.place c.args.n None field (returns-in-0-clause-read c) shown)

pub returns-in_default-clause-read : goal.returns-in_default-clause-read
returns-in_default-clause-read c =
    seen_there c.self.inside c.args.self.now c.args.n c.in_ok-offset.offset c.self.view_is c.self.invariant
    (c.if-not-has_slot.ensures.0 refl) c.in_ok-offset.ensures.read (omega arith)

pub returns-in_default-clause-only : goal.returns-in_default-clause-only
returns-in_default-clause-only c = λ field shown.
    ap Ok (field_same c.args.self.now.buf c.args.self.now.place c.args.n
    (Some (c.self.inside.place + c.in_ok-offset.offset)) field (returns-in_default-clause-read c) shown)

pub returns-then-not-has_slot-clause-read : goal.returns-then-not-has_slot-clause-read
returns-then-not-has_slot-clause-read c =
    let few : c.self.inside.own_size < 6 + 2 * c.args.n = elim (cases_lt c.self.inside.own_size (6 + 2 * c.args.n)) [
      | inl few ↦ few
      | inr has ↦ let no : false ≡ true = c.if-not-has_slot.ensures.1 has in cc
    ] in
    field_short c.args.self.now.buf c.args.self.now.place c.args.n c.self.inside.vtable c.self.inside.own_size
    (seen_shows c.self.inside c.args.self.now c.self.view_is c.self.invariant) c.self.invariant.whole few

pub returns-then-not-has_slot-clause-fault : goal.returns-then-not-has_slot-clause-fault
returns-then-not-has_slot-clause-fault c = search rules steps 300000

pub returns-in-0-clause-fault : goal.returns-in-0-clause-fault
returns-in-0-clause-fault c = search rules steps 300000

pub returns-in_default-clause-fault : goal.returns-in_default-clause-fault
returns-in_default-clause-fault c = search rules steps 300000
