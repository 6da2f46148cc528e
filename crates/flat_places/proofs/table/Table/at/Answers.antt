use Rattle.std.proofs.Common.{arith}
use Rattle.flat_places.specs.declared.fault.PlaceFault.TheVariants.{SmallVtable}
use Rattle.flat_places.specs.Fault.{TableFault}
use Rattle.flat_places.proofs.Numbers.{handed_on}
use Rattle.flat_places.proofs.Fields.{no_table, vtable_fault, size_cut}
use Rattle.flat_places.proofs.table.Table.at.Goals as goal

pub returns-in_err-vtable-clause-only : goal.returns-in_err-vtable-clause-only
returns-in_err-vtable-clause-only c = λ has.
    absurd (no_table c.args.buf.now c.args.place c.in_err-vtable.field-0.0
    (vtable_fault c.args.buf.now c.args.place c.in_err-vtable.field-0.0 c.in_err-vtable.ensures.fault) has)

pub returns-in_err-own_size-clause-fault : goal.returns-in_err-own_size-clause-fault
returns-in_err-own_size-clause-fault c =
    let e = c.in_err-own_size.field-0.0 in
    handed_on (TableFault c.args.buf.now c.args.place) c.from_residual-in_err-own_size.result e
    c.from_residual-in_err-own_size.ensures.1
    (size_cut c.args.buf.now c.args.place c.in_ok-vtable.vtable e c.in_ok-vtable.ensures.read
    c.in_err-own_size.ensures.fault)

pub returns-in_err-own_size-clause-only : goal.returns-in_err-own_size-clause-only
returns-in_err-own_size-clause-only c = λ has.
    let e = c.in_err-own_size.field-0.0 in
    absurd (no_table c.args.buf.now c.args.place e
    (size_cut c.args.buf.now c.args.place c.in_ok-vtable.vtable e c.in_ok-vtable.ensures.read
    c.in_err-own_size.ensures.fault) has)

pub returns-then-own_size-lt-SIZES_LEN-clause-only : goal.returns-then-own_size-lt-SIZES_LEN-clause-only
returns-then-own_size-lt-SIZES_LEN-clause-only c = λ has.
    absurd (no_table c.args.buf.now c.args.place SmallVtable (
      c.in_ok-vtable.vtable,
      c.in_ok-own_size.own_size,
      record { leads = c.in_ok-vtable.ensures.read; size = c.in_ok-own_size.ensures.read },
      omega arith,
    ) has)
