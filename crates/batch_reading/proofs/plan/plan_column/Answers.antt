use Rattle.std.proofs.Common.{sym, subst, ℕ, List}
use Rattle.std.proofs.lemmas.Result.{IfOk-weaker}
use Rattle.batch_types.specs.Layouts.{bits_layout, bytes_layout, list_layout, fixed_size_list_layout}
use Rattle.batch_columns.specs.Held.{layout_named}
use Rattle.batch_reading.specs.Planned.{IsPlanned}
use Rattle.batch_reading.specs.Spots.{spots_of}
use Rattle.batch_reading.proofs.plan.plan_column.Goals as goal

pub returns-in-Null : goal.returns-in-Null
returns-in-Null c =
    subst (λ l. IsPlanned (layout_named l) c.args.source.now.validity.now c.args.source.now.offsets.now c.args.source.now.values.now (spots_of c.args.selection.now) c.plan_nulls.result)
    (sym c.in-Null.is) (c.plan_nulls.ensures c.args.source.now.validity.now c.args.source.now.offsets.now c.args.source.now.values.now)

pub returns-in-Bits : goal.returns-in-Bits
returns-in-Bits c =
    IfOk-weaker c.plan_bits.result
    (λ plan. (offsets : List ℕ) → IsPlanned bits_layout c.args.source.now.validity.now offsets c.args.source.now.values.now (spots_of c.args.selection.now) plan)
    (λ plan. IsPlanned (layout_named c.args.source.now.layout) c.args.source.now.validity.now c.args.source.now.offsets.now c.args.source.now.values.now (spots_of c.args.selection.now) plan)
    (λ plan planned.
    subst (λ l. IsPlanned (layout_named l) c.args.source.now.validity.now c.args.source.now.offsets.now c.args.source.now.values.now (spots_of c.args.selection.now) plan)
    (sym c.in-Bits.is) (planned c.args.source.now.offsets.now))
    c.plan_bits.ensures

pub returns-in-Bytes : goal.returns-in-Bytes
returns-in-Bytes c =
    IfOk-weaker c.plan_blocks.result
    (λ plan. (offsets : List ℕ) → IsPlanned (bytes_layout c.in-Bytes.size) c.args.source.now.validity.now offsets c.args.source.now.values.now (spots_of c.args.selection.now) plan)
    (λ plan. IsPlanned (layout_named c.args.source.now.layout) c.args.source.now.validity.now c.args.source.now.offsets.now c.args.source.now.values.now (spots_of c.args.selection.now) plan)
    (λ plan planned.
    subst (λ l. IsPlanned (layout_named l) c.args.source.now.validity.now c.args.source.now.offsets.now c.args.source.now.values.now (spots_of c.args.selection.now) plan)
    (sym c.in-Bytes.is) (planned c.args.source.now.offsets.now))
    c.plan_blocks.ensures

pub returns-in-List : goal.returns-in-List
returns-in-List c =
    IfOk-weaker c.plan_lists.result
    (λ plan. (values : List ℕ) → IsPlanned (list_layout 4) c.args.source.now.validity.now c.args.source.now.offsets.now values (spots_of c.args.selection.now) plan)
    (λ plan. IsPlanned (layout_named c.args.source.now.layout) c.args.source.now.validity.now c.args.source.now.offsets.now c.args.source.now.values.now (spots_of c.args.selection.now) plan)
    (λ plan planned.
    subst (λ l. IsPlanned (layout_named l) c.args.source.now.validity.now c.args.source.now.offsets.now c.args.source.now.values.now (spots_of c.args.selection.now) plan)
    (sym c.in-List.is) (planned c.args.source.now.values.now))
    c.plan_lists.ensures

pub returns-in-FixedSizeList : goal.returns-in-FixedSizeList
returns-in-FixedSizeList c =
    IfOk-weaker c.plan_sized_lists.result
    (λ plan. (offsets values : List ℕ) → IsPlanned (fixed_size_list_layout c.in-FixedSizeList.size) c.args.source.now.validity.now offsets values (spots_of c.args.selection.now) plan)
    (λ plan. IsPlanned (layout_named c.args.source.now.layout) c.args.source.now.validity.now c.args.source.now.offsets.now c.args.source.now.values.now (spots_of c.args.selection.now) plan)
    (λ plan planned.
    subst (λ l. IsPlanned (layout_named l) c.args.source.now.validity.now c.args.source.now.offsets.now c.args.source.now.values.now (spots_of c.args.selection.now) plan)
    (sym c.in-FixedSizeList.is) (planned c.args.source.now.offsets.now c.args.source.now.values.now))
    c.plan_sized_lists.ensures
