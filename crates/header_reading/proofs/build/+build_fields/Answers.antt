use Rattle.std.proofs.Common.{◌≡◌, ◌⊎◌, map, rules}
use Rattle.header_types.specs.declared.schema.Field.{the_lemmas}
use Rattle.header_types.specs.Fields.{tree}
use Rattle.header_types.specs.declared.fault.MetaFault.{MetaFault}
use Rattle.header_types.specs.declared.fault.MetaFault.TheVariants.{OutOfMemory}
use Rattle.header_types.specs.Views.{entry_of, tree_of, forest_of}
use Rattle.header_reading.specs.VectorRefs.{vector_ref_of}
use Rattle.header_types.specs.Totals.{totals_of}
use Rattle.header_reading.specs.Walking.{ForestEnd}
use Rattle.header_reading.specs.Building.{field_built}
use Rattle.header_reading.proofs.SlotFacts.{handed_on}
use Rattle.header_reading.proofs.Walking.{fields_pass_within, fields_end_within, inner_ends_within}
use Rattle.header_reading.proofs.Building.{or_memory, fields_built, tree_built}
use Rattle.header_reading.proofs.build.+build_fields.Goals as goal

pub returns-in_err-built-clause-ends : goal.returns-in_err-built-clause-ends
returns-in_err-built-clause-ends t c =
    let e : MetaFault = c.in_err-built.field-0.0 in
    handed_on (λ e. (e ≡ OutOfMemory) ⊎ ForestEnd c.args.buf.now c.args.levels (vector_ref_of c.args.vector)
    (totals_of c.args.seen) e) c.from_residual.result e c.from_residual.ensures.1
    (or_memory e (fields_end_within c.args.buf.now
    (vector_ref_of c.args.vector) c.loop-index.index c.args.levels c.element-table.result (totals_of c.args.seen)
    (totals_of c.loop-index.seen) e
    c.if-levels-eq0.false c.loop-index.invariant.2 c.loop-index-test.true c.element-table.ensures)
    c.in_err-built.ensures.ends)

pub returns-in_err-children-clause-ends : goal.returns-in_err-children-clause-ends
returns-in_err-children-clause-ends t c =
    let e : MetaFault = c.in_err-children.field-0.0 in
    handed_on (λ e. (e ≡ OutOfMemory) ⊎ ForestEnd c.args.buf.now c.args.levels (vector_ref_of c.args.vector)
    (totals_of c.args.seen) e) c.from_residual-in_err-children.result e c.from_residual-in_err-children.ensures.1
    (or_memory e (inner_ends_within c.args.buf.now
    (vector_ref_of c.args.vector) c.loop-index.index c.args.levels c.element-table.result
    (vector_ref_of c.in_ok-built.built.children)
    (totals_of c.args.seen) (totals_of c.loop-index.seen) (totals_of c.in_ok-built.after) e
    c.if-levels-eq0.false c.loop-index.invariant.2 c.loop-index-test.true c.element-table.ensures
    c.in_ok-built.ensures.passes) c.in_err-children.ensures.ends)

pub loop-index-preserved : goal.loop-index-preserved
loop-index-preserved t c =
    let built =
    fields_built c.args.buf.now c.args.vector.first c.loop-index.index c.element-table.result c.loop-index.fields.items
    c.push.new.items.items _
    c.loop-index.invariant.0 c.loop-index.invariant.1 c.element-table.ensures c.in_ok-push.ensures.appended
    (tree (field_built c.in_ok-built.built) (map entry_of c.in_ok-built.built.metadata.items)
    (forest_of (map tree_of c.in_ok-children.children.items)))
    (search (rules, the_lemmas))
    (tree_built c.args.buf.now c.element-table.result (field_built c.in_ok-built.built)
    (map entry_of c.in_ok-built.built.metadata.items) (vector_ref_of c.in_ok-built.built.children)
    c.in_ok-children.children.items c.in_ok-built.ensures.read c.in_ok-children.ensures.read
    c.in_ok-children.ensures.all) in (
      built.0,
      built.1,
      fields_pass_within c.args.buf.now c.args.vector.first c.loop-index.index c.args.levels c.element-table.result
          (vector_ref_of c.in_ok-built.built.children)
          (totals_of c.args.seen) (totals_of c.loop-index.seen) (totals_of c.in_ok-built.after)
          (totals_of c.in_ok-children.more)
          c.if-levels-eq0.false c.loop-index.invariant.2 c.element-table.ensures c.in_ok-built.ensures.passes
          c.in_ok-children.ensures.passes,
      c.in_ok-children.ensures.within,
    )
