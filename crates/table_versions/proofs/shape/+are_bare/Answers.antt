use Rattle.std.proofs.Common.{◌≡◌, ◌+◌, suc, refl, subst, drop, vec_len, arith}
use Rattle.header_types.specs.declared.schema.Field.{out-Field}
use Rattle.table_versions.proofs.BareFields.{IsBare, no_entries, bare_then, bare_at_end}
use Rattle.table_versions.proofs.shape.+are_bare.Goals as goal

pub loop-field-preserved : goal.loop-field-preserved
loop-field-preserved t c rest =
    let next : c.loop-field.field-index + 1 ≡ suc c.loop-field.field-index = omega arith in
    c.loop-field.invariant
    (bare_then c.args.fields.now c.loop-field.field-index c.field-item.result c.loop-field-test.true c.field-item.is
    (no_entries (out-Field c.field-item.result).metadata.items (vec_len (out-Field c.field-item.result).metadata) (out-Field c.field-item.result).metadata.ok.0 c.if-not-is_empty.ensures)
    (subst IsBare c.deref.ensures.value (c.if-not-are_bare.ensures refl))
    (subst (λ n. IsBare (drop n c.args.fields.now)) next rest))

pub returns : goal.returns
returns t c is = c.loop-field.invariant (bare_at_end c.args.fields.now c.loop-field.field-index c.loop-field-test.false)
