use Rattle.std.proofs.Common.{◌≡◌, sym, ap, subst, ◌∙◌, pos, Fits, w64, arith, rules}
use Rattle.std.proofs.lemmas.Int.{to_z-of_z}
use lib.Dec.{T}
use lib.Signed.{non_neg}
use lib.IntN.{nat_abs}
use mir.Val.{SFits}
use Rattle.batch_types.specs.Canonical.{canonical_head}
use Rattle.header_types.specs.Header.{batch_header}
use Rattle.header_types.specs.HeaderViews.{header_of, head_of}
use Rattle.header_types.specs.Views.{schema_of}
use Rattle.table_versions.proofs.Serving.{head_shown, length_is, kinds_differ, fits_64}
use Rattle.table_versions.proofs.preparing.rows_in.Goals as goal

pub overflow_cast-result : goal.overflow_cast-result
overflow_cast-result c =
    let r = c.requires in
    let shown = head_shown c.written_headers_are_shown.ensures c.batches_have_headers.ensures c.args.header.now r.0 r.1 r.2 in
    let is : c.in-Ok-Batch.head.length ≡ pos r.1.count =
    length_is (head_of c.in-Ok-Batch.head) (canonical_head r.0 r.1)
    (ap header_of (sym c.in-Ok-Batch.field-0-is) ∙ c.in-Ok-Batch.ensures.only (batch_header (canonical_head r.0 r.1)) shown)
    in
    let fits : SFits w64 c.in-Ok-Batch.head.length = search rules in
    subst (λ z. T (non_neg z) × Fits w64 (nat_abs z)) (sym (to_z-of_z w64 c.in-Ok-Batch.head.length fits ∙ is))
    (tt, fits_64 r.1.count (omega (arith, r.2.can.few)))

pub unreachable-requires : goal.unreachable-requires
unreachable-requires c =
    let r = c.requires in
    let shown = head_shown c.written_headers_are_shown.ensures c.batches_have_headers.ensures c.args.header.now r.0 r.1 r.2 in
    kinds_differ (schema_of c.in-Ok-Schema.field-0-0) (canonical_head r.0 r.1)
    (ap header_of (sym c.in-Ok-Schema.field-0-is) ∙ c.in-Ok-Schema.ensures.only (batch_header (canonical_head r.0 r.1)) shown)

pub returns-in-Ok-Batch : goal.returns-in-Ok-Batch
returns-in-Ok-Batch c = λ schema rows written.
    let shown = head_shown c.written_headers_are_shown.ensures c.batches_have_headers.ensures c.args.header.now schema rows written in
    let is : c.in-Ok-Batch.head.length ≡ pos rows.count =
    length_is (head_of c.in-Ok-Batch.head) (canonical_head schema rows)
    (ap header_of (sym c.in-Ok-Batch.field-0-is) ∙ c.in-Ok-Batch.ensures.only (batch_header (canonical_head schema rows)) shown)
    in
    let fits : SFits w64 c.in-Ok-Batch.head.length = search rules in
    ap nat_abs (to_z-of_z w64 c.in-Ok-Batch.head.length fits ∙ is)
