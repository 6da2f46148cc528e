use Rattle.std.proofs.Common.{◌+◌, ◌++◌, [], ◌∷◌, sym, ap, subst, ◌∙◌, map, arith}
use Rattle.table_types.specs.Served.{in_frame, data_text}
use Rattle.table_types.specs.Valid.{FitsFrame}
use Rattle.uploads.specs.Parts.{batch_parts}
use Rattle.table_versions.proofs.Serving.{IsServing, serving_next, serving_shorter, serving_end, alone_fits, fits_64}
use Rattle.table_versions.proofs.preparing.served.Goals as goal

pub data_frame-requires : goal.data_frame-requires
data_frame-requires c =
    let is = c.requires in
    subst (λ id. FitsFrame (data_text [] id [])) (sym (c.id-id.ensures is.0 is.1.0 is.1.1))
    (alone_fits is.0 is.1.0 (sym (c.batch_count.ensures is.0 is.1.0 is.1.1) ∙ c.if-batch_count-eq0.true))

pub data_frame-requires-in-Some : goal.data_frame-requires-in-Some
data_frame-requires-in-Some c =
    let is = c.requires in
    let s = c.loop-header.invariant is.0 is.1.0 is.1.1 in
    let next = serving_next is.0 is.1.0 c.loop-header.frames.items c.loop-header.records c.loop-header.batches c.next.new.self (c.in-Some.header, c.in-Some.body) s
    (c.in-Some.ensures (map (batch_parts is.0.schema) s.rest) s.left_is)
    in
    subst (λ id. FitsFrame (data_text c.in-Some.header.now id c.in-Some.body.now)) (sym (c.id-id.ensures is.0 is.1.0 is.1.1)) next.fits

pub rows_in-requires : goal.rows_in-requires
rows_in-requires c =
    let is = c.requires in
    let s = c.loop-header.invariant is.0 is.1.0 is.1.1 in
    let next = serving_next is.0 is.1.0 c.loop-header.frames.items c.loop-header.records c.loop-header.batches c.next.new.self (c.in-Some.header, c.in-Some.body) s
    (c.in-Some.ensures (map (batch_parts is.0.schema) s.rest) s.left_is)
    in
    (is.0.schema, next.rows, next.written)

pub overflow_add-records : goal.overflow_add-records
overflow_add-records c =
    let is = c.requires in
    let s = c.loop-header.invariant is.0 is.1.0 is.1.1 in
    let next = serving_next is.0 is.1.0 c.loop-header.frames.items c.loop-header.records c.loop-header.batches c.next.new.self (c.in-Some.header, c.in-Some.body) s
    (c.in-Some.ensures (map (batch_parts is.0.schema) s.rest) s.left_is)
    in
    fits_64 (c.loop-header.records + c.in_ok-records.field-0)
    (omega (arith, next.small, c.in_ok-records.ensures is.0.schema next.rows next.written))

pub loop-header-smaller : goal.loop-header-smaller
loop-header-smaller c =
    let is = c.requires in
    let s = c.loop-header.invariant is.0 is.1.0 is.1.1 in
    serving_shorter is.0 c.loop-header.frames.items c.loop-header.records c.loop-header.batches c.next.new.self (c.in-Some.header, c.in-Some.body) s
    (c.in-Some.ensures (map (batch_parts is.0.schema) s.rest) s.left_is)

pub loop-header-preserved : goal.loop-header-preserved
loop-header-preserved c = λ uploaded valid text.
    let s = c.loop-header.invariant uploaded valid text in
    let next = serving_next uploaded valid c.loop-header.frames.items c.loop-header.records c.loop-header.batches c.next.new.self (c.in-Some.header, c.in-Some.body) s
    (c.in-Some.ensures (map (batch_parts uploaded.schema) s.rest) s.left_is)
    in
    subst (λ n. IsServing uploaded c.push-in-Some.new.self.items (c.loop-header.records + n) c.next.new.self)
    (sym (c.in_ok-records.ensures uploaded.schema next.rows next.written))
    (next.step c.push-in-Some.new.self.items
    (c.in_ok-push-2.ensures.items ∙ ap (λ f. c.loop-header.frames.items ++ f ∷ []) (c.in_ok-data_frame-2.ensures ∙ ap (λ id. in_frame (data_text c.in-Some.header.now id c.in-Some.body.now)) (c.id-id.ensures uploaded valid text))))

pub returns : goal.returns
returns c = λ uploaded valid text.
    let s = c.loop-header.invariant uploaded valid text in
    let whole = serving_end uploaded c.loop-header.frames.items c.loop-header.records c.loop-header.batches c.next.new.self s
    (λ none. c.if-batch_count-eq0.false (c.batch_count.ensures uploaded valid text ∙ none))
    (c.in_default.ensures (map (batch_parts uploaded.schema) s.rest) s.left_is)
    in
    record { frames = whole.0; records = whole.1 }
