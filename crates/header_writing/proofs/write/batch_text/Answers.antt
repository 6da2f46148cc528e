use Rattle.std.proofs.Common.{ℤ, ap, ◌∙◌, rules}
use Rattle.std.specs.Int.{w64}
use Rattle.std.specs.Int.RustNames.{FitsSigned}
use Rattle.std.proofs.lemmas.Int.{to_z-of_z}
use Rattle.header_writing.specs.Canonical.{int64_number, batch_object}
use Rattle.header_writing.specs.Filling.{message_begun}
use Rattle.header_types.specs.HeaderViews.{head_of}
use Rattle.header_writing.proofs.Writers.{message_put}
use Rattle.header_writing.proofs.write.batch_text.Goals as goal

pub returns-clause-written : goal.returns-clause-written
returns-clause-written c =
    let fits : FitsSigned w64 c.args.head.now.body_length = search rules in
    message_put c.put_message.new.text.items c.put_batch.new.text.items c.pad.new.text.items 3
    (int64_number c.args.head.now.body_length) c.in_ok-header.header
    (batch_object (head_of c.args.head.now))
    (c.in_ok-header.ensures.begun ∙ ap (λ (z : ℤ). message_begun 3 (int64_number z))
    (to_z-of_z w64 c.args.head.now.body_length fits))
    c.in_ok-header.ensures.header c.in_ok-put_batch.ensures.put c.in_ok-pad.ensures.padded

pub returns-clause-fits : goal.returns-clause-fits
returns-clause-fits c =
    let fits : FitsSigned w64 c.args.head.now.body_length = search rules in
    let parts = c.in_ok-put_batch.ensures.fit in
    record { length = parts.length; nodes = parts.nodes; buffers = parts.buffers; body_length = fits }
