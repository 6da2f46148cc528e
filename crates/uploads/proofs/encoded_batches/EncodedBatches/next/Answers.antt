use Rattle.std.proofs.Common.{sym, ◌∙◌, subst}
use Rattle.uploads.specs.Parts.{HasLeft, batch_text, batches_text}
use Rattle.uploads.proofs.Walk.{left_first, gives_next}
use Rattle.uploads.proofs.encoded_batches.EncodedBatches.next.Goals as goal

pub split_part-requires : goal.split_part-requires
split_part-requires c =
    let left = left_first c.self.inside.rest.now c.self.invariant.0 c.self.invariant.1 (sym c.is_empty.ensures ∙ c.if-is_empty.false) in
    (4, batch_text left.0, batches_text left.1, left.4)

pub split_batch-requires : goal.split_batch-requires
split_batch-requires c =
    let left = left_first c.self.inside.rest.now c.self.invariant.0 c.self.invariant.1 (sym c.is_empty.ensures ∙ c.if-is_empty.false) in
    (left.0, left.3, (c.split_part.ensures 4 (batch_text left.0) (batches_text left.1) left.4).0)

pub invariant_of-self : goal.invariant_of-self
invariant_of-self c =
    let left = left_first c.self.inside.rest.now c.self.invariant.0 c.self.invariant.1 (sym c.is_empty.ensures ∙ c.if-is_empty.false) in (
      left.1,
      record {
        is = (c.split_part.ensures 4 (batch_text left.0) (batches_text left.1) left.4).1;
        each = left.5;
      },
    )

pub returns : goal.returns
returns c = λ batches left.
    gives_next c.self.inside.rest.now c.split_part.result.0.now c.split_part.result.1.now c.split_batch.result batches
    (subst (λ l. HasLeft l batches) (sym c.self.view_is) left)
    (sym c.is_empty.ensures ∙ c.if-is_empty.false) c.split_part.ensures c.split_batch.ensures
