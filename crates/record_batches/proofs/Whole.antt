-- What is written of a batch from nothing on is its header and its body.
use Rattle.std.proofs.Common.{◌≡◌, sym, ap, ap₂, subst, ◌∙◌, ℕ, ◌+◌, ◌<◌, ◌^◌, ℤ, pos, false, List, [], ◌++◌, length, arith}
use Rattle.header_types.specs.Fields.{SchemaTree}
use Rattle.header_types.specs.Header.{Head}
use Rattle.batch_types.specs.Laid.{Node, Range}
use Rattle.batch_types.specs.Canonical.{body_with, ranges_from, canonical_parts, canonical_head, canonical_body}
use Rattle.batch_columns.specs.Batches.{rows_of, IsBatchOf}
use Rattle.batch_columns.specs.Contents.{Contents}
use Rattle.batch_columns.specs.declared.batch.Batch.{Batch}
use Rattle.record_batches.specs.Parts.{parts_held}
use Rattle.record_batches.specs.Adds.{Adds}
use Rattle.record_batches.specs.declared.head.HeadWriter.{HeadWriter}
use Rattle.record_batches.proofs.Adding.{put_into_none}
use Rattle.record_batches.proofs.Inside.{HaveFew}
use Rattle.record_batches.proofs.Lengths.{parts_are}

abbrev head_made : ℤ → List Node → List Range → ℤ → Head
head_made rows nodes buffers bytes = record { length = rows; nodes = nodes; buffers = buffers; compressed = false; body_length = bytes }

module _ (schema : SchemaTree) (batch : Batch) (columns : List Contents) (of_schema : IsBatchOf schema batch) (lent : columns ≡ batch.columns.items) where
  same_parts : canonical_parts schema (rows_of batch) ≡ parts_held columns
  same_parts = parts_are schema batch of_schema.shapes ∙ ap parts_held (sym lent)

  pub few_values : HaveFew (parts_held columns)
  few_values = subst HaveFew same_parts of_schema.values_few

  pub body_appended : (old new : List ℕ) → new ≡ old ++ body_with (parts_held columns).buffers → new ≡ old ++ canonical_body schema (rows_of batch)
  body_appended old new put = put ∙ ap (λ p. old ++ body_with p.buffers) (sym same_parts)

  pub short_parts : length (canonical_body schema (rows_of batch)) < 2 ^ 63 → 0 + length (body_with (parts_held columns).buffers) < 2 ^ 63
  short_parts short = omega (arith, short, ap (λ p. length (body_with p.buffers)) same_parts)

  module _ (x y : HeadWriter) (nodes : x.nodes.items ≡ []) (buffers : x.buffers.items ≡ []) (end : x.end ≡ 0) (added : Adds x y (parts_held columns)) where
    pub end_written : y.end ≡ length (canonical_body schema (rows_of batch))
    end_written =
        (put_into_none x y (parts_held columns) nodes buffers end added).2 ∙ ap (λ p. length (body_with p.buffers)) (sym same_parts)

    pub head_written : (rows bytes : ℤ) → rows ≡ pos batch.rows → bytes ≡ pos y.end
        → head_made rows y.nodes.items y.buffers.items bytes ≡ canonical_head schema (rows_of batch)
    head_written rows bytes rows_are bytes_are =
        let put = put_into_none x y (parts_held columns) nodes buffers end added in
        ap₂ (λ n m. head_made n y.nodes.items y.buffers.items m) rows_are (bytes_are ∙ ap pos end_written)
        ∙ ap₂ (λ n b. head_made (pos batch.rows) n b (pos (length (canonical_body schema (rows_of batch)))))
        (put.0 ∙ ap (λ p. p.nodes) (sym same_parts)) (put.1 ∙ ap (λ p. ranges_from 0 p.buffers) (sym same_parts))
