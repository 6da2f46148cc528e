-- One worked header and body for each fault.
use Rattle.std.proofs.Common.{◌≡◌, inl, inr, refl, zero, suc, ◌+◌, ◌≤◌, pos, ◌≤ℤ◌, List, [], ◌∷◌, get_or, arith, true≢false}
use Rattle.std.proofs.lemmas.Int.{ints}
use Rattle.std.specs.Str.{IsUtf8, is_utf8, chars}
use Rattle.std.specs.Str.Lossy.{utf8_valid_len}
use Rattle.std.proofs.lemmas.Str.{utf8_valid_len-IsUtf8}
use Rattle.batch_types.specs.declared.fault.BatchFault.TheVariants as fault
use Rattle.batch_types.specs.Layouts.{bytes_layout, utf8_layout}
use Rattle.batch_types.specs.Laid.{Range, laid, no_column, column_then}
use Rattle.batch_types.specs.Placed.{buffer_at, offset_at}
use Rattle.batch_types.specs.Rules.{IsInside, HasBuffers, DoRise}
use Rattle.batch_types.specs.LaysOut.{values_limit, HasRowsWithin, HasBody, IsFaultOf}
use Rattle.batch_types.specs.Examples.{int8_table, int8_body, no_texts_table, compressed_head, long_head, heavy_head, nodeless_head}
use Rattle.batch_types.specs.Examples.{bufferless_head, bodiless_head, cut_head, short_head, garbled_head, garbled_body}
use Rattle.batch_types.proofs.WorkedBatches.{all_below, few_of, body_there, some_node, range_within, below}

pub compressed : IsFaultOf int8_table compressed_head int8_body fault.Compressed
compressed = inl (inl (refl, λ plain. true≢false plain))

pub too_many_rows : IsFaultOf int8_table long_head int8_body fault.TooManyRows
too_many_rows = inl (inr (refl, inl (refl, λ few. omega (arith, ints, few.few))))

pub too_many_values : IsFaultOf int8_table heavy_head int8_body fault.TooManyRows
too_many_values = inl (inr (refl, inl (refl, λ few. more few)))
  where
    more : HasRowsWithin heavy_head → ⊥
    more few = let most : pos 16777217 ≤ℤ pos values_limit = few.nodes_few 0 (omega arith) in omega (arith, ints, most)

pub node_count : IsFaultOf int8_table nodeless_head int8_body fault.NodeCount
node_count = inl (inr (refl, inr (few_of nodeless_head 3 0 refl (omega arith) refl tt, inl (refl, none))))
  where
    none : zero ≡ suc zero → ⊥
    none same = omega arith

pub buffer_count : IsFaultOf int8_table bufferless_head int8_body fault.BufferCount
buffer_count =
    inl (inr (refl, inr (few_of bufferless_head 3 1 refl (omega arith) refl (tt, some_node 3 1 (omega arith)), inr (refl, inl (refl, none)))))
  where
    none : zero ≡ suc (suc zero) → ⊥
    none same = omega arith

pub body_range : IsFaultOf int8_table bodiless_head int8_body fault.BufferRange
body_range =
    inl (inr (
      refl,
      inr (
        few_of bodiless_head 3 1 refl (omega arith) refl (tt, some_node 3 1 (omega arith)),
        inr (refl, inr (refl, inl (refl, short))),
      ),
    ))
  where
    short : HasBody bodiless_head int8_body → ⊥
    short body = let there : pos 17 ≤ℤ pos 16 = body.there in omega (arith, ints, there)

pub buffer_range : IsFaultOf int8_table cut_head int8_body fault.BufferRange
buffer_range =
    inr (
      (refl, (few_of cut_head 3 1 refl (omega arith) refl (tt, some_node 3 1 (omega arith)), (refl, (refl, (body_there cut_head int8_body 16 refl (omega arith), tt))))),
      (
        column_then (laid (bytes_layout 1) (pos 3, pos 1) ((pos 0, pos 1) ∷ (pos 8, pos 2) ∷ []) no_column) no_column,
        record { of_schema = ((refl, refl, tt), tt); nodes = refl; buffers = refl },
        inl (inl (inl (refl, short))),
      ),
    )
  where
    short : HasBuffers int8_body (bytes_layout 1) (pos 3, pos 1) ((pos 0, pos 1) ∷ (pos 8, pos 2) ∷ []) → ⊥
    short buffers = let long : 3 ≤ 2 = buffers.long_enough.1 in omega arith

abbrev short_ranges : List Range
short_ranges = (pos 0, pos 1) ∷ (pos 8, pos 3) ∷ []

pub child_short : IsFaultOf int8_table short_head int8_body fault.ChildShort
child_short =
    inr (
      (refl, (few_of short_head 3 1 refl (omega arith) refl (tt, some_node 2 1 (omega arith)), (refl, (refl, (body_there short_head int8_body 16 refl (omega arith), tt))))),
      (
        column_then (laid (bytes_layout 1) (pos 2, pos 1) short_ranges no_column) no_column,
        record { of_schema = ((refl, refl, tt), tt); nodes = refl; buffers = refl },
        inl (inl (inr (buffers, inr (refl, inr (tt, inl (refl, λ long. short long)))))),
      ),
    )
  where
    buffers : HasBuffers int8_body (bytes_layout 1) (pos 2, pos 1) short_ranges
    buffers = record {
      within = all_below (λ n. IsInside 16 (get_or short_ranges n (pos 0, pos 0))) 2 ((tt, range_within 16 0 1 (omega arith)), range_within 16 8 3 (omega arith));
      long_enough = (inr (omega arith), omega arith);
    }

    short : 3 ≤ 2 → ⊥
    short long = omega arith

abbrev garbled_ranges : List Range
garbled_ranges = (pos 0, pos 0) ∷ (pos 0, pos 8) ∷ (pos 8, pos 1) ∷ []

garbled_buffers : HasBuffers garbled_body (utf8_layout 4) (pos 1, pos 0) garbled_ranges
garbled_buffers = record {
  within = all_below (λ n. IsInside 16 (get_or garbled_ranges n (pos 0, pos 0))) 3
      (((tt, range_within 16 0 0 (omega arith)), range_within 16 0 8 (omega arith)), range_within 16 8 1 (omega arith));
  long_enough = (inl (refl, refl), inr (omega arith));
}

garbled_offsets : DoRise 4 (buffer_at garbled_body garbled_ranges 1) 1 1
garbled_offsets = record {
  begins = below 0 0 (omega arith);
  rises = all_below (λ j. offset_at 4 (buffer_at garbled_body garbled_ranges 1) j ≤ℤ offset_at 4 (buffer_at garbled_body garbled_ranges 1) (j + 1)) 1
      (tt, below 0 1 (omega arith));
  ends = below 1 1 (omega arith);
}

no_character : IsUtf8 (255 ∷ []) → ⊥
unfolding utf8_valid_len is_utf8 chars
no_character text = let all : zero ≡ suc zero = utf8_valid_len-IsUtf8 (255 ∷ []) text in omega arith

pub not_utf8 : IsFaultOf no_texts_table garbled_head garbled_body fault.NotUtf8
not_utf8 =
    inr (
      (refl, (few_of garbled_head 1 1 refl (omega arith) refl (tt, some_node 1 0 (omega arith)), (refl, (refl, (body_there garbled_head garbled_body 16 refl (omega arith), tt))))),
      (
        column_then (laid (utf8_layout 4) (pos 1, pos 0) garbled_ranges no_column) no_column,
        record { of_schema = ((refl, refl, tt), tt); nodes = refl; buffers = refl },
        inl (inl (inr (garbled_buffers, inr (refl, inr (inr garbled_offsets, inr (omega arith, inl (refl, λ texts. no_character (texts 0 (omega arith))))))))),
      ),
    )
