use Rattle.std.proofs.Common.{◌≡◌, sym, ap, ◌⊎◌, inl, inr, ℕ, ◌+◌}
use Rattle.batch_columns.specs.Held.{layout_named}
use Rattle.batch_columns.specs.declared.layout.Layout.TheVariants.{Null, Bits, Bytes, Binary, Utf8}
use Rattle.batch_columns.specs.declared.encoded_column.EncodedColumn.{EncodedColumn}
use Rattle.batch_lengths.specs.Reach.{ReadsTo, end_inside}
use Rattle.batch_lengths.proofs.Whole.{AreInside, whole_inside, lists_inside, sized_inside, struct_inside, flat_inside}
use Rattle.batch_lengths.proofs.run.run_inside.Goals as goal

pub returns-in-List-clause-spots : goal.returns-in-List-clause-spots
returns-in-List-clause-spots c =
    whole_inside c.args.source.now c.args.start c.args.count c.start_at.result c.span_of.result c.requires.whole
    (lists_inside c.args.source.now c.args.start c.args.count c.requires.reads c.in-List.is c.start_at.result c.span_of.result c.start_at.ensures c.span_of.ensures).0

pub returns-in-FixedSizeList-clause-spots : goal.returns-in-FixedSizeList-clause-spots
returns-in-FixedSizeList-clause-spots c =
    whole_inside c.args.source.now c.args.start c.args.count _ _ c.requires.whole
    (sized_inside c.args.source.now c.args.start c.args.count c.requires.reads c.in-FixedSizeList.size c.in-FixedSizeList.is).0

pub returns-in-Struct-clause-spots : goal.returns-in-Struct-clause-spots
returns-in-Struct-clause-spots c =
    whole_inside c.args.source.now c.args.start c.args.count c.args.start c.args.count c.requires.whole
    (struct_inside c.args.source.now c.args.start c.args.count c.requires.reads c.in-Struct.is).0

flat : (s : EncodedColumn) (start count : ℕ) (reads : ReadsTo s (start + count))
    → (s.layout ≡ Null) ⊎ ((s.layout ≡ Bits) ⊎ (((size : ℕ) × (s.layout ≡ Bytes size)) ⊎ ((s.layout ≡ Binary) ⊎ (s.layout ≡ Utf8))))
    → AreInside s start count reads s.layout 0 0
flat s start count reads (inl is) = flat_inside s start count reads Null is tt
flat s start count reads (inr (inl is)) = flat_inside s start count reads Bits is tt
flat s start count reads (inr (inr (inl (size, is)))) = flat_inside s start count reads (Bytes size) is tt
flat s start count reads (inr (inr (inr (inl is)))) = flat_inside s start count reads Binary is tt
flat s start count reads (inr (inr (inr (inr is)))) = flat_inside s start count reads Utf8 is tt

none_before : (s : EncodedColumn) (start : ℕ)
    → (s.layout ≡ Null) ⊎ ((s.layout ≡ Bits) ⊎ (((size : ℕ) × (s.layout ≡ Bytes size)) ⊎ ((s.layout ≡ Binary) ⊎ (s.layout ≡ Utf8))))
    → 0 ≡ end_inside (layout_named s.layout) s.offsets.now start
none_before s start (inl is) = ap (λ l. end_inside (layout_named l) s.offsets.now start) (sym is)
none_before s start (inr (inl is)) = ap (λ l. end_inside (layout_named l) s.offsets.now start) (sym is)
none_before s start (inr (inr (inl (size, is)))) = ap (λ l. end_inside (layout_named l) s.offsets.now start) (sym is)
none_before s start (inr (inr (inr (inl is)))) = ap (λ l. end_inside (layout_named l) s.offsets.now start) (sym is)
none_before s start (inr (inr (inr (inr is)))) = ap (λ l. end_inside (layout_named l) s.offsets.now start) (sym is)

pub returns-in-Null : goal.returns-in-Null
returns-in-Null c =
    let are = flat c.args.source.now c.args.start c.args.count c.requires.reads c.in-Null.is in record {
      spots = whole_inside c.args.source.now c.args.start c.args.count 0 0 c.requires.whole are.0;
      begin = none_before c.args.source.now c.args.start c.in-Null.is;
      end = are.1;
    }
