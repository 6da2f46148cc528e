use Rattle.std.proofs.Common.{◌≡◌, refl, sym, ap, ap₂, ◌∙◌, ℕ, ◌+◌, ◌<◌, ◌||◌, ◌&&◌, not, nat_lt, nat_eq, Bool, true, false, List, map, arith}
use Rattle.std.proofs.lemmas.Bool.{le-ltb}
use Rattle.std.specs.List.{range_with_len}
use Rattle.std.specs.Cmp.Lexicographic.{pointwise}
use Rattle.bitmaps.specs.Bits.{bit_of, zeros, bits_of}
use Rattle.batch_reading.specs.Taken.{valid_in}
use Rattle.batch_lengths.specs.declared.validity_mask.ValidityMask.{ValidityMask}
use Rattle.batch_lengths.specs.Along.{mark_of, spots_marked}
use Rattle.batch_lengths.specs.Counted.{has_null}
use Rattle.batch_lengths.proofs.Marking.{nulls_taken, same_marks}
use Rattle.batch_lengths.proofs.marked.is_null_marked.Goals as goal

module _ (validity : List ℕ) (marks made : ValidityMask) (one : marks.all ≡ false)
    (each : (k : ℕ) → k < marks.count → bit_of made.set k ≡ (mark_of marks k && valid_in validity (marks.start + k))) where
  told : nat_lt (zeros (bits_of marks.set 0 marks.count)) (zeros (bits_of made.set 0 marks.count)) ≡ has_null validity (spots_marked marks)
  told =
      nulls_taken validity marks.start (bit_of marks.set) (bit_of made.set) marks.count
      (λ k below. each k below ∙ ap (λ all. (all || bit_of marks.set k) && valid_in validity (marks.start + k)) one)
      ∙ ap (λ all. has_null validity (map (λ k. (marks.start + k, all || bit_of marks.set k)) (range_with_len 0 marks.count))) (sym one)

  none : made.set ≡ marks.set → has_null validity (spots_marked marks) ≡ false
  none same =
      sym told ∙ ap (λ set. nat_lt (zeros (bits_of marks.set 0 marks.count)) (zeros (bits_of set 0 marks.count))) same
      ∙ le-ltb (zeros (bits_of marks.set 0 marks.count)) (zeros (bits_of marks.set 0 marks.count)) (omega arith)

turned : (b : Bool) → not b ≡ false → b ≡ true
turned true is = refl
turned false is = sym is

pub returns-then-ne : goal.returns-then-ne
returns-then-ne c =
    ap₂ nat_lt c.count_zeros-then-ne.ensures c.count_zeros.ensures
    ∙ told c.args.validity.now c.args.marks.now c.taken-taken.result c.requires.all c.taken-taken.ensures.marks

pub returns-else-ne : goal.returns-else-ne
returns-else-ne c =
    c.if-ne.false
    ∙ sym (none c.args.validity.now c.args.marks.now c.taken-taken.result c.requires.all c.taken-taken.ensures.marks
    (same_marks c.taken-taken.result.set c.args.marks.now.set (turned (pointwise nat_eq c.taken-taken.result.set c.args.marks.now.set) (sym c.ne.ensures ∙ c.if-ne.false))))
