use Rattle.std.proofs.Common.{refl, ap, ◌∙◌, ◌+◌, false, arith}
use Rattle.std.proofs.lemmas.List.{length-set}
use Rattle.bitmaps.specs.Bits.{bit_of}
use Rattle.batch_reading.specs.Taken.{valid_in}
use Rattle.batch_lengths.specs.Along.{mark_of}
use Rattle.batch_lengths.proofs.Eights.{and_next}
use Rattle.batch_lengths.proofs.Marking.{taken_marked, taken_valid}
use Rattle.batch_lengths.proofs.validity_mask.ValidityMask.taken.Goals as goal

pub returns-clause-spots : goal.returns-clause-spots
returns-clause-spots c =
    taken_marked c.args.self.now (record { start = c.args.self.now.start; count = c.args.self.now.count; all = false; set = c.loop-place.set }) c.args.validity.now refl refl
    (λ k below. c.loop-place.invariant.each k (omega (arith, below)))

pub returns-clause-taken : goal.returns-clause-taken
returns-clause-taken c k below marked =
    taken_valid (bit_of c.loop-place.set k) (mark_of c.args.self.now k) (valid_in c.args.validity.now (c.args.self.now.start + k))
    (c.loop-place.invariant.each k (omega (arith, below))) marked

pub loop-place-preserved : goal.loop-place-preserved
loop-place-preserved c = record {
  long = length-set c.loop-place.set c.loop-place.place _ ∙ c.loop-place.invariant.long;
  each =
      and_next c.loop-place.set c.loop-place.place (omega (arith, c.loop-place.invariant.long, c.requires.few)) (mark_of c.args.self.now)
      (λ k. valid_in c.args.validity.now (c.args.self.now.start + k)) c.eight_marks.result c.eight_valid.result c.eight_marks.ensures
      (λ i low. c.eight_valid.ensures i low ∙ ap (valid_in c.args.validity.now) (omega arith)) c.loop-place.invariant.each;
}
