use Rattle.std.proofs.Common.{refl, ◌∙◌, ◌-◌, ◌+◌, ◌||◌, ap, arith}
use Rattle.bitmaps.specs.Bits.{bit_of}
use Rattle.batch_lengths.proofs.Marking.{joined_run, joined_marks}
use Rattle.batch_lengths.proofs.validity_mask.ValidityMask.join.Goals as goal

pub returns-then-past-self-clause-spots : goal.returns-then-past-self-clause-spots
returns-then-past-self-clause-spots c is =
    joined_run c.args.self.now c.args.start c.args.count c.if-self.true (omega (arith, c.if-past-self.true, c.requires.behind))

pub returns-clause-spots : goal.returns-clause-spots
returns-clause-spots c is =
    joined_marks c.args.self.now
    (record { start = c.unfold.new.self.start; count = c.args.start - c.args.self.now.start + c.args.count; all = c.unfold.new.self.all; set = c.set_bits.new.set })
    c.args.start c.args.count c.unfold.ensures.start refl c.requires.behind
    (λ k below. ap (λ all. all || bit_of c.set_bits.new.set k) c.unfold.ensures.all ∙ c.set_bits.ensures.before k (omega (arith, below, c.requires.behind)) ∙ c.unfold.ensures.marks k below)
    (λ k from below. ap (λ all. all || bit_of c.set_bits.new.set k) c.unfold.ensures.all ∙ c.set_bits.ensures.before k below ∙ c.unfold.ensures.behind k from)
    (λ k from below. ap (λ all. all || bit_of c.set_bits.new.set k) c.unfold.ensures.all ∙ c.set_bits.ensures.these k from below)
