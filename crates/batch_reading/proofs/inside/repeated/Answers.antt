use Rattle.std.proofs.Common.{sym, ap, ◌∙◌, ◌*◌, subst, length, replicate}
use Rattle.std.proofs.lemmas.List.{length-replicate}
use Rattle.std.specs.List.{flat_map}
use Rattle.batch_reading.specs.Spots.{marks_of, HasMarks}
use Rattle.batch_reading.proofs.Gathering.{even_long, repeated_true}
use Rattle.std.proofs.Common.{Bool}
use Rattle.batch_reading.proofs.inside.repeated.Goals as goal

pub returns-in_ok-repeated_bits-in-Some-clause-marked : goal.returns-in_ok-repeated_bits-in-Some-clause-marked
returns-in_ok-repeated_bits-in-Some-clause-marked c =
    ap length c.in_ok-repeated_bits-in-Some.ensures
    ∙ even_long c.args.size (replicate {A = Bool} c.args.size) (λ bit. length-replicate c.args.size bit) _
    ∙ ap (λ n. c.args.size * n) (subst (HasMarks c.args.count) c.in-Some.is c.requires)

pub returns-in-None-clause-marks : goal.returns-in-None-clause-marks
returns-in-None-clause-marks c =
    repeated_true c.args.size c.args.count
    ∙ ap (λ marks. flat_map (replicate {A = Bool} c.args.size) (marks_of c.args.count marks)) (sym c.in-None.is)
