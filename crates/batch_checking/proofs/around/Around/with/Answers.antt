use Rattle.std.proofs.Common.{◌≡◌, ◌+◌, ◌<◌, suc, length, take, ap, ◌∙◌, arith, ℕ}
use Rattle.std.proofs.Math.Seq.{take-suc-set}
use Rattle.std.proofs.Math.ListN.{set}
use Rattle.batch_checking.proofs.around.Around.with.Goals as goal

plus_one : (n : ℕ) → n + 1 ≡ suc n
plus_one n = omega arith

pub returns-clause-sources : goal.returns-clause-sources
returns-clause-sources c =
    let there : c.args.self.now.depth < length c.args.self.now.levels = omega arith in
    ap (λ n. take n (set c.args.self.now.levels c.args.self.now.depth c.args.source.now)) (plus_one c.args.self.now.depth)
    ∙ take-suc-set c.args.self.now.levels c.args.self.now.depth c.args.source.now there
