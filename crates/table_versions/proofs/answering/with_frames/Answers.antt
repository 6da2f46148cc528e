use Rattle.std.proofs.Common.{◌≡◌, ◌+◌, Some, sym, subst, ◌∙◌, arith}
use Rattle.table_versions.specs.Ledger.{frames_of, frames_in}
use Rattle.table_versions.proofs.Placed.{some_is}
use Rattle.table_versions.proofs.Answered.{frames_there, frames_more}
use Rattle.table_versions.proofs.answering.with_frames.Goals as goal

pub frames_at-requires : goal.frames_at-requires
frames_at-requires c =
    let r = c.requires in
    let f = frames_there c.args.frames.now.entries c.args.table 1 r.0 c.loop-before.before r.1 (omega (arith, r.2, c.loop-before-test.true)) in
    let here : 1 + c.loop-before.before ≡ c.loop-before.before + 1 = omega arith in
    (frames_of f.0, subst (λ v. frames_in c.args.frames.now.entries c.args.table v ≡ Some (frames_of f.0)) here f.1)

pub loop-before-preserved : goal.loop-before-preserved
loop-before-preserved c = λ uploads has within.
    let f = frames_there c.args.frames.now.entries c.args.table 1 uploads c.loop-before.before has (omega (arith, within, c.loop-before-test.true)) in
    let here : 1 + c.loop-before.before ≡ c.loop-before.before + 1 = omega arith in
    let got : c.frames_at.result.now ≡ frames_of f.0 =
    some_is c.frames_at.result.now (frames_of f.0)
    (sym c.frames_at.ensures ∙ subst (λ v. frames_in c.args.frames.now.entries c.args.table v ≡ Some (frames_of f.0)) here f.1)
    in
    frames_more c.args.first.now c.loop-before.shared.items c.share_frames.new.shared.items c.as_slice.result.now uploads c.loop-before.before f.0
    c.in_ok-share_frames.ensures (c.loop-before.invariant uploads has within) (c.as_slice.ensures ∙ got) f.2
