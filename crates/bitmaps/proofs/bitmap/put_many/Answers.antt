use Rattle.std.proofs.Common.{◌≡◌, refl, ap, ◌∙◌, ◌+◌, ◌-◌, ◌*◌, ◌++◌, arith, length}
use Rattle.bitmaps.specs.Bits.{bits_of}
use Rattle.bitmaps.proofs.Wholes.{put_whole, put_all}
use Rattle.bitmaps.proofs.bitmap.put_many.Goals as goal

pub returns-clause-put : goal.returns-clause-put
returns-clause-put c =
    let whole = c.whole_behind-whole.result.now in
    let done = 8 * length whole in
    let middle = c.extend_from_slice.new.self.items in
    let is : middle ≡ c.args.bytes.now.items ++ whole = c.in_ok-extend_from_slice.ensures.items in
    let first : bits_of middle 0 (c.args.from + done) ≡ bits_of c.args.bytes.now.items 0 c.args.from ++ bits_of c.args.source.now c.args.start done =
    ap (λ l. bits_of l 0 (c.args.from + done)) is
    ∙ put_whole c.args.bytes.now.items whole c.args.source.now c.args.from c.args.start (length whole) c.requires.kept refl
    c.whole_behind-whole.ensures.aligned c.whole_behind-whole.ensures.bytes in
    put_all c.args.bytes.now.items middle c.put_run.new.bytes.items c.args.source.now c.args.from c.args.start done
    (c.args.count - done) c.args.count (omega (arith, c.whole_behind-whole.ensures.few)) first c.put_run.ensures.put
