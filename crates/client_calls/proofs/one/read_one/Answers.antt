use Rattle.std.proofs.Common.{refl, arith}
use Rattle.std.proofs.lemmas.Result.{err_from_is_err_and}
use Rattle.client_calls.specs.declared.one.Kept.TheVariants as kept
use Rattle.client_calls.specs.Results.{GivesOne, HasOne}
use Rattle.client_calls.specs.Parts.{IsKept}
use Rattle.client_calls.proofs.Came.{none_came, more_came, fault_came, too_many_came}
use Rattle.client_calls.proofs.OneMessage.{one_ends}
use Rattle.client_calls.proofs.one.read_one.Goals as goal

pub loop-count-init : goal.loop-count-init
loop-count-init g c = none_came (IsKept kept.Nothing) (g.R.Read.remaining c.args.r.now) refl

pub loop-count-preserved : goal.loop-count-preserved
loop-count-preserved g c =
    more_came (IsKept c.loop-count.kept) (IsKept c.with-kept.result) c.loop-count._count (g.R.Read.remaining c.args.r.now) (g.R.Read.remaining c.loop-count.r)
    (g.R.Read.remaining c.next_part.new.r) c.in-Message.message c.loop-count.invariant (rw c.in-Message.is at c.in_ok-message.ensures) c.with-kept.ensures

pub returns-in-End : goal.returns-in-End
returns-in-End g c =
    one_ends c.no_frame_begins_another.ensures c.loop-count.kept c.one.result c.loop-count._count (g.R.Read.remaining c.args.r.now) (g.R.Read.remaining c.loop-count.r)
    (g.R.Read.remaining c.next_part.new.r) c.loop-count-test.true c.loop-count.invariant (rw c.in-End.is at c.in_ok-message.ensures) c.one.ensures

pub returns-in_err-message : goal.returns-in_err-message
returns-in_err-message g c =
    let p = err_from_is_err_and c.from_residual.result c.from_residual.ensures.1 in
    rw (p.1, p.2)
    (fault_came c.no_frame_begins_another.ensures GivesOne HasOne (IsKept c.loop-count.kept) c.loop-count._count (g.R.Read.remaining c.args.r.now) (g.R.Read.remaining c.loop-count.r)
    (g.R.Read.remaining c.next_part.new.r) c.in_err-message.field-0.0 c.loop-count-test.true c.loop-count.invariant c.in_err-message.ensures)

pub returns : goal.returns
returns g c =
    let most = c.loop-count.auto._count-end in
    let least = c.loop-count-test.false in
    too_many_came c.no_frame_begins_another.ensures GivesOne HasOne (IsKept c.loop-count.kept) c.loop-count._count (g.R.Read.remaining c.args.r.now) (g.R.Read.remaining c.loop-count.r)
    (omega (arith, most, least)) c.loop-count.invariant
