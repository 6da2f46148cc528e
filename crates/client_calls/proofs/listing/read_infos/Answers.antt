use Rattle.std.proofs.Common.{[], arith, rules}
use Rattle.std.proofs.lemmas.Result.{err_from_is_err_and}
use Rattle.client_calls.specs.declared.listing.Listing.TheVariants as listing
use Rattle.client_calls.specs.Results.{GivesInfos, HasInfos}
use Rattle.client_calls.specs.Parts.{IsListed}
use Rattle.client_calls.proofs.Came.{none_came, more_came, fault_came, too_many_came}
use Rattle.client_calls.proofs.Listed.{list_ends}
use Rattle.client_calls.proofs.listing.read_infos.Goals as goal

pub loop-count-init : goal.loop-count-init
loop-count-init g c =
    let none : IsListed (listing.Told c.new.result) [] = search rules in
    none_came (IsListed (listing.Told c.new.result)) (g.R.Read.remaining c.args.r.now) none

pub loop-count-preserved : goal.loop-count-preserved
loop-count-preserved g c =
    more_came (IsListed c.loop-count.listing) (IsListed c.in_ok-listing-in-Message.listing) c.loop-count._count (g.R.Read.remaining c.args.r.now) (g.R.Read.remaining c.loop-count.r)
    (g.R.Read.remaining c.next_part.new.r) c.in-Message.message c.loop-count.invariant (rw c.in-Message.is at c.in_ok-message.ensures)
    (rw c.deref.ensures.value at c.in_ok-listing-in-Message.ensures.listed)

pub returns-in-End : goal.returns-in-End
returns-in-End g c =
    list_ends c.no_frame_begins_another.ensures c.loop-count.listing c.all.result c.loop-count._count (g.R.Read.remaining c.args.r.now) (g.R.Read.remaining c.loop-count.r)
    (g.R.Read.remaining c.next_part.new.r) c.loop-count-test.true c.loop-count.invariant (rw c.in-End.is at c.in_ok-message.ensures) c.all.ensures

pub returns-in_err-message : goal.returns-in_err-message
returns-in_err-message g c =
    let p = err_from_is_err_and c.from_residual.result c.from_residual.ensures.1 in
    rw (p.1, p.2)
    (fault_came c.no_frame_begins_another.ensures GivesInfos HasInfos (IsListed c.loop-count.listing) c.loop-count._count (g.R.Read.remaining c.args.r.now) (g.R.Read.remaining c.loop-count.r)
    (g.R.Read.remaining c.next_part.new.r) c.in_err-message.field-0.0 c.loop-count-test.true c.loop-count.invariant c.in_err-message.ensures)

pub returns : goal.returns
returns g c =
    let most = c.loop-count.auto._count-end in
    let least = c.loop-count-test.false in
    too_many_came c.no_frame_begins_another.ensures GivesInfos HasInfos (IsListed c.loop-count.listing) c.loop-count._count (g.R.Read.remaining c.args.r.now) (g.R.Read.remaining c.loop-count.r)
    (omega (arith, most, least)) c.loop-count.invariant
