use Rattle.client_calls.specs.Results.{GivesVersion, HasVersion}
use Rattle.client_calls.proofs.OneMessage.{one_says}
use Rattle.client_calls.proofs.putting.read_version.Goals as goal

pub returns : goal.returns
returns g c =
    one_says c.no_frame_begins_another.ensures (GivesVersion c.args.id.now) (HasVersion c.args.id.now) (g.R.Read.remaining c.args.r.now) (g.R.Read.remaining c.read_one.new.r)
    c.in_ok-message.message c.version_in.result c.in_ok-message.ensures (rw c.deref.ensures.value at c.version_in.ensures)
