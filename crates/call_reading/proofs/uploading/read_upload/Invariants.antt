use Rattle.std.specs.Prelude.{◌+◌, ◌≤◌}
use Rattle.call_reading.specs.Requests.{messages_limit}
use Rattle.call_reading.specs.Builder.{IsOnItsWay}
use Rattle.call_reading.proofs.Uploads.{HasRead}
use Rattle.call_reading.proofs.uploading.read_upload.Given as goal

abbrev pub invariant-loop-further : goal.invariant-loop-further
invariant-loop-further g l =
    IsOnItsWay l.incoming × (l.further + 1 ≤ messages_limit) × HasRead (l.further + 1) l.incoming (g.R.Read.remaining l.fn.r) (g.R.Read.remaining l.r)
