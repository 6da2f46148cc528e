use Rattle.downloads.specs.declared.download.Download.{Download}
use Rattle.downloads.specs.Taken.{GivesDownload, HasDownload}
use Rattle.client_calls.specs.Requests.{get_request}
use Rattle.client_calls.proofs.Called.{requested, not_requested, nothing_read}
use Rattle.client_calls.proofs.getting.call_get.Goals as goal

pub returns-clause-sent : goal.returns-clause-sent
returns-clause-sent g c =
    requested Download (get_request c.args.ticket.now) c.read_download.result (g.W.Write.contents c.args.w.now) (g.W.Write.contents c.send_get_request.new.w) c.in_default.ensures

pub returns-in-Err-clause-sent : goal.returns-in-Err-clause-sent
returns-in-Err-clause-sent g c =
    not_requested Download (get_request c.args.ticket.now) c.in-Err.fault (g.W.Write.contents c.args.w.now) (g.W.Write.contents c.send_get_request.new.w) c.in-Err.ensures

pub returns-in-Err-clause-told : goal.returns-in-Err-clause-told
returns-in-Err-clause-told g c = nothing_read GivesDownload HasDownload c.in-Err.fault (g.R.Read.remaining c.args.r.now)
