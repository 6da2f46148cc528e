use Rattle.std.proofs.Common.{rules, ◌≡◌}
use Rattle.grpc_frames.specs.FrameFaults.{WhereKnown}
use Rattle.run_files.specs.declared.script.CallRequest.TheVariants as asked
use Rattle.client_calls.specs.Answers.{Receives, Requests}
use Rattle.script_calls.specs.Asking.{RequestMeaning, request_of, Tells, CanTell}
use Rattle.script_calls.proofs.Requested.{put_asked, get_asked, info_asked}
use Rattle.script_calls.proofs.asking.answer.Goals as goal

pub returns-in-Put-clause-sent : goal.returns-in-Put-clause-sent
returns-in-Put-clause-sent g c = λ q h.
    let is : c.args.asked.now ≡ asked.Put c.in-Put.upload = search rules in
    put_asked (λ (x : RequestMeaning). WhereKnown (g.W.Write.contents c.args.w.now) (g.W.Write.contents c.ask_put.new.w) (Requests c.ask_put.result (request_of x))) c.in-Put.upload
    c.ask_put.ensures.sent q (rw is at h)

pub returns-in-Put-clause-told : goal.returns-in-Put-clause-told
returns-in-Put-clause-told g c = λ q h.
    let is : c.args.asked.now ≡ asked.Put c.in-Put.upload = search rules in
    put_asked (λ (x : RequestMeaning). WhereKnown (g.R.Read.remaining c.args.r.now) (g.R.Read.remaining c.ask_put.new.r) (Receives (Tells x) (CanTell x) c.ask_put.result)) c.in-Put.upload
    c.ask_put.ensures.told q (rw is at h)

pub returns-in-Get-clause-sent : goal.returns-in-Get-clause-sent
returns-in-Get-clause-sent g c = λ q h.
    let is : c.args.asked.now ≡ asked.Get c.in-Get.ticket = search rules in
    get_asked (λ (x : RequestMeaning). WhereKnown (g.W.Write.contents c.args.w.now) (g.W.Write.contents c.ask_get.new.w) (Requests c.ask_get.result (request_of x))) c.in-Get.ticket
    c.ask_get.ensures.sent q (rw is at h)

pub returns-in-Get-clause-told : goal.returns-in-Get-clause-told
returns-in-Get-clause-told g c = λ q h.
    let is : c.args.asked.now ≡ asked.Get c.in-Get.ticket = search rules in
    get_asked (λ (x : RequestMeaning). WhereKnown (g.R.Read.remaining c.args.r.now) (g.R.Read.remaining c.ask_get.new.r) (Receives (Tells x) (CanTell x) c.ask_get.result)) c.in-Get.ticket
    c.ask_get.ensures.told q (rw is at h)

pub returns-in-Info-clause-sent : goal.returns-in-Info-clause-sent
returns-in-Info-clause-sent g c = λ q h.
    let is : c.args.asked.now ≡ asked.Info c.as_str.result.now = search rules in
    info_asked (λ (x : RequestMeaning). WhereKnown (g.W.Write.contents c.args.w.now) (g.W.Write.contents c.ask_info.new.w) (Requests c.ask_info.result (request_of x))) c.as_str.result.now
    c.ask_info.ensures.sent q (rw is at h)

pub returns-in-Info-clause-told : goal.returns-in-Info-clause-told
returns-in-Info-clause-told g c = λ q h.
    let is : c.args.asked.now ≡ asked.Info c.as_str.result.now = search rules in
    info_asked (λ (x : RequestMeaning). WhereKnown (g.R.Read.remaining c.args.r.now) (g.R.Read.remaining c.ask_info.new.r) (Receives (Tells x) (CanTell x) c.ask_info.result)) c.as_str.result.now
    c.ask_info.ensures.told q (rw is at h)
