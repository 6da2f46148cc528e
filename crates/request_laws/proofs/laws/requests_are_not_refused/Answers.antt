use Rattle.std.proofs.Common.{◌++◌}
use Rattle.table_types.specs.Uploads.{upload_text}
use Rattle.call_reading.specs.Requests.{describes, serves, puts}
use Rattle.client_calls.specs.Requests.{info_request, get_request, put_request}
use Rattle.request_laws.proofs.laws.requests_are_not_refused.Goals as goal

pub returns-clause-info : goal.returns-clause-info
returns-clause-info c table rest named refusal after =
    c.calls_are_not_refused.ensures (info_request table ++ rest) rest after (describes table) refusal
    (c.requests_are_calls.ensures.info table rest named)

pub returns-clause-get : goal.returns-clause-get
returns-clause-get c asked rest is refusal after =
    c.calls_are_not_refused.ensures (get_request asked ++ rest) rest after (serves asked) refusal
    (c.requests_are_calls.ensures.get asked rest is)

pub returns-clause-put : goal.returns-clause-put
returns-clause-put c upload rest taken refusal after =
    c.calls_are_not_refused.ensures (put_request upload ++ rest) rest after (puts (upload_text upload)) refusal
    (c.requests_are_calls.ensures.put upload rest taken)
