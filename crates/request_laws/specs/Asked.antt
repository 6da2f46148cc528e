-- What a client writes, as a service reads it: Apache Arrow, "Arrow Flight RPC", "RPC Methods and Request Patterns".
-- Which bytes are written is defined in `client_calls`, and what a text asks for as a call in `call_reading`, apart
-- from each other.
use Rattle.std.specs.Prelude.{ℕ, List, ◌++◌}
use Rattle.table_types.specs.Uploads.{Upload, upload_text}
use Rattle.table_types.specs.Valid.{IsTableName, IsUpload}
use Rattle.table_types.specs.Ticket.{TableVersion, IsTableVersion}
use Rattle.call_protocol.specs.declared.refusal.CallRefusal.{CallRefusal}
use Rattle.call_reading.specs.Requests.{describes, serves, puts, IsCall}
use Rattle.call_reading.specs.Faults.{RefusalStands, IsOfTheMachine}
use Rattle.client_calls.specs.Requests.{info_request, get_request, put_request}

-- ---- what is asked for

-- what is written of the name of a table is a call that asks what is told of that table, and whatever stands behind it
-- is left
abbrev pub InfoRequestsAreCalls : Type 0
InfoRequestsAreCalls =
    (table rest : List ℕ) → IsTableName table → IsCall (info_request table ++ rest) (describes table) rest

-- what is written of a ticket is a call that asks for its version
abbrev pub GetRequestsAreCalls : Type 0
GetRequestsAreCalls =
    (asked : TableVersion) (rest : List ℕ) → IsTableVersion asked
    → IsCall (get_request asked ++ rest) (serves asked) rest

-- what is written of an upload is a call that asks to take it: frames have room for each of its messages
abbrev pub PutRequestsAreCalls : Type 0
PutRequestsAreCalls =
    (upload : Upload) (rest : List ℕ) → IsUpload upload
    → IsCall (put_request upload ++ rest) (puts (upload_text upload)) rest

-- ---- what is not refused

-- no fault stands in the text: it is refused where memory was or a read failed, and for nothing else
abbrev pub IsFaultless : List ℕ → Type 0
IsFaultless text = (refusal : CallRefusal) (after : List ℕ) → RefusalStands refusal text after → IsOfTheMachine refusal
