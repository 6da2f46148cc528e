-- What a client writes as a call.
use Rattle.std.proofs.Common.{refl, ◌∷◌, ◌++◌, ℕ, List, [], arith}
use Rattle.std.proofs.lemmas.List.{length-map}
use Rattle.table_types.specs.Uploads.{Upload, upload_text}
use Rattle.table_types.specs.Valid.{FitsFrame, IsTableName, IsUpload}
use Rattle.table_types.specs.Ticket.{TableVersion, IsTableVersion}
use Rattle.call_reading.specs.Requests.{AsksForTable, AsksForVersion, Brings, describes, serves, puts, IsCall}
use Rattle.client_calls.specs.Requests.{table_message, info_request, ticket_message, get_request, put_messages, put_request, opening_message, further_message}
use Rattle.request_laws.proofs.Sizes.{table_message_fits, ticket_message_fits}
use Rattle.request_laws.proofs.Messages.{batches_fit}

pub info_is : (table rest : List ℕ) → IsTableName table → AsksForTable (table_message table) table → IsCall (info_request table ++ rest) (describes table) rest
info_is table rest named asks = record {
  messages = table_message table ∷ [];
  parts = refl;
  fit = (table_message_fits table named, tt);
  few = omega arith;
  mean = (table_message table, refl, asks);
}

pub get_is : (asked : TableVersion) (rest : List ℕ) → IsTableVersion asked → AsksForVersion (ticket_message asked) asked
    → IsCall (get_request asked ++ rest) (serves asked) rest
get_is asked rest is asks = record {
  messages = ticket_message asked ∷ [];
  parts = refl;
  fit = (ticket_message_fits asked is, tt);
  few = omega arith;
  mean = (ticket_message asked, refl, asks);
}

pub put_is : (upload : Upload) (rest : List ℕ) → IsUpload upload → FitsFrame (opening_message upload)
    → Brings (put_messages upload) upload
    → IsCall (put_request upload ++ rest) (puts (upload_text upload)) rest
put_is upload rest taken opens brings = record {
  messages = put_messages upload;
  parts = refl;
  fit = (opens, batches_fit upload taken);
  few = omega (arith, length-map upload.batches (further_message upload.schema), taken.batches_few);
  mean = (upload, brings, taken, refl);
}
