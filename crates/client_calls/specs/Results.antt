-- What the messages of an answer say: Apache Arrow, "Flight.proto", `FlightInfo` and `PutResult`. What a PutResult has as its
-- metadata is this service's own.
use Rattle.std.specs.Prelude.{◌≡◌, ◌≤◌, ◌<◌, ◌^◌, ℕ, List, [], ◌∷◌, map, Vec, Result, Ok, Err}
use Rattle.std.specs.declared.alloc.Global.{Global}
use Rattle.proto_messages.specs.Descriptor.{Values, IsMessage}
use Rattle.proto_wire.specs.Flight.{info_descriptor}
use Rattle.proto_wire.specs.FlightValues.{info_values}
use Rattle.proto_wire.specs.declared.flight.info.FlightInfo.{FlightInfo}
use Rattle.table_types.specs.Tables.{Version}
use Rattle.call_protocol.specs.Results.{put_result}
use Rattle.call_protocol.specs.Texts.{messages_text}
use Rattle.downloads.specs.declared.download.Download.{Download}
use Rattle.downloads.specs.Downloads.{downloaded_of}
use Rattle.downloads.specs.Taken.{downloaded_in}
use Rattle.client_calls.specs.declared.client_fault.ClientFault.{ClientFault}
use Rattle.client_calls.specs.declared.client_fault.ClientFault.TheVariants as faults

-- ---- one message

abbrev pub GivesOne : List (List ℕ) → Vec ℕ Global → Type 0
GivesOne messages message = messages ≡ message.items ∷ []

abbrev pub HasOne : List (List ℕ) → Type 0
HasOne messages = (message : List ℕ) × (messages ≡ message ∷ [])

-- ---- frames

-- the frames of the messages, one behind the other
abbrev pub GivesFrames : List (List ℕ) → Vec ℕ Global → Type 0
GivesFrames messages frames = frames.items ≡ messages_text messages

-- the messages of any answer have such
abbrev pub HasFrames : List (List ℕ) → Type 0
HasFrames messages = Unit {0}

-- ---- what is told of a table

-- there is one message, which means this, in whatever encoding
abbrev pub MeansInfo : List (List ℕ) → Values info_descriptor → Type 0
MeansInfo messages values = (message : List ℕ) × (messages ≡ message ∷ []) × IsMessage info_descriptor message values

abbrev pub GivesInfo : List (List ℕ) → FlightInfo → Type 0
GivesInfo messages info = MeansInfo messages (info_values info)

abbrev pub HasInfo : List (List ℕ) → Type 0
HasInfo messages = (values : Values info_descriptor) × MeansInfo messages values

-- ---- what is told of all tables

-- there are as many messages as there are values, and each means those at its place, in whatever encoding
abbrev pub MeanInfos : List (List ℕ) → List (Values info_descriptor) → Type 0
MeanInfos [] [] = Unit {0}
MeanInfos [] (values ∷ all) = ⊥
MeanInfos (message ∷ messages) [] = ⊥
MeanInfos (message ∷ messages) (values ∷ all) = IsMessage info_descriptor message values × MeanInfos messages all

abbrev pub GivesInfos : List (List ℕ) → Vec FlightInfo Global → Type 0
GivesInfos messages infos = MeanInfos messages (map info_values infos.items)

abbrev pub HasInfos : List (List ℕ) → Type 0
HasInfos messages = (all : List (Values info_descriptor)) × MeanInfos messages all

-- ---- what is told of an upload

-- There is one message: the one encoding of the result of an upload of this id, which made this version. Versions are numbered
-- from 1 on, in 64 bits.
pub record GivesVersion (id : List ℕ) (messages : List (List ℕ)) (version : ℕ) : Type 0 where
  pub only : messages ≡ put_result id version ∷ []
  pub numbered : 1 ≤ version
  pub fits : version < 2 ^ 64

abbrev pub HasVersion : List ℕ → List (List ℕ) → Type 0
HasVersion id messages = (version : ℕ) × GivesVersion id messages version

-- ---- the batches of a version

-- What a call gives of the answer that is of this version, with this behind it: what is served of the version, and then the same
-- is left. Where a read failed or memory was refused nothing is said; and nothing else is told.
abbrev pub GivesServed : Version → List ℕ → Result Download ClientFault → List ℕ → Type 0
GivesServed version rest (Ok download) left = (downloaded_in download ≡ downloaded_of version) × (left ≡ rest)
GivesServed version rest (Err (faults.Status code words)) left = ⊥
GivesServed version rest (Err faults.BadAnswer) left = ⊥
GivesServed version rest (Err (faults.Call fault)) left = Unit {0}
