-- What a client hands in to be given a table, as this service writes it into a ticket: Apache Arrow, "Flight.proto",
-- `Ticket`, opaque bytes of the service. They are a message of two fields in its one written encoding: Protocol
-- Buffers, "Encoding". Its names and its limits are this service's own.
use Rattle.std.specs.Prelude.{◌≡◌, ℕ, ◌^◌, ◌<◌, ◌≤◌, List}
use Rattle.proto_fields.specs.Scalar.{TypeBytes, TypeUint64}
use Rattle.proto_messages.specs.Descriptor.{Descriptor, NoMore, One, Values}
use Rattle.proto_messages.specs.Canonical.{canonical}
use Rattle.table_types.specs.Valid.{IsTableName}

-- which version of which table, by its name
pub record TableVersion : Type 0 where
  pub table : List ℕ
  pub version : ℕ

-- table, version
abbrev pub ticket_descriptor : Descriptor
ticket_descriptor = One 1 TypeBytes (One 2 TypeUint64 NoMore)

abbrev pub ticket_values : TableVersion → Values ticket_descriptor
ticket_values asked = (asked.table, (asked.version, tt))

abbrev pub ticket_text : TableVersion → List ℕ
ticket_text asked = canonical ticket_descriptor (ticket_values asked)

-- The table's name is such, and versions are numbered from 1 on, in 64 bits.
pub record IsTableVersion (asked : TableVersion) : Type 0 where
  pub named : IsTableName asked.table
  pub numbered : 1 ≤ asked.version
  pub fits : asked.version < 2 ^ 64

-- the bytes are the ticket for this version
pub record IsTicket (text : List ℕ) (asked : TableVersion) : Type 0 where
  pub valid : IsTableVersion asked
  pub encodes : text ≡ ticket_text asked
