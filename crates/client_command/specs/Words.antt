-- What the words of a client name, and what is told of words that name nothing.
use Rattle.std.specs.Prelude.{◌≡◌, ◌≢◌, ◌⊎◌, ℕ, List, Option, Some, None, Result, Ok, Err}
use Rattle.std.specs.declared.net.socket_addr.SocketAddrV4.{SocketAddrV4}
use Rattle.table_types.specs.Valid.{IsId, IsTableName}
use Rattle.table_types.specs.Ticket.{TableVersion, IsTableVersion}
use Rattle.call_protocol.specs.Names.{id_text}
use Rattle.client_connections.specs.Addresses.{NamesNone, NamesServer}
use Rattle.client_command.specs.declared.fault.CommandFault.{CommandFault}
use Rattle.client_command.specs.declared.fault.CommandFault.TheVariants.{BadAddress, BadId, BadTable, OutOfMemory}

-- the address of a server
abbrev pub AddressBy : List ℕ → Result SocketAddrV4 CommandFault → Type 0
AddressBy word (Ok address) = NamesServer word address
AddressBy word (Err fault) = (fault ≡ BadAddress) × NamesNone word

-- a table, by its name
abbrev pub TableBy : List ℕ → Result (Unit {0}) CommandFault → Type 0
TableBy word (Ok done) = IsTableName word
TableBy word (Err fault) = (fault ≡ BadTable) × ¬ IsTableName word

-- the address of a server, and a table that may be there; or one of the two words names nothing
abbrev pub NamesTable : List ℕ → List ℕ → Result SocketAddrV4 CommandFault → Type 0
NamesTable named table (Ok address) = AddressBy named (Ok address) × IsTableName table
NamesTable named table (Err fault) = AddressBy named (Err fault) ⊎ TableBy table (Err fault)

-- an upload's id, in hexadecimal; where there is no word, the other one
abbrev pub IdBy : Option (List ℕ) → List ℕ → Result (List ℕ) CommandFault → Type 0
IdBy (Some word) other (Ok id) = IsId id × (word ≡ id_text id)
IdBy (Some word) other (Err fault) = (fault ≡ BadId) × ((id : List ℕ) → IsId id → word ≢ id_text id)
IdBy None other (Ok id) = id ≡ other
IdBy None other (Err fault) = ⊥

-- one of the words of a put names nothing: that of the server, of the table, or of the upload
abbrev pub NamesNoPut : List ℕ → List ℕ → Option (List ℕ) → List ℕ → CommandFault → Type 0
NamesNoPut named table word other fault = NamesTable named table (Err fault) ⊎ IdBy word other (Err fault)

abbrev pub version_of : List ℕ → ℕ → TableVersion
version_of table version = record { table = table; version = version }

-- a version of a table; no word is at fault where memory was refused
abbrev pub TicketBy : List ℕ → ℕ → Result TableVersion CommandFault → Type 0
TicketBy table version (Ok ticket) = (ticket ≡ version_of table version) × IsTableVersion ticket
TicketBy table version (Err BadTable) = ¬ IsTableVersion (version_of table version)
TicketBy table version (Err fault) = fault ≡ OutOfMemory
