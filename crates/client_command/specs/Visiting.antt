-- What the locations of a table are asked, one after the other, and what is printed of that. A location is that of
-- Apache Arrow, "Flight.proto", `Location`, each of which gives the same.
use Rattle.std.specs.Prelude.{◌≡◌, ◌≢◌, ◌⊎◌, ℕ, Bool, true, List, [], ◌∷◌, ◌++◌, codes, Option, Vec, Result, Ok, Err}
use Rattle.std.specs.declared.alloc.Global.{Global}
use Rattle.std.specs.declared.net.socket_addr.SocketAddrV4.{SocketAddrV4}
use Rattle.std.specs.Io.KnownBytes.{Appends}
use Rattle.std.specs.List.{flat_map, list_all}
use Rattle.std.specs.Result.{is_ok}
use Rattle.proto_messages.specs.Descriptor.{Values}
use Rattle.proto_wire.specs.Flight.{location_descriptor}
use Rattle.table_types.specs.Ticket.{TableVersion}
use Rattle.client_calls.specs.Requests.{get_request}
use Rattle.client_calls.specs.Results.{GivesFrames, HasFrames}
use Rattle.client_connections.specs.Addresses.{IsLocation, IsNoLocation}
use Rattle.client_connections.specs.Events.{ConnectionEvent}
use Rattle.client_command.specs.declared.fault.CommandFault.{CommandFault}
use Rattle.client_command.specs.declared.fault.CommandFault.TheVariants.{BadLocation, Differs}
use Rattle.client_command.specs.Calls.{Calls}
use Rattle.client_command.specs.Writing.{IsOfLines}

-- the line of a location that gives the same
abbrev pub same_line : List ℕ → List ℕ
same_line uri = uri ++ codes " same\n"

abbrev pub same_text : List (Values location_descriptor) → List ℕ
same_text locations = flat_map (λ (location : Values location_descriptor). same_line location.0) locations

module _ (asked : TableVersion) (frames : List ℕ) where
  -- the server at this address gave the version in other frames, or gave none
  abbrev pub GivesOthers : SocketAddrV4 → CommandFault → Option (List ConnectionEvent) → Option (List ConnectionEvent) → Type 0
  GivesOthers address fault old new =
      ((fault ≡ Differs) × (others : Vec ℕ Global) × (others.items ≢ frames)
      × Calls address (get_request asked) GivesFrames HasFrames (Ok others) old new)
      ⊎ Calls {T = Vec ℕ Global} address (get_request asked) GivesFrames HasFrames (Err fault) old new

  -- the location of this URI gave the version in the same frames, or why it did not
  abbrev pub ComparesAt : List ℕ → Result (Unit {0}) CommandFault → Option (List ConnectionEvent) → Option (List ConnectionEvent) → Type 0
  ComparesAt uri (Ok done) old new =
      (address : SocketAddrV4) × IsLocation uri address × (others : Vec ℕ Global) × (others.items ≡ frames)
      × Calls address (get_request asked) GivesFrames HasFrames (Ok others) old new
  ComparesAt uri (Err fault) old new =
      ((fault ≡ BadLocation) × IsNoLocation uri × (new ≡ old))
      ⊎ ((address : SocketAddrV4) × IsLocation uri address × GivesOthers address fault old new)

  -- it was asked, and its line was written, or could not be
  abbrev pub VisitsOne : List ℕ → Result Bool CommandFault → Option (List ConnectionEvent) → Option (List ConnectionEvent) → Option (List ℕ) → Option (List ℕ) → Type 0
  VisitsOne uri (Ok same) old new before after =
      (compared : Result (Unit {0}) CommandFault) × ComparesAt uri compared old new × (same ≡ is_ok compared)
      × (same ≡ true → Appends before after (same_line uri))
  VisitsOne uri (Err fault) old new before after =
      IsOfLines fault × (compared : Result (Unit {0}) CommandFault) × ComparesAt uri compared old new

  -- these locations were asked in turn, with these outcomes
  abbrev pub Visits : List (Values location_descriptor) → List (Result (Unit {0}) CommandFault) → Option (List ConnectionEvent) → Option (List ConnectionEvent) → Type 0
  Visits [] [] old new = new ≡ old
  Visits [] (compared ∷ others) old new = ⊥
  Visits (location ∷ locations) [] old new = ⊥
  Visits (location ∷ locations) (compared ∷ others) old new =
      (mid : Option (List ConnectionEvent)) × ComparesAt location.0 compared old mid × Visits locations others mid new

  -- all of them were asked, and whether all gave the same; or some were, until a line could not be written
  abbrev pub VisitsAll : List (Values location_descriptor) → Result Bool CommandFault → Option (List ConnectionEvent) → Option (List ConnectionEvent) → Option (List ℕ) → Option (List ℕ) → Type 0
  VisitsAll locations (Ok same) old new before after =
      (outcomes : List (Result (Unit {0}) CommandFault)) × Visits locations outcomes old new × (same ≡ list_all is_ok outcomes)
      × (same ≡ true → Appends before after (same_text locations))
  VisitsAll locations (Err fault) old new before after =
      IsOfLines fault × (first others : List (Values location_descriptor)) × (locations ≡ first ++ others)
      × (outcomes : List (Result (Unit {0}) CommandFault)) × Visits first outcomes old new
