-- What an endpoint tells.
use Rattle.std.proofs.Common.{◌≡◌, ℕ, List, [], ◌∷◌, length, map, Option, Some, Result, Ok, Err, refl, sym, ap, subst, ◌∙◌, arith}
use Rattle.std.proofs.lemmas.Option.{same_Some}
use Rattle.std.specs.Prelude.{get_or}
use Rattle.std.specs.Option.{option_map}
use Rattle.proto_messages.specs.Descriptor.{Values}
use Rattle.proto_wire.specs.Flight.{info_descriptor, endpoint_descriptor, location_descriptor}
use Rattle.proto_wire.specs.FlightValues.{ticket_values, location_values, endpoint_values}
use Rattle.proto_wire.specs.declared.flight.endpoint.Ticket.{Ticket as TicketMessage}
use Rattle.proto_wire.specs.declared.flight.endpoint.FlightEndpoint.{FlightEndpoint}
use Rattle.table_types.specs.Ticket.{TableVersion, IsTableVersion, IsTicket, ticket_text}
use Rattle.call_protocol.specs.declared.call_fault.CallFault.TheVariants as calls
use Rattle.client_calls.specs.declared.client_fault.ClientFault.{ClientFault}
use Rattle.client_calls.specs.declared.client_fault.ClientFault.TheVariants as faults
use Rattle.script_calls.specs.declared.told.Told.{Told}
use Rattle.script_calls.specs.declared.told.Told.TheVariants as told
use Rattle.script_calls.specs.Informing.{version_of, IsEndpoint, EndpointSays, InfoSays}

-- ---- the ticket

-- the ticket that stands there, and where it is served
abbrev pub endpoint_of : List ℕ → List (Values location_descriptor) → Values endpoint_descriptor
endpoint_of text uris = (Some (text, tt), (uris, tt))

text_is : (table text : List ℕ) (uris : List (Values location_descriptor)) (version locations : ℕ) → IsEndpoint table version locations (endpoint_of text uris)
    → IsTicket text (version_of table version)
text_is table text uris version locations is =
    let ticket = same_Some (text, tt) (ticket_text (version_of table version), tt) (ap (λ (v : Values endpoint_descriptor). v.0) is.is) in
    record { valid = is.valid; encodes = ap (λ (v : List ℕ × Unit {0}). v.0) ticket }

-- it is none
pub bad_ticket : (table text : List ℕ) (uris : List (Values location_descriptor)) → ((asked : TableVersion) → ¬ IsTicket text asked) → EndpointSays table (endpoint_of text uris) (Err faults.BadAnswer)
bad_ticket table text uris none version locations is = none (version_of table version) (text_is table text uris version locations is)

-- it is of another table
pub other_table : ((text : List ℕ) (x y : TableVersion) → IsTicket text x → IsTicket text y → x ≡ y) → (table text : List ℕ) (uris : List (Values location_descriptor)) (ticket : TableVersion)
    → IsTicket text ticket → (ticket.table ≡ table → ⊥) → EndpointSays table (endpoint_of text uris) (Err faults.BadAnswer)
other_table one table text uris ticket is other version locations e =
    other (ap (λ (v : TableVersion). v.table) (one text ticket (version_of table version) is (text_is table text uris version locations e)))

-- it is of this one
pub this_table : (table text : List ℕ) (uris : List (Values location_descriptor)) (ticket : TableVersion) → IsTicket text ticket → ticket.table ≡ table
    → IsEndpoint table ticket.version (length uris) (endpoint_of text uris)
this_table table text uris ticket is same =
    let version : version_of table ticket.version ≡ ticket = ap (λ (t : List ℕ). version_of t ticket.version) (sym same) in
    record {
      valid = subst IsTableVersion (sym version) is.valid;
      uris = uris;
      counted = refl;
      is = ap (λ (l : List ℕ). endpoint_of l uris) (is.encodes ∙ ap ticket_text (sym version));
    }

-- ---- the endpoint, as it was read

pub told_endpoint : (e : FlightEndpoint) (t : TicketMessage) (text : List ℕ) → text ≡ t.ticket.items → e.ticket ≡ Some t
    → endpoint_values e ≡ endpoint_of text (map location_values e.location.items)
told_endpoint e t text same is =
    ap (λ (o : Option TicketMessage). (option_map ticket_values o, (map location_values e.location.items, tt))) is
    ∙ ap (λ (l : List ℕ). endpoint_of l (map location_values e.location.items)) (sym same)

module _ (table text : List ℕ) (uris : List (Values location_descriptor)) (endpoint : Values endpoint_descriptor) (is : endpoint ≡ endpoint_of text uris) where
  pub this_one : (ticket : TableVersion) (version locations : ℕ) → IsTicket text ticket → ticket.table ≡ table → version ≡ ticket.version → locations ≡ length uris
      → IsEndpoint table version locations endpoint
  this_one ticket version locations of same v n =
      subst (IsEndpoint table version locations) (sym is)
      (subst (λ (k : ℕ). IsEndpoint table k locations (endpoint_of text uris)) (sym v)
      (subst (λ (k : ℕ). IsEndpoint table ticket.version k (endpoint_of text uris)) (sym n) (this_table table text uris ticket of same)))

  pub other_one : ((t : List ℕ) (x y : TableVersion) → IsTicket t x → IsTicket t y → x ≡ y) → (ticket : TableVersion) → IsTicket text ticket → (ticket.table ≡ table → ⊥)
      → (version locations : ℕ) → IsEndpoint table version locations endpoint → ⊥
  other_one one ticket of other version locations e =
      other_table one table text uris ticket of other version locations (subst (IsEndpoint table version locations) is e)

  pub bad_one : ((asked : TableVersion) → ¬ IsTicket text asked) → (version locations : ℕ) → IsEndpoint table version locations endpoint → ⊥
  bad_one none version locations e = bad_ticket table text uris none version locations (subst (IsEndpoint table version locations) is e)

-- ---- the endpoints

pub is_one_list : {A : Type 0} (xs : List A) (x : A) → length xs ≡ 1 → x ≡ get_or xs 0 x → xs ≡ x ∷ []
is_one_list [] x len a = let no : ⊥ = omega arith in absurd no
is_one_list (v ∷ []) x len a = cc
is_one_list (v ∷ w ∷ xs) x len a = let no : ⊥ = omega arith in absurd no

only_head : (x y : Values endpoint_descriptor) → x ∷ [] ≡ y ∷ [] → x ≡ y
only_head x y same = ap (λ (l : List (Values endpoint_descriptor)). get_or l 0 x) same

-- what the one of them says is said
pub one_says : (table : List ℕ) (values : Values info_descriptor) (endpoint : Values endpoint_descriptor) (r : Result Told ClientFault) → values.1.1.0 ≡ endpoint ∷ []
    → EndpointSays table endpoint r → InfoSays table values r
one_says table values endpoint (Ok (told.Info version locations)) is says = record { endpoint = endpoint; only = is; served = says }
one_says table values endpoint (Ok (told.Put version)) is says = says
one_says table values endpoint (Ok (told.Get frames)) is says = says
one_says table values endpoint (Ok (told.Status code words)) is says = says
one_says table values endpoint (Err faults.BadAnswer) is says = λ version locations s.
    says version locations (subst (IsEndpoint table version locations) (only_head s.endpoint endpoint (sym s.only ∙ is)) s.served)
one_says table values endpoint (Err (faults.Status code words)) is says = says
one_says table values endpoint (Err (faults.Call calls.OutOfMemory)) is says = says
one_says table values endpoint (Err (faults.Call calls.Read)) is says = says
one_says table values endpoint (Err (faults.Call calls.Write)) is says = says

-- there is not one
pub not_one_says : (table : List ℕ) (values : Values info_descriptor) → (length values.1.1.0 ≡ 1 → ⊥) → InfoSays table values (Err faults.BadAnswer)
not_one_says table values other version locations s = other (ap (λ (l : List (Values endpoint_descriptor)). length l) s.only)
