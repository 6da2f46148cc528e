-- What an endpoint tells of the latest version of a table.
use Rattle.std.proofs.Common.{◌≡◌, inl, inr, ℕ, List, [], ◌∷◌, length, map, Option, Some, Result, Ok, Err, refl, sym, ap, subst, ◌∙◌, arith}
use Rattle.std.proofs.lemmas.Option.{same_Some}
use Rattle.std.specs.Prelude.{get_or}
use Rattle.std.specs.Option.{option_map}
use Rattle.proto_messages.specs.Descriptor.{Values}
use Rattle.proto_wire.specs.Flight.{info_descriptor, endpoint_descriptor, location_descriptor}
use Rattle.proto_wire.specs.FlightValues.{ticket_values, location_values, endpoint_values}
use Rattle.proto_wire.specs.declared.flight.endpoint.Ticket.{Ticket as TicketMessage}
use Rattle.proto_wire.specs.declared.flight.endpoint.FlightEndpoint.{FlightEndpoint}
use Rattle.table_types.specs.Ticket.{TableVersion, IsTicket, ticket_text}
use Rattle.client_calls.specs.declared.client_fault.ClientFault.TheVariants.{BadAnswer}
use Rattle.client_command.specs.declared.fault.CommandFault.{CommandFault}
use Rattle.client_command.specs.declared.fault.CommandFault.TheVariants.{Call}
use Rattle.client_command.specs.Latest.{IsEndpoint, EndpointSays, LatestSays}

-- ---- the ticket

-- the ticket that stands there, and where it is served
abbrev pub endpoint_of : List ℕ → List (Values location_descriptor) → Values endpoint_descriptor
endpoint_of text uris = (Some (text, tt), (uris, tt))

text_is : (table text : List ℕ) (uris : List (Values location_descriptor)) (ticket : TableVersion) → IsEndpoint table ticket (endpoint_of text uris) → IsTicket text ticket
text_is table text uris ticket is =
    let same = same_Some (text, tt) (ticket_text ticket, tt) (ap (λ (v : Values endpoint_descriptor). v.0) is.is) in
    record { valid = is.valid; encodes = ap (λ (v : List ℕ × Unit {0}). v.0) same }

-- ---- the endpoint, as it was read

pub told_endpoint : (e : FlightEndpoint) (t : TicketMessage) (text : List ℕ) → text ≡ t.ticket.items → e.ticket ≡ Some t
    → endpoint_values e ≡ endpoint_of text (map location_values e.location.items)
told_endpoint e t text same is =
    ap (λ (o : Option TicketMessage). (option_map ticket_values o, (map location_values e.location.items, tt))) is
    ∙ ap (λ (l : List ℕ). endpoint_of l (map location_values e.location.items)) (sym same)

module _ (table text : List ℕ) (uris : List (Values location_descriptor)) (endpoint : Values endpoint_descriptor) (is : endpoint ≡ endpoint_of text uris) where
  -- it has the ticket for a version of this table
  pub this_one : (ticket : TableVersion) → IsTicket text ticket → ticket.table ≡ table → IsEndpoint table ticket endpoint
  this_one ticket of same =
      record { of_table = same; valid = of.valid; locations = uris; is = is ∙ ap (λ (l : List ℕ). endpoint_of l uris) of.encodes }

  -- it has the ticket for one of another table
  pub other_one : ((t : List ℕ) (x y : TableVersion) → IsTicket t x → IsTicket t y → x ≡ y) → (ticket : TableVersion) → IsTicket text ticket → (ticket.table ≡ table → ⊥)
      → (wanted : TableVersion) → IsEndpoint table wanted endpoint → ⊥
  other_one one ticket of other wanted e =
      other (ap (λ (v : TableVersion). v.table) (one text ticket wanted of (text_is table text uris wanted (subst (IsEndpoint table wanted) is e))) ∙ e.of_table)

  -- it has none
  pub bad_one : ((asked : TableVersion) → ¬ IsTicket text asked) → (wanted : TableVersion) → IsEndpoint table wanted endpoint → ⊥
  bad_one none wanted e = none wanted (text_is table text uris wanted (subst (IsEndpoint table wanted) is e))

-- ---- the endpoints

pub is_one_list : {A : Type 0} (xs : List A) (x : A) → length xs ≡ 1 → x ≡ get_or xs 0 x → xs ≡ x ∷ []
is_one_list [] x len a = let no : ⊥ = omega arith in absurd no
is_one_list (v ∷ []) x len a = cc
is_one_list (v ∷ w ∷ xs) x len a = let no : ⊥ = omega arith in absurd no

only_head : (x y : Values endpoint_descriptor) → x ∷ [] ≡ y ∷ [] → x ≡ y
only_head x y same = ap (λ (l : List (Values endpoint_descriptor)). get_or l 0 x) same

-- what the one of them says is said
pub one_says : (table : List ℕ) (values : Values info_descriptor) (endpoint : Values endpoint_descriptor) (r : Result TableVersion CommandFault) → values.1.1.0 ≡ endpoint ∷ []
    → EndpointSays table endpoint r → LatestSays table values r
one_says table values endpoint (Ok ticket) is says = record { endpoint = endpoint; only = is; told = says }
one_says table values endpoint (Err fault) is says = elim says [
  | inl memory ↦ inl memory
  | inr bad ↦ inr (bad.0, λ ticket s. bad.1 ticket (subst (IsEndpoint table ticket) (only_head s.endpoint endpoint (sym s.only ∙ is)) s.told))
]

-- there is not one
pub not_one_says : (table : List ℕ) (values : Values info_descriptor) → (length values.1.1.0 ≡ 1 → ⊥) → LatestSays table values (Err (Call BadAnswer))
not_one_says table values other = inr (refl, λ ticket s. other (ap (λ (l : List (Values endpoint_descriptor)). length l) s.only))
