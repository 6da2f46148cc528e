-- Locations that are asked, one after the other.
use Rattle.std.proofs.Common.{◌≡◌, ◌≢◌, inl, inr, ℕ, ◌+◌, ◌<◌, Bool, true, false, ◌&&◌, List, [], ◌∷◌, ◌++◌, map, take, drop, length, get_or, Option, Some, None, Vec, Result, Ok, Err, MatchResult, refl, sym, ap, subst, ◌∙◌, append_assoc, append-nil}
use Rattle.std.specs.declared.alloc.Global.{Global}
use Rattle.std.specs.declared.net.socket_addr.SocketAddrV4.{SocketAddrV4}
use Rattle.std.specs.Io.KnownBytes.{Appends}
use Rattle.std.specs.List.{list_all}
use Rattle.std.specs.Result.{is_ok}
use Rattle.std.proofs.lemmas.Grind.{flat_map-append}
use Rattle.std.proofs.lemmas.List.Folds.{list_all-append}
use Rattle.proto_messages.specs.Descriptor.{Values}
use Rattle.proto_wire.specs.Flight.{location_descriptor}
use Rattle.proto_wire.specs.FlightValues.{location_values}
use Rattle.proto_wire.specs.declared.flight.endpoint.Location.{Location}
use Rattle.table_types.specs.Ticket.{TableVersion}
use Rattle.client_calls.specs.Requests.{get_request}
use Rattle.client_calls.specs.Results.{GivesFrames, HasFrames}
use Rattle.client_connections.specs.Addresses.{IsLocation}
use Rattle.client_connections.specs.Events.{ConnectionEvent}
use Rattle.client_command.specs.declared.fault.CommandFault.{CommandFault}
use Rattle.client_command.specs.declared.fault.CommandFault.TheVariants.{Differs}
use Rattle.client_command.specs.Calls.{Calls}
use Rattle.client_command.specs.Visiting.{ComparesAt, Visits, VisitsAll, VisitsOne, same_line, same_text}
use Rattle.client_command.proofs.Joined.{parts_at, parts_with}

-- ---- one location

module _ (asked : TableVersion) (frames uri : List ℕ) (address : SocketAddrV4) (others : Vec ℕ Global) (items : List ℕ) (old new : Option (List ConnectionEvent)) where
  pub compared : IsLocation uri address → Calls address (get_request asked) GivesFrames HasFrames (Ok others) old new → items ≡ others.items → (result : Result (Unit {0}) CommandFault)
      → MatchResult result (λ _. items ≡ frames) (λ fault. (fault ≡ Differs) × (items ≢ frames)) → ComparesAt asked frames uri result old new
  compared location gave same (Ok done) is = (address, location, others, sym same ∙ is, gave)
  compared location gave same (Err fault) is = inr (address, location, inl (is.0, others, λ (e : others.items ≡ frames). is.1 (same ∙ e), gave))

-- ---- several

appends_then : (old mid new : Option (List ℕ)) (xs ys : List ℕ) → Appends old mid xs → Appends mid new ys → Appends old new (xs ++ ys)
appends_then None mid new xs ys p q = tt
appends_then (Some old) None new xs ys p q = absurd p
appends_then (Some old) (Some mid) None xs ys p q = absurd q
appends_then (Some old) (Some mid) (Some new) xs ys p q = q ∙ ap (λ (l : List ℕ). l ++ ys) p ∙ append_assoc old xs ys

appends_nothing : (held : Option (List ℕ)) → Appends held held []
appends_nothing None = tt
appends_nothing (Some held) = sym (append-nil held)

and_left : (a b : Bool) → (a && b) ≡ true → a ≡ true
and_left true b h = refl
and_left false b h = h

and_right : (a b : Bool) → (a && b) ≡ true → b ≡ true
and_right true b h = h
and_right false b h = cc

and_true : (a : Bool) → (a && true) ≡ a
and_true true = refl
and_true false = refl

module _ (asked : TableVersion) (frames : List ℕ) where
  visits_then : (xs ys : List (Values location_descriptor)) (rs ss : List (Result (Unit {0}) CommandFault)) (old mid new : Option (List ConnectionEvent)) → Visits asked frames xs rs old mid
      → Visits asked frames ys ss mid new → Visits asked frames (xs ++ ys) (rs ++ ss) old new
  visits_then [] ys [] ss old mid new p q = subst (λ (log : Option (List ConnectionEvent)). Visits asked frames ys ss log new) p q
  visits_then [] ys (r ∷ rs) ss old mid new p q = absurd p
  visits_then (x ∷ xs) ys [] ss old mid new p q = absurd p
  visits_then (x ∷ xs) ys (r ∷ rs) ss old mid new p q = (p.0, p.1, visits_then xs ys rs ss p.0 mid new p.2 q)

  -- those so far were asked, and whether all gave the same
  pub record VisitedSome (locations : List (Values location_descriptor)) (same : Bool) (old new : Option (List ConnectionEvent)) (before after : Option (List ℕ)) : Type 0 where
    pub outcomes : List (Result (Unit {0}) CommandFault)
    pub visits : Visits asked frames locations outcomes old new
    pub all : same ≡ list_all is_ok outcomes
    pub told : same ≡ true → Appends before after (same_text locations)

  pub visited_none : (log : Option (List ConnectionEvent)) (held : Option (List ℕ)) → VisitedSome [] true log log held held
  visited_none log held = record { outcomes = []; visits = refl; all = refl; told = λ yes. appends_nothing held }

  pub visited_all : (locations : List (Values location_descriptor)) (same : Bool) (old new : Option (List ConnectionEvent)) (before after : Option (List ℕ))
      → VisitedSome locations same old new before after → VisitsAll asked frames locations (Ok same) old new before after
  visited_all locations same old new before after v = (v.outcomes, v.visits, v.all, v.told)

  module _ (xs : List Location) (i : ℕ) (x : Location) (lt : i < length xs) (is : x ≡ get_or xs i x) (same : Bool) (old mid new : Option (List ConnectionEvent)) (before between after : Option (List ℕ))
      (so_far : VisitedSome (map location_values (take i xs)) same old mid before between) where
    -- one more was asked
    pub visited_more : (more : Bool) → VisitsOne asked frames (location_values x).0 (Ok more) mid new between after
        → VisitedSome (map location_values (take (i + 1) xs)) (same && more) old new before after
    visited_more more one =
        let parts = parts_with (λ (y : Location). let none : List ℕ = [] in none) xs i x lt is location_values in
        subst (λ (l : List (Values location_descriptor)). VisitedSome l (same && more) old new before after) (sym parts) (record {
          outcomes = so_far.outcomes ++ one.0 ∷ [];
          visits =
              visits_then (map location_values (take i xs)) (location_values x ∷ []) so_far.outcomes (one.0 ∷ []) old mid new so_far.visits (new, one.1, refl);
          all =
              ap (λ (b : Bool). b && more) so_far.all ∙ ap (λ (b : Bool). list_all is_ok so_far.outcomes && b) (one.2 ∙ sym (and_true (is_ok one.0)))
              ∙ sym (list_all-append is_ok so_far.outcomes (one.0 ∷ []));
          told = λ yes.
              subst (λ (l : List ℕ). Appends before after l)
              (ap (λ (l : List ℕ). same_text (map location_values (take i xs)) ++ l) (sym (append-nil (same_line (location_values x).0)))
              ∙ sym (flat_map-append (λ (l : Values location_descriptor). same_line l.0) (map location_values (take i xs)) (location_values x ∷ [])))
              (appends_then before between after (same_text (map location_values (take i xs))) (same_line (location_values x).0) (so_far.told (and_left same more yes))
              (one.3 (and_right same more yes)));
        })

    -- one more was asked, whose line could not be written
    pub visited_until : (fault : CommandFault) → VisitsOne asked frames (location_values x).0 (Err fault) mid new between after
        → VisitsAll asked frames (map location_values xs) (Err fault) old new before after
    visited_until fault one = (
      one.0,
      map location_values (take i xs) ++ location_values x ∷ [],
      map location_values (drop (i + 1) xs),
      parts_at (λ (y : Location). let none : List ℕ = [] in none) xs i x lt is location_values
          ∙ sym (append_assoc (map location_values (take i xs)) (location_values x ∷ []) (map location_values (drop (i + 1) xs))),
      so_far.outcomes ++ one.1 ∷ [],
      visits_then (map location_values (take i xs)) (location_values x ∷ []) so_far.outcomes (one.1 ∷ []) old mid new so_far.visits (new, one.2, refl),
    )
