-- Lines, one behind the other.
use Rattle.std.proofs.Common.{◌≡◌, inl, inr, ℕ, ◌+◌, ◌<◌, ◌≤◌, List, [], ◌∷◌, ◌++◌, map, take, drop, length, get_or, Some, Err, refl, sym, ap, subst, ◌∙◌, append_assoc, append-nil}
use Rattle.std.specs.List.{flat_map}
use Rattle.std.proofs.lemmas.Option.{same_Some}
use Rattle.std.proofs.lemmas.Grind.{flat_map-append, take_at_read}
use Rattle.std.proofs.lemmas.List.{map-append, take-append-drop, take_all}
use Rattle.std.proofs.lemmas.List.Folds.{flat_map-map}
use Rattle.proto_messages.specs.Descriptor.{Values}
use Rattle.proto_wire.specs.Flight.{flight_descriptor_descriptor, info_descriptor}
use Rattle.proto_wire.specs.FlightValues.{endpoint_values, info_values, location_values}
use Rattle.proto_wire.specs.declared.flight.endpoint.Location.{Location}
use Rattle.proto_wire.specs.declared.flight.endpoint.FlightEndpoint.{FlightEndpoint}
use Rattle.proto_wire.specs.declared.flight.info.FlightInfo.{FlightInfo}
use Rattle.call_protocol.specs.Names.{NamesTable}
use Rattle.client_command.specs.declared.fault.CommandFault.{CommandFault}
use Rattle.client_command.specs.Fields.{HasSchema, SchemaSays}
use Rattle.client_command.specs.Latest.{IsLatest, LatestSays}
use Rattle.client_command.specs.Tables.{NoText, TellsInfo, TellsTable, TellsTables, endpoint_locations, location_line, locations_text}

-- ---- parts of a text

-- the line of a location, and the lines of an endpoint
abbrev pub line_of : Location → List ℕ
line_of location = location_line (location_values location)

abbrev pub lines_of : FlightEndpoint → List ℕ
lines_of endpoint = flat_map location_line (endpoint_locations (endpoint_values endpoint))

pub location_lines : (locations : List Location) → flat_map line_of locations ≡ flat_map location_line (map location_values locations)
location_lines locations = sym (flat_map-map location_line location_values locations)

pub endpoint_lines : (endpoints : List FlightEndpoint) → flat_map lines_of endpoints ≡ locations_text (map endpoint_values endpoints)
endpoint_lines [] = refl
endpoint_lines (endpoint ∷ endpoints) = ap (λ (l : List ℕ). lines_of endpoint ++ l) (endpoint_lines endpoints)

module _ {X : Type 0} (f : X → List ℕ) (xs : List X) (i : ℕ) (x : X) (lt : i < length xs) (is : x ≡ get_or xs i x) where
  next_part : flat_map f (take (i + 1) xs) ≡ flat_map f (take i xs) ++ f x
  next_part =
      ap (flat_map f) ((take_at_read xs i x lt).1) ∙ flat_map-append f (take i xs) (get_or xs i x ∷ [])
      ∙ ap (λ (y : X). flat_map f (take i xs) ++ flat_map f (y ∷ [])) (sym is)
      ∙ ap (λ (l : List ℕ). flat_map f (take i xs) ++ l) (append-nil (f x))

  -- a text with the parts so far has one more
  pub more : (old mid new : List ℕ) → mid ≡ old ++ flat_map f (take i xs) → new ≡ mid ++ f x → new ≡ old ++ flat_map f (take (i + 1) xs)
  more old mid new so_far next =
      next ∙ ap (λ (l : List ℕ). l ++ f x) so_far ∙ append_assoc old (flat_map f (take i xs)) (f x) ∙ ap (λ (l : List ℕ). old ++ l) (sym next_part)

  -- all parts but those so far and this one follow
  pub parts_at : {Y : Type 0} (h : X → Y) → map h xs ≡ map h (take i xs) ++ h x ∷ map h (drop (i + 1) xs)
  parts_at h =
      ap (map h) (sym (take-append-drop (i + 1) xs) ∙ ap (λ (l : List X). l ++ drop (i + 1) xs) ((take_at_read xs i x lt).1) ∙ append_assoc (take i xs) (get_or xs i x ∷ []) (drop (i + 1) xs))
      ∙ ap (λ (y : X). map h (take i xs ++ y ∷ drop (i + 1) xs)) (sym is) ∙ map-append h (take i xs) (x ∷ drop (i + 1) xs)

  pub parts_with : {Y : Type 0} (h : X → Y) → map h (take (i + 1) xs) ≡ map h (take i xs) ++ h x ∷ []
  parts_with h =
      ap (map h) ((take_at_read xs i x lt).1) ∙ ap (λ (y : X). map h (take i xs ++ y ∷ [])) (sym is) ∙ map-append h (take i xs) (x ∷ [])

-- once all parts are there
pub all_parts : {X : Type 0} (f : X → List ℕ) (xs ys : List X) (i : ℕ) (old new : List ℕ) → length xs ≤ i → xs ≡ ys → new ≡ old ++ flat_map f (take i xs) → new ≡ old ++ flat_map f ys
all_parts {X = X} f xs ys i old new end same is = is ∙ ap (λ (l : List X). old ++ flat_map f l) (take_all i xs end ∙ same)

-- ---- lines of tables

pub lines_joined : (xs ys : List (Values info_descriptor)) (t u : List ℕ) → TellsTables xs t → TellsTables ys u → TellsTables (xs ++ ys) (t ++ u)
lines_joined [] ys t u p q = subst (λ (l : List ℕ). TellsTables ys (l ++ u)) (sym p) q
lines_joined (x ∷ xs) ys t u p q =
    (p.0, p.1 ++ u, p.2, lines_joined xs ys p.1 u p.3 q, ap (λ (l : List ℕ). l ++ u) p.4 ∙ append_assoc p.0 p.1 u)

-- no text tells of tables one of which has no line
pub no_lines : (xs ys : List (Values info_descriptor)) (x : Values info_descriptor) → ((line : List ℕ) → ¬ TellsTable x line) → (text : List ℕ) → ¬ TellsTables (xs ++ x ∷ ys) text
no_lines [] ys x none text p = none p.0 p.2
no_lines (y ∷ xs) ys x none text p = no_lines xs ys x none p.1 p.3

module _ (xs : List FlightInfo) (i : ℕ) (x : FlightInfo) (lt : i < length xs) (is : x ≡ get_or xs i x) where
  -- the text of the tables so far has the line of one more
  pub line_follows : (text line more : List ℕ) → TellsTables (map info_values (take i xs)) text → TellsTable (info_values x) line → more ≡ text ++ line
      → TellsTables (map info_values (take (i + 1) xs)) more
  line_follows text line more_text so_far told joined =
      subst (λ (l : List ℕ). TellsTables (map info_values (take (i + 1) xs)) l) (sym joined)
      (subst (λ (l : List (Values info_descriptor)). TellsTables l (text ++ line)) (sym (parts_with (λ (y : FlightInfo). []) xs i x lt is info_values))
      (lines_joined (map info_values (take i xs)) (info_values x ∷ []) text line so_far (line, [], told, refl, sym (append-nil line))))

  -- no text tells of all, where one has no line
  pub text_ends : (fault : CommandFault) → NoText TellsTable (info_values x) fault → NoText TellsTables (map info_values xs) fault
  text_ends fault none = elim none [
    | inl memory ↦ inl memory
    | inr bad ↦ inr (
      bad.0,
      λ text told. no_lines (map info_values (take i xs)) (map info_values (drop (i + 1) xs)) (info_values x) bad.1 text
          (subst (λ (l : List (Values info_descriptor)). TellsTables l text) (parts_at (λ (y : FlightInfo). []) xs i x lt is info_values) told),
    )
  ]

-- ---- one table

only_path : (x y : List ℕ) → x ∷ [] ≡ y ∷ [] → x ≡ y
only_path x y same = ap (λ (l : List (List ℕ)). get_or l 0 x) same

-- the descriptor names this table, of which nothing is told
pub nothing_told : (values : Values info_descriptor) (descriptor : Values flight_descriptor_descriptor) (table : List ℕ) (fault : CommandFault) → values.1.0 ≡ Some descriptor
    → NamesTable descriptor table → LatestSays table values (Err fault) → NoText TellsTable values fault
nothing_told values descriptor table fault described named says = elim says [
  | inl memory ↦ inl memory
  | inr bad ↦ inr (
    bad.0,
    λ text t.
        let same : t.descriptor ≡ descriptor = same_Some t.descriptor descriptor (sym t.described ∙ described) in
        let path : t.latest.table ≡ table = only_path t.latest.table table (sym t.named.is_path.path_is ∙ ap (λ (d : Values flight_descriptor_descriptor). d.1.1.0) same ∙ named.is_path.path_is) in
        bad.1 t.latest (subst (λ (l : List ℕ). IsLatest l t.latest values) path t.is_latest),
  )
]

-- nothing is told of the table that was asked about, whose version or schema is not told
pub no_version : (values : Values info_descriptor) (table : List ℕ) (fault : CommandFault) → LatestSays table values (Err fault) → NoText (TellsInfo table) values fault
no_version values table fault says = elim says [
  | inl memory ↦ inl memory
  | inr bad ↦ inr (bad.0, λ text t. bad.1 t.latest t.is_latest)
]

pub no_schema : (values : Values info_descriptor) (table bytes : List ℕ) (fault : CommandFault) → bytes ≡ values.0 → SchemaSays bytes (Err fault) → NoText (TellsInfo table) values fault
no_schema values table bytes fault same says = elim says [
  | inl memory ↦ inl memory
  | inr bad ↦ inr (bad.0, λ text t. bad.1 t.schema (subst (λ (l : List ℕ). HasSchema l t.schema) (sym same) t.has_schema))
]
