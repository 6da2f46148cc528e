-- The schema that bytes show, and its fields.
use Rattle.std.proofs.Common.{◌≡◌, ◌≢◌, ◌⊎◌, inl, inr, ℕ, List, [], ◌∷◌, ◌++◌, map, drop, Option, Result, Ok, Err, refl, sym, ap, subst, ◌∙◌}
use Rattle.std.specs.List.{flat_map}
use Rattle.header_types.specs.declared.fault.MetaFault.{MetaFault}
use Rattle.header_types.specs.declared.fault.MetaFault.TheVariants.{OutOfMemory as RefusedMemory}
use Rattle.header_types.specs.declared.header.Header.{Header as ReadHeader}
use Rattle.header_types.specs.declared.schema.Field.{Field}
use Rattle.header_types.specs.declared.schema.Schema.{Schema}
use Rattle.header_types.specs.Fields.{SchemaTree}
use Rattle.header_types.specs.Header.{Head, Header, schema_header, batch_header, ShowsHeader}
use Rattle.header_types.specs.Views.{forest_of, schema_of, tree_of}
use Rattle.header_writing.specs.Canonical.{encapsulated}
use Rattle.client_calls.specs.declared.client_fault.ClientFault.TheVariants.{BadAnswer}
use Rattle.client_command.specs.declared.fault.CommandFault.{CommandFault}
use Rattle.client_command.specs.declared.fault.CommandFault.TheVariants.{Call, OutOfMemory}
use Rattle.client_command.specs.Fields.{HasSchema, HeaderSays, SchemaSays, ShowsSchemaIn, field_line, fields_text}

-- ---- the header

no_schema : (x : Head) (y : SchemaTree) → batch_header x ≡ schema_header y → ⊥
no_schema x y e = cc

-- the header is one of a batch
pub batch_says : (message : List ℕ) (read : Header) (head : Head) → read ≡ batch_header head → ((x : Header) → ShowsHeader message x → read ≡ x) → HeaderSays message (Err (Call BadAnswer))
batch_says message read head is only = inr (refl, λ schema shows. no_schema head schema (sym is ∙ only (schema_header schema) shows))

-- there is no header that can be read
pub nothing_says : (message : List ℕ) (fault : MetaFault) (told : CommandFault) → ((x : Header) → ShowsHeader message x → fault ≡ RefusedMemory)
    → (told ≡ OutOfMemory) ⊎ ((told ≡ Call BadAnswer) × (fault ≢ RefusedMemory)) → HeaderSays message (Err told)
nothing_says message fault told only why = elim why [
  | inl memory ↦ inl memory
  | inr bad ↦ inr (bad.0, λ schema shows. bad.1 (only (schema_header schema) shows))
]

-- ---- the message

message_is : (x y : List ℕ) → encapsulated x ≡ encapsulated y → x ≡ y
message_is x y same = ap (drop 8) same

-- what its header says is said of the bytes
pub message_says : (bytes message : List ℕ) (result : Result Schema CommandFault) → bytes ≡ encapsulated message → HeaderSays message result → SchemaSays bytes result
message_says bytes message (Ok schema) is says = record { message = message; is = is; shown = says }
message_says bytes message (Err fault) is says = elim says [
  | inl memory ↦ inl memory
  | inr bad ↦ inr (bad.0, λ schema has. bad.1 schema (subst (λ (l : List ℕ). ShowsSchemaIn l schema) (message_is has.message message (sym has.is ∙ is)) has.shown))
]

-- ---- the fields

-- the line of a field
abbrev pub field_line_of : Field → List ℕ
field_line_of field = field_line (tree_of field)

pub field_lines : (fields : List Field) → flat_map field_line_of fields ≡ fields_text (forest_of (map tree_of fields))
field_lines [] = refl
field_lines (field ∷ fields) = ap (λ (l : List ℕ). field_line_of field ++ l) (field_lines fields)
