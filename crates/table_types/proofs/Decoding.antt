-- What the fields of a ticket mean, and that its name is UTF-8.
use Rattle.std.proofs.Common.{◌≡◌, sym, subst, ◌∙◌, ℕ, ◌<◌, List, [], ◌∷◌, Some, None, Result, Ok, Err, IsUtf8, arith}
use Rattle.std.specs.Borrow.{Bor}
use Rattle.std.specs.List.{AllByRecursion}
use Rattle.std.specs.Option.{IsSomeAnd}
use Rattle.std.specs.Result.{result_ok}
use Rattle.std.specs.Str.{IsAscii}
use Rattle.std.proofs.lemmas.Str.{IsUtf8-from_ascii}
use Rattle.std.proofs.lemmas.Str.Ascii.{IsAscii-nil, IsAscii-cons}
use Rattle.proto_fields.specs.declared.fault.WireFault.{WireFault}
use Rattle.proto_fields.specs.Field.{Field, IsFields}
use Rattle.proto_fields.specs.Lookup.{Tells}
use Rattle.proto_fields.specs.Meaning.{number_meant, bytes_meant}
use Rattle.proto_messages.specs.Descriptor.{Descriptor, Values, IsMessage}
use Rattle.proto_messages.specs.Canonical.{RisesFrom, Fits, canonical}
use Rattle.table_types.specs.Valid.{IsNameByte, IsTableName}
use Rattle.table_types.specs.Ticket.{TableVersion, ticket_descriptor, ticket_values, IsTableVersion, IsTicket}

-- what is written is read as what was written
abbrev pub AreMessages : Type 0
AreMessages = (descriptor : Descriptor) (v : Values descriptor) → RisesFrom 0 descriptor → Fits descriptor v → IsMessage descriptor (canonical descriptor v) v

pub rises : RisesFrom 0 ticket_descriptor
rises = (omega arith, (omega arith, omega arith), (omega arith, (omega arith, omega arith), tt))

pub fits : (asked : TableVersion) → IsTableVersion asked → Fits ticket_descriptor (ticket_values asked)
fits asked valid = (omega (arith, valid.named.short), (valid.fits, tt))

message : AreMessages → (text : List ℕ) (asked : TableVersion) → IsTicket text asked → IsMessage ticket_descriptor text (ticket_values asked)
message written text asked ticket =
    subst (λ t. IsMessage ticket_descriptor t (ticket_values asked)) (sym ticket.encodes)
    (written ticket_descriptor (ticket_values asked) rises (fits asked ticket.valid))

some_is : {X : Type 0} (x y : X) → Some x ≡ Some y → x ≡ y
some_is x y same = cc

none_is_some : {X : Type 0} (x : X) → None ≡ Some x → ⊥
none_is_some x same = cc

module _ (written : AreMessages) (text : List ℕ) (asked : TableVersion) (ticket : IsTicket text asked) where
  pub table_told : (told : Result (Bor (List ℕ)) WireFault) → ((fields : List Field) → IsFields text fields → Tells (λ last. last.now) told (bytes_meant 1 fields))
      → IsSomeAnd (result_ok told) (λ table. table.now ≡ asked.table)
  unfolding bytes_meant
  table_told (Ok table) only =
      let m = message written text asked ticket in
      some_is table.now asked.table (sym (only m.fields m.encodes) ∙ m.means.0)
  table_told (Err fault) only =
      let m = message written text asked ticket in
      absurd (none_is_some asked.table (sym (only m.fields m.encodes).0 ∙ m.means.0))

  pub version_told : (told : Result ℕ WireFault) → ((fields : List Field) → IsFields text fields → Tells (λ n. n) told (number_meant 2 fields))
      → IsSomeAnd (result_ok told) (λ version. version ≡ asked.version)
  unfolding number_meant
  version_told (Ok version) only =
      let m = message written text asked ticket in
      some_is version asked.version (sym (only m.fields m.encodes) ∙ m.means.1.0)
  version_told (Err fault) only =
      let m = message written text asked ticket in
      absurd (none_is_some asked.version (sym (only m.fields m.encodes).0 ∙ m.means.1.0))

name_byte_small : (byte : ℕ) → IsNameByte byte → byte < 128
name_byte_small byte is = grind arith

name_ascii : (name : List ℕ) → AllByRecursion IsNameByte name → IsAscii name
name_ascii [] all = IsAscii-nil
name_ascii (byte ∷ name) all = IsAscii-cons byte name (name_byte_small byte all.0) (name_ascii name all.1)

pub name_utf8 : (name : List ℕ) → IsTableName name → IsUtf8 name
name_utf8 name is = IsUtf8-from_ascii name (name_ascii name is.each)
