-- Messages and their headers.
use Rattle.std.proofs.Common.{◌≡◌, ◌≢◌, ◌⊎◌, inl, inr, ℕ, List, Result, Ok, Err, IfOk, IfErr, sym, subst}
use Rattle.std.specs.Result.{IsErrAnd}
use Rattle.header_types.specs.declared.fault.MetaFault.{MetaFault}
use Rattle.header_types.specs.declared.fault.MetaFault.TheVariants.{Dictionary, BadHeader, OutOfMemory}
use Rattle.header_types.specs.declared.header.Header.{Header as ReadHeader}
use Rattle.header_types.specs.Fields.{SchemaTree}
use Rattle.header_types.specs.Header.{ShowsSchema, Head, Header, schema_header, batch_header, schema_type}
use Rattle.header_types.specs.Header.{dictionary_type, batch_type, ShowsMessage, ShowsHeader}
use Rattle.header_reading.specs.Faults.{SchemaFault, HeaderFault}
use Rattle.header_types.specs.HeaderViews.{header_of, IsUnlessRefused}
use Rattle.header_reading.specs.Reading.{ShowsBatchIn, BatchFaultIn, RootFault}
use Rattle.header_types.proofs.Unique.{headers_are_one}
use Rattle.header_reading.proofs.Apart.{faults_stand_apart}

-- the header of the message is of this type
of_type : (text : List ℕ) (place header_type table type : ℕ) → header_type ≡ type
    → ShowsMessage text place header_type table → ShowsMessage text place type table
of_type text place header_type table type is shown = subst (λ k. ShowsMessage text place k table) is shown

-- ---- schemas and batches

pub schema_there : (text : List ℕ) (place header_type table : ℕ) → header_type ≡ schema_type
    → ShowsMessage text place header_type table
    → (schema : SchemaTree) × ShowsSchema text table schema → (x : Header) × ShowsHeader text x
schema_there text place header_type table is message (schema, shown) =
    (schema_header schema, (place, table, of_type text place header_type table schema_type is message, shown))

pub batch_there : (text : List ℕ) (place header_type table : ℕ) → header_type ≡ batch_type
    → ShowsMessage text place header_type table
    → (head : Head) × ShowsBatchIn text place table head → (x : Header) × ShowsHeader text x
batch_there text place header_type table is message (head, (shown, body)) =
    (batch_header head, (place, table, of_type text place header_type table batch_type is message, shown, body))

-- ---- faults

pub root_wrong : (text : List ℕ) (e : MetaFault) → RootFault text e → (e ≡ OutOfMemory) ⊎ HeaderFault text e
root_wrong text e (inl fault) = inr (inl fault)
root_wrong text e (inr fault) = inr (inr (inl fault))

pub schema_wrong : (text : List ℕ) (place header_type table : ℕ) (e : MetaFault) → header_type ≡ schema_type
    → ShowsMessage text place header_type table
    → (e ≡ OutOfMemory) ⊎ SchemaFault text table e → (e ≡ OutOfMemory) ⊎ HeaderFault text e
schema_wrong text place header_type table e is message (inl memory) = inl memory
schema_wrong text place header_type table e is message (inr fault) =
    inr (inr (inr (inl (place, table, of_type text place header_type table schema_type is message, fault))))

pub batch_wrong : (text : List ℕ) (place header_type table : ℕ) (e : MetaFault) → header_type ≡ batch_type
    → ShowsMessage text place header_type table
    → (e ≡ OutOfMemory) ⊎ BatchFaultIn text place table e → (e ≡ OutOfMemory) ⊎ HeaderFault text e
batch_wrong text place header_type table e is message (inl memory) = inl memory
batch_wrong text place header_type table e is message (inr fault) =
    inr (inr (inr (inr (place, table, of_type text place header_type table batch_type is message, fault))))

pub dictionary_wrong : (text : List ℕ) (place header_type table : ℕ) → header_type ≡ dictionary_type
    → ShowsMessage text place header_type table
    → HeaderFault text Dictionary
dictionary_wrong text place header_type table is message =
    inr (inl (
      place,
      message.root,
      inr (inr (inr
          (of_type text place header_type table dictionary_type is message).type_shown)),
    ))

pub other_wrong : (text : List ℕ) (place header_type table : ℕ) → header_type ≢ schema_type
    → header_type ≢ dictionary_type → header_type ≢ batch_type
    → ShowsMessage text place header_type table → HeaderFault text BadHeader
other_wrong text place header_type table first second third message =
    inr (inl (place, message.root, inr (inr (inr (inr (header_type, message.type_shown, (first, second, third)))))))

-- what is handed on is that memory was refused, so it was
pub refused : {A : Type 0} (r : Result A MetaFault) (e : MetaFault) → IsErrAnd r (λ y. y ≡ e) → r ≡ Err OutOfMemory
    → e ≡ OutOfMemory
refused (Ok x) e handed is = cc
refused (Err y) e handed is = cc

-- ---- one header

pub only_one : (text : List ℕ) (r : Result ReadHeader MetaFault)
    → IfOk r (λ header. ShowsHeader text (header_of header))
    → IfErr r (λ e. (e ≡ OutOfMemory) ⊎ HeaderFault text e) → (x : Header) → ShowsHeader text x → IsUnlessRefused r x
only_one text (Ok header) read fault x shown = headers_are_one text (header_of header) x read shown
only_one text (Err e) read (inl memory) x shown = memory
only_one text (Err e) read (inr fault) x shown = absurd (faults_stand_apart text e x fault shown)

-- a fault before the header stands only where no header is shown
pub none_shown : (text : List ℕ) (r : Result ReadHeader MetaFault) (e : MetaFault) → IsErrAnd r (λ y. y ≡ e)
    → RootFault text e → (x : Header)
    → ShowsHeader text x → IsUnlessRefused r x
none_shown text (Ok header) e handed fault x shown = absurd handed
none_shown text (Err y) e handed fault x shown =
    only_one text (Err y) tt (subst (λ k. (k ≡ OutOfMemory) ⊎ HeaderFault text k) (sym handed)
    (root_wrong text e fault)) x shown
