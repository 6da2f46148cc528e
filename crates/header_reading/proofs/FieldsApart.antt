-- Where a fault stands in the table of a field, it shows none.
use Rattle.std.proofs.Common.{◌≡◌, ℕ, zero, suc, ◌+◌, ◌*◌, ◌<◌, Bool, true, false, ◌==◌, if◌then◌else◌, inl}
use Rattle.std.proofs.Common.{inr, List, [], ◌∷◌, length, Option, Some, None, arith, refl, subst}
use Rattle.std.proofs.lemmas.Bool.{or_parts}
use Rattle.flat_places.specs.declared.fault.PlaceFault.{PlaceFault}
use Rattle.flat_places.specs.declared.fault.PlaceFault.TheVariants as place
use Rattle.flat_places.specs.Number.{ShowsReference}
use Rattle.flat_places.specs.Fault.{NumberFault, VectorFault, TextFault, SlotFault}
use Rattle.flat_places.proofs.Numbers.{reference_same, uint_not_cut, reference_not_cut}
use Rattle.flat_places.proofs.Fields.{field_same, field_not_cut}
use Rattle.flat_places.proofs.Vectors.{vector_not_cut, text_not_cut}
use Rattle.header_types.specs.declared.fault.MetaFault.{MetaFault}
use Rattle.header_types.specs.declared.fault.MetaFault.TheVariants as meta
use Rattle.std.specs.Option.{option_map}
use Rattle.header_types.specs.declared.field_type.TimeUnit.{TimeUnit}
use Rattle.header_types.specs.Fields.{Text, Entry, DataType, timestamp_type, FieldHead}
use Rattle.header_types.specs.Slots.{NumberAt, ShowsNumber, ReferenceAt, ShowsReferenceField, StringAt, ShowsString}
use Rattle.header_types.specs.Slots.{VectorRef, VectorAt, ShowsVectorRef, FromPlaceFault, SlotNumberFault}
use Rattle.header_types.specs.Slots.{ReferenceFault, StringFault, VectorRefFault}
use Rattle.header_types.specs.TypeIds.{Parameter, parameters_of, has_timezone, time_unit_of, data_type_from, is_carried}
use Rattle.header_types.specs.TypeIds.{AllowsChildren}
use Rattle.header_types.specs.Shown.{ShowsEntry, ShowsEntries, ParameterAt, ShowsParameter, TimezoneAt, ShowsTimezone}
use Rattle.header_types.specs.Shown.{ShowsDataType, ShowsFieldHead}
use Rattle.header_reading.specs.Faults.{EntryFault, EntriesFault, MetadataFault, ParameterFault, TimezoneFault}
use Rattle.header_reading.specs.Faults.{ParametersFault, HasWrongParameters, TypeFault, DataTypeFault, OwnFault}
use Rattle.header_reading.specs.Faults.{FieldFault}
use Rattle.header_types.proofs.Unique.{number_same, target_same, vector_ref_same, parameters_same, same_id_same_type}

-- ---- slots

pub place_fault_apart : (Stands : PlaceFault → Type 0) (e : MetaFault) → ((p : PlaceFault) → Stands p → ⊥)
    → FromPlaceFault Stands e → ⊥
place_fault_apart Stands meta.OutOfBounds apart told = apart place.OutOfBounds told
place_fault_apart Stands meta.NotUtf8 apart told = apart place.NotUtf8 told
place_fault_apart Stands meta.BadHeader apart told = apart place.SmallVtable told
place_fault_apart Stands meta.Version apart told = told
place_fault_apart Stands meta.Endianness apart told = told
place_fault_apart Stands (meta.Unsupported type_id) apart told = told
place_fault_apart Stands meta.Dictionary apart told = told
place_fault_apart Stands meta.TooDeep apart told = told
place_fault_apart Stands meta.TooManyFields apart told = told
place_fault_apart Stands meta.OutOfMemory apart told = told

pub slot_number_apart : (text : List ℕ) (table n size default x : ℕ) (e : MetaFault)
    → SlotNumberFault text table n size e
    → ShowsNumber text table n size default x → ⊥
slot_number_apart text table n size default x e (inl fault) q =
    place_fault_apart (SlotFault text table n) e (λ p f. field_not_cut text table n p q.field f q.found) fault
slot_number_apart text table n size default x e (inr (at, found, cut)) q =
    let same : q.field ≡ Some at = field_same text table n q.field (Some at) q.found found in
    let moved : NumberAt text size default x (Some at) = subst (NumberAt text size default x) same q.number in
    place_fault_apart (NumberFault text at size) e (λ p f. uint_not_cut text at size p x f moved) cut

target_not_cut : (text : List ℕ) (target : Option ℕ) (at : ℕ) (p : PlaceFault) → NumberFault text at 4 p
    → ReferenceAt text target (Some at) → ⊥
target_not_cut text None at p fault refers = refers
target_not_cut text (Some target) at p fault refers = reference_not_cut text at p target fault refers

pub reference_apart : (text : List ℕ) (table n : ℕ) (target : Option ℕ) (e : MetaFault) → ReferenceFault text table n e
    → ShowsReferenceField text table n target → ⊥
reference_apart text table n target e (inl fault) q =
    place_fault_apart (SlotFault text table n) e (λ p f. field_not_cut text table n p q.field f q.found) fault
reference_apart text table n target e (inr (at, found, cut)) q =
    let same : q.field ≡ Some at = field_same text table n q.field (Some at) q.found found in
    let moved : ReferenceAt text target (Some at) = subst (ReferenceAt text target) same q.refers in
    place_fault_apart (NumberFault text at 4) e (λ p f. target_not_cut text target at p f moved) cut

string_not_cut : (text : List ℕ) (bytes : Option Text) (at : ℕ) (p : PlaceFault) → TextFault text at p
    → StringAt text bytes (Some at) → ⊥
string_not_cut text None at p fault shown = shown
string_not_cut text (Some bytes) at p fault shown = text_not_cut text at p bytes fault shown

string_apart : (text : List ℕ) (table n : ℕ) (bytes : Option Text) (e : MetaFault) → StringFault text table n e
    → ShowsString text table n bytes → ⊥
string_apart text table n bytes e (inl fault) q = reference_apart text table n q.target e fault q.referred
string_apart text table n bytes e (inr (at, referred, cut)) q =
    let same : q.target ≡ Some at = target_same text table n q.target (Some at) q.referred referred in
    let moved : StringAt text bytes (Some at) = subst (StringAt text bytes) same q.shown in
    place_fault_apart (TextFault text at) e (λ p f. string_not_cut text bytes at p f moved) cut

pub vector_apart : (text : List ℕ) (table n size : ℕ) (vector : VectorRef) (e : MetaFault)
    → VectorRefFault text table n size e → ShowsVectorRef text table n size vector → ⊥
vector_apart text table n size vector e (inl fault) q = reference_apart text table n q.target e fault q.referred
vector_apart text table n size vector e (inr (at, referred, cut)) q =
    let same : q.target ≡ Some at = target_same text table n q.target (Some at) q.referred referred in
    let moved : VectorAt text size vector (Some at) = subst (VectorAt text size vector) same q.shown in
    place_fault_apart (λ p. VectorFault text at size p) e
    (λ p f. vector_not_cut text at size vector.first vector.count p f moved) cut

-- ---- metadata

entry_apart : (text : List ℕ) (table : ℕ) (x : Entry) (e : MetaFault) → EntryFault text table e
    → ShowsEntry text table x → ⊥
entry_apart text table x e (inl fault) q = string_apart text table 0 q.key e fault q.key_shown
entry_apart text table x e (inr fault) q = string_apart text table 1 q.value e fault q.value_shown

-- a reference to one of the entries names a table that shows one
entry_shown : (text : List ℕ) (first : ℕ) (es : List Entry) (i table : ℕ) → i < length es
    → ShowsReference text (first + 4 * i) table
    → ShowsEntries text first es → (x : Entry) × ShowsEntry text table x
entry_shown text first [] i table below reference shown = absurd (omega arith)
entry_shown text first (x ∷ xs) zero table below reference ((table', reference', shown), rest) =
    let at : first + 4 * zero ≡ first = omega arith in
    let same : table' ≡ table =
    reference_same text first table' table reference' (subst (λ k. ShowsReference text k table) at reference) in
    (x, subst (λ k. ShowsEntry text k x) same shown)
entry_shown text first (x ∷ xs) (suc i) table below reference (one, rest) =
    let at : first + 4 * suc i ≡ first + 4 + 4 * i = omega arith in
    entry_shown text (first + 4) xs i table (omega arith) (subst (λ k. ShowsReference text k table) at reference) rest

entries_apart : (text : List ℕ) (vector : VectorRef) (es : List Entry) (e : MetaFault) → EntriesFault text vector e
    → length es ≡ vector.count
    → ShowsEntries text vector.first es → ⊥
entries_apart text vector es e (i, table, below, reference, fault) all shown =
    let found = entry_shown text vector.first es i table (omega arith) reference shown in
    entry_apart text table found.0 e fault found.1

pub metadata_apart : (text : List ℕ) (table n : ℕ) (vector : VectorRef) (es : List Entry) (e : MetaFault)
    → MetadataFault text table n e
    → ShowsVectorRef text table n 4 vector → length es ≡ vector.count → ShowsEntries text vector.first es → ⊥
metadata_apart text table n vector es e (inl fault) there all shown = vector_apart text table n 4 vector e fault there
metadata_apart text table n vector es e (inr (vector', there', fault)) there all shown =
    let same : vector' ≡ vector = vector_ref_same text table n 4 vector' vector there' there in
    entries_apart text vector es e (subst (λ (r : VectorRef). EntriesFault text r e) same fault) all shown

-- ---- types

parameter_apart : (text : List ℕ) (table n : ℕ) (p : Option Parameter) (x : ℕ) (e : MetaFault)
    → ParameterFault text table n p e
    → ShowsParameter text table n p x → ⊥
parameter_apart text table n None x e fault shown = fault
parameter_apart text table n (Some p) x e (inl fault) (type, reference, at) =
    reference_apart text table 3 type e fault reference
parameter_apart text table n (Some p) x e (inr (type', reference', fault)) (type, reference, at) =
    let same : type ≡ Some type' = target_same text table 3 type (Some type') reference reference' in
    let moved : ParameterAt text n p x (Some type') = subst (ParameterAt text n p x) same at in
    slot_number_apart text type' n p.size p.default x e fault moved

timezone_apart : (text : List ℕ) (table : ℕ) (b : Bool) (x : Option Text) (e : MetaFault) → TimezoneFault text table b e
    → ShowsTimezone text table b x → ⊥
timezone_apart text table false x e fault shown = fault
timezone_apart text table true x e (inl fault) (type, reference, at) =
    reference_apart text table 3 type e fault reference
timezone_apart text table true x e (inr (type', reference', fault)) (type, reference, at) =
    let same : type ≡ Some type' = target_same text table 3 type (Some type') reference reference' in
    let moved : TimezoneAt text x (Some type') = subst (TimezoneAt text x) same at in
    string_apart text type' 1 x e fault moved

parameters_apart : (text : List ℕ) (table type_id : ℕ) (data_type : DataType) (e : MetaFault)
    → ParametersFault text table type_id e
    → ShowsDataType text table type_id data_type → ⊥
parameters_apart text table type_id data_type e (inl fault) q =
    parameter_apart text table 0 (parameters_of type_id).first q.a e fault q.numbers.first
parameters_apart text table type_id data_type e (inr (inl fault)) q =
    parameter_apart text table 1 (parameters_of type_id).second q.b e fault q.numbers.second
parameters_apart text table type_id data_type e (inr (inr (inl fault))) q =
    parameter_apart text table 2 (parameters_of type_id).third q.c e fault q.numbers.third
parameters_apart text table type_id data_type e (inr (inr (inr fault))) q =
    timezone_apart text table (has_timezone type_id) q.timezone e fault q.zone

-- one test of a chain of them
past : (b : Bool) (x y y' : Option DataType) → (y ≡ None → y' ≡ None) → (if b then x else y) ≡ None
    → (if b then x else y') ≡ None
past true x y y' next h = h
past false x y y' next h = next h

here : (b : Bool) (x x' y : Option DataType) → (x ≡ None → x' ≡ None) → (if b then x else y) ≡ None
    → (if b then x' else y) ≡ None
here true x x' y next h = next h
here false x x' y next h = h

no_time : (unit : Option TimeUnit) (z : Option Text) → option_map (λ u. timestamp_type u None) unit ≡ None
    → option_map (λ u. timestamp_type u z) unit ≡ None
no_time None z h = refl
no_time (Some u) z h = cc

-- what the parameters lack, no time zone mends
always_wrong : (type_id a b c : ℕ) (z : Option Text) → data_type_from type_id a b c None ≡ None
    → data_type_from type_id a b c z ≡ None
always_wrong type_id a b c z =
    past (type_id == 1) _ _ _
    (past (type_id == 2) _ _ _
    (past (type_id == 3) _ _ _
    (past (type_id == 4) _ _ _
    (past (type_id == 5) _ _ _
    (past (type_id == 6) _ _ _
    (past (type_id == 7) _ _ _
    (past (type_id == 8) _ _ _
    (past (type_id == 9) _ _ _ (here (type_id == 10) _ _ _ (no_time (time_unit_of a) z))))))))))

-- a type that is not carried has no meaning
not_carried : (type_id a b c : ℕ) (z : Option Text) → is_carried type_id ≡ false → data_type_from type_id a b c z ≡ None
not_carried type_id a b c z out =
    let h18 = or_parts _ (type_id == 18) out in
    let h16 = or_parts _ (type_id == 16) h18.0 in
    let h15 = or_parts _ (type_id == 15) h16.0 in
    let h13 = or_parts _ (type_id == 13) h15.0 in
    let h12 = or_parts _ (type_id == 12) h13.0 in
    let h10 = or_parts _ (type_id == 10) h12.0 in
    let h9 = or_parts _ (type_id == 9) h10.0 in
    let h8 = or_parts _ (type_id == 8) h9.0 in
    let h7 = or_parts _ (type_id == 7) h8.0 in
    let h6 = or_parts _ (type_id == 6) h7.0 in
    let h5 = or_parts _ (type_id == 5) h6.0 in
    let h4 = or_parts _ (type_id == 4) h5.0 in
    let h3 = or_parts _ (type_id == 3) h4.0 in
    let h2 = or_parts _ (type_id == 2) h3.0 in
    rw (h2.0, h2.1, h3.1, h4.1, h5.1, h6.1, h7.1, h8.1, h9.1, h10.1, h12.1, h13.1, h15.1, h16.1, h18.1)

none_not_some : (o : Option DataType) (data_type : DataType) → o ≡ None → o ≡ Some data_type → ⊥
none_not_some o data_type p q = cc

-- no other parameters than those that are shown
meaningless : (f : ℕ → ℕ → ℕ → Option Text → Option DataType) (a b c a' b' c' : ℕ) (z : Option Text) → a ≡ a' → b ≡ b'
    → c ≡ c'
    → f a b c z ≡ None → f a' b' c' z ≡ None
meaningless f a b c a' b' c' z p q r none = cc

wrong_apart : (text : List ℕ) (table type_id : ℕ) (data_type : DataType) → HasWrongParameters text table type_id
    → ShowsDataType text table type_id data_type → ⊥
wrong_apart text table type_id data_type w q =
    let same = parameters_same text table type_id w.a w.b w.c q.a q.b q.c w.numbers q.numbers in
    let none : data_type_from type_id w.a w.b w.c q.timezone ≡ None =
    always_wrong type_id w.a w.b w.c q.timezone w.wrong in
    none_not_some (data_type_from type_id q.a q.b q.c q.timezone) data_type
    (meaningless (data_type_from type_id) w.a w.b w.c q.a q.b q.c q.timezone same.0 same.1 same.2 none) q.means

type_apart : (text : List ℕ) (table type_id : ℕ) (data_type : DataType) (e : MetaFault) → TypeFault text table type_id e
    → ShowsDataType text table type_id data_type → ⊥
type_apart text table type_id data_type (meta.Unsupported told) (is, inl out) q =
    none_not_some (data_type_from type_id q.a q.b q.c q.timezone) data_type
    (not_carried type_id q.a q.b q.c q.timezone out) q.means
type_apart text table type_id data_type (meta.Unsupported told) (is, inr (decimal, wrong)) q =
    wrong_apart text table type_id data_type wrong q
type_apart text table type_id data_type meta.BadHeader (carried, other, wrong) q =
    wrong_apart text table type_id data_type wrong q
type_apart text table type_id data_type meta.OutOfBounds fault q = fault
type_apart text table type_id data_type meta.NotUtf8 fault q = fault
type_apart text table type_id data_type meta.Version fault q = fault
type_apart text table type_id data_type meta.Endianness fault q = fault
type_apart text table type_id data_type meta.Dictionary fault q = fault
type_apart text table type_id data_type meta.TooDeep fault q = fault
type_apart text table type_id data_type meta.TooManyFields fault q = fault
type_apart text table type_id data_type meta.OutOfMemory fault q = fault

data_type_apart : (text : List ℕ) (table type_id : ℕ) (data_type : DataType) (e : MetaFault)
    → DataTypeFault text table e → ShowsNumber text table 2 1 0 type_id
    → ShowsDataType text table type_id data_type → ⊥
data_type_apart text table type_id data_type e (inl fault) number q =
    slot_number_apart text table 2 1 0 type_id e fault number
data_type_apart text table type_id data_type e (inr (type_id', number', inl fault)) number q =
    let same : type_id' ≡ type_id = number_same text table 2 1 0 type_id' type_id number' number in
    parameters_apart text table type_id data_type e (subst (λ k. ParametersFault text table k e) same fault) q
data_type_apart text table type_id data_type e (inr (type_id', number', inr fault)) number q =
    let same : type_id' ≡ type_id = number_same text table 2 1 0 type_id' type_id number' number in
    type_apart text table type_id data_type e (subst (λ k. TypeFault text table k e) same fault) q

-- ---- fields

own_apart : (text : List ℕ) (table : ℕ) (c : FieldHead) (r s : VectorRef) (e : MetaFault) → OwnFault text table e
    → ShowsFieldHead text table c r s → ⊥
own_apart text table c r s meta.BadHeader w q =
    let types : c.data_type ≡ w.data_type = same_id_same_type text table q.type_id w.type_id c.data_type w.data_type
    q.type_id_shown w.type_id_shown q.data_type_shown w.data_type_shown in
    let vectors : r ≡ w.children = vector_ref_same text table 5 4 r w.children q.children_shown w.children_shown in
    let moved : AllowsChildren w.data_type r.count = subst (λ k. AllowsChildren k r.count) types q.allowed in
    w.wrong (subst (λ (vector : VectorRef). AllowsChildren w.data_type vector.count) vectors moved)
own_apart text table c r s meta.Dictionary (at, found) q =
    let no : Some at ≡ None = field_same text table 4 (Some at) None found q.no_dictionary in cc
own_apart text table c r s (meta.Unsupported told) fault q = fault
own_apart text table c r s meta.OutOfBounds fault q = fault
own_apart text table c r s meta.NotUtf8 fault q = fault
own_apart text table c r s meta.Version fault q = fault
own_apart text table c r s meta.Endianness fault q = fault
own_apart text table c r s meta.TooDeep fault q = fault
own_apart text table c r s meta.TooManyFields fault q = fault
own_apart text table c r s meta.OutOfMemory fault q = fault

pub field_apart : (text : List ℕ) (table : ℕ) (c : FieldHead) (r s : VectorRef) (es : List Entry) (e : MetaFault)
    → FieldFault text table e
    → ShowsFieldHead text table c r s → length es ≡ s.count → ShowsEntries text s.first es → ⊥
field_apart text table c r s es e (inl fault) q all shown = string_apart text table 0 q.name e fault q.name_shown
field_apart text table c r s es e (inr (inl fault)) q all shown =
    slot_number_apart text table 1 1 0 q.nullable e fault q.nullable_shown
field_apart text table c r s es e (inr (inr (inl fault))) q all shown =
    data_type_apart text table q.type_id c.data_type e fault q.type_id_shown q.data_type_shown
field_apart text table c r s es e (inr (inr (inr (inl fault)))) q all shown =
    place_fault_apart (SlotFault text table 4) e (λ p f. field_not_cut text table 4 p None f q.no_dictionary) fault
field_apart text table c r s es e (inr (inr (inr (inr (inl fault))))) q all shown =
    vector_apart text table 5 4 r e fault q.children_shown
field_apart text table c r s es e (inr (inr (inr (inr (inr (inl fault)))))) q all shown =
    metadata_apart text table 6 s es e fault q.metadata_shown all shown
field_apart text table c r s es e (inr (inr (inr (inr (inr (inr fault)))))) q all shown =
    own_apart text table c r s e fault q
