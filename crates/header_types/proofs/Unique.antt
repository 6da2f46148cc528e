-- A text shows at most one header, and each part of one at most once.
use Rattle.std.proofs.Common.{◌≡◌, ℕ, ◌+◌, ℤ, Bool, true, false, not, ◌==◌, List, [], ◌∷◌, length, Option, Some, None}
use Rattle.std.proofs.Common.{is_some, arith, refl, sym, ap, ap₂, ◌∙◌, subst}
use Rattle.flat_places.proofs.Numbers.{uint_same, reference_same}
use Rattle.flat_places.proofs.Fields.{field_same}
use Rattle.flat_places.proofs.Vectors.{vector_same, text_same}
use Rattle.header_types.specs.Fields.{Text, Entry, DataType, FieldHead, Tree, tree, Forest, no_more, more, width}
use Rattle.header_types.specs.Fields.{SchemaTree}
use Rattle.header_types.specs.Slots.{NumberAt, ShowsNumber, ReferenceAt, ShowsReferenceField, StringAt, ShowsString}
use Rattle.header_types.specs.Slots.{VectorRef, VectorAt, ShowsVectorRef}
use Rattle.header_types.specs.TypeIds.{Parameter, parameters_of, has_timezone, data_type_from}
use Rattle.header_types.specs.Shown.{or_empty, ShowsEntry, ShowsEntries, ParameterAt, ShowsParameter, TimezoneAt}
use Rattle.header_types.specs.Shown.{ShowsTimezone, ShowsParameters, ShowsDataType, ShowsFieldHead, ShowsTree}
use Rattle.header_types.specs.Shown.{ShowsForest}
use Rattle.header_types.specs.Header.{ShowsMetadata, ShowsSchema, int64_of, ShowsInt64, ShowsPairs, ShowsPairsAt, Head}
use Rattle.header_types.specs.Header.{ShowsBatch, Header, schema_header, batch_header, schema_type, batch_type}
use Rattle.header_types.specs.Header.{ShowsMessage, ShowsHeader}

-- ---- slots

number_at_same : (text : List ℕ) (size default x y : ℕ) (field : Option ℕ) → NumberAt text size default x field
    → NumberAt text size default y field → x ≡ y
number_at_same text size default x y None p q = p ∙ sym q
number_at_same text size default x y (Some place) p q = uint_same text place size x y p q

pub number_same : (text : List ℕ) (table n size default x y : ℕ) → ShowsNumber text table n size default x
    → ShowsNumber text table n size default y → x ≡ y
number_same text table n size default x y p q =
    let same : p.field ≡ q.field = field_same text table n p.field q.field p.found q.found in
    number_at_same text size default x y q.field (subst (NumberAt text size default x) same p.number) q.number

reference_at_same : (text : List ℕ) (x y field : Option ℕ) → ReferenceAt text x field → ReferenceAt text y field → x ≡ y
reference_at_same text None None field p q = refl
reference_at_same text None (Some y) None p q = absurd q
reference_at_same text None (Some y) (Some place) p q = absurd p
reference_at_same text (Some x) None None p q = absurd p
reference_at_same text (Some x) None (Some place) p q = absurd q
reference_at_same text (Some x) (Some y) None p q = absurd p
reference_at_same text (Some x) (Some y) (Some place) p q = ap Some (reference_same text place x y p q)

pub target_same : (text : List ℕ) (table n : ℕ) (x y : Option ℕ) → ShowsReferenceField text table n x
    → ShowsReferenceField text table n y → x ≡ y
target_same text table n x y p q =
    let same : p.field ≡ q.field = field_same text table n p.field q.field p.found q.found in
    reference_at_same text x y q.field (subst (ReferenceAt text x) same p.refers) q.refers

string_at_same : (text : List ℕ) (x y : Option Text) (target : Option ℕ) → StringAt text x target
    → StringAt text y target → x ≡ y
string_at_same text None None target p q = refl
string_at_same text None (Some y) None p q = absurd q
string_at_same text None (Some y) (Some place) p q = absurd p
string_at_same text (Some x) None None p q = absurd p
string_at_same text (Some x) None (Some place) p q = absurd q
string_at_same text (Some x) (Some y) None p q = absurd p
string_at_same text (Some x) (Some y) (Some place) p q = ap Some (text_same text place x y p q)

pub string_same : (text : List ℕ) (table n : ℕ) (x y : Option Text) → ShowsString text table n x
    → ShowsString text table n y → x ≡ y
string_same text table n x y p q =
    let same : p.target ≡ q.target = target_same text table n p.target q.target p.referred q.referred in
    string_at_same text x y q.target (subst (StringAt text x) same p.shown) q.shown

vector_ref_of : ℕ → ℕ → VectorRef
vector_ref_of first count = record { first = first; count = count }

vector_refs_same : (x y : VectorRef) → x.first ≡ y.first → x.count ≡ y.count → x ≡ y
unfolding vector_ref_of
vector_refs_same x y p q = ap₂ vector_ref_of p q

vector_at_same : (text : List ℕ) (size : ℕ) (x y : VectorRef) (target : Option ℕ) → VectorAt text size x target
    → VectorAt text size y target → x ≡ y
vector_at_same text size x y None p q = p ∙ sym q
vector_at_same text size x y (Some place) p q =
    let same = vector_same text place size x.first y.first x.count y.count p q in
    vector_refs_same x y same.0 same.1

pub vector_ref_same : (text : List ℕ) (table n size : ℕ) (x y : VectorRef) → ShowsVectorRef text table n size x
    → ShowsVectorRef text table n size y → x ≡ y
vector_ref_same text table n size x y p q =
    let same : p.target ≡ q.target = target_same text table n p.target q.target p.referred q.referred in
    vector_at_same text size x y q.target (subst (VectorAt text size x) same p.shown) q.shown

-- ---- types

parameter_at_same : (text : List ℕ) (n : ℕ) (p : Parameter) (x y : ℕ) (type : Option ℕ) → ParameterAt text n p x type
    → ParameterAt text n p y type → x ≡ y
parameter_at_same text n p x y None h k = h ∙ sym k
parameter_at_same text n p x y (Some type) h k = number_same text type n p.size p.default x y h k

pub parameter_same : (text : List ℕ) (table n : ℕ) (p : Option Parameter) (x y : ℕ) → ShowsParameter text table n p x
    → ShowsParameter text table n p y → x ≡ y
parameter_same text table n None x y h k = h ∙ sym k
parameter_same text table n (Some p) x y (type, reference, at) (type', reference', at') =
    let same : type ≡ type' = target_same text table 3 type type' reference reference' in
    parameter_at_same text n p x y type' (subst (ParameterAt text n p x) same at) at'

timezone_at_same : (text : List ℕ) (x y : Option Text) (type : Option ℕ) → TimezoneAt text x type
    → TimezoneAt text y type → x ≡ y
timezone_at_same text x y None h k = h ∙ sym k
timezone_at_same text x y (Some type) h k = string_same text type 1 x y h k

pub timezone_same : (text : List ℕ) (table : ℕ) (b : Bool) (x y : Option Text) → ShowsTimezone text table b x
    → ShowsTimezone text table b y
    → x ≡ y
timezone_same text table false x y h k = h ∙ sym k
timezone_same text table true x y (type, reference, at) (type', reference', at') =
    let same : type ≡ type' = target_same text table 3 type type' reference reference' in
    timezone_at_same text x y type' (subst (TimezoneAt text x) same at) at'

pub parameters_same : (text : List ℕ) (table type_id a b c a' b' c' : ℕ) → ShowsParameters text table type_id a b c
    → ShowsParameters text table type_id a' b' c' → (a ≡ a') × (b ≡ b') × (c ≡ c')
parameters_same text table type_id a b c a' b' c' p q = (
  parameter_same text table 0 (parameters_of type_id).first a a' p.first q.first,
  parameter_same text table 1 (parameters_of type_id).second b b' p.second q.second,
  parameter_same text table 2 (parameters_of type_id).third c c' p.third q.third,
)

meaning_same : (f : ℕ → ℕ → ℕ → Option Text → Option DataType) (a b c a' b' c' : ℕ) (t t' : Option Text)
    (x y : DataType)
    → a ≡ a' → b ≡ b' → c ≡ c' → t ≡ t' → f a b c t ≡ Some x → f a' b' c' t' ≡ Some y → x ≡ y
meaning_same f a b c a' b' c' t t' x y ea eb ec et p q = cc

pub data_type_same : (text : List ℕ) (table type_id : ℕ) (x y : DataType) → ShowsDataType text table type_id x
    → ShowsDataType text table type_id y → x ≡ y
data_type_same text table type_id x y p q =
    let same = parameters_same text table type_id p.a p.b p.c q.a q.b q.c p.numbers q.numbers in
    let zone : p.timezone ≡ q.timezone = timezone_same text table
    (has_timezone type_id) p.timezone q.timezone p.zone q.zone in
    meaning_same (data_type_from type_id) p.a p.b p.c q.a q.b q.c p.timezone q.timezone x y same.0 same.1 same.2 zone
    p.means q.means

-- ---- metadata

pub entry_same : (text : List ℕ) (table : ℕ) (x y : Entry) → ShowsEntry text table x → ShowsEntry text table y → x ≡ y
entry_same text table x y p q =
    let keys : p.key ≡ q.key = string_same text table 0 p.key q.key p.key_shown q.key_shown in
    let values : p.value ≡ q.value = string_same text table 1 p.value q.value p.value_shown q.value_shown in
    p.both ∙ ap₂ (λ (k v : Option Text). (or_empty k, or_empty v)) keys values ∙ sym q.both

pub entries_same : (text : List ℕ) (place : ℕ) (xs ys : List Entry) → ShowsEntries text place xs
    → ShowsEntries text place ys
    → length xs ≡ length ys → xs ≡ ys
entries_same text place [] [] p q len = refl
entries_same text place [] (y ∷ ys) p q len = absurd (omega arith)
entries_same text place (x ∷ xs) [] p q len = absurd (omega arith)
entries_same text place (x ∷ xs) (y ∷ ys) ((table, reference, shown), rest) ((table', reference', shown'), rest') len =
    let same : table ≡ table' = reference_same text place table table' reference reference' in
    let here : x ≡ y = entry_same text table' x y (subst (λ k. ShowsEntry text k x) same shown) shown' in
    let there : xs ≡ ys = entries_same text (place + 4) xs ys rest rest' (omega arith) in
    ap₂ ◌∷◌ here there

-- ---- fields

field_head_of : Text → Bool → DataType → FieldHead
field_head_of name nullable data_type = record { name = name; nullable = nullable; data_type = data_type }

field_heads_same : (x y : FieldHead) → x.name ≡ y.name → x.nullable ≡ y.nullable → x.data_type ≡ y.data_type → x ≡ y
unfolding field_head_of
field_heads_same x y p q r = ap₂ (λ n b. field_head_of n b x.data_type) p q ∙ ap (field_head_of y.name y.nullable) r

pub same_id_same_type : (text : List ℕ) (table k k' : ℕ) (x y : DataType) → ShowsNumber text table 2 1 0 k
    → ShowsNumber text table 2 1 0 k'
    → ShowsDataType text table k x → ShowsDataType text table k' y → x ≡ y
same_id_same_type text table k k' x y p q h h' =
    let same : k ≡ k' = number_same text table 2 1 0 k k' p q in
    data_type_same text table k' x y (subst (λ n. ShowsDataType text table n x) same h) h'

pub field_head_same : (text : List ℕ) (table : ℕ) (x y : FieldHead) (r r' s s' : VectorRef)
    → ShowsFieldHead text table x r s → ShowsFieldHead text table y r' s'
    → (x ≡ y) × (r ≡ r') × (s ≡ s')
field_head_same text table x y r r' s s' p q =
    let names : p.name ≡ q.name = string_same text table 0 p.name q.name p.name_shown q.name_shown in
    let named : x.name ≡ y.name = p.named ∙ ap or_empty names ∙ sym q.named in
    let nulls : p.nullable ≡ q.nullable = number_same text table 1 1 0 p.nullable q.nullable p.nullable_shown
    q.nullable_shown in
    let nullable : x.nullable ≡ y.nullable = p.may_be_null ∙ ap (λ n. not (n == 0)) nulls ∙ sym q.may_be_null in
    let types : x.data_type ≡ y.data_type =
    same_id_same_type text table p.type_id q.type_id x.data_type y.data_type p.type_id_shown q.type_id_shown
    p.data_type_shown q.data_type_shown in (
      field_heads_same x y named nullable types,
      vector_ref_same text table 5 4 r r' p.children_shown q.children_shown,
      vector_ref_same text table 6 4 s s' p.metadata_shown q.metadata_shown,
    )

-- ---- trees

trees_of_parts : (c c' : FieldHead) (es es' : List Entry) (f f' : Forest) → c ≡ c' → es ≡ es' → f ≡ f'
    → tree c es f ≡ tree c' es' f'
trees_of_parts c c' es es' f f' p q r = cc

mutual
  pub tree_same : (text : List ℕ) (table : ℕ) (x y : Tree) → ShowsTree text table x → ShowsTree text table y → x ≡ y
  tree_same text table (tree c es inner) (tree c' es' inner') (r, s, field, all, entries, wide, forest)
      (r', s', field', all', entries', wide', forest') =
      let same = field_head_same text table c c' r r' s s' field field' in
      let moved : ShowsEntries text s'.first es =
      subst (λ (vector : VectorRef). ShowsEntries text vector.first es) same.2 entries in
      let counts : length es ≡ length es' = all ∙ ap (λ (vector : VectorRef). vector.count) same.2 ∙ sym all' in
      let trees : ShowsForest text r'.first inner =
      subst (λ (vector : VectorRef). ShowsForest text vector.first inner) same.1 forest in
      let widths : width inner ≡ width inner' = wide ∙ ap (λ (vector : VectorRef). vector.count) same.1 ∙ sym wide' in
      trees_of_parts c c' es es' inner inner' same.0 (entries_same text s'.first es es' moved entries' counts)
      (forest_same text r'.first inner inner' trees forest' widths)

  pub forest_same : (text : List ℕ) (place : ℕ) (x y : Forest) → ShowsForest text place x → ShowsForest text place y
      → width x ≡ width y → x ≡ y
  forest_same text place no_more no_more p q wide = refl
  forest_same text place no_more (more y ys) p q wide = absurd (omega arith)
  forest_same text place (more x xs) no_more p q wide = absurd (omega arith)
  forest_same text place (more x xs) (more y ys) ((table, reference, shown), rest)
      ((table', reference', shown'), rest') wide =
      let same : table ≡ table' = reference_same text place table table' reference reference' in
      let moved : ShowsTree text table' x = subst (λ k. ShowsTree text k x) same shown in
      ap₂ more (tree_same text table' x y moved shown') (forest_same text (place + 4) xs ys rest rest' (omega arith))

-- ---- schemas

pub metadata_same : (text : List ℕ) (table n : ℕ) (xs ys : List Entry) → ShowsMetadata text table n xs
    → ShowsMetadata text table n ys → xs ≡ ys
metadata_same text table n xs ys p q =
    let same : p.vector ≡ q.vector = vector_ref_same text table n 4 p.vector q.vector p.vector_shown q.vector_shown in
    let moved : ShowsEntries text q.vector.first xs =
    subst (λ (vector : VectorRef). ShowsEntries text vector.first xs) same p.shown in
    entries_same text q.vector.first xs ys moved q.shown
    (p.all ∙ ap (λ (vector : VectorRef). vector.count) same ∙ sym q.all)

schema_of_parts : Forest → List Entry → SchemaTree
schema_of_parts f es = record { fields = f; metadata = es }

schemas_of_parts : (x y : SchemaTree) → x.fields ≡ y.fields → x.metadata ≡ y.metadata → x ≡ y
unfolding schema_of_parts
schemas_of_parts x y p q = ap₂ schema_of_parts p q

pub schema_same : (text : List ℕ) (table : ℕ) (x y : SchemaTree) → ShowsSchema text table x → ShowsSchema text table y
    → x ≡ y
schema_same text table x y p q =
    let same : p.fields ≡ q.fields = vector_ref_same text table 1 4 p.fields q.fields p.fields_shown q.fields_shown in
    let moved : ShowsForest text q.fields.first x.fields =
    subst (λ (vector : VectorRef). ShowsForest text vector.first x.fields) same p.shown in
    let widths : width x.fields ≡ width y.fields = p.all ∙ ap (λ (vector : VectorRef). vector.count) same ∙ sym q.all in
    schemas_of_parts x y (forest_same text q.fields.first x.fields y.fields moved q.shown widths)
    (metadata_same text table 2 x.metadata y.metadata p.metadata_shown q.metadata_shown)

-- ---- batches

int64_same : (text : List ℕ) (place : ℕ) (x y : ℤ) → ShowsInt64 text place x → ShowsInt64 text place y → x ≡ y
int64_same text place x y (bits, shown, is) (bits', shown', is') = is
    ∙ ap int64_of (uint_same text place 8 bits bits' shown shown') ∙ sym is'

pairs_of_parts : (x y : ℤ × ℤ) → x.0 ≡ y.0 → x.1 ≡ y.1 → x ≡ y
pairs_of_parts x y p q = ap₂ (λ (a b : ℤ). (a, b)) p q

pub pairs_same : (text : List ℕ) (place : ℕ) (xs ys : List (ℤ × ℤ)) → ShowsPairs text place xs
    → ShowsPairs text place ys
    → length xs ≡ length ys → xs ≡ ys
pairs_same text place [] [] p q len = refl
pairs_same text place [] (y ∷ ys) p q len = absurd (omega arith)
pairs_same text place (x ∷ xs) [] p q len = absurd (omega arith)
pairs_same text place (x ∷ xs) (y ∷ ys) (one, two, rest) (one', two', rest') len =
    ap₂ ◌∷◌ (pairs_of_parts x y (int64_same text place x.0 y.0 one one') (int64_same text (place + 8) x.1 y.1 two two'))
    (pairs_same text (place + 16) xs ys rest rest' (omega arith))

pairs_at_same : (text : List ℕ) (table n : ℕ) (xs ys : List (ℤ × ℤ)) → ShowsPairsAt text table n xs
    → ShowsPairsAt text table n ys → xs ≡ ys
pairs_at_same text table n xs ys p q =
    let same : p.vector ≡ q.vector = vector_ref_same text table n 16 p.vector q.vector p.vector_shown q.vector_shown in
    let moved : ShowsPairs text q.vector.first xs =
    subst (λ (vector : VectorRef). ShowsPairs text vector.first xs) same p.shown in
    pairs_same text q.vector.first xs ys moved q.shown
    (p.all ∙ ap (λ (vector : VectorRef). vector.count) same ∙ sym q.all)

head_of_parts : ℤ → List (ℤ × ℤ) → List (ℤ × ℤ) → Bool → ℤ → Head
head_of_parts l n b c z = record { length = l; nodes = n; buffers = b; compressed = c; body_length = z }

heads_of_parts : (x y : Head) → x.length ≡ y.length → x.nodes ≡ y.nodes → x.buffers ≡ y.buffers
    → x.compressed ≡ y.compressed
    → x.body_length ≡ y.body_length → x ≡ y
unfolding head_of_parts
heads_of_parts x y p q r s t =
    ap₂ (λ l n. head_of_parts l n x.buffers x.compressed x.body_length) p q
    ∙ ap₂ (λ b c. head_of_parts y.length y.nodes b c x.body_length) r s
    ∙ ap (head_of_parts y.length y.nodes y.buffers y.compressed) t

pub head_same : (text : List ℕ) (table : ℕ) (x y : Head) → ShowsBatch text table x → ShowsBatch text table y
    → x.body_length ≡ y.body_length → x ≡ y
head_same text table x y p q body =
    let rows : p.rows ≡ q.rows = number_same text table 0 8 0 p.rows q.rows p.rows_shown q.rows_shown in
    let lengths : x.length ≡ y.length = p.length_is ∙ ap int64_of rows ∙ sym q.length_is in
    let field : p.compression ≡ q.compression =
    field_same text table 3 p.compression q.compression p.compression_shown q.compression_shown in
    let compressed : x.compressed ≡ y.compressed = p.compressed_is ∙ ap (λ (o : Option ℕ). is_some o) field
    ∙ sym q.compressed_is in
    heads_of_parts x y lengths (pairs_at_same text table 1 x.nodes y.nodes p.nodes_shown q.nodes_shown)
    (pairs_at_same text table 2 x.buffers y.buffers p.buffers_shown q.buffers_shown) compressed body

-- ---- messages

pub message_same : (text : List ℕ) (m m' type type' table table' : ℕ) → ShowsMessage text m type table
    → ShowsMessage text m' type' table'
    → (m ≡ m') × (type ≡ type') × (table ≡ table')
message_same text m m' type type' table table' p q =
    let same : m ≡ m' = reference_same text 0 m m' p.root q.root in
    let header_type : ShowsNumber text m' 1 1 0 type = subst (λ k. ShowsNumber text k 1 1 0 type) same p.type_shown in
    let reference : ShowsReferenceField text m' 2 (Some table) =
    subst (λ k. ShowsReferenceField text k 2 (Some table)) same p.header in
    let targets : Some table ≡ Some table' = target_same text m' 2 (Some table) (Some table') reference q.header in
    (same, number_same text m' 1 1 0 type type' header_type q.type_shown, cc)

pub headers_are_one : (text : List ℕ) (x y : Header) → ShowsHeader text x → ShowsHeader text y → x ≡ y
headers_are_one text (schema_header x) (schema_header y) (m, table, message, shown) (m', table', message', shown') =
    let same = message_same text m m' schema_type schema_type table table' message message' in
    ap schema_header (schema_same text table' x y (subst (λ k. ShowsSchema text k x) same.2 shown) shown')
headers_are_one text (schema_header x) (batch_header y) (m, table, message, shown)
    (m', table', message', shown', body') =
    let same = message_same text m m' schema_type batch_type table table' message message' in
    let no : schema_type ≡ batch_type = same.1 in absurd (omega arith)
headers_are_one text (batch_header x) (schema_header y) (m, table, message, shown, body)
    (m', table', message', shown') =
    let same = message_same text m m' batch_type schema_type table table' message message' in
    let no : batch_type ≡ schema_type = same.1 in absurd (omega arith)
headers_are_one text (batch_header x) (batch_header y) (m, table, message, shown, (bits, number, is))
    (m', table', message', shown', (bits', number', is')) =
    let same = message_same text m m' batch_type batch_type table table' message message' in
    let moved : ShowsNumber text m' 3 8 0 bits = subst (λ k. ShowsNumber text k 3 8 0 bits) same.0 number in
    let body : x.body_length ≡ y.body_length = is ∙ ap int64_of (number_same text m' 3 8 0 bits bits' moved number')
    ∙ sym is' in
    ap batch_header (head_same text table' x y (subst (λ k. ShowsBatch text k x) same.2 shown) shown' body)
