-- What a value tells as an upload is one upload, and one that is taken is made of its parts.
use Rattle.std.proofs.Common.{◌≡◌, ◌≤◌, ◌<◌, ◌+◌, ◌*◌, ◌/◌, ◌%◌, ℕ, ℤ, pos, List, [], ◌∷◌, length, map, Option, Some, None, Result, Ok, Err, inl, inr, refl, sym, ap, subst, ◌∙◌, arith}
use Rattle.std.specs.Prelude.{option_and_then, is_some, is_ok, IsSome, ◌==◌, Bool, true, false, if◌then◌else◌, codes}
use Rattle.std.specs.List.{AllZip, AllByRecursion}
use Rattle.std.proofs.lemmas.List.{length-map}
use Rattle.std.proofs.lemmas.Option.{same_Some}
use Rattle.std.proofs.lemmas.Int.{ints}
use Rattle.serde_json.specs.Data.{Data, null}
use Rattle.serde_json.specs.Find.{get, as_null, as_number, as_i64, as_array}
use Rattle.serde_json.specs.View.{view, items_of}
use Rattle.serde_json.specs.declared.value.Value.{Value}
use Rattle.hex.specs.Hex.{decode_of, decode_sized, decode_pairs, pair_value, ◌>>=◌}
use Rattle.hex.specs.declared.error.FromHexError.{FromHexError}
use Rattle.hex.specs.declared.error.FromHexError.TheVariants.{OddLength, InvalidStringLength}
use Rattle.header_types.specs.Fields.{SchemaTree}
use Rattle.batch_types.specs.Cells.{Cell, Rows}
use Rattle.batch_types.specs.Written.{CanBeWritten}
use Rattle.batch_columns.specs.Batches.{rows_of, IsBatchOf}
use Rattle.batch_columns.specs.Contents.{Contents}
use Rattle.batch_columns.specs.declared.batch.Batch.{Batch}
use Rattle.table_types.specs.Uploads.{Upload, upload_text}
use Rattle.table_types.specs.Valid.{IsId, IsUpload}
use Rattle.uploads.specs.Making.{AreMade, AreRefused, upload_of}
use Rattle.uploads.specs.declared.upload_fault.UploadFault.{UploadFault}
use Rattle.uploads.specs.declared.upload_fault.UploadFault.TheVariants as faults
use Rattle.run_files.specs.JsonValues.{text_at}
use Rattle.run_files.specs.UploadValue.{IsByteOf, TellsCell, TellsRows, IsByteBatch, TellsUpload, MeansUpload, byte_cell, column_rows, column_schema, name_told}
use Rattle.run_files.proofs.Reading.{items_are_one, zipped_are_one}

-- ---- what a value tells is one

byte_is_one : (z : ℤ) (a b : ℕ) → IsByteOf z a → IsByteOf z b → a ≡ b
byte_is_one z a b (inl p) (inl q) = let e : pos a ≡ pos b = sym p.0 ∙ q.0 in cc
byte_is_one z a b (inl p) (inr q) = let no : ⊥ = omega (arith, ints, p.0, q.0) in absurd no
byte_is_one z a b (inr p) (inl q) = let no : ⊥ = omega (arith, ints, p.0, q.0) in absurd no
byte_is_one z a b (inr p) (inr q) = omega (arith, ints, p.0, q.0)

pub cell_is_one : (d : Data) (x y : Option (List ℕ)) → TellsCell d x → TellsCell d y → x ≡ y
cell_is_one d None None p q = refl
cell_is_one d None (Some y) p q =
    let e : option_and_then as_i64 (as_number null) ≡ Some q.0 = ap (λ (v : Data). option_and_then as_i64 (as_number v)) (sym p) ∙ q.2 in absurd cc
cell_is_one d (Some x) None p q =
    let e : option_and_then as_i64 (as_number null) ≡ Some p.0 = ap (λ (v : Data). option_and_then as_i64 (as_number v)) (sym q) ∙ p.2 in absurd cc
cell_is_one d (Some x) (Some y) p q =
    let same : p.0 ≡ q.0 = same_Some p.0 q.0 (sym p.2 ∙ q.2) in
    let byte : p.1 ≡ q.1 = byte_is_one q.0 p.1 q.1 (subst (λ (z : ℤ). IsByteOf z p.1) same p.3) q.3 in
    ap (λ (l : List ℕ). Some l) (p.4 ∙ ap (λ (b : ℕ). b ∷ []) byte ∙ sym q.4)

-- a number, which is not null, is told of by one byte
pub number_told : (d : Data) (z : ℤ) (cell : Option (List ℕ)) → is_some (as_null d) ≡ false → Some z ≡ option_and_then as_i64 (as_number d) → TellsCell d cell → (byte : ℕ) × IsByteOf z byte
number_told d z None there is h = let e : is_some (as_null null) ≡ false = ap (λ (v : Data). is_some (as_null v)) (sym h) ∙ there in absurd cc
number_told d z (Some bytes) there is h = (h.1, subst (λ (i : ℤ). IsByteOf i h.1) (same_Some h.0 z (sym h.2 ∙ sym is)) h.3)

-- the cells that an array tells are those of its values
pub cells_told : (d : Data) (vs ws : List Value) (rows : Rows) → ws ≡ vs → Some (items_of (map view vs)) ≡ as_array d → (told : TellsRows d rows) → AllZip TellsCell (map view ws) told.bytes
cells_told d vs ws rows same is told =
    let values : told.values ≡ map view vs = items_are_one told.values (map view vs) (same_Some (items_of told.values) (items_of (map view vs)) (sym told.items ∙ sym is)) in
    subst (λ (l : List Data). AllZip TellsCell l told.bytes) (values ∙ ap (map view) (sym same)) told.each

pub rows_are_one : (d : Data) (x y : Rows) → TellsRows d x → TellsRows d y → x ≡ y
rows_are_one d x y p q =
    let values : p.values ≡ q.values = items_are_one p.values q.values (same_Some (items_of p.values) (items_of q.values) (sym p.items ∙ q.items)) in
    let bytes : p.bytes ≡ q.bytes = zipped_are_one TellsCell cell_is_one q.values p.bytes q.bytes (subst (λ (l : List Data). AllZip TellsCell l p.bytes) values p.each) q.each in
    p.rows_are ∙ ap (λ (l : List (Option (List ℕ))). column_rows (map byte_cell l)) bytes ∙ sym q.rows_are

abbrev bytes_or : {E : Type 0} → List ℕ → Result (List ℕ) E → List ℕ
bytes_or d (Ok x) = x
bytes_or d (Err e) = d

-- what it tells of an upload, by the parts that are read
pub record AreTold (d : Data) (digits name : List ℕ) (values : List Data) (upload : Upload) : Type 0 where
  pub table : text_at (codes "table") d ≡ Some upload.table
  pub id : decode_of digits ≡ Ok upload.id
  pub schema : upload.schema ≡ column_schema name
  pub batches : AllZip TellsRows values upload.batches

-- these are the parts that it tells
pub parts_told : (d : Data) (digits name : List ℕ) (values : List Data) (upload : Upload) → text_at (codes "id") d ≡ Some digits → name_told (get (codes "name") d) ≡ Some name
    → option_and_then as_array (get (codes "values") d) ≡ Some (items_of values) → TellsUpload d upload → AreTold d digits name values upload
parts_told d digits name values upload digits_at named values_at tells =
    let digits_are : tells.digits ≡ digits = same_Some tells.digits digits (sym tells.digits_at ∙ digits_at) in
    let name_is : tells.name ≡ name = same_Some tells.name name (sym tells.named ∙ named) in
    let values_are : tells.values ≡ values = items_are_one tells.values values (same_Some (items_of tells.values) (items_of values) (sym tells.values_at ∙ values_at)) in
    record {
      table = tells.table;
      id = ap decode_of (sym digits_are) ∙ tells.id;
      schema = tells.schema ∙ ap column_schema name_is;
      batches = subst (λ (l : List Data). AllZip TellsRows l upload.batches) values_are tells.batches;
    }

one_upload : (x y : Upload) → x.table ≡ y.table → x.id ≡ y.id → x.schema ≡ y.schema → x.batches ≡ y.batches → x ≡ y
one_upload x y table id schema batches =
    let first : List ℕ → Upload = λ t. record { table = t; id = x.id; schema = x.schema; batches = x.batches } in
    let second : List ℕ → Upload = λ i. record { table = y.table; id = i; schema = x.schema; batches = x.batches } in
    let third : SchemaTree → Upload = λ s. record { table = y.table; id = y.id; schema = s; batches = x.batches } in
    let fourth : List Rows → Upload = λ b. record { table = y.table; id = y.id; schema = y.schema; batches = b } in
    ap first table ∙ ap second id ∙ ap third schema ∙ ap fourth batches

told_is_one : (d : Data) (digits name : List ℕ) (values : List Data) (x y : Upload) → AreTold d digits name values x → AreTold d digits name values y → x ≡ y
told_is_one d digits name values x y p q =
    let table : x.table ≡ y.table = same_Some x.table y.table (sym p.table ∙ q.table) in
    let id : x.id ≡ y.id = ap (bytes_or []) (sym p.id ∙ q.id) in
    let schema : x.schema ≡ y.schema = p.schema ∙ sym q.schema in
    let batches : x.batches ≡ y.batches = zipped_are_one TellsRows rows_are_one values x.batches y.batches p.batches q.batches in
    one_upload x y table id schema batches

pub told_upload : (d : Data) (x y : Upload) → TellsUpload d x → TellsUpload d y → x ≡ y
told_upload d x y p q =
    told_is_one d q.digits q.name q.values x y (parts_told d q.digits q.name q.values x q.digits_at q.named q.values_at p)
    (parts_told d q.digits q.name q.values y q.digits_at q.named q.values_at q)

pub upload_is_one : (d : Data) (x y : List ℕ) → MeansUpload d x → MeansUpload d y → x ≡ y
upload_is_one d x y p q = p.encoded ∙ ap upload_text (told_upload d p.upload q.upload p.tells q.tells) ∙ sym q.encoded

-- the parts that are read make the upload that is told
pub told_is_taken : (d : Data) (text table digits id name : List ℕ) (vs ws : List Value) (batches : List Batch) → ws ≡ vs → Some table ≡ text_at (codes "table") d
    → Some digits ≡ text_at (codes "id") d → Some name ≡ name_told (get (codes "name") d) → Some (items_of (map view vs)) ≡ option_and_then as_array (get (codes "values") d)
    → decode_of digits ≡ Ok id → AllZip TellsRows (map view ws) (map rows_of batches) → MeansUpload d text → IsUpload (upload_of table id (column_schema name) batches)
told_is_taken d text table digits id name vs ws batches same table_at digits_at named values_at decoded rows m =
    let own : Upload = upload_of table id (column_schema name) batches in
    let told : AreTold d digits name (map view vs) own = record {
      table = sym table_at;
      id = decoded;
      schema = refl;
      batches = subst (λ (l : List Value). AllZip TellsRows (map view l) (map rows_of batches)) same rows;
    } in
    let one : own ≡ m.upload
    = told_is_one d digits name (map view vs) own m.upload told (parts_told d digits name (map view vs) m.upload (sym digits_at) (sym named) (sym values_at) m.tells) in
    subst IsUpload (sym one) m.valid

-- and the rows that are told are those of the values that are read
pub rows_told : (d : Data) (text : List ℕ) (vs ws : List Value) → ws ≡ vs → Some (items_of (map view vs)) ≡ option_and_then as_array (get (codes "values") d) → (m : MeansUpload d text)
    → AllZip TellsRows (map view ws) m.upload.batches
rows_told d text vs ws same values_at m =
    subst (λ (l : List Value). AllZip TellsRows (map view l) m.upload.batches) (sym same)
    (parts_told d m.tells.digits m.tells.name (map view vs) m.upload m.tells.digits_at m.tells.named (sym values_at) m.tells).batches

-- ---- an upload's id

bound : (r : Result ℕ FromHexError) (s : Result (List ℕ) FromHexError) (bytes : List ℕ) → (r >>= (λ b. s >>= (λ bs. Ok (b ∷ bs)))) ≡ Ok bytes
    → (b : ℕ) × (bs : List ℕ) × (s ≡ Ok bs) × (bytes ≡ b ∷ bs)
bound (Ok b) (Ok bs) bytes h = (b, bs, refl, ap (bytes_or []) (sym h))
bound (Ok b) (Err e) bytes h = absurd cc
bound (Err e) s bytes h = absurd cc

paired : (i : ℕ) (text bytes : List ℕ) → decode_pairs i text ≡ Ok bytes → length text ≡ 2 * length bytes
unfolding decode_pairs
paired i [] bytes h = let e : [] ≡ bytes = ap (bytes_or []) h in omega (arith, ap length e)
paired i (x ∷ []) bytes h = absurd cc
paired i (x ∷ y ∷ rest) bytes h =
    let b = bound (pair_value x y i) (decode_pairs (i + 2) rest) bytes h in
    let long : length bytes ≡ length (b.0 ∷ b.1) = ap length b.3 in
    let behind : length rest ≡ 2 * length b.1 = paired (i + 2) rest b.1 b.2 in
    omega (arith, long, behind)

even : (odd : Bool) (r : Result (List ℕ) FromHexError) (id : List ℕ) → (if odd then Err OddLength else r) ≡ Ok id → r ≡ Ok id
even true r id h = absurd cc
even false r id h = h

chosen : (odd fits : Bool) (r : Result (List ℕ) FromHexError) (id : List ℕ) → (if odd then Err OddLength else r) ≡ Ok id → fits ≡ true
    → (if odd then Err OddLength else if fits then r else Err InvalidStringLength) ≡ Ok id
chosen true fits r id h e = absurd cc
chosen false true r id h e = h
chosen false false r id h e = absurd cc

-- what decodes to a name is as long as a name
pub id_fits : (digits id : List ℕ) → IsId id → decode_of digits ≡ Ok id → decode_sized digits 16 ≡ Ok id
id_fits digits id is h =
    let odd : Bool = length digits % 2 == 1 in
    let whole : length id ≡ 16 = is.whole in
    let long : length digits ≡ 2 * length id = paired 0 digits id (even odd (decode_pairs 0 digits) id h) in
    let half : length digits / 2 ≡ 16 = omega (arith, whole, long) in
    chosen odd (length digits / 2 == 16) (decode_pairs 0 digits) id h (ap (λ (n : ℕ). n == 16) half)

pub is_there : {T E : Type 0} (r : Result T E) (o : Option T) (x : T) → is_some o ≡ is_ok r → r ≡ Ok x → IsSome o
is_there r (Some y) x e h = refl
is_there r None x e h = let no : false ≡ true = e ∙ ap is_ok h in absurd cc

-- ---- a batch of single bytes, which is written, is of its schema

one_column : (columns : List Contents) (cells : List Cell) → map (λ (column : Contents). column.cells) columns ≡ cells ∷ [] → AllByRecursion (λ (column : Contents). length column.cells ≡ length cells) columns
one_column [] cells h = absurd cc
one_column (c ∷ []) cells h = let e : c.cells ≡ cells = cc in (ap length e, tt)
one_column (c ∷ e ∷ rest) cells h = absurd cc

pub is_of_schema : (name : List ℕ) (batch : Batch) → IsByteBatch batch → CanBeWritten (column_schema name) (rows_of batch) → IsBatchOf (column_schema name) batch
is_of_schema name batch bytes can =
    let counted : batch.rows ≡ length bytes.cells = ap (λ (rows : Rows). rows.count) bytes.rows_are in
    record {
      shapes = bytes.shaped;
      counts =
          subst (λ (n : ℕ). AllByRecursion (λ (column : Contents). length column.cells ≡ n) batch.columns.items) (sym counted)
          (one_column batch.columns.items bytes.cells (ap (λ (rows : Rows). rows.columns) bytes.rows_are));
      rows_few = can.few;
      values_few = can.few_values;
    }

pub are_of_schema : (name : List ℕ) (batches : List Batch) → AllByRecursion IsByteBatch batches → AllByRecursion (CanBeWritten (column_schema name)) (map rows_of batches)
    → AllByRecursion (IsBatchOf (column_schema name)) batches
are_of_schema name [] bytes can = tt
are_of_schema name (b ∷ batches) bytes can = (is_of_schema name b bytes.0 can.0, are_of_schema name batches bytes.1 can.1)

-- parts of which an upload is made that is taken
pub parts_make : (table id name : List ℕ) (batches : List Batch) → AllByRecursion IsByteBatch batches → IsUpload (upload_of table id (column_schema name) batches)
    → AreMade table id (column_schema name) batches
parts_make table id name batches bytes is = record {
  named = is.table_named;
  few = let few : length (map rows_of batches) ≤ 1024 = is.batches_few in omega (arith, few, length-map batches rows_of);
  of_schema = record { profile = is.profile; each = are_of_schema name batches bytes is.batches_written };
  small = record { short = is.short; schema_served = is.schema_served; batches_served = is.batches_served };
}

-- are refused for want of memory alone
pub only_memory : (table id name : List ℕ) (batches : List Batch) (fault : UploadFault) → AreMade table id (column_schema name) batches → AreRefused table id (column_schema name) batches fault → fault ≡ faults.OutOfMemory
only_memory table id name batches faults.BadTable made told = absurd (told made.named)
only_memory table id name batches faults.TooManyBatches made told = let over : 1024 < length batches = told.1 in let few : length batches ≤ 1024 = made.few in absurd (omega (arith, over, few))
only_memory table id name batches faults.ShapeDiffers made told = absurd (told.2 made.of_schema)
only_memory table id name batches faults.TooLarge made told = absurd (told.3 made.small)
only_memory table id name batches faults.OutOfMemory made told = refl
