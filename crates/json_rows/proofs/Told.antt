-- What a value tells of a field, one level or one field at a time.
use Rattle.std.proofs.Common.{◌≡◌, ◌⊎◌, inl, inr, ℕ, suc, ◌+◌, ◌<◌, Bool, true, false, List, [], ◌∷◌, map, drop, length, get_or, Some, Result, Ok, Err, IfOk, refl, sym, ap, subst, ◌∙◌, arith}
use Rattle.std.specs.Prelude.{is_some, ◌==◌}
use Rattle.header_types.specs.declared.field_type.BitWidth.{BitWidth}
use Rattle.column_building.proofs.Shaped.{dropped}
use Rattle.std.specs.List.{AllZip}
use Rattle.std.proofs.lemmas.List.{length-map}
use Rattle.std.proofs.lemmas.Option.{same_Some}
use Rattle.serde_json.specs.Data.{Data, null, boolean, number, string, array, object, Items}
use Rattle.serde_json.specs.Find.{as_null, as_array}
use Rattle.serde_json.specs.View.{view, items_view, items_of}
use Rattle.serde_json.specs.declared.value.Value.{Value}
use Rattle.header_types.specs.declared.schema.Field.{Field, out-Field}
use Rattle.header_types.specs.Fields.{Tree, Forest}
use Rattle.header_types.specs.Views.{tree_of, forest_of}
use Rattle.header_types.specs.FieldView.{field_head_of, fields_in}
use Rattle.header_types.proofs.FieldTrees.{tree_out}
use Rattle.batch_types.specs.Cells.{Cell, null_cell}
use Rattle.batch_columns.specs.Held.{height, heights}
use Rattle.batch_columns.specs.FieldShapes.{field_shapes}
use Rattle.column_building.specs.Whole.{field_shape}
use Rattle.batch_types.specs.Shapes.{shape_of}
use Rattle.json_rows.specs.declared.form.Form.{Form}
use Rattle.json_rows.specs.declared.form.Form.TheVariants as form
use Rattle.json_rows.specs.Forms.{form_of}
use Rattle.json_rows.specs.Numbers.{TellsDouble, TellsSingle}
use Rattle.json_rows.proofs.Zipped.{items_are_one}
use Rattle.json_rows.specs.Cells.{TellsCell, TellsElement, TellsElements, TellsFields, TellsFlat, TellsForm, TellsMembers, TellsNull, IsNameOf, forest_in, name_of, told_at}

-- ---- one level

abbrev pub Opened : Field → Data → Cell → Type 0
Opened x d cell =
    TellsNull (field_head_of x) d cell
    ⊎ TellsForm (form_of (field_head_of x).data_type) (TellsElement (fields_in x)) (TellsFields (fields_in x)) d cell

pub opened : (x : Field) (d : Data) (cell : Cell) → TellsCell (tree_of x) d cell → Opened x d cell
opened x d cell told = subst (λ (t : Tree). TellsCell t d cell) (tree_out x) told

pub closed : (x : Field) (d : Data) (cell : Cell) → Opened x d cell → TellsCell (tree_of x) d cell
closed x d cell told = subst (λ (t : Tree). TellsCell t d cell) (sym (tree_out x)) told

pub height_inside : (x : Field) → height (field_shape x) ≡ suc (heights (field_shapes (out-Field x).children.items))
height_inside x = ap (λ (t : Tree). height (shape_of t)) (tree_out x)

pub name_out : (x : Field) → name_of (tree_of x) ≡ (field_head_of x).name
name_out x = ap name_of (tree_out x)

-- ---- nulls

pub is_null_told : (d : Data) → is_some (as_null d) ≡ true → d ≡ null
is_null_told null is = refl
is_null_told (boolean b) is = cc
is_null_told (number n) is = cc
is_null_told (string s) is = cc
is_null_told (array ds) is = cc
is_null_told (object ms) is = cc

no_single_of_null : (bytes : List ℕ) → TellsSingle null bytes → ⊥
no_single_of_null bytes (inl p) = let no = p.told in cc
no_single_of_null bytes (inr p) = let no = p.told in cc

no_double_of_null : (bytes : List ℕ) → TellsDouble null bytes → ⊥
no_double_of_null bytes (inl p) = let no = p.told in cc
no_double_of_null bytes (inr p) = let no = p.told in cc

pub no_form_of_null : (f : Form) (inside : Forest) (cell : Cell) → TellsForm f (TellsElement inside) (TellsFields inside) null cell → ⊥
no_form_of_null form.Null inside cell told = told
no_form_of_null form.Bool inside cell told = let no = told.told in cc
no_form_of_null (form.Whole width signed) inside cell told = let no = told.1.told in cc
no_form_of_null form.Single inside cell told = no_single_of_null told.0 told.1
no_form_of_null form.Double inside cell told = no_double_of_null told.0 told.1
no_form_of_null form.Text inside cell told = let no = told.1.told in cc
no_form_of_null form.Bytes inside cell told = let no = told.1.told in cc
no_form_of_null (form.SizedBytes size) inside cell told = let no = told.1.0.told in cc
no_form_of_null form.List inside cell told = let no = told.1.told in cc
no_form_of_null (form.SizedList size) inside cell told = let no = told.1.told in cc
no_form_of_null form.Struct inside cell told = let no = told.1.0.told in cc
no_form_of_null form.Unsupported inside cell told = told

-- ---- fields side by side

abbrev pub TellsMember : Data → Tree → Cell → Type 0
TellsMember d t cell = TellsCell t (told_at (name_of t) d) cell

pub members_zip : (ts : List Tree) (d : Data) (cells : List Cell) → TellsMembers (forest_of ts) d cells → AllZip (TellsMember d) ts cells
members_zip [] d [] told = tt
members_zip [] d (cell ∷ cells) told = absurd told
members_zip (t ∷ ts) d [] told = absurd told
members_zip (t ∷ ts) d (cell ∷ cells) told = (told.0, members_zip ts d cells told.1)

pub zip_members : (ts : List Tree) (d : Data) (cells : List Cell) → AllZip (TellsMember d) ts cells → TellsMembers (forest_of ts) d cells
zip_members [] d [] told = tt
zip_members [] d (cell ∷ cells) told = absurd told
zip_members (t ∷ ts) d [] told = absurd told
zip_members (t ∷ ts) d (cell ∷ cells) told = (told.0, zip_members ts d cells told.1)

pub not_null_told : (d : Data) → false ≡ is_some (as_null d) → d ≡ null → ⊥
not_null_told d is null_is = let no : false ≡ is_some (as_null null) = subst (λ (e : Data). false ≡ is_some (as_null e)) null_is is in cc

-- ---- a field's form, with the fields inside it

pub form_closed : (x : Field) (f : Form) (fields : List Field) (d : Data) (cell : Cell) → f ≡ form_of (field_head_of x).data_type
    → fields ≡ (out-Field x).children.items → TellsForm f (TellsElement (forest_in fields)) (TellsFields (forest_in fields)) d cell → TellsCell (tree_of x) d cell
form_closed x f fields d cell form_is inside_is told =
    closed x d cell (inr (subst (λ (g : Form). TellsForm g (TellsElement (fields_in x)) (TellsFields (fields_in x)) d cell) form_is
    (subst (λ (fs : List Field). TellsForm f (TellsElement (forest_in fs)) (TellsFields (forest_in fs)) d cell) inside_is told)))

form_of_opened : (x : Field) (d : Data) (cell : Cell) → (d ≡ null → ⊥) → Opened x d cell
    → TellsForm (form_of (field_head_of x).data_type) (TellsElement (fields_in x)) (TellsFields (fields_in x)) d cell
form_of_opened x d cell other (inl none) = absurd (other none.told)
form_of_opened x d cell other (inr told) = told

pub form_opened : (x : Field) (f : Form) (fields : List Field) (d : Data) (cell : Cell) → f ≡ form_of (field_head_of x).data_type
    → fields ≡ (out-Field x).children.items → (d ≡ null → ⊥) → TellsCell (tree_of x) d cell → TellsForm f (TellsElement (forest_in fields)) (TellsFields (forest_in fields)) d cell
form_opened x f fields d cell form_is inside_is other told =
    subst (λ (fs : List Field). TellsForm f (TellsElement (forest_in fs)) (TellsFields (forest_in fs)) d cell) (sym inside_is)
    (subst (λ (g : Form). TellsForm g (TellsElement (fields_in x)) (TellsFields (fields_in x)) d cell) (sym form_is)
    (form_of_opened x d cell other (opened x d cell told)))

form_of_cell : (x : Field) (d : Data) (cell : Cell) → (cell ≡ null_cell → ⊥) → Opened x d cell
    → TellsForm (form_of (field_head_of x).data_type) (TellsElement (fields_in x)) (TellsFields (fields_in x)) d cell
form_of_cell x d cell other (inl none) = absurd (other none.cell_is)
form_of_cell x d cell other (inr told) = told

-- of a cell that is no null
pub form_of_value : (x : Field) (f : Form) (fields : List Field) (d : Data) (cell : Cell) → f ≡ form_of (field_head_of x).data_type
    → fields ≡ (out-Field x).children.items → (cell ≡ null_cell → ⊥) → TellsCell (tree_of x) d cell → TellsForm f (TellsElement (forest_in fields)) (TellsFields (forest_in fields)) d cell
form_of_value x f fields d cell form_is inside_is other told =
    subst (λ (fs : List Field). TellsForm f (TellsElement (forest_in fs)) (TellsFields (forest_in fs)) d cell) (sym inside_is)
    (subst (λ (g : Form). TellsForm g (TellsElement (fields_in x)) (TellsFields (fields_in x)) d cell) (sym form_is)
    (form_of_cell x d cell other (opened x d cell told)))

-- ---- elements

array_told : (d : Data) (ds : Items) → Some ds ≡ as_array d → d ≡ array ds
array_told null ds is = cc
array_told (boolean b) ds is = cc
array_told (number n) ds is = cc
array_told (string s) ds is = cc
array_told (array es) ds is = cc
array_told (object ms) ds is = cc

pub elements_told : (fields : List Field) (x : Field) (d : Data) (vs : List Value) (cells : List Cell) → fields ≡ x ∷ drop 1 fields
    → Some (items_view vs) ≡ as_array d → AllZip (TellsCell (tree_of x)) (map view vs) cells → TellsElements (TellsElement (forest_in fields)) d cells
elements_told fields x d vs cells first is zip = record {
  values = map view vs;
  told = array_told d (items_view vs) is;
  each = subst (λ (fs : List Field). AllZip (TellsElement (forest_in fs)) (map view vs) cells) (sym first) zip;
}

-- what an array tells, by the values that it was read as
elements_seen : (fields : List Field) (d : Data) (vs : List Value) (cells : List Cell) → Some (items_view vs) ≡ as_array d
    → TellsElements (TellsElement (forest_in fields)) d cells → AllZip (TellsElement (forest_in fields)) (map view vs) cells
elements_seen fields d vs cells is told =
    let same : items_of (map view vs) ≡ items_of told.values = same_Some (items_of (map view vs)) (items_of told.values) (is ∙ ap as_array told.told) in
    subst (λ (ds : List Data). AllZip (TellsElement (forest_in fields)) ds cells) (sym (items_are_one (map view vs) told.values same)) told.each

pub elements_open : (fields : List Field) (x : Field) (d : Data) (vs : List Value) (cells : List Cell) → fields ≡ x ∷ drop 1 fields
    → Some (items_view vs) ≡ as_array d → TellsElements (TellsElement (forest_in fields)) d cells → AllZip (TellsCell (tree_of x)) (map view vs) cells
elements_open fields x d vs cells first is told =
    subst (λ (fs : List Field). AllZip (TellsElement (forest_in fs)) (map view vs) cells) first (elements_seen fields d vs cells is told)

pub no_element : (fields : List Field) (ds : List Data) (cells : List Cell) → length fields < 1 → AllZip (TellsElement (forest_in fields)) ds cells → length ds ≡ 0
no_element (x ∷ fields) ds cells none zip = let no : ⊥ = omega arith in absurd no
no_element [] [] cells none zip = refl
no_element [] (d ∷ ds) [] none zip = absurd zip
no_element [] (d ∷ ds) (cell ∷ cells) none zip = absurd zip.0

pub elements_none : (fields : List Field) (d : Data) (vs : List Value) (cells : List Cell) → length fields < 1
    → Some (items_view vs) ≡ as_array d → TellsElements (TellsElement (forest_in fields)) d cells → length vs ≡ 0
elements_none fields d vs cells none is told =
    sym (length-map vs view) ∙ no_element fields (map view vs) cells none (elements_seen fields d vs cells is told)

-- two tellings of one array have as many cells
pub zip_long : {A B : Type 0} (R : A → B → Type 0) (xs : List A) (ys : List B) → AllZip R xs ys → length xs ≡ length ys
zip_long R [] [] zip = refl
zip_long R [] (y ∷ ys) zip = absurd zip
zip_long R (x ∷ xs) [] zip = absurd zip
zip_long R (x ∷ xs) (y ∷ ys) zip = ap suc (zip_long R xs ys zip.1)

pub same_array : (d : Data) (xs ys : List Data) → d ≡ array (items_of xs) → d ≡ array (items_of ys) → xs ≡ ys
same_array d xs ys a b = items_are_one xs ys (same_Some (items_of xs) (items_of ys) (ap as_array (sym a ∙ b)))

pub elements_long : (Element : Data → Cell → Type 0) (d : Data) (cells others : List Cell) → TellsElements Element d cells → TellsElements Element d others
    → length cells ≡ length others
elements_long Element d cells others a b =
    sym (zip_long Element a.values cells a.each) ∙ ap length (same_array d a.values b.values a.told b.told) ∙ zip_long Element b.values others b.each

pub not_empty : (n : ℕ) → false ≡ (n == 0) → n ≡ 0 → ⊥
not_empty n is zero_is = let no : false ≡ (0 == 0) = subst (λ (m : ℕ). false ≡ (m == 0)) zero_is is in cc

-- ---- forms with nothing inside them

abbrev pub IsFlat : Form → Type 0
IsFlat f =
    (f ≡ form.Null) ⊎ ((f ≡ form.Bool) ⊎ (((width : BitWidth) × (signed : Bool) × (f ≡ form.Whole width signed)) ⊎ ((f ≡ form.Single)
    ⊎ ((f ≡ form.Double) ⊎ ((f ≡ form.Text) ⊎ ((f ≡ form.Bytes) ⊎ (((size : ℕ) × (f ≡ form.SizedBytes size)) ⊎ (f ≡ form.Unsupported))))))))

abbrev Alike : (Data → Cell → Type 0) → (Data → List Cell → Type 0) → Data → Cell → Form → Type 0
Alike Element Fields d cell f = (TellsForm f Element Fields d cell → TellsFlat f d cell) × (TellsFlat f d cell → TellsForm f Element Fields d cell)

module _ (Element : Data → Cell → Type 0) (Fields : Data → List Cell → Type 0) (d : Data) (cell : Cell) (f : Form) where
  here : (g : Form) → f ≡ g → Alike Element Fields d cell g → Alike Element Fields d cell f
  here g is alike = subst (Alike Element Fields d cell) (sym is) alike

  pub flat_alike : IsFlat f → Alike Element Fields d cell f
  flat_alike (inl is) = here form.Null is (λ t. t, λ t. t)
  flat_alike (inr (inl is)) = here form.Bool is (λ t. t, λ t. t)
  flat_alike (inr (inr (inl whole))) = here (form.Whole whole.0 whole.1) whole.2 (λ t. t, λ t. t)
  flat_alike (inr (inr (inr (inl is)))) = here form.Single is (λ t. t, λ t. t)
  flat_alike (inr (inr (inr (inr (inl is))))) = here form.Double is (λ t. t, λ t. t)
  flat_alike (inr (inr (inr (inr (inr (inl is)))))) = here form.Text is (λ t. t, λ t. t)
  flat_alike (inr (inr (inr (inr (inr (inr (inl is))))))) = here form.Bytes is (λ t. t, λ t. t)
  flat_alike (inr (inr (inr (inr (inr (inr (inr (inl sized)))))))) = here (form.SizedBytes sized.0) sized.1 (λ t. t, λ t. t)
  flat_alike (inr (inr (inr (inr (inr (inr (inr (inr is)))))))) = here form.Unsupported is (λ t. t, λ t. t)

-- ---- names

pub named_more : (fields : List Field) (i : ℕ) (x : Field) (name : List ℕ) → i < length fields → x ≡ get_or fields i x
    → IsNameOf (forest_in (drop i fields)) name → (name ≡ name_of (tree_of x)) ⊎ IsNameOf (forest_in (drop (i + 1) fields)) name
named_more fields i x name there is named = subst (λ (fs : List Field). IsNameOf (forest_in fs) name) (dropped fields i x there is) named

pub named_here : (fields : List Field) (i : ℕ) (x : Field) (name : List ℕ) → i < length fields → x ≡ get_or fields i x
    → (name ≡ name_of (tree_of x)) ⊎ IsNameOf (forest_in (drop (i + 1) fields)) name → IsNameOf (forest_in (drop i fields)) name
named_here fields i x name there is named = subst (λ (fs : List Field). IsNameOf (forest_in fs) name) (sym (dropped fields i x there is)) named

pub later : (name own : List ℕ) (Rest : Type 0) → (name ≡ own → ⊥) → (name ≡ own) ⊎ Rest → Rest
later name own Rest other (inl is) = absurd (other is)
later name own Rest other (inr rest) = rest

-- ---- results

pub if_ok : {T E : Type 0} (P Q : T → Type 0) (r : Result T E) → ((x : T) → P x → Q x) → IfOk r P → IfOk r Q
if_ok P Q (Ok x) then is = then x is
if_ok P Q (Err e) then is = tt
