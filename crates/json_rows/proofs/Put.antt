-- Texts of cells with others inside them, one part at a time.
use Rattle.std.proofs.Common.{◌≡◌, inl, inr, ℕ, zero, suc, ◌+◌, ◌<◌, ◌≤◌, List, [], ◌∷◌, ◌++◌, map, drop, length, get_or, Option, Some, refl, sym, ap, subst, ◌∙◌, arith, append_assoc, append-nil}
use Rattle.std.specs.Prelude.{option_map, option_and_then, unwrap_or, max, true, ◌==◌}
use Rattle.std.proofs.lemmas.Bool.{eqb-true}
use Rattle.std.specs.List.{AllZip}
use Rattle.std.proofs.lemmas.List.{nil_from_length}
use Rattle.std.proofs.Common.{Ordering, Less, Equal, Greater, nat_cmp}
use Rattle.std.specs.Cmp.Lexicographic.{slice_cmp}
use Rattle.std.specs.Ordering.{match_ordering}
use Rattle.json.specs.Token.{Token}
use Rattle.json.specs.Token as token
use Rattle.json.specs.Json as json
use Rattle.json.specs.Tree.{json_tokens, items_tokens, members_tokens, items_depth, members_depth}
use Rattle.serde_json.specs.Data.{Data, null, array, object, item, Members, no_members, member, put}
use Rattle.serde_json.specs.Read.{of_items, of_members}
use Rattle.serde_json.specs.Find.{get_member}
use Rattle.serde_json.specs.View.{items_of}
use Rattle.serde_json.proofs.Views.{get_member-put, get_member-put_other}
use Rattle.header_types.specs.declared.schema.Field.{Field}
use Rattle.header_types.specs.Fields.{Forest, no_more, more}
use Rattle.header_types.specs.Views.{tree_of}
use Rattle.header_types.specs.FieldView.{fields_in}
use Rattle.header_types.specs.Limits.{tree_depth, forest_depth}
use Rattle.header_types.proofs.FieldTrees.{tree_out}
use Rattle.batch_types.specs.Cells.{Cell, null_cell, bit_cell, bytes_cell, list_cell, tuple_cell, cells_of}
use Rattle.batch_types.specs.Canonical.{cells_in, elements_or}
use Rattle.batch_cells.specs.declared.cell.Cell.{Cell as Plain}
use Rattle.batch_cells.specs.CellViews.{cell_of}
use Rattle.column_building.proofs.Shaped.{dropped}
use Rattle.json_rows.specs.Cells.{TellsCell, TellsElements, TellsFields, TellsMembers, IsNameOf, AreNamesOf, forest_in, name_of}
use Rattle.json_rows.specs.Written.{GoesOn, WritesValue, ReadAsElements, ReadAsMembers, WritesElements, WritesMembers, WritesMember, HasOwnNames, HaveOwnNames}

-- ---- cells inside one

cells_again : (cells : List Cell) → cells_in (cells_of cells) ≡ cells
cells_again [] = refl
cells_again (cell ∷ cells) = ap (λ (l : List Cell). cell ∷ l) (cells_again cells)

pub list_one : (a b : List Cell) → list_cell (cells_of a) ≡ list_cell (cells_of b) → a ≡ b
list_one a b same = sym (cells_again a) ∙ ap (elements_or []) same ∙ cells_again b

abbrev fields_seen : Cell → List Cell
fields_seen (tuple_cell cells) = cells_in cells
fields_seen null_cell = []
fields_seen (bit_cell bit) = []
fields_seen (bytes_cell bytes) = []
fields_seen (list_cell cells) = []

pub tuple_one : (a b : List Cell) → tuple_cell (cells_of a) ≡ tuple_cell (cells_of b) → a ≡ b
tuple_one a b same = sym (cells_again a) ∙ ap fields_seen same ∙ cells_again b

pub empty_list : {A : Type 0} (xs : List A) → true ≡ (length xs == 0) → xs ≡ []
empty_list xs is = nil_from_length xs (eqb-true (length xs) 0 (sym is))

-- ---- tokens that stay in front

pub goes_nowhere : (old new : List Token) → new ≡ old → GoesOn old new
goes_nowhere old new is = ([], is ∙ sym (append-nil old))

pub goes_by : (old new rest : List Token) → new ≡ old ++ rest → GoesOn old new
goes_by old new rest is = (rest, is)

pub goes_then : (old mid new : List Token) → GoesOn old mid → GoesOn mid new → GoesOn old new
goes_then old mid new first second =
    (first.0 ++ second.0, second.1 ∙ ap (λ (ts : List Token). ts ++ second.0) first.1 ∙ append_assoc old first.0 second.0)

-- ---- names

pub names_inside : (x : Field) → HasOwnNames (tree_of x) → HaveOwnNames (fields_in x)
names_inside x names = subst HasOwnNames (tree_out x) names

pub names_around : (x : Field) → HaveOwnNames (fields_in x) → HasOwnNames (tree_of x)
names_around x names = subst HasOwnNames (sym (tree_out x)) names

pub names_open : (fields : List Field) (i : ℕ) (x : Field) → i < length fields → x ≡ get_or fields i x → HaveOwnNames (forest_in (drop i fields))
    → (IsNameOf (forest_in (drop (i + 1) fields)) (name_of (tree_of x)) → ⊥) × HasOwnNames (tree_of x) × HaveOwnNames (forest_in (drop (i + 1) fields))
names_open fields i x there is own = subst (λ (fs : List Field). HaveOwnNames (forest_in fs)) (dropped fields i x there is) own

pub names_close : (fields : List Field) (i : ℕ) (x : Field) → i < length fields → x ≡ get_or fields i x → (IsNameOf (forest_in (drop (i + 1) fields)) (name_of (tree_of x)) → ⊥)
    → HasOwnNames (tree_of x) → HaveOwnNames (forest_in (drop (i + 1) fields)) → HaveOwnNames (forest_in (drop i fields))
names_close fields i x there is other own rest = subst (λ (fs : List Field). HaveOwnNames (forest_in fs)) (sym (dropped fields i x there is)) (other, own, rest)

pub names_at : (fields : List Field) (i : ℕ) (x : Field) → i < length fields → x ≡ get_or fields i x → HaveOwnNames (forest_in fields) → HasOwnNames (tree_of x)
names_at [] i x there is names = let no : ⊥ = omega arith in absurd no
names_at (field ∷ fields) zero x there is names = subst (λ (y : Field). HasOwnNames (tree_of y)) (sym is) names.1
names_at (field ∷ fields) (suc i) x there is names = names_at fields i x (omega arith) is names.2

pub depth_inside : (x : Field) (fields : List Field) → fields_in x ≡ forest_in fields → suc (forest_depth (forest_in fields)) ≡ tree_depth (tree_of x)
depth_inside x fields inside = ap (λ (f : Forest). suc (forest_depth f)) (sym inside) ∙ sym (ap tree_depth (tree_out x))

pub depth_first : (fields : List Field) (x : Field) → fields ≡ x ∷ drop 1 fields → tree_depth (tree_of x) ≤ forest_depth (forest_in fields)
depth_first fields x first =
    let whole : forest_depth (forest_in fields) ≡ max (tree_depth (tree_of x)) (forest_depth (forest_in (drop 1 fields))) = ap (λ (fs : List Field). forest_depth (forest_in fs)) first in
    omega (arith, whole)

-- ---- arrays

elements_read : (Element : Data → Cell → Type 0) (n : ℕ) (cells : List Cell) (texts : json.Items) → ReadAsElements Element n cells texts
    → (values : List Data) × (of_items texts ≡ Some (items_of values)) × AllZip Element values cells × (items_depth texts ≤ n)
elements_read Element n [] json.no_items reads = ([], refl, tt, omega arith)
elements_read Element n [] (json.item text texts) reads = absurd reads
elements_read Element n (cell ∷ cells) json.no_items reads = absurd reads
elements_read Element n (cell ∷ cells) (json.item text texts) reads =
    let one = reads.0 in
    let rest = elements_read Element n cells texts reads.1 in (
      one.value ∷ rest.0,
      ap (option_and_then (λ d. option_map (λ ds. item d ds) (of_items texts))) one.reads
          ∙ ap (option_map (λ ds. item one.value ds)) rest.1,
      (one.told, rest.2),
      omega (arith, one.shallow, rest.3),
    )

pub array_written : (Element : Data → Cell → Type 0) (n : ℕ) (cells : List Cell) (old mid end : List Token) → mid ≡ old ++ token.begin_array ∷ []
    → WritesElements Element n cells mid end → WritesValue (λ d. TellsElements Element d cells) (suc n) old end
array_written Element n cells old mid end opened w =
    let all = elements_read Element n cells w.0 w.2 in record {
      text = json.array w.0;
      tokens = w.1 ∙ ap (λ (ts : List Token). ts ++ items_tokens w.0) opened ∙ append_assoc old (token.begin_array ∷ []) (items_tokens w.0);
      reads = record {
        value = array (items_of all.0);
        reads = ap (option_map array) all.1;
        shallow = omega (arith, all.3);
        told = record { values = all.0; told = refl; each = all.2 };
      };
    }

pub deeper_elements : (Element : Data → Cell → Type 0) (m n : ℕ) (cells : List Cell) (texts : json.Items) → m ≤ n → ReadAsElements Element m cells texts → ReadAsElements Element n cells texts
deeper_elements Element m n [] json.no_items le reads = tt
deeper_elements Element m n [] (json.item text texts) le reads = absurd reads
deeper_elements Element m n (cell ∷ cells) json.no_items le reads = absurd reads
deeper_elements Element m n (cell ∷ cells) (json.item text texts) le reads = (
  record { value = reads.0.value; reads = reads.0.reads; shallow = omega (arith, reads.0.shallow, le); told = reads.0.told },
  deeper_elements Element m n cells texts le reads.1,
)

-- one element more, in front of those that follow
pub element_then : (Element : Data → Cell → Type 0) (n : ℕ) (cells : List Plain) (i : ℕ) (x : Plain) (old mid end : List Token) → i < length cells → x ≡ get_or cells i x
    → WritesValue (λ d. Element d (cell_of x)) n old mid → WritesElements Element n (map cell_of (drop (i + 1) cells)) mid end
    → WritesElements Element n (map cell_of (drop i cells)) old end
element_then Element n cells i x old mid end there is one rest =
    subst (λ (l : List Plain). WritesElements Element n (map cell_of l) old end) (sym (dropped cells i x there is)) (
      json.item one.text rest.0,
      rest.1 ∙ ap (λ (ts : List Token). ts ++ items_tokens rest.0) one.tokens ∙ append_assoc old (json_tokens one.text) (items_tokens rest.0),
      (one.reads, rest.2),
    )

-- ---- objects

pub member_then : {A : Type 0} (see : A → Cell) (fields : List Field) (cells : List A) (i : ℕ) (x : Field) (y : A) (old mid end : List Token) → i < length fields → i < length cells
    → x ≡ get_or fields i x → y ≡ get_or cells i y → WritesMember (tree_of x) (see y) old mid
    → WritesMembers (forest_in (drop (i + 1) fields)) (map see (drop (i + 1) cells)) mid end
    → WritesMembers (forest_in (drop i fields)) (map see (drop i cells)) old end
member_then {A = A} see fields cells i x y old mid end there too x_is y_is one rest =
    subst (λ (fs : List Field). WritesMembers (forest_in fs) (map see (drop i cells)) old end) (sym (dropped fields i x there x_is))
    (subst (λ (l : List A). WritesMembers (forest_in (x ∷ drop (i + 1) fields)) (map see l) old end) (sym (dropped cells i y too y_is)) (
      json.member (name_of (tree_of x)) one.0 rest.0,
      rest.1 ∙ ap (λ (ts : List Token). ts ++ members_tokens rest.0) one.1
          ∙ append_assoc old (token.key (name_of (tree_of x)) ∷ json_tokens one.0) (members_tokens rest.0),
      (refl, one.2, rest.2),
    ))

-- what is found among members that were put one after the other
record AreRead (all fields : Forest) (cells : List Cell) (texts : json.Members) (found : Members) : Type 0 where
  members : Members
  reads : of_members texts found ≡ Some members
  others : (name : List ℕ) → (IsNameOf fields name → ⊥) → get_member name members ≡ get_member name found
  told : TellsMembers fields (object members) cells
  named : AreNamesOf all members
  shallow : members_depth texts ≤ forest_depth fields

put_named_at : (all : Forest) (k l : List ℕ) (d e : Data) (ms : Members) (o : Ordering) → IsNameOf all k → AreNamesOf all (member l e ms) → AreNamesOf all (put k d ms)
    → AreNamesOf all (match_ordering o (member k d (member l e ms)) (member l d ms) (member l e (put k d ms)))
put_named_at all k l d e ms Less here named later = (here, named)
put_named_at all k l d e ms Equal here named later = named
put_named_at all k l d e ms Greater here named later = (named.0, later)

put_named : (all : Forest) (k : List ℕ) (d : Data) (ms : Members) → IsNameOf all k → AreNamesOf all ms → AreNamesOf all (put k d ms)
put_named all k d no_members here named = (here, tt)
put_named all k d (member l e ms) here named = put_named_at all k l d e ms (slice_cmp nat_cmp k l) here named (put_named all k d ms here named.1)

members_read : (all fields : Forest) (cells : List Cell) (texts : json.Members) (found : Members) → ((name : List ℕ) → IsNameOf fields name → IsNameOf all name)
    → HaveOwnNames fields → AreNamesOf all found → ReadAsMembers fields cells texts → AreRead all fields cells texts found
members_read all no_more [] json.no_members found within own named reads = record {
  members = found;
  reads = refl;
  others = λ name other. refl;
  told = tt;
  named = named;
  shallow = omega arith;
}
members_read all no_more [] (json.member name text texts) found within own named reads = absurd reads
members_read all no_more (cell ∷ cells) texts found within own named reads = absurd reads
members_read all (more t rest) [] texts found within own named reads = absurd reads
members_read all (more t rest) (cell ∷ cells) json.no_members found within own named reads = absurd reads
members_read all (more t rest) (cell ∷ cells) (json.member name text texts) found within own named reads =
    let one = reads.1 in
    let here : IsNameOf all name = within name (inl reads.0) in
    let next = members_read all rest cells texts (put name one.value found) (λ n is. within n (inr is)) own.2
    (put_named all name one.value found here named) reads.2 in
    let at : get_member (name_of t) next.members ≡ Some one.value =
    next.others (name_of t) own.0 ∙ subst (λ (k : List ℕ). get_member k (put name one.value found) ≡ Some one.value) reads.0 (get_member-put name one.value found) in
    record {
      members = next.members;
      reads = ap (option_and_then (λ d. of_members texts (put name d found))) one.reads ∙ next.reads;
      others = λ n other. next.others n (λ is. other (inr is)) ∙ get_member-put_other n name one.value found (λ is. other (inl (is ∙ reads.0)));
      told = (subst (λ (d : Data). TellsCell t d cell) (sym (ap (λ (o : Option Data). unwrap_or o null) at)) one.told, next.told);
      named = next.named;
      shallow = omega (arith, one.shallow, next.shallow);
    }

pub object_written : (fields : Forest) (cells : List Cell) (old mid end : List Token) → HaveOwnNames fields → mid ≡ old ++ token.begin_object ∷ []
    → WritesMembers fields cells mid end → WritesValue (λ d. TellsFields fields d cells) (suc (forest_depth fields)) old end
object_written fields cells old mid end own opened w =
    let all = members_read fields fields cells w.0 no_members (λ n is. is) own tt w.2 in record {
      text = json.object w.0;
      tokens = w.1 ∙ ap (λ (ts : List Token). ts ++ members_tokens w.0) opened ∙ append_assoc old (token.begin_object ∷ []) (members_tokens w.0);
      reads = record {
        value = object all.members;
        reads = ap (option_map object) all.reads;
        shallow = omega (arith, all.shallow);
        told = (record { members = all.members; told = refl; named = all.named }, all.told);
      };
    }

-- ---- what is told of the items at one place

module _ {A B C : Type 0} (R : C → B → Type 0) (see : A → B) where
  pub zipped_right : (ys : List C) (xs : List A) (i : ℕ) (x : A) → AllZip R ys (map see xs) → i < length xs → x ≡ get_or xs i x → (y : C) × R y (see x)
  zipped_right ys [] i x all lt is = let no : ⊥ = omega arith in absurd no
  zipped_right [] (v ∷ xs) i x all lt is = absurd all
  zipped_right (y ∷ ys) (v ∷ xs) zero x all lt is = (y, subst (λ (a : A). R y (see a)) (sym is) all.0)
  zipped_right (y ∷ ys) (v ∷ xs) (suc i) x all lt is = zipped_right ys xs i x all.1 (omega arith) is

module _ {A B C D : Type 0} (R : C → D → Type 0) (see : A → C) (look : B → D) where
  pub zipped_both : (xs : List A) (ys : List B) (i : ℕ) (x : A) (y : B) → AllZip R (map see xs) (map look ys) → i < length xs → i < length ys
      → x ≡ get_or xs i x → y ≡ get_or ys i y → R (see x) (look y)
  zipped_both [] ys i x y all lt too x_is y_is = let no : ⊥ = omega arith in absurd no
  zipped_both (v ∷ xs) [] i x y all lt too x_is y_is = let no : ⊥ = omega arith in absurd no
  zipped_both (v ∷ xs) (w ∷ ys) zero x y all lt too x_is y_is =
      subst (λ (b : B). R (see x) (look b)) (sym y_is) (subst (λ (a : A). R (see a) (look w)) (sym x_is) all.0)
  zipped_both (v ∷ xs) (w ∷ ys) (suc i) x y all lt too x_is y_is = zipped_both xs ys i x y all.1 (omega arith) (omega arith) x_is y_is
