-- What a text shows, it shows with any bytes behind it.
use Rattle.std.proofs.Common.{◌≡◌, ℕ, ℤ, ◌+◌, ◌≤◌, length, take, drop, inl, inr, List, ◌++◌, Option, None, Some, arith}
use Rattle.std.proofs.Common.{sym, ap, ◌∙◌, subst, append_assoc}
use Rattle.std.proofs.lemmas.List.{drop-append-le, take-append-le, length-drop}
use Rattle.byteorder.specs.Endian.{little_bytes}
use Rattle.byteorder.specs.Numbers.{length-bytes_low_first}
use Rattle.flat_places.proofs.Bytes.{holds_taken, holds_is}
use Rattle.flat_places.specs.Held.{Holds}
use Rattle.flat_places.specs.Number.{ShowsUint, ShowsInt, ShowsReference}
use Rattle.flat_places.specs.Table.{ShowsTable, SlotSays, ShowsField, slot_place}
use Rattle.flat_places.specs.Vector.{ShowsVector, ShowsText}

holds_longer : (text more : List ℕ) (place : ℕ) (bytes : List ℕ) → Holds text place bytes
    → Holds (text ++ more) place bytes
holds_longer text more place bytes h = record {
  before = h.before;
  after = h.after ++ more;
  parts = ap (λ l. l ++ more) h.parts ∙ append_assoc (h.before ++ bytes) h.after more;
  stands = h.stands;
}

pub uint_longer : (text more : List ℕ) (place size x : ℕ) → ShowsUint text place size x
    → ShowsUint (text ++ more) place size x
uint_longer text more place size x h = record { held = holds_longer text more place _ h.held; fits = h.fits }

int_longer : (text more : List ℕ) (place size : ℕ) (z : ℤ) → ShowsInt text place size z
    → ShowsInt (text ++ more) place size z
int_longer text more place size z h =
    record { bits = h.bits; shown = uint_longer text more place size h.bits h.shown; signed = h.signed }

pub reference_longer : (text more : List ℕ) (place x : ℕ) → ShowsReference text place x
    → ShowsReference (text ++ more) place x
reference_longer text more place x h =
    record { offset = h.offset; shown = uint_longer text more place 4 h.offset h.shown; added = h.added }

table_longer : (text more : List ℕ) (table v m : ℕ) → ShowsTable text table v m → ShowsTable (text ++ more) table v m
table_longer text more table v m h = record {
  leads = record {
    offset = h.leads.offset;
    shown = int_longer text more table 4 h.leads.offset h.leads.shown;
    subtracted = h.leads.subtracted;
  };
  size = uint_longer text more v 2 m h.size;
}

says_longer : (text more : List ℕ) (table v m n : ℕ) (x : Option ℕ) → SlotSays text table v m n x
    → SlotSays (text ++ more) table v m n x
says_longer text more table v m n None (inl few) = inl few
says_longer text more table v m n None (inr zero) = inr (uint_longer text more (slot_place v n) 2 0 zero)
says_longer text more table v m n (Some x) (offset, has, above, shown, at) =
    (offset, has, above, uint_longer text more (slot_place v n) 2 offset shown, at)

pub field_longer : (text more : List ℕ) (table n : ℕ) (x : Option ℕ) → ShowsField text table n x
    → ShowsField (text ++ more) table n x
field_longer text more table n x h = record {
  vtable = h.vtable;
  own_size = h.own_size;
  shown = table_longer text more table h.vtable h.own_size h.shown;
  whole = h.whole;
  says = says_longer text more table h.vtable h.own_size n x h.says;
}

pub vector_longer : (text more : List ℕ) (place size i n : ℕ) → ShowsVector text place size i n
    → ShowsVector (text ++ more) place size i n
vector_longer text more place size i n h = record {
  shown = uint_longer text more place 4 n h.shown;
  follows = h.follows;
  elements = h.elements;
  held = holds_longer text more i h.elements h.held;
  whole = h.whole;
}

pub text_longer : (text more : List ℕ) (place : ℕ) (bytes : List ℕ) → ShowsText text place bytes
    → ShowsText (text ++ more) place bytes
text_longer text more place bytes h = record {
  shown = uint_longer text more place 4 (length bytes) h.shown;
  held = holds_longer text more (place + 4) bytes h.held;
  utf8 = h.utf8;
}

-- what stands in the front of a text stands in the front alone
holds_shorter : (text more : List ℕ) (place : ℕ) (bytes : List ℕ) → Holds (text ++ more) place bytes
    → place + length bytes ≤ length text → Holds text place bytes
holds_shorter text more place bytes h within =
    let enough : length bytes ≤ length (drop place text) = omega (arith, length-drop place text) in
    let same : take (length bytes) (drop place text) ≡ bytes =
    sym (take-append-le (length bytes) (drop place text) more enough)
    ∙ ap (take (length bytes)) (sym (drop-append-le place text more (omega arith)))
    ∙ holds_is (text ++ more) place bytes h in
    subst (Holds text place) same (holds_taken text place (length bytes) within)

pub uint_shorter : (text more : List ℕ) (place size x : ℕ) → ShowsUint (text ++ more) place size x
    → place + size ≤ length text → ShowsUint text place size x
uint_shorter text more place size x h within =
    record {
      held = holds_shorter text more place (little_bytes size x) h.held
          (omega (arith, length-bytes_low_first 0 size x));
      fits = h.fits;
    }
