-- A text means one message of a descriptor at most, and none where a fault stands in it.
use Rattle.std.proofs.Common.{◌≡◌, ◌≢◌, ℕ, Bool, true, false, cond, List, [], ◌∷◌, ◌++◌, Option, Some, None, refl, sym, ap, subst, ◌∙◌, inl, inr, append_assoc}
use Rattle.std.specs.Prelude.{not, ◌&&◌, ◌||◌, ◌==◌, Result, Ok, Err, IfOk, IfErr, IsUtf8}
use Rattle.std.specs.List.{AllZip, list_all}
use Rattle.std.specs.Str.{is_utf8}
use Rattle.std.proofs.lemmas.Bool.{eq-eqb}
use Rattle.std.proofs.lemmas.List.{append-nil}
use Rattle.std.proofs.lemmas.List.Elements.{filter_map-append}
use Rattle.std.proofs.lemmas.Grind.{flat_map-append}
use Rattle.std.proofs.lemmas.Str.{IsUtf8-from_is_utf8}
use Rattle.proto_fields.specs.declared.fault.WireFault.{WireFault}
use Rattle.proto_fields.specs.Field.{Held, Varint, Eight, Bytes, Four, Field, wire_type, IsFields, IsUnlessRefused}
use Rattle.proto_fields.specs.Meaning.{last_or, bytes_in, is_there, all_hold, things_of}
use Rattle.proto_fields.specs.Scalar.{ScalarType, TypeEnum, TypeInt64, TypeUint64, TypeBool, TypeBytes, TypeString, default_of, wire_type_of, scalar_in, utf8_of, ScalarFault}
use Rattle.proto_messages.specs.Descriptor.{Descriptor, NoMore, One, Strings, Message, Messages, Values, all_meant, joined, Merge, EachMeans, Means, IsMessage, TextFault, EmbeddedFault, FieldIsAtFault, IsMessageFault}
use Rattle.proto_fields.proofs.Fronts.{fields_left, fields_same}
use Rattle.proto_fields.proofs.FaultsApart.{no_fields_at_fault}

-- ---- one meaning

some_is : {A : Type 0} (x y : A) → ◌≡◌ {A = Option A} (Some x) (Some y) → x ≡ y
some_is x y e = cc

-- a list of all_embedded is one list of lists of fields
lists_same : (all_embedded : List (List ℕ)) (xs ys : List (List Field)) → AllZip IsFields all_embedded xs → AllZip IsFields all_embedded ys → xs ≡ ys
lists_same [] [] [] a b = refl
lists_same [] [] (y ∷ ys) a b = absurd b
lists_same [] (x ∷ xs) ys a b = absurd a
lists_same (embedded ∷ all_embedded) [] ys a b = absurd a
lists_same (embedded ∷ all_embedded) (x ∷ xs) [] a b = absurd b
lists_same (embedded ∷ all_embedded) (x ∷ xs) (y ∷ ys) a b =
    let first : x ≡ y = fields_same embedded y x b.0 a.0 in
    ap (λ (l : List Field). l ∷ xs) first ∙ ap (λ (l : List (List Field)). y ∷ l) (lists_same all_embedded xs ys a.1 b.1)

module _ {V : Type 0} (means : List Field → V → Type 0) (one : (fields : List Field) (v w : V) → means fields v → means fields w → v ≡ w) where
  merge_is_one : (all_embedded : List (List ℕ)) (v w : Option V) → Merge means all_embedded v → Merge means all_embedded w → v ≡ w
  merge_is_one all_embedded None None a b = refl
  merge_is_one all_embedded None (Some w) a b = absurd (b.0 a)
  merge_is_one all_embedded (Some v) None a b = absurd (a.0 b)
  merge_is_one all_embedded (Some v) (Some w) a b =
      let same = lists_same all_embedded b.1.0 a.1.0 b.1.1 a.1.1 in
      ap Some (one (joined a.1.0) v w a.1.2 (subst (λ (l : List (List Field)). means (joined l) w) same b.1.2))

  each_is_one : (all_embedded : List (List ℕ)) (vs ws : List V) → EachMeans means all_embedded vs → EachMeans means all_embedded ws → vs ≡ ws
  each_is_one [] [] [] a b = refl
  each_is_one [] [] (w ∷ ws) a b = absurd b
  each_is_one [] (v ∷ vs) ws a b = absurd a
  each_is_one (embedded ∷ all_embedded) [] ws a b = absurd a
  each_is_one (embedded ∷ all_embedded) (v ∷ vs) [] a b = absurd b
  each_is_one (embedded ∷ all_embedded) (v ∷ vs) (w ∷ ws) a b =
      let same : b.0.0 ≡ a.0.0 = fields_same embedded a.0.0 b.0.0 a.0.1 b.0.1 in
      let first : v ≡ w = one a.0.0 v w a.0.2 (subst (λ (l : List Field). means l w) same b.0.2) in
      ap (λ (x : V). x ∷ vs) first ∙ ap (λ (l : List V). w ∷ l) (each_is_one all_embedded vs ws a.1 b.1)

-- two pairs with the same parts
pair_is : {A B : Type 0} (v w : A × B) → v.0 ≡ w.0 → v.1 ≡ w.1 → v ≡ w
pair_is v w a b = λ i. (a i, b i)

-- fields mean one message
pub meaning_is_one : (descriptor : Descriptor) (fields : List Field) (v w : Values descriptor) → Means descriptor fields v → Means descriptor fields w → v ≡ w
meaning_is_one NoMore fields v w a b = refl
meaning_is_one (One number type others) fields v w a b =
    pair_is v w (some_is v.0 w.0 (sym a.0 ∙ b.0)) (meaning_is_one others fields v.1 w.1 a.1 b.1)
meaning_is_one (Strings number others) fields v w a b =
    pair_is v w (some_is v.0 w.0 (sym a.0 ∙ b.0)) (meaning_is_one others fields v.1 w.1 a.1 b.1)
meaning_is_one (Message number inner others) fields v w a b =
    let same : b.0.0 ≡ a.0.0 = some_is b.0.0 a.0.0 (sym b.0.1 ∙ a.0.1) in
    let here = merge_is_one (Means inner) (meaning_is_one inner) a.0.0 v.0 w.0 a.0.2 (subst (λ (l : List (List ℕ)). Merge (Means inner) l w.0) same b.0.2) in
    pair_is v w here (meaning_is_one others fields v.1 w.1 a.1 b.1)
meaning_is_one (Messages number inner others) fields v w a b =
    let same : b.0.0 ≡ a.0.0 = some_is b.0.0 a.0.0 (sym b.0.1 ∙ a.0.1) in
    let here = each_is_one (Means inner) (meaning_is_one inner) a.0.0 v.0 w.0 a.0.2 (subst (λ (l : List (List ℕ)). EachMeans (Means inner) l w.0) same b.0.2) in
    pair_is v w here (meaning_is_one others fields v.1 w.1 a.1 b.1)

-- a text means one message
pub message_is_one : (descriptor : Descriptor) (text : List ℕ) (v w : Values descriptor) → IsMessage descriptor text v → IsMessage descriptor text w → v ≡ w
message_is_one descriptor text v w a b =
    let same : b.fields ≡ a.fields = fields_same text a.fields b.fields a.encodes b.encodes in
    meaning_is_one descriptor a.fields v w a.means (subst (λ (l : List Field). Means descriptor l w) same b.means)

-- ---- no fault where there is a meaning

-- a test that every element passes, at one of them
list_all_at : {X : Type 0} (p : X → Bool) (xs : List X) (y : X) (ys : List X) → list_all p (xs ++ y ∷ ys) ≡ true → p y ≡ true
list_all_at p [] y ys h = first (p y) (list_all p ys) h
  where
    first : (a b : Bool) → (a && b) ≡ true → a ≡ true
    first true b e = refl
    first false b e = absurd cc
list_all_at p (x ∷ xs) y ys h = list_all_at p xs y ys (second (p x) (list_all p (xs ++ y ∷ ys)) h)
  where
    second : (a b : Bool) → (a && b) ≡ true → b ≡ true
    second true b e = e
    second false b e = absurd cc

-- what stands at the place of an element
all_zip_at : {A B : Type 0} (R : A → B → Type 0) (xs : List A) (x : A) (ys : List A) (zs : List B) → AllZip R (xs ++ x ∷ ys) zs
    → (left : List B) × (z : B) × (right : List B) × R x z × (zs ≡ left ++ z ∷ right)
all_zip_at R [] x ys [] h = absurd h
all_zip_at R [] x ys (z ∷ zs) h = ([], z, zs, h.0, refl)
all_zip_at R (w ∷ xs) x ys [] h = absurd h
all_zip_at {A} {B} R (w ∷ xs) x ys (z ∷ zs) h =
    let at = all_zip_at R xs x ys zs h.1 in
    (z ∷ at.0, at.1, at.2, at.3, ap (λ (l : List B). z ∷ l) at.4)

chosen_some : {A : Type 0} (b : Bool) (x y : A) → cond b (Some x) None ≡ Some y → (b ≡ true) × (x ≡ y)
chosen_some true x y e = (refl, some_is x y e)
chosen_some false x y e = absurd cc

-- where all fields of the number hold such a thing, one of them does
thing_is_there : {A : Type 0} (thing : Held → Option A) (number : ℕ) (before after : List Field) (f : Field) → all_hold thing number (before ++ f ∷ after) ≡ true
    → f.number ≡ number → is_there (thing f.held) ≡ true
thing_is_there thing number before after f h e =
    let here : (not (f.number == number) || is_there (thing f.held)) ≡ true = list_all_at (λ g. not (g.number == number) || is_there (thing g.held)) before f after h in
    let same : (f.number == number) ≡ true = eq-eqb f.number number e in
    at (f.number == number) same here
  where
    at : (b : Bool) → b ≡ true → (not b || is_there (thing f.held)) ≡ true → is_there (thing f.held) ≡ true
    at true e h = h
    at false e h = absurd cc

-- and it is among the things that they hold
thing_is_among : {A : Type 0} (thing : Held → Option A) (number : ℕ) (before after : List Field) (f : Field) (x : A) → f.number ≡ number → thing f.held ≡ Some x
    → things_of thing number (before ++ f ∷ after) ≡ things_of thing number before ++ x ∷ things_of thing number after
thing_is_among thing number before after f x e h =
    let same : (f.number == number) ≡ true = eq-eqb f.number number e in
    filter_map-append (λ (g : Field). cond (g.number == number) (thing g.held) None) before (f ∷ after)
    ∙ rw (same, h) refl

-- ---- single fields

wrong_type : (type : ScalarType) (held : Held) → wire_type held ≢ wire_type_of type → is_there (scalar_in type held) ≡ true → ⊥
wrong_type TypeEnum (Varint n) wrong h = wrong refl
wrong_type TypeEnum (Eight bytes) wrong h = absurd cc
wrong_type TypeEnum (Bytes bytes) wrong h = absurd cc
wrong_type TypeEnum (Four bytes) wrong h = absurd cc
wrong_type TypeUint64 (Varint n) wrong h = wrong refl
wrong_type TypeUint64 (Eight bytes) wrong h = absurd cc
wrong_type TypeUint64 (Bytes bytes) wrong h = absurd cc
wrong_type TypeUint64 (Four bytes) wrong h = absurd cc
wrong_type TypeInt64 (Varint n) wrong h = wrong refl
wrong_type TypeInt64 (Eight bytes) wrong h = absurd cc
wrong_type TypeInt64 (Bytes bytes) wrong h = absurd cc
wrong_type TypeInt64 (Four bytes) wrong h = absurd cc
wrong_type TypeBool (Varint n) wrong h = wrong refl
wrong_type TypeBool (Eight bytes) wrong h = absurd cc
wrong_type TypeBool (Bytes bytes) wrong h = absurd cc
wrong_type TypeBool (Four bytes) wrong h = absurd cc
wrong_type TypeBytes (Varint n) wrong h = absurd cc
wrong_type TypeBytes (Eight bytes) wrong h = absurd cc
wrong_type TypeBytes (Bytes bytes) wrong h = wrong refl
wrong_type TypeBytes (Four bytes) wrong h = absurd cc
wrong_type TypeString (Varint n) wrong h = absurd cc
wrong_type TypeString (Eight bytes) wrong h = absurd cc
wrong_type TypeString (Bytes bytes) wrong h = wrong refl
wrong_type TypeString (Four bytes) wrong h = absurd cc

string_is_utf8 : (held : Held) (bytes : List ℕ) → bytes_in held ≡ Some bytes → is_there (scalar_in TypeString held) ≡ true → IsUtf8 bytes
string_is_utf8 held bytes e h =
    let there : is_there (utf8_of (Some bytes)) ≡ true = subst (λ (o : Option (List ℕ)). is_there (utf8_of o) ≡ true) e h in
    IsUtf8-from_is_utf8 bytes (at (is_utf8 bytes) there)
  where
    at : (b : Bool) → is_there (cond b (Some bytes) None) ≡ true → b ≡ true
    at true h = refl
    at false h = absurd cc

no_scalar_at_fault : (type : ScalarType) (fault : WireFault) (held : Held) → ScalarFault type fault held → is_there (scalar_in type held) ≡ true → ⊥
no_scalar_at_fault type fault held bad h =
    elim bad [
      | inl wrong ↦ wrong_type type held wrong.1 h
      | inr bytes ↦ bytes.2.2 (string_is_utf8 held bytes.2.0 bytes.2.1 (subst (λ (t : ScalarType). is_there (scalar_in t held) ≡ true) bytes.1 h))
    ]

-- ---- embedded messages

bytes_are_there : (held : Held) → wire_type held ≢ 2 → is_there (bytes_in held) ≡ true → ⊥
bytes_are_there (Varint n) wrong h = absurd cc
bytes_are_there (Eight bytes) wrong h = absurd cc
bytes_are_there (Bytes bytes) wrong h = wrong refl
bytes_are_there (Four bytes) wrong h = absurd cc

regrouped : {X : Type 0} (left before : List X) (x : X) (after right all : List X) → all ≡ (before ++ x ∷ []) ++ after → left ++ (all ++ right) ≡ (left ++ before) ++ x ∷ (after ++ right)
regrouped left before x after right all e =
    rw (e, append_assoc before (x ∷ []) after, append_assoc before (x ∷ after) right, append_assoc left before (x ∷ (after ++ right))) refl

module _ {V : Type 0} (means : List Field → V → Type 0) (IsAtFault : WireFault → Field → Type 0)
    (none : (before after : List Field) (f : Field) (fault : WireFault) (v : V) → IsAtFault fault f → means (before ++ f ∷ after) v → ⊥) where
  -- a text that is read among other fields
  no_text_at_fault : (text : List ℕ) (fault : WireFault) (fields left right : List Field) (v : V) → TextFault IsAtFault fault text → IsFields text fields
      → means (left ++ (fields ++ right)) v → ⊥
  no_text_at_fault text fault fields left right v bad is m =
      elim bad [
        | inl h ↦ no_fields_at_fault text fault fields h is
        | inr h ↦
            let parts = fields_left text (h.0 ++ h.1 ∷ []) h.2 fields h.3 is in
            none (left ++ h.0) (parts.0 ++ right) h.1 fault v h.4 (subst (λ (l : List Field). means l v) (regrouped left h.0 h.1 parts.0 right fields parts.2) m)
      ]

  no_merge_at_fault : (before after : List (List ℕ)) (embedded : List ℕ) (fault : WireFault) (v : Option V) → TextFault IsAtFault fault embedded
      → Merge means (before ++ embedded ∷ after) v → ⊥
  no_merge_at_fault before after embedded fault None bad m = some_embedded before m
    where
      some_embedded : (before : List (List ℕ)) → before ++ embedded ∷ after ≡ [] → ⊥
      some_embedded [] e = absurd cc
      some_embedded (x ∷ before) e = absurd cc
  no_merge_at_fault before after embedded fault (Some v) bad m =
      let at = all_zip_at IsFields before embedded after m.1.0 m.1.1 in
      let whole : joined m.1.0 ≡ joined at.0 ++ (at.1 ++ joined at.2) = ap joined at.4 ∙ flat_map-append (λ (list : List Field). list) at.0 (at.1 ∷ at.2) in
      no_text_at_fault embedded fault at.1 (joined at.0) (joined at.2) v bad at.3 (subst (λ (l : List Field). means l v) whole m.1.2)

  no_each_at_fault : (before after : List (List ℕ)) (embedded : List ℕ) (fault : WireFault) (vs : List V) → TextFault IsAtFault fault embedded
      → EachMeans means (before ++ embedded ∷ after) vs → ⊥
  no_each_at_fault before after embedded fault vs bad m =
      let at = all_zip_at (λ (embedded : List ℕ) (value : V). (fields : List Field) × IsFields embedded fields × means fields value) before embedded after vs m in
      no_text_at_fault embedded fault at.3.0 [] [] at.1 bad at.3.1 (subst (λ (l : List Field). means l at.1) (sym (append-nil at.3.0)) at.3.2)

-- ---- descriptors

-- the embedded of a field at fault, among all all_embedded of its number
embedded_at_fault : (IsAtFault : WireFault → Field → Type 0) (number : ℕ) (before after : List Field) (f : Field) (fault : WireFault) (all_embedded : List (List ℕ))
    → f.number ≡ number → EmbeddedFault IsAtFault fault f.held → all_meant bytes_in number (before ++ f ∷ after) ≡ Some all_embedded
    → (embedded : List ℕ) × TextFault IsAtFault fault embedded × (all_embedded ≡ things_of bytes_in number before ++ embedded ∷ things_of bytes_in number after)
embedded_at_fault IsAtFault number before after f fault all_embedded e bad m =
    let both = chosen_some (all_hold bytes_in number (before ++ f ∷ after)) (things_of bytes_in number (before ++ f ∷ after)) all_embedded m in
    elim bad [
      | inl wrong ↦ absurd (bytes_are_there f.held wrong.1 (thing_is_there bytes_in number before after f both.0 e))
      | inr h ↦ (h.0, h.2, sym both.1 ∙ thing_is_among bytes_in number before after f h.0 e h.1)
    ]

-- no field is at fault among those that mean something
no_meaning_at_fault : (descriptor : Descriptor) (before after : List Field) (f : Field) (fault : WireFault) (v : Values descriptor) → FieldIsAtFault descriptor fault f
    → Means descriptor (before ++ f ∷ after) v → ⊥
no_meaning_at_fault NoMore before after f fault v bad m = bad
no_meaning_at_fault (One number type others) before after f fault v bad m =
    elim bad [
      | inl h ↦
          let both = chosen_some (all_hold (scalar_in type) number (before ++ f ∷ after)) (last_or (default_of type) (things_of (scalar_in type) number (before ++ f ∷ after))) v.0 m.0 in
          no_scalar_at_fault type fault f.held h.1 (thing_is_there (scalar_in type) number before after f both.0 h.0)
      | inr h ↦ no_meaning_at_fault others before after f fault v.1 h m.1
    ]
no_meaning_at_fault (Strings number others) before after f fault v bad m =
    elim bad [
      | inl h ↦
          let both = chosen_some (all_hold (scalar_in TypeString) number (before ++ f ∷ after)) (things_of (scalar_in TypeString) number (before ++ f ∷ after)) v.0 m.0 in
          no_scalar_at_fault TypeString fault f.held h.1 (thing_is_there (scalar_in TypeString) number before after f both.0 h.0)
      | inr h ↦ no_meaning_at_fault others before after f fault v.1 h m.1
    ]
no_meaning_at_fault (Message number inner others) before after f fault v bad m =
    elim bad [
      | inl h ↦
          let at = embedded_at_fault (FieldIsAtFault inner) number before after f fault m.0.0 h.0 h.1 m.0.1 in
          no_merge_at_fault (Means inner) (FieldIsAtFault inner) (no_meaning_at_fault inner) (things_of bytes_in number before) (things_of bytes_in number after) at.0 fault v.0 at.1
          (subst (λ (l : List (List ℕ)). Merge (Means inner) l v.0) at.2 m.0.2)
      | inr h ↦ no_meaning_at_fault others before after f fault v.1 h m.1
    ]
no_meaning_at_fault (Messages number inner others) before after f fault v bad m =
    elim bad [
      | inl h ↦
          let at = embedded_at_fault (FieldIsAtFault inner) number before after f fault m.0.0 h.0 h.1 m.0.1 in
          no_each_at_fault (Means inner) (FieldIsAtFault inner) (no_meaning_at_fault inner) (things_of bytes_in number before) (things_of bytes_in number after) at.0 fault v.0 at.1
          (subst (λ (l : List (List ℕ)). EachMeans (Means inner) l v.0) at.2 m.0.2)
      | inr h ↦ no_meaning_at_fault others before after f fault v.1 h m.1
    ]

-- where a text is a message, no fault stands in it
pub no_message_at_fault : (descriptor : Descriptor) (text : List ℕ) (fault : WireFault) (v : Values descriptor) → TextFault (FieldIsAtFault descriptor) fault text → IsMessage descriptor text v → ⊥
no_message_at_fault descriptor text fault v bad is =
    no_text_at_fault (Means descriptor) (FieldIsAtFault descriptor) (no_meaning_at_fault descriptor) text fault is.fields [] [] v bad is.encodes
    (subst (λ (l : List Field). Means descriptor l v) (sym (append-nil is.fields)) is.means)

-- a call that gives only what a text means, and only faults that stand in it, gives that message wherever there is one
pub decodes_only : (descriptor : Descriptor) {X : Type 0} (view : X → Values descriptor) (text : List ℕ) (r : Result X WireFault)
    → IfOk r (λ x. IsMessage descriptor text (view x)) → IfErr r (IsMessageFault descriptor text) → (v : Values descriptor) → IsMessage descriptor text v → IsUnlessRefused view r v
decodes_only descriptor view text (Ok x) ok err v is = message_is_one descriptor text (view x) v ok is
decodes_only descriptor view text (Err fault) ok err v is =
    elim err [
      | inl h ↦ h
      | inr h ↦ absurd (no_message_at_fault descriptor text fault v h is)
    ]
