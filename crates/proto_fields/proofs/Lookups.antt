-- Looking for what the fields of one number mean, one field after the other.
use Rattle.std.proofs.Common.{◌≡◌, ℕ, Bool, true, false, cond, List, [], ◌∷◌, ◌++◌, Option, Some, None, sym, ap, subst, ◌∙◌, refl, inr, append_assoc}
use Rattle.std.specs.Prelude.{◌==◌}
use Rattle.proto_fields.specs.declared.fault.WireFault.TheVariants.{BadWireType}
use Rattle.proto_fields.specs.Field.{Held, Varint, Eight, Bytes, Four, Field, EncodesHeld, FieldsThen, IsFields, BeginsWith}
use Rattle.proto_fields.specs.Meaning.{after, bytes_in}
use Rattle.proto_fields.specs.Lookup.{TextMeans, LookupFault, StandsBefore}
use Rattle.proto_fields.proofs.Fronts.{fields_push, fields_same}

-- the text begins with some fields, which mean this
abbrev pub MeantSoFar : {A : Type 0} → (List Field → Option A) → List ℕ → List ℕ → Option A → Type 0
MeantSoFar meaning text rest meant = (fields : List Field) × FieldsThen text fields rest × (meant ≡ meaning fields)

module _ {A : Type 0} (meaning : List Field → Option A) where
  -- one field more
  pub meant_more : (thing : Held → Option A) (number : ℕ)
      → ((fields : List Field) (f : Field) → meaning (fields ++ f ∷ []) ≡ cond (f.number == number) (after (meaning fields) (thing f.held)) (meaning fields))
      → (text mid rest : List ℕ) (old new : Option A) (f : Field) → MeantSoFar meaning text mid old → BeginsWith mid f rest
      → new ≡ cond (f.number == number) (after old (thing f.held)) old → MeantSoFar meaning text rest new
  meant_more thing number push text mid rest old new f h begins e =
      (h.0 ++ f ∷ [], fields_push text h.0 mid f rest h.1 begins, e ∙ ap (λ (o : Option A). cond (f.number == number) (after o (thing f.held)) o) h.2 ∙ sym (push h.0 f))

  module _ (text rest : List ℕ) (over : rest ≡ []) where
    whole : (meant : Option A) → (h : MeantSoFar meaning text rest meant) → IsFields text h.0
    whole meant h = subst (FieldsThen text h.0) over h.1

    pub text_means : (x : A) → MeantSoFar meaning text rest (Some x) → TextMeans meaning text x
    text_means x h = record { fields = h.0; encodes = whole (Some x) h; means = sym h.2 }

    pub another_type : MeantSoFar meaning text rest None → LookupFault meaning BadWireType text
    another_type h = inr (refl, record { fields = h.0; encodes = whole None h; means_none = sym h.2 })

    -- any list of fields that the text is means the same
    pub means_only : (meant : Option A) → MeantSoFar meaning text rest meant → (fields : List Field) → IsFields text fields → meaning fields ≡ meant
    means_only meant h fields is = sym (h.2 ∙ ap meaning (fields_same text fields h.0 is (whole meant h)))

-- ---- where it stands

front_of_fields : (text : List ℕ) (fields : List Field) (rest : List ℕ) → FieldsThen text fields rest → (front : List ℕ) × (text ≡ front ++ rest)
front_of_fields text [] rest h = ([], h)
front_of_fields text (f ∷ fields) rest h =
    let more = front_of_fields h.1 fields rest h.4 in
    (h.0 ++ more.0, h.2 ∙ ap (λ (l : List ℕ). h.0 ++ l) more.1 ∙ sym (append_assoc h.0 more.0 rest))

-- the bytes of the field that was read stand before the rest
module _ (text front mid rest : List ℕ) (parts : text ≡ front ++ mid) where
  content_stands : (key count bytes : List ℕ) → mid ≡ (key ++ (count ++ bytes)) ++ rest → StandsBefore text (Some bytes) rest
  content_stands key count bytes is =
      let later : mid ≡ (key ++ count) ++ (bytes ++ rest) =
      is ∙ ap (λ (l : List ℕ). l ++ rest) (sym (append_assoc key count bytes)) ∙ append_assoc (key ++ count) bytes rest in
      (front ++ (key ++ count), parts ∙ ap (λ (l : List ℕ). front ++ l) later ∙ sym (append_assoc front (key ++ count) (bytes ++ rest)))

  held_stands : (old : Option (List ℕ)) (held : Held) (key content : List ℕ) → EncodesHeld held content → mid ≡ (key ++ content) ++ rest
      → StandsBefore text (after old (bytes_in held)) rest
  held_stands None held key content is e = tt
  held_stands (Some x) (Varint n) key content is e = tt
  held_stands (Some x) (Eight bytes) key content is e = tt
  held_stands (Some x) (Four bytes) key content is e = tt
  held_stands (Some x) (Bytes bytes) key content is e =
      content_stands key is.0 bytes (e ∙ ap (λ (l : List ℕ). (key ++ l) ++ rest) is.2)

  module _ (f : Field) (begins : BeginsWith mid f rest) where
    field_stands : (old : Option (List ℕ)) → StandsBefore text (after old (bytes_in f.held)) rest
    field_stands old =
        held_stands old f.held begins.1.key begins.1.content begins.1.encodes_held (begins.2 ∙ ap (λ (l : List ℕ). l ++ rest) begins.1.parts)

    stands_next : (here : Bool) (old new : Option (List ℕ)) (behind next : List ℕ) → StandsBefore text old behind
        → new ≡ cond here (after old (bytes_in f.held)) old → next ≡ cond here rest behind → StandsBefore text new next
    stands_next true old new behind next stands e at =
        subst (λ (o : Option (List ℕ)). StandsBefore text o next) (sym e) (subst (λ (l : List ℕ). StandsBefore text (after old (bytes_in f.held)) l) (sym at) (field_stands old))
    stands_next false old new behind next stands e at =
        subst (λ (o : Option (List ℕ)). StandsBefore text o next) (sym e) (subst (λ (l : List ℕ). StandsBefore text old l) (sym at) stands)

-- one field more
pub stands_more : (number : ℕ) (text mid rest : List ℕ) (fields : List Field) (old new : Option (List ℕ)) (behind next : List ℕ) (f : Field)
    → FieldsThen text fields mid → BeginsWith mid f rest → StandsBefore text old behind
    → new ≡ cond (f.number == number) (after old (bytes_in f.held)) old → next ≡ cond (f.number == number) rest behind → StandsBefore text new next
stands_more number text mid rest fields old new behind next f h begins stands e at =
    let front = front_of_fields text fields mid h in
    stands_next text front.0 mid rest front.1 f begins (f.number == number) old new behind next stands e at
