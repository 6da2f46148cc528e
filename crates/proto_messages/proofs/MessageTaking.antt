-- A message of a descriptor that takes its fields one after the other holds what they mean.
use Rattle.std.proofs.Common.{◌≡◌, ◌≢◌, ℕ, Bool, true, false, not, ◌||◌, ◌&&◌, ◌==◌, cond, List, [], ◌∷◌, ◌++◌, Option, Some, None, refl, sym, ap, subst, ◌∙◌, append_assoc, append-nil}
use Rattle.std.specs.List.{AllZip, cons_option}
use Rattle.std.proofs.lemmas.List.Concat.{flat_map-append}
use Rattle.std.proofs.lemmas.List.Elements.{filter_map-append}
use Rattle.std.proofs.lemmas.List.Folds.{list_all-append}
use Rattle.proto_fields.specs.Field.{Held, Field, IsFields}
use Rattle.proto_fields.specs.Meaning.{is_there, bytes_in, all_hold, things_of, after}
use Rattle.proto_fields.specs.Scalar.{TypeString, default_of, scalar_in}
use Rattle.proto_messages.specs.Descriptor.{Descriptor, NoMore, One, Strings, Message, Messages, Values, all_meant, joined, Merge, EachMeans, Means, IsMessage}
use Rattle.proto_messages.specs.Taking.{nothing, TakesAll, TakesEmbedded, or_nothing, Where, Takes}
use Rattle.proto_fields.proofs.Meanings.{meant-push}

-- ---- lists with one element more

push_is_some : {A : Type 0} (xs : List A) (y : A) → (xs ++ y ∷ []) ≢ []
push_is_some [] y e = absurd cc
push_is_some (x ∷ xs) y e = absurd cc

zip_push : {A B : Type 0} (R : A → B → Type 0) (xs : List A) (ys : List B) (x : A) (y : B) → AllZip R xs ys → R x y → AllZip R (xs ++ x ∷ []) (ys ++ y ∷ [])
zip_push R [] [] x y h r = (r, tt)
zip_push R [] (b ∷ ys) x y h r = absurd h
zip_push R (a ∷ xs) [] x y h r = absurd h
zip_push R (a ∷ xs) (b ∷ ys) x y h r = (h.0, zip_push R xs ys x y h.1 r)

joined-push : {A : Type 0} (lists : List (List A)) (l : List A) → joined (lists ++ l ∷ []) ≡ joined lists ++ l
joined-push {A} lists l = flat_map-append (λ (list : List A). list) lists (l ∷ []) ∙ ap (λ (m : List A). joined lists ++ m) (append-nil l)

-- what all fields held so far, after one field more of the number
abbrev and_more : {A : Type 0} → Option (List A) → Option A → Option (List A)
and_more None t = None
and_more (Some xs) None = None
and_more (Some xs) (Some x) = Some (xs ++ x ∷ [])

one_held : {A : Type 0} (here : Bool) (t : Option A) (held : Bool) (things : List A)
    → cond (held && ((not here || is_there t) && true)) (Some (things ++ cons_option (cond here t None) [])) None
    ≡ cond here (and_more (cond held (Some things) None) t) (cond held (Some things) None)
one_held false t true things = ap Some (append-nil things)
one_held false t false things = refl
one_held true None true things = refl
one_held true None false things = refl
one_held true (Some x) true things = refl
one_held true (Some x) false things = refl

all_meant-push : {A : Type 0} (thing : Held → Option A) (number : ℕ) (fields : List Field) (f : Field)
    → all_meant thing number (fields ++ f ∷ []) ≡ cond (f.number == number) (and_more (all_meant thing number fields) (thing f.held)) (all_meant thing number fields)
all_meant-push thing number fields f =
    rw (list_all-append (λ (g : Field). not (g.number == number) || is_there (thing g.held)) fields (f ∷ []), filter_map-append (λ (g : Field). cond (g.number == number) (thing g.held) None) fields (f ∷ []))
    (one_held (f.number == number) (thing f.held) (all_hold thing number fields) (things_of thing number fields))

-- ---- all fields of a list, by one field

-- one field more at the end
pub takes_push : {V : Type 0} (takes : Field → V → V → Type 0) (fields : List Field) (f : Field) (old mid new : V) → TakesAll takes fields old mid → takes f mid new → TakesAll takes (fields ++ f ∷ []) old new
takes_push takes [] f old mid new h t = (new, subst (λ v. takes f v new) (sym h) t, refl)
takes_push takes (g ∷ fields) f old mid new h t = (h.0, h.1, takes_push takes fields f h.0 mid new h.2 t)

module _ {V : Type 0} (means : List Field → V → Type 0) (takes : Field → V → V → Type 0)
    (one : (fields : List Field) (f : Field) (old new : V) → means fields old → takes f old new → means (fields ++ f ∷ []) new) where
  all_takes : (before fields : List Field) (old new : V) → means before old → TakesAll takes fields old new → means (before ++ fields) new
  all_takes before [] old new m t = subst (means (before ++ [])) t (subst (λ (l : List Field). means l old) (sym (append-nil before)) m)
  all_takes before (f ∷ fields) old new m t =
      subst (λ (l : List Field). means l new) (append_assoc before (f ∷ []) fields) (all_takes (before ++ f ∷ []) fields t.0 new (one before f old t.0 m t.1) t.2)

  -- ---- all_embedded of embedded messages

  module _ (empty : V) (empty_means : means [] empty) where
    -- the all_embedded of a message mean what it holds so far
    merged : (all_embedded : List (List ℕ)) (old : Option V) → Merge means all_embedded old → (lists : List (List Field)) × AllZip IsFields all_embedded lists × means (joined lists) (or_nothing old empty)
    merged all_embedded None m = ([], subst (λ (l : List (List ℕ)). AllZip IsFields l []) (sym m) tt, empty_means)
    merged all_embedded (Some value) m = m.1

    -- one embedded more of a message
    merge_more : (t : Option (List ℕ)) (old new : Option V) (all_embedded : List (List ℕ)) → Merge means all_embedded old → (value : V) × (new ≡ Some value) × TakesEmbedded takes t (or_nothing old empty) value
        → (more : List (List ℕ)) × (and_more (Some all_embedded) t ≡ Some more) × Merge means more new
    merge_more None old new all_embedded m h = absurd h.2
    merge_more (Some embedded) old new all_embedded m h =
        let before = merged all_embedded old m in
        let whole = all_takes (joined before.0) h.2.0 (or_nothing old empty) h.0 before.2 h.2.2 in
        let lists = before.0 ++ h.2.0 ∷ [] in
        let means_all = subst (λ (l : List Field). means l h.0) (sym (joined-push before.0 h.2.0)) whole in
        let more : Merge means (all_embedded ++ embedded ∷ []) (Some h.0) = (push_is_some all_embedded embedded, (lists, zip_push IsFields all_embedded before.0 embedded h.2.0 before.1 h.2.1, means_all)) in
        (all_embedded ++ embedded ∷ [], refl, subst (Merge means (all_embedded ++ embedded ∷ [])) (sym h.1) more)

    -- one message more
    each_more : (t : Option (List ℕ)) (old new : List V) (all_embedded : List (List ℕ)) → EachMeans means all_embedded old → (value : V) × (new ≡ old ++ value ∷ []) × TakesEmbedded takes t empty value
        → (more : List (List ℕ)) × (and_more (Some all_embedded) t ≡ Some more) × EachMeans means more new
    each_more None old new all_embedded m h = absurd h.2
    each_more (Some embedded) old new all_embedded m h =
        let here : (fields : List Field) × IsFields embedded fields × means fields h.0 = (h.2.0, h.2.1, all_takes [] h.2.0 empty h.0 empty_means h.2.2) in
        let more = zip_push (λ (p : List ℕ) (v : V). (fields : List Field) × IsFields p fields × means fields v) all_embedded old embedded h.0 m here in
        (all_embedded ++ embedded ∷ [], refl, subst (EachMeans means (all_embedded ++ embedded ∷ [])) (sym h.1) more)

-- ---- one field more of a row, by whether it has the row's number

single_more : {V : Type 0} (here : Bool) (meant t : Option V) (old new : V) → meant ≡ Some old → Where here old new (t ≡ Some new) → cond here (after meant t) meant ≡ Some new
single_more true meant t old new m w = ap (λ o. after o t) m ∙ w
single_more false meant t old new m w = m ∙ ap Some (sym w)

string_more : {A : Type 0} (here : Bool) (meant : Option (List A)) (t : Option A) (old new : List A) → meant ≡ Some old → Where here old new ((x : A) × (t ≡ Some x) × (new ≡ old ++ x ∷ []))
    → cond here (and_more meant t) meant ≡ Some new
string_more true meant t old new m w = rw (m, w.1, w.2) refl
string_more false meant t old new m w = m ∙ ap Some (sym w)

-- where the all_embedded so far fit the old value, those after one field more fit the new one
pieces_more : {P V : Type 0} (here : Bool) (meant : Option (List P)) (t : Option P) (old new : V) (fits : List P → V → Type 0) (changes : Type 0)
    → ((all_embedded : List P) → fits all_embedded old → changes → (more : List P) × (and_more (Some all_embedded) t ≡ Some more) × fits more new)
    → (all_embedded : List P) × (meant ≡ Some all_embedded) × fits all_embedded old → Where here old new changes
    → (all_embedded : List P) × (cond here (and_more meant t) meant ≡ Some all_embedded) × fits all_embedded new
pieces_more true meant t old new fits changes step m w =
    let s = step m.0 m.2 w in (s.0, ap (λ o. and_more o t) m.1 ∙ s.1, s.2)
pieces_more false meant t old new fits changes step m w = (m.0, m.1, subst (fits m.0) (sym w) m.2)

-- ---- messages of a descriptor

-- where no field was read, it holds what no fields mean
pub nothing_means : (descriptor : Descriptor) → Means descriptor [] (nothing descriptor)
nothing_means NoMore = tt
nothing_means (One number type others) = (refl, nothing_means others)
nothing_means (Strings number others) = (refl, nothing_means others)
nothing_means (Message number inner others) = (([], refl, refl), nothing_means others)
nothing_means (Messages number inner others) = (([], refl, tt), nothing_means others)

-- one field more
pub takes_means : (descriptor : Descriptor) (fields : List Field) (f : Field) (old new : Values descriptor) → Means descriptor fields old → Takes descriptor f old new → Means descriptor (fields ++ f ∷ []) new
takes_means NoMore fields f old new m t = tt
takes_means (One number type others) fields f old new m t =
    (meant-push (scalar_in type) (default_of type) number fields f ∙ single_more (f.number == number) _ (scalar_in type f.held) old.0 new.0 m.0 t.0, takes_means others fields f old.1 new.1 m.1 t.1)
takes_means (Strings number others) fields f old new m t =
    (all_meant-push (scalar_in TypeString) number fields f ∙ string_more (f.number == number) _ (scalar_in TypeString f.held) old.0 new.0 m.0 t.0, takes_means others fields f old.1 new.1 m.1 t.1)
takes_means (Message number inner others) fields f old new m t =
    let step = merge_more (Means inner) (Takes inner) (takes_means inner) (nothing inner) (nothing_means inner) (bytes_in f.held) old.0 new.0 in
    let p = pieces_more (f.number == number) (all_meant bytes_in number fields) (bytes_in f.held) old.0 new.0 (Merge (Means inner)) _ step m.0 t.0 in
    ((p.0, all_meant-push bytes_in number fields f ∙ p.1, p.2), takes_means others fields f old.1 new.1 m.1 t.1)
takes_means (Messages number inner others) fields f old new m t =
    let step = each_more (Means inner) (Takes inner) (takes_means inner) (nothing inner) (nothing_means inner) (bytes_in f.held) old.0 new.0 in
    let p = pieces_more (f.number == number) (all_meant bytes_in number fields) (bytes_in f.held) old.0 new.0 (EachMeans (Means inner)) _ step m.0 t.0 in
    ((p.0, all_meant-push bytes_in number fields f ∙ p.1, p.2), takes_means others fields f old.1 new.1 m.1 t.1)

-- all fields of a list, behind those before
pub takes_all_means : (descriptor : Descriptor) (before fields : List Field) (old new : Values descriptor) → Means descriptor before old → TakesAll (Takes descriptor) fields old new → Means descriptor (before ++ fields) new
takes_all_means descriptor = all_takes (Means descriptor) (Takes descriptor) (takes_means descriptor)

-- a text whose fields were taken from the first on is a message of the descriptor
pub takes_message : (descriptor : Descriptor) (text : List ℕ) (fields : List Field) (v : Values descriptor) → IsFields text fields → TakesAll (Takes descriptor) fields (nothing descriptor) v → IsMessage descriptor text v
takes_message descriptor text fields v is t =
    record { fields = fields; encodes = is; means = takes_all_means descriptor [] fields (nothing descriptor) v (nothing_means descriptor) t }
