-- Two texts laid end to end mean the messages of both, merged.
use Rattle.std.proofs.Common.{◌≡◌, ◌≢◌, ℕ, Bool, true, false, not, ◌||◌, ◌&&◌, ◌==◌, cond, List, [], ◌∷◌, ◌++◌, Option, Some, None, refl, sym, ap, subst, ◌∙◌, append_assoc, append-nil, ◌⊎◌, inl, inr}
use Rattle.std.specs.List.{AllZip}
use Rattle.std.proofs.lemmas.List.Concat.{flat_map-append}
use Rattle.std.proofs.lemmas.List.Elements.{filter_map-append}
use Rattle.std.proofs.lemmas.List.Folds.{list_all-append}
use Rattle.proto_fields.specs.Field.{Held, Field, IsFields}
use Rattle.proto_fields.specs.Meaning.{last_or, is_there, bytes_in, all_hold, things_of, meant}
use Rattle.proto_fields.specs.Scalar.{TypeString, default_of, scalar_in}
use Rattle.proto_messages.specs.Descriptor.{Descriptor, NoMore, One, Strings, Message, Messages, Values, all_meant, joined, Merge, EachMeans, Means, IsMessage}
use Rattle.proto_messages.specs.Merged.{OneMerged, Merged}

-- ---- lists

fields_append : (text more : List ℕ) (fs gs : List Field) → IsFields text fs → IsFields more gs → IsFields (text ++ more) (fs ++ gs)
fields_append text more [] gs h is = subst (λ (t : List ℕ). IsFields (t ++ more) gs) (sym h) is
fields_append text more (f ∷ fs) gs h is =
    (h.0, h.1 ++ more, ap (λ (l : List ℕ). l ++ more) h.2 ∙ append_assoc h.0 h.1 more, h.3, fields_append h.1 more fs gs h.4 is)

zip_append : {A B : Type 0} (R : A → B → Type 0) (xs : List A) (ys : List B) (more : List A) (others : List B) → AllZip R xs ys → AllZip R more others → AllZip R (xs ++ more) (ys ++ others)
zip_append R [] [] more others h k = k
zip_append R [] (y ∷ ys) more others h k = absurd h
zip_append R (x ∷ xs) [] more others h k = absurd h
zip_append R (x ∷ xs) (y ∷ ys) more others h k = (h.0, zip_append R xs ys more others h.1 k)

not_empty : {A : Type 0} (xs more : List A) → xs ≢ [] → (xs ++ more) ≢ []
not_empty [] more some e = some refl
not_empty (x ∷ xs) more some e = absurd cc

last_or-append : {A : Type 0} (d : A) (xs ys : List A) → last_or d (xs ++ ys) ≡ last_or (last_or d xs) ys
last_or-append d [] ys = refl
last_or-append d (x ∷ xs) ys = last_or-append x xs ys

-- ---- what the fields of one number hold

some_of : {A : Type 0} (held : Bool) (x y : A) → cond held (Some x) None ≡ Some y → (held ≡ true) × (x ≡ y)
some_of true x y e = let same : x ≡ y = cc in (refl, same)
some_of false x y e = absurd cc

module _ {A : Type 0} (thing : Held → Option A) (number : ℕ) (fs gs : List Field) where
  both_held : {B : Type 0} (x : B) → all_hold thing number fs ≡ true → all_hold thing number gs ≡ true → cond (all_hold thing number fs && all_hold thing number gs) (Some x) None ≡ Some x
  both_held x e f = λ i. cond (e i && f i) (Some x) None

  listed : (xs ys : List A) → all_meant thing number fs ≡ Some xs → all_meant thing number gs ≡ Some ys → all_meant thing number (fs ++ gs) ≡ Some (xs ++ ys)
  listed xs ys e f =
      let p = some_of (all_hold thing number fs) (things_of thing number fs) xs e in
      let q = some_of (all_hold thing number gs) (things_of thing number gs) ys f in
      rw (list_all-append (λ (g : Field). not (g.number == number) || is_there (thing g.held)) fs gs, filter_map-append (λ (g : Field). cond (g.number == number) (thing g.held) None) fs gs)
      (both_held (things_of thing number fs ++ things_of thing number gs) p.0 q.0 ∙ (λ i. Some (p.1 i ++ q.1 i)))

  module _ (d a b : A) where
    last_of_both : (xs ys : List A) → last_or d xs ≡ a → last_or d ys ≡ b → (last_or d (xs ++ ys) ≡ b) ⊎ ((b ≡ d) × (last_or d (xs ++ ys) ≡ a))
    last_of_both xs [] e f = inr (sym f, ap (last_or d) (append-nil xs) ∙ e)
    last_of_both xs (y ∷ ys) e f = inl (last_or-append d xs (y ∷ ys) ∙ f)

    single : meant thing d number fs ≡ Some a → meant thing d number gs ≡ Some b → (c : A) × (meant thing d number (fs ++ gs) ≡ Some c) × ((c ≡ b) ⊎ ((b ≡ d) × (c ≡ a)))
    single e f =
        let xs = things_of thing number fs in
        let ys = things_of thing number gs in
        let p = some_of (all_hold thing number fs) (last_or d xs) a e in
        let q = some_of (all_hold thing number gs) (last_or d ys) b f in
        let whole : meant thing d number (fs ++ gs) ≡ Some (last_or d (xs ++ ys)) =
        rw (list_all-append (λ (g : Field). not (g.number == number) || is_there (thing g.held)) fs gs, filter_map-append (λ (g : Field). cond (g.number == number) (thing g.held) None) fs gs)
        (both_held (last_or d (xs ++ ys)) p.0 q.0) in
        (last_or d (xs ++ ys), whole, last_of_both xs ys p.1 q.1)

-- ---- embedded messages

module _ {V : Type 0} (means : List Field → V → Type 0) (merged : V → V → V → Type 0)
    (append : (fs gs : List Field) (v w : V) → means fs v → means gs w → (both : V) × means (fs ++ gs) both × merged v w both) where
  merge_append : (all more : List (List ℕ)) (v w : Option V) → Merge means all v → Merge means more w → (both : Option V) × Merge means (all ++ more) both × OneMerged merged v w both
  merge_append all more None w h k = (w, subst (λ (l : List (List ℕ)). Merge means (l ++ more) w) (sym h) k, refl)
  merge_append all more (Some x) None h k =
      (Some x, subst (λ (l : List (List ℕ)). Merge means (all ++ l) (Some x)) (sym k) (subst (λ (l : List (List ℕ)). Merge means l (Some x)) (sym (append-nil all)) h), refl)
  merge_append all more (Some x) (Some y) h k =
      let one = append (joined h.1.0) (joined k.1.0) x y h.1.2 k.1.2 in
      let whole = subst (λ (l : List Field). means l one.0) (sym (flat_map-append (λ (list : List Field). list) h.1.0 k.1.0)) one.1 in
      (Some one.0, (not_empty all more h.0, (h.1.0 ++ k.1.0, zip_append IsFields all h.1.0 more k.1.0 h.1.1 k.1.1, whole)), one.2)

-- ---- messages of a descriptor

means_append : (descriptor : Descriptor) (fs gs : List Field) (v w : Values descriptor) → Means descriptor fs v → Means descriptor gs w
    → (both : Values descriptor) × Means descriptor (fs ++ gs) both × Merged descriptor v w both
means_append NoMore fs gs v w h k = (tt, tt, tt)
means_append (One number type others) fs gs v w h k =
    let one = single (scalar_in type) number fs gs (default_of type) v.0 w.0 h.0 k.0 in
    let rest = means_append others fs gs v.1 w.1 h.1 k.1 in
    ((one.0, rest.0), (one.1, rest.1), (one.2, rest.2))
means_append (Strings number others) fs gs v w h k =
    let rest = means_append others fs gs v.1 w.1 h.1 k.1 in
    ((v.0 ++ w.0, rest.0), (listed (scalar_in TypeString) number fs gs v.0 w.0 h.0 k.0, rest.1), (refl, rest.2))
means_append (Message number inner others) fs gs v w h k =
    let one = merge_append (Means inner) (Merged inner) (means_append inner) h.0.0 k.0.0 v.0 w.0 h.0.2 k.0.2 in
    let rest = means_append others fs gs v.1 w.1 h.1 k.1 in
    ((one.0, rest.0), ((h.0.0 ++ k.0.0, listed bytes_in number fs gs h.0.0 k.0.0 h.0.1 k.0.1, one.1), rest.1), (one.2, rest.2))
means_append (Messages number inner others) fs gs v w h k =
    let each = zip_append (λ (embedded : List ℕ) (value : Values inner). (fields : List Field) × IsFields embedded fields × Means inner fields value) h.0.0 v.0 k.0.0 w.0 h.0.2 k.0.2 in
    let rest = means_append others fs gs v.1 w.1 h.1 k.1 in
    ((v.0 ++ w.0, rest.0), ((h.0.0 ++ k.0.0, listed bytes_in number fs gs h.0.0 k.0.0 h.0.1 k.0.1, each), rest.1), (refl, rest.2))

pub texts_append : (descriptor : Descriptor) (text more : List ℕ) (v w : Values descriptor) → IsMessage descriptor text v → IsMessage descriptor more w
    → (both : Values descriptor) × IsMessage descriptor (text ++ more) both × Merged descriptor v w both
texts_append descriptor text more v w h k =
    let whole = means_append descriptor h.fields k.fields v w h.means k.means in
    (whole.0, record { fields = h.fields ++ k.fields; encodes = fields_append text more h.fields k.fields h.encodes k.encodes; means = whole.1 }, whole.2)
