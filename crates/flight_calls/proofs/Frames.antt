-- Messages in frames, one behind the other.
use Rattle.std.proofs.Common.{◌≡◌, ◌+◌, ◌<◌, ◌⊎◌, ℕ, suc, zero, List, [], ◌∷◌, ◌++◌, length, map, take, get_or, Err, sym, ap, subst, ◌∙◌, arith, inl, inr}
use Rattle.std.specs.List.{AllByRecursion}
use Rattle.std.proofs.lemmas.List.{map_push, take_more, flat_map_more}
use Rattle.table_types.specs.Served.{in_frame}
use Rattle.table_types.specs.Valid.{FitsFrame}
use Rattle.call_protocol.specs.Texts.{messages_text}
use Rattle.call_protocol.specs.declared.refusal.CallRefusal.{CallRefusal}
use Rattle.call_protocol.specs.declared.refusal.CallRefusal.TheVariants as refusals
use Rattle.flight_calls.specs.Framing.{Frames}

-- these frames are those of the messages, each of which fits
pub record Framed (messages : List (List ℕ)) (frames : List ℕ) : Type 0 where
  pub fit : AllByRecursion FitsFrame messages
  pub text : frames ≡ messages_text messages

all_push : (messages : List (List ℕ)) (message : List ℕ) → AllByRecursion FitsFrame messages → FitsFrame message → AllByRecursion FitsFrame (messages ++ message ∷ [])
all_push [] message all fits = (fits, tt)
all_push (first ∷ messages) message all fits = (all.0, all_push messages message all.1 fits)

-- one message more
pub framed_more : {X : Type 0} (message_of : X → List ℕ) (xs : List X) (i : ℕ) (x : X) (old new : List ℕ) → i < length xs → x ≡ get_or xs i x
    → Framed (map message_of (take i xs)) old → FitsFrame (message_of x) → new ≡ old ++ in_frame (message_of x)
    → Framed (map message_of (take (i + 1) xs)) new
framed_more message_of xs i x old new within is before fits grown =
    let front = map message_of (take i xs) in
    let more : map message_of (take (i + 1) xs) ≡ front ++ message_of x ∷ [] =
    ap (map message_of) (take_more xs i x within ∙ ap (λ y. take i xs ++ y ∷ []) (sym is)) ∙ map_push message_of (take i xs) x in
    subst (λ (l : List (List ℕ)). Framed l new) (sym more) (record {
      fit = all_push front (message_of x) before.fit fits;
      text = grown ∙ ap (λ (l : List ℕ). l ++ in_frame (message_of x)) before.text ∙ flat_map_more in_frame [] front (message_of x);
    })

-- one of all
pub one_of_all : {X : Type 0} (P : X → Type 0) (xs : List X) (i : ℕ) (x : X) → i < length xs → x ≡ get_or xs i x → AllByRecursion P xs → P x
one_of_all P [] i x within is all = absurd (omega (arith, within))
one_of_all P (y ∷ ys) zero x within is all = subst P (sym is) all.0
one_of_all P (y ∷ ys) (suc i) x within is all = one_of_all P ys i x (omega (arith, within)) is all.1

one_of_mapped : {X : Type 0} (message_of : X → List ℕ) (xs : List X) (i : ℕ) (x : X) → i < length xs → x ≡ get_or xs i x
    → AllByRecursion FitsFrame (map message_of xs) → FitsFrame (message_of x)
one_of_mapped message_of [] i x within is all = absurd (omega (arith, within))
one_of_mapped message_of (y ∷ ys) zero x within is all = subst (λ z. FitsFrame (message_of z)) (sym is) all.0
one_of_mapped message_of (y ∷ ys) (suc i) x within is all = one_of_mapped message_of ys i x (omega (arith, within)) is all.1

-- the frames of all could not be made, since that of one could not
pub frames_fail : {X : Type 0} (message_of : X → List ℕ) (xs : List X) (i : ℕ) (x : X) (refusal : CallRefusal) → i < length xs → x ≡ get_or xs i x
    → ((refusal ≡ refusals.TooLarge) × (¬ FitsFrame (message_of x))) ⊎ (refusal ≡ refusals.OutOfMemory) → Frames (map message_of xs) (Err refusal)
frames_fail message_of xs i x refusal within is fault =
    elim fault [
      | inl long ↦ inl (long.0, λ all. long.1 (one_of_mapped message_of xs i x within is all))
      | inr refused ↦ inr refused
    ]
