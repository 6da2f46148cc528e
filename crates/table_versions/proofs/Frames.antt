-- The frames of an answer, each by itself, and their bytes.
use Rattle.std.proofs.Common.{◌≡◌, refl, sym, ap, ap₂, subst, ◌∙◌, ℕ, zero, suc, inl, ◌+◌, ◌^◌, ◌<◌, ◌≤◌, ◌==◌, ◌↔◌, IsTrue, Fits, w64, Bool, true, false, true≢false, List, [], ◌∷◌, ◌++◌, map, length, take, get_or, length-append, arith}
use Rattle.std.specs.List.{AllByRecursion, concat, flat_map}
use lib.Pointwise.{pointwise}
use Rattle.std.proofs.lemmas.List.{append-nil, map-append, take_more}
use Rattle.std.proofs.lemmas.List.Folds.{concat-append}
use Rattle.grpc_frames.specs.Frame.{Frame, frame_text, IsFrames}
use Rattle.grpc_frames.specs.FrameLaws.{FramesAreOne}
use Rattle.table_types.specs.Uploads.{Upload}
use Rattle.table_types.specs.Valid.{IsUpload, FitsFrame}
use Rattle.table_types.specs.Served.{in_frame, upload_messages}
use Rattle.table_types.specs.Answers.{answer_messages}
use Rattle.table_versions.specs.Ledger.{frames_of, frames_text, schema_frame_of}
use Rattle.table_versions.specs.Answering.{IsMessageFrame, AreFrames}
use Rattle.table_versions.proofs.Growing.{same_bytes, bytes_same}
use Rattle.table_versions.proofs.Sizes.{answer_few, frames_long}

-- ---- the frames of messages

pub framed_text : (messages : List (List ℕ)) → concat (map in_frame messages) ≡ flat_map in_frame messages
framed_text [] = refl
framed_text (message ∷ messages) = ap (λ l. in_frame message ++ l) (framed_text messages)

framed_each : (messages : List (List ℕ)) → AllByRecursion FitsFrame messages → AllByRecursion IsMessageFrame (map in_frame messages)
framed_each [] fit = tt
framed_each (message ∷ messages) fit = ((message, fit.0, refl), framed_each messages fit.1)

both_fit : (xs ys : List (List ℕ)) → AllByRecursion FitsFrame xs → AllByRecursion FitsFrame ys → AllByRecursion FitsFrame (xs ++ ys)
both_fit [] ys first second = second
both_fit (x ∷ xs) ys first second = (first.0, both_fit xs ys first.1 second)

uploads_fit : (xs : List Upload) → AllByRecursion IsUpload xs → AllByRecursion FitsFrame (flat_map upload_messages xs)
uploads_fit [] valid = tt
uploads_fit (x ∷ xs) valid =
    both_fit (upload_messages x) (flat_map upload_messages xs) valid.0.batches_served (uploads_fit xs valid.1)

served_is : (xs : List Upload) → flat_map frames_of xs ≡ map in_frame (flat_map upload_messages xs)
served_is [] = refl
served_is (x ∷ xs) =
    ap (λ l. frames_of x ++ l) (served_is xs) ∙ sym (map-append in_frame (upload_messages x) (flat_map upload_messages xs))

-- ---- the frames of a version

pub all_taken : (n : ℕ) (xs : List Upload) → AllByRecursion IsUpload xs → AllByRecursion IsUpload (take n xs)
all_taken zero xs all = tt
all_taken (suc n) [] all = tt
all_taken (suc n) (x ∷ xs) all = (all.0, all_taken n xs all.1)

pub few_taken : (n : ℕ) (xs : List Upload) → length (take n xs) ≤ length xs
few_taken zero xs = omega arith
few_taken (suc n) [] = omega arith
few_taken (suc n) (x ∷ xs) = omega (arith, few_taken n xs)

module _ (frame : List ℕ) (first : Upload) (xs : List Upload) (shared : List (List ℕ)) (framed : frame ≡ schema_frame_of first.schema)
    (joined : shared ≡ frame ∷ flat_map frames_of xs) where
  are_framed : shared ≡ map in_frame (answer_messages (record { schema = first.schema; uploads = xs }))
  are_framed = joined ∙ ap₂ (λ a b. a ∷ b) framed (served_is xs)

  pub answer_text : concat shared ≡ flat_map in_frame (answer_messages (record { schema = first.schema; uploads = xs }))
  answer_text = ap concat are_framed ∙ framed_text (answer_messages (record { schema = first.schema; uploads = xs }))

  pub answer_frames : IsUpload first → AllByRecursion IsUpload xs → length xs ≤ 1000000 → AreFrames shared
  answer_frames one valid few = record {
    each =
        subst (AllByRecursion IsMessageFrame) (sym are_framed)
        (framed_each (answer_messages (record { schema = first.schema; uploads = xs })) (one.schema_served, uploads_fit xs valid));
    few = omega (arith, ap length answer_text, answer_few first xs one valid, few);
  }

-- ---- bytes are cut into frames in one way

abbrev cut : (frames : List (List ℕ)) → AllByRecursion IsMessageFrame frames → List Frame
cut [] each = []
cut (frame ∷ frames) each = record { flag = 0; payload = each.0.0 } ∷ cut frames each.1

texts : (frames : List (List ℕ)) (each : AllByRecursion IsMessageFrame frames) → frames ≡ map frame_text (cut frames each)
texts [] each = refl
texts (frame ∷ frames) each = ap₂ (λ a b. a ∷ b) each.0.2 (texts frames each.1)

cut_is : (frames : List (List ℕ)) (each : AllByRecursion IsMessageFrame frames) → IsFrames (concat frames) (cut frames each)
cut_is [] each = record { parts = refl; each = tt }
cut_is (frame ∷ frames) each =
    let rest = cut_is frames each.1 in
    record {
      parts = ap₂ (λ a b. a ++ b) each.0.2 rest.parts;
      each = (record { flag = inl refl; payload = each.0.1 }, rest.each);
    }

pub cut_once : FramesAreOne → (xs ys : List (List ℕ)) → AllByRecursion IsMessageFrame xs → AllByRecursion IsMessageFrame ys → concat xs ≡ concat ys → xs ≡ ys
cut_once one xs ys first second same =
    texts xs first
    ∙ ap (map frame_text) (one (concat xs) (cut xs first) (cut ys second) (cut_is xs first) (subst (λ t. IsFrames t (cut ys second)) (sym same) (cut_is ys second)))
    ∙ sym (texts ys second)

pub eq_is : FramesAreOne → (xs ys first second : List (List ℕ)) → first ≡ xs → second ≡ ys → AllByRecursion IsMessageFrame xs → AllByRecursion IsMessageFrame ys
    → (b : Bool) → (IsTrue b ↔ (first ≡ second)) → b ≡ pointwise ◌==◌ (concat xs) (concat ys)
eq_is one xs ys first second is also each others true same =
    sym (subst (λ l. pointwise ◌==◌ (concat xs) (concat l) ≡ true) (sym is ∙ same.0 refl ∙ also) (same_bytes (concat xs)))
eq_is one xs ys first second is also each others false same = sym (differ (pointwise ◌==◌ (concat xs) (concat ys)) refl)
  where
    differ : (b : Bool) → pointwise ◌==◌ (concat xs) (concat ys) ≡ b → b ≡ false
    differ true e = absurd (true≢false (sym (same.1 (is ∙ cut_once one xs ys each others (bytes_same (concat xs) (concat ys) e) ∙ sym also))))
    differ false e = refl

-- ---- bytes counted and copied frame by frame

pub fits_64 : (n : ℕ) → n < 2 ^ 64 → Fits w64 n
fits_64 n small = grind arith

pub more_bytes : (frames : List (List ℕ)) (i : ℕ) (frame : List ℕ) → i < length frames → frame ≡ get_or frames i frame
    → concat (take (i + 1) frames) ≡ concat (take i frames) ++ frame
more_bytes frames i frame within is =
    ap concat (take_more frames i frame within)
    ∙ concat-append (take i frames) (get_or frames i frame ∷ [])
    ∙ ap (λ l. concat (take i frames) ++ l) (append-nil (get_or frames i frame) ∙ sym is)

pub fewer_bytes : (frames : List (List ℕ)) (i : ℕ) → length (concat (take i frames)) ≤ length (concat frames)
fewer_bytes frames zero = omega arith
fewer_bytes [] (suc i) = omega arith
fewer_bytes (frame ∷ frames) (suc i) =
    omega (
      arith,
      length-append frame (concat (take i frames)),
      length-append frame (concat frames),
      fewer_bytes frames i,
    )

-- an upload's frames have few bytes
pub served_few : (u : Upload) (frames : List (List ℕ)) → IsUpload u → frames ≡ frames_of u → length (concat frames) < 2 ^ 64
served_few u frames valid is =
    omega (arith, ap length (ap concat is ∙ framed_text (upload_messages u)), frames_long u valid)

pub served_long : (u : Upload) (frames : List (List ℕ)) → frames ≡ frames_of u → length (concat frames) ≡ length (frames_text u)
served_long u frames is = ap length (ap concat is ∙ framed_text (upload_messages u))
