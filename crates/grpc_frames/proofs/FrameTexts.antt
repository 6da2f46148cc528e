-- Frames are told apart by their text, and what was read of known bytes is the frame that stands there.
use Rattle.std.proofs.Common.{◌≡◌, ◌≢◌, ℕ, ◌^◌, ◌<◌, inl, inr, List, [], ◌∷◌, ◌++◌, Option, None, Some, Result, Ok, Err, arith, length, take, refl, sym, ap, ◌∙◌, subst, length-append}
use Rattle.std.proofs.lemmas.List.{append_cancel_left}
use Rattle.std.proofs.lemmas.Nat.{from_be_bytes-to_be_bytes_4}
use Rattle.std.proofs.Math.Seq.{take-append_seam}
use Rattle.std.specs.Int.{w32, from_be_bytes}
use Rattle.std.specs.List.{flat_map, AllByRecursion}
use Rattle.byteorder.specs.Endian.{big_bytes}
use Rattle.grpc_frames.specs.declared.fault.FrameFault.{FrameFault}
use Rattle.grpc_frames.specs.declared.fault.FrameFault.TheVariants.{Truncated, BadFlag, Compressed, TooLong, Io, OutOfMemory}
use Rattle.grpc_frames.specs.Frame.{Frame, header_text, frame_text, IsFrame}
use Rattle.grpc_frames.specs.FrameFaults.{BeginsFrame, WhereKnown, ReadsFrame, IsUnlessRefused}
use Rattle.grpc_frames.specs.FrameLaws.{NoFrameBeginsAnother, FramesAreOne}

big_bytes_one : (n m : ℕ) → n < 2 ^ 32 → m < 2 ^ 32 → big_bytes 4 n ≡ big_bytes 4 m → n ≡ m
big_bytes_one n m hn hm e = sym (from_be_bytes-to_be_bytes_4 n hn) ∙ ap (from_be_bytes w32) e ∙ from_be_bytes-to_be_bytes_4 m hm

-- one text begins with one flag and length
pub headers_one : (flag n : ℕ) (rest : List ℕ) (flag' n' : ℕ) (rest' : List ℕ) → n < 2 ^ 32 → n' < 2 ^ 32
    → header_text flag n ++ rest ≡ header_text flag' n' ++ rest' → (flag ≡ flag') × (n ≡ n') × (rest ≡ rest')
headers_one flag n rest flag' n' rest' hn hn' e =
    let bytes : big_bytes 4 n ≡ big_bytes 4 n' = cc in
    (cc, big_bytes_one n n' hn hn' bytes, cc)

fronts_one : (a b x y : List ℕ) → length a ≡ length b → a ++ x ≡ b ++ y → (a ≡ b) × (x ≡ y)
fronts_one a b x y same e =
    let left : a ≡ b = sym (take-append_seam a x) ∙ ap (λ (n : ℕ). take n (a ++ x)) same ∙ ap (take (length b)) e ∙ take-append_seam b y in
    (left, append_cancel_left b x y (ap (λ (l : List ℕ). l ++ x) (sym left) ∙ e))

frame_same : (f g : Frame) → f.flag ≡ g.flag → f.payload ≡ g.payload → f ≡ g
frame_same f g p q =
    ap (λ (x : ℕ). let h : Frame = record { flag = x; payload = f.payload } in h) p ∙ ap (λ (l : List ℕ). let h : Frame = record { flag = g.flag; payload = l } in h) q

pub no_frame_begins_another : NoFrameBeginsAnother
no_frame_begins_another f g x y hf hg e =
    let bound_f : length f.payload < 2 ^ 32 = omega (arith, hf.payload) in
    let bound_g : length g.payload < 2 ^ 32 = omega (arith, hg.payload) in
    let whole : header_text f.flag (length f.payload) ++ (f.payload ++ x) ≡ header_text g.flag (length g.payload) ++ (g.payload ++ y) = e in
    let parts = headers_one f.flag (length f.payload) (f.payload ++ x) g.flag (length g.payload) (g.payload ++ y) bound_f bound_g whole in
    let rests = fronts_one f.payload g.payload x y parts.1 parts.2 in
    (frame_same f g parts.0 rests.0, rests.1)

lists_one : (fs gs : List Frame) → AllByRecursion IsFrame fs → AllByRecursion IsFrame gs → flat_map frame_text fs ≡ flat_map frame_text gs → fs ≡ gs
lists_one [] [] hf hg e = refl
lists_one [] (g ∷ gs) hf hg e = cc
lists_one (f ∷ fs) [] hf hg e = cc
lists_one (f ∷ fs) (g ∷ gs) hf hg e =
    let parts = no_frame_begins_another f g (flat_map frame_text fs) (flat_map frame_text gs) hf.0 hg.0 e in
    let rest = lists_one fs gs hf.1 hg.1 parts.1 in
    cc (parts.0, rest)

pub frames_are_one : FramesAreOne
frames_are_one text fs gs p q = lists_one fs gs p.each q.each (sym p.parts ∙ q.parts)

-- ---- the contract of a read, from what it did to known bytes

-- what stands at the front of a frame's text
pub front_of : (f : Frame) (flag n : ℕ) (x rest : List ℕ) → IsFrame f → BeginsFrame (frame_text f ++ x) flag n rest
    → (f.flag ≡ flag) × (length f.payload ≡ n) × (f.payload ++ x ≡ rest)
front_of f flag n x rest hf h =
    let bound : length f.payload < 2 ^ 32 = omega (arith, hf.payload) in
    headers_one f.flag (length f.payload) (f.payload ++ x) flag n rest bound h.fits h.parts

not_other : (f : Frame) (flag : ℕ) → IsFrame f → f.flag ≡ flag → flag ≢ 0 → flag ≢ 128 → ⊥
not_other f flag hf e n0 n128 = elim hf.flag [ inl zero_flag ↦ n0 (sym e ∙ zero_flag) | inr end_flag ↦ n128 (sym e ∙ end_flag) ]

reads_back : (f : Frame) (x rest : List ℕ) (r : Result (Option Frame) FrameFault) → IsFrame f → ReadsFrame r (frame_text f ++ x) rest → IsUnlessRefused r (Some f)
reads_back f x rest (Ok None) hf h = let e = h.0 in cc e
reads_back f x rest (Ok (Some g)) hf h =
    let same : g ≡ f = (no_frame_begins_another g f rest x h.0 hf (sym h.1)).0 in
    inl (ap (λ v. Ok (Some v)) same)
reads_back f x rest (Err Truncated) hf h = absurd (elim h.0 [
  | inl few ↦ omega (arith, few.1, length-append (frame_text f) x, length-append (header_text f.flag (length f.payload)) f.payload)
  | inr short ↦
      let (n, left, announced, less) = short in
      let parts = front_of f announced.flag n x left hf announced.header in
      omega (arith, parts.1, ap length parts.2, length-append f.payload x, less)
])
reads_back f x rest (Err BadFlag) hf h =
    let (flag, n, left, begins, no_message, no_compressed, no_end) = h.0 in
    absurd (not_other f flag hf (front_of f flag n x left hf begins).0 no_message no_end)
reads_back f x rest (Err Compressed) hf h =
    let (n, left, begins) = h.0 in
    absurd (not_other f 1 hf (front_of f 1 n x left hf begins).0 (omega arith) (omega arith))
reads_back f x rest (Err TooLong) hf h =
    let (flag, n, left, begins, allowed, above) = h.0 in
    let parts = front_of f flag n x left hf begins in
    absurd (omega (arith, parts.1, hf.payload, above))
reads_back f x rest (Err Io) hf h = inr (inl refl)
reads_back f x rest (Err OutOfMemory) hf h = inr (inr refl)

pub known : (a b : Option (List ℕ)) (old : List ℕ) (P : List ℕ → List ℕ → Type 0) → WhereKnown a b P → a ≡ Some old → (rest : List ℕ) × P old rest
known None b old P h e = let none = e in cc none
known (Some x) None old P h e = absurd h
known (Some x) (Some y) old P h e = let same : x ≡ old = cc in (y, subst (λ (l : List ℕ). P l y) same h)

-- a text that begins with a frame is read as that frame
pub frame_read_back : (a b : Option (List ℕ)) (r : Result (Option Frame) FrameFault) (f : Frame) (x : List ℕ)
    → WhereKnown a b (ReadsFrame r) → IsFrame f → a ≡ Some (frame_text f ++ x) → IsUnlessRefused r (Some f)
frame_read_back a b r f x h hf e = let (rest, read) = known a b (frame_text f ++ x) (ReadsFrame r) h e in reads_back f x rest r hf read
