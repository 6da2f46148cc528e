-- The steps of reading a frame and of writing one, joined.
use Rattle.std.proofs.Common.{◌≡◌, ◌≢◌, ℕ, ◌^◌, ◌<◌, ◌≤◌, ◌+◌, ◌-◌, inl, inr, List, [], ◌∷◌, ◌++◌, Option, None, Some, Result, Ok, Err, arith, length, take, drop, take_all, zero, suc, refl, sym, ap, ◌∙◌, subst, append_assoc, get_or, length-append, length-take-le}
use Rattle.std.proofs.lemmas.Nat.{be_bytes_4}
use Rattle.std.proofs.lemmas.Result.{err_from_is_err_and}
use Rattle.std.specs.Io.KnownBytes.{Consumes, IsAtEnd}
use Rattle.std.specs.Int.{w32, from_be_bytes}
use Rattle.std.specs.Result.{IsErrAnd}
use Rattle.byteorder.specs.Endian.{big_bytes}
use Rattle.grpc_frames.specs.declared.fault.FrameFault.{FrameFault}
use Rattle.grpc_frames.specs.declared.fault.FrameFault.TheVariants.{Truncated, BadFlag, Compressed, TooLong, Io, OutOfMemory}
use Rattle.grpc_frames.specs.Frame.{header_text, payload_limit, IsFlag}
use Rattle.grpc_frames.specs.FrameFaults.{WhereKnown, BeginsFrame, Announces, ReadsFewer, ReadsFrame, Writes}
use Rattle.grpc_frames.proofs.Transfers.{Writes-behind, Writes-front}
use Rattle.grpc_frames.specs.FrameSteps.{ReadsHeader, HeaderFaultStands, FailsBehind}
use Rattle.grpc_frames.specs.declared.frame.Header.{Header}

five_bytes : (bs : List ℕ) → length bs ≡ 5 → bs ≡ get_or bs 0 0 ∷ get_or bs 1 0 ∷ get_or bs 2 0 ∷ get_or bs 3 0 ∷ get_or bs 4 0 ∷ []
five_bytes [] e = absurd (omega arith)
five_bytes (a ∷ []) e = absurd (omega arith)
five_bytes (a ∷ b ∷ []) e = absurd (omega arith)
five_bytes (a ∷ b ∷ c ∷ []) e = absurd (omega arith)
five_bytes (a ∷ b ∷ c ∷ d ∷ []) e = absurd (omega arith)
five_bytes (a ∷ b ∷ c ∷ d ∷ x ∷ []) e = refl
five_bytes (a ∷ b ∷ c ∷ d ∷ x ∷ y ∷ more) e = absurd (omega arith)

four_fit : (bs : List ℕ) → ((i : ℕ) → get_or bs i 0 < 256)
    → (i : ℕ) → get_or (get_or bs 1 0 ∷ get_or bs 2 0 ∷ get_or bs 3 0 ∷ get_or bs 4 0 ∷ []) i 0 < 256
four_fit bs fits zero = fits 1
four_fit bs fits (suc zero) = fits 2
four_fit bs fits (suc (suc zero)) = fits 3
four_fit bs fits (suc (suc (suc zero))) = fits 4
four_fit bs fits (suc (suc (suc (suc k)))) = omega arith

-- five bytes are a flag and a length
pub header_parts : (bs : List ℕ) (len : ℕ) → length bs ≡ 5 → ((i : ℕ) → get_or bs i 0 < 256)
    → len ≡ from_be_bytes w32 (get_or bs 1 0 ∷ get_or bs 2 0 ∷ get_or bs 3 0 ∷ get_or bs 4 0 ∷ []) → bs ≡ header_text (get_or bs 0 0) len
header_parts bs len five fits e =
    let tail = get_or bs 1 0 ∷ get_or bs 2 0 ∷ get_or bs 3 0 ∷ get_or bs 4 0 ∷ [] in
    let spelled : big_bytes 4 len ≡ tail = be_bytes_4 tail len refl (four_fit bs fits) e in
    five_bytes bs five ∙ ap (λ (l : List ℕ). get_or bs 0 0 ∷ l) (sym spelled)

-- five bytes that came are a header
pub header_came : (a b : Option (List ℕ)) (bs : List ℕ) (n : ℕ) (h : Header) → length bs ≡ 5 → n ≡ 5 → bs ≡ header_text h.flag h.len
    → h.len < 2 ^ 32 → Consumes a b (take n bs) → WhereKnown a b (ReadsHeader (Ok (Some h)))
header_came None b bs n h five all e bound came = tt
header_came (Some x) None bs n h five all e bound came = absurd came
header_came (Some x) (Some y) bs n h five all e bound came =
    let whole : take n bs ≡ header_text h.flag h.len = ap (λ k. take k bs) all ∙ take_all 5 bs (omega arith) ∙ e in
    record { parts = came ∙ ap (λ l. l ++ y) whole; fits = bound }

-- what follows the five bytes in front
behind_header : (flag n : ℕ) (text rest : List ℕ) → text ≡ header_text flag n ++ rest → rest ≡ drop 5 text
behind_header flag n text rest e = sym (ap (drop 5) e)

-- a header that is refused
pub header_refused : (a b : Option (List ℕ)) (h : Header) (e : FrameFault) → WhereKnown a b (ReadsHeader (Ok (Some h)))
    → HeaderFaultStands e h.flag h.len → WhereKnown a b (ReadsFrame (Err e))
header_refused None b h e read stands = tt
header_refused (Some x) None h e read stands = absurd read
header_refused (Some x) (Some y) h Truncated read stands = absurd stands
header_refused (Some x) (Some y) h BadFlag read stands =
    ((h.flag, h.len, y, read, stands.0, stands.1, stands.2), behind_header h.flag h.len x y read.parts)
header_refused (Some x) (Some y) h Compressed read stands =
    let same = ap (λ k. header_text k h.len ++ y) stands in
    ((h.len, y, record { parts = read.parts ∙ same; fits = read.fits }), behind_header h.flag h.len x y read.parts)
header_refused (Some x) (Some y) h TooLong read stands =
    ((h.flag, h.len, y, read, stands.0, stands.1), behind_header h.flag h.len x y read.parts)
header_refused (Some x) (Some y) h Io read stands = absurd stands
header_refused (Some x) (Some y) h OutOfMemory read stands = absurd stands

-- a read that failed after fewer bytes than there was room for
pub fewer_came : (a b : Option (List ℕ)) (buf : List ℕ) (n m : ℕ) → n < length buf → length buf ≡ m → Consumes a b (take n buf)
    → WhereKnown a b (ReadsFewer m)
fewer_came None b buf n m less same came = tt
fewer_came (Some x) None buf n m less same came = absurd came
fewer_came (Some x) (Some y) buf n m less same came =
    (take n buf, came, omega (arith, less, same, length-take-le n buf (omega (arith, less))))

-- a read of the five bytes in front that failed
pub header_failed : (a b : Option (List ℕ)) → WhereKnown a b (ReadsFewer 5) → WhereKnown a b (ReadsHeader (Err Io))
header_failed None b few = tt
header_failed (Some x) None few = absurd few
header_failed (Some x) (Some y) few = (tt, inl few)

-- an input that ends within the five bytes in front
pub header_cut : (a b : Option (List ℕ)) (buf : List ℕ) (n : ℕ) → n ≤ length buf → length buf ≡ 5 → n ≢ 0 → n ≢ 5
    → Consumes a b (take n buf) → (n < length buf → IsAtEnd b) → WhereKnown a b (ReadsHeader (Err Truncated))
header_cut None b buf n bound five some few came end = tt
header_cut (Some x) None buf n bound five some few came end = absurd came
header_cut (Some x) (Some y) buf n bound five some few came end =
    let less : n < length buf = omega (arith, bound, five, some, few) in
    let ended : y ≡ [] = end less in
    let whole : length x ≡ n =
    ap length came ∙ length-append (take n buf) y ∙ ap (λ (l : List ℕ). length (take n buf) + length l) ended
    ∙ omega (arith, length-take-le n buf bound) in
    (inl (omega (arith, whole, some), omega (arith, whole, less, five)), ended)

-- the five bytes announce a payload that is allowed
announces : (h : Header) (n : ℕ) (text rest : List ℕ) → BeginsFrame text h.flag h.len rest → n ≡ h.len → IsFlag h.flag
    → n ≤ payload_limit → Announces text h.len rest
announces h n text rest read same flag limit =
    record { flag = h.flag; header = read; allowed = flag; limit = omega (arith, same, limit) }

-- a payload that does not come
pub payload_failed : (a b c : Option (List ℕ)) (h : Header) (n : ℕ) (e : FrameFault) → WhereKnown a b (ReadsHeader (Ok (Some h)))
    → n ≡ h.len → IsFlag h.flag → n ≤ payload_limit → WhereKnown b c (FailsBehind [] e n) → WhereKnown a c (ReadsFrame (Err e))
payload_failed None b c h n e read same flag limit fails = tt
payload_failed (Some x) None c h n e read same flag limit fails = absurd read
payload_failed (Some x) (Some y) None h n e read same flag limit fails = absurd fails
payload_failed (Some x) (Some y) (Some z) h n Truncated read same flag limit fails =
    (inr (h.len, y, announces h n x y read same flag limit, omega (arith, same, fails.0)), fails.1)
payload_failed (Some x) (Some y) (Some z) h n BadFlag read same flag limit fails = absurd fails
payload_failed (Some x) (Some y) (Some z) h n Compressed read same flag limit fails = absurd fails
payload_failed (Some x) (Some y) (Some z) h n TooLong read same flag limit fails = absurd fails
payload_failed (Some x) (Some y) (Some z) h n Io read same flag limit fails =
    let few : ReadsFewer h.len y z = (fails.0, fails.1, omega (arith, same, fails.2)) in
    (tt, inr (h.len, y, announces h n x y read same flag limit, few))
payload_failed (Some x) (Some y) (Some z) h n OutOfMemory read same flag limit fails =
    let few : ReadsFewer h.len y z = (fails.0, fails.1, omega (arith, same, fails.2)) in
    let announced = announces h n x y read same flag limit in
    ((h.len, y, announced, omega (arith, same, fails.2)), (h.len, y, announced, few))

-- a payload that came makes a frame
pub payload_came : (a b c : Option (List ℕ)) (h : Header) (n : ℕ) (payload : List ℕ) → WhereKnown a b (ReadsHeader (Ok (Some h)))
    → n ≡ h.len → IsFlag h.flag → n ≤ payload_limit → length payload ≡ n → Consumes b c payload
    → WhereKnown a c (ReadsFrame (Ok (Some (record { flag = h.flag; payload = payload }))))
payload_came None b c h n payload read same flag limit all came = tt
payload_came (Some x) None c h n payload read same flag limit all came = absurd read
payload_came (Some x) (Some y) None h n payload read same flag limit all came = absurd came
payload_came (Some x) (Some y) (Some z) h n payload read same flag limit all came =
    let len : h.len ≡ length payload = sym same ∙ sym all in (
      record { flag = flag; payload = omega (arith, all, limit) },
      read.parts ∙ ap (λ l. header_text h.flag h.len ++ l) came ∙ ap (λ k. header_text h.flag k ++ (payload ++ z)) len,
    )

-- what the exit of a `?` hands on
pub residual : {T : Type 0} (r : Result T FrameFault) (e : FrameFault) → IsErrAnd r (λ y. y ≡ e) → r ≡ Err e
residual r e h = let (y, was, same) = err_from_is_err_and r h in was ∙ ap (λ z. Err z) same

-- a frame that was written in two parts
pub frame_written : (a b c : Option (List ℕ)) (flag : ℕ) (bs payload : List ℕ) (r : Result (Unit {0}) FrameFault) → bs ≡ big_bytes 4 (length payload)
    → WhereKnown a b (Writes (Ok tt) (flag ∷ get_or bs 0 0 ∷ get_or bs 1 0 ∷ get_or bs 2 0 ∷ get_or bs 3 0 ∷ []))
    → WhereKnown b c (Writes r payload) → WhereKnown a c (Writes r (header_text flag (length payload) ++ payload))
frame_written a b c flag bs payload r e p q =
    let P : List ℕ → Type 0 = λ l. WhereKnown a b (Writes (Ok tt) (flag ∷ get_or l 0 0 ∷ get_or l 1 0 ∷ get_or l 2 0 ∷ get_or l 3 0 ∷ [])) in
    Writes-behind a b c (header_text flag (length payload)) payload r (subst P e p) q

-- a frame that was cut in its first part
pub frame_cut : (a b : Option (List ℕ)) (flag : ℕ) (bs payload : List ℕ) (fault : FrameFault) → bs ≡ big_bytes 4 (length payload)
    → WhereKnown a b (Writes (Err fault) (flag ∷ get_or bs 0 0 ∷ get_or bs 1 0 ∷ get_or bs 2 0 ∷ get_or bs 3 0 ∷ []))
    → WhereKnown a b (Writes (Err fault) (header_text flag (length payload) ++ payload))
frame_cut a b flag bs payload fault e p =
    let P : List ℕ → Type 0 = λ l. WhereKnown a b (Writes (Err fault) (flag ∷ get_or l 0 0 ∷ get_or l 1 0 ∷ get_or l 2 0 ∷ get_or l 3 0 ∷ [])) in
    Writes-front a b (header_text flag (length payload)) payload fault (subst P e p)

-- fewer were read behind what came so far
fewer_behind : (x y z front : List ℕ) (n : ℕ) → x ≡ front ++ y → ReadsFewer (n - length front) y z → ReadsFewer (n - 0) x z
fewer_behind x y z front n came few = (
  front ++ few.0,
  came ∙ ap (λ l. front ++ l) few.1 ∙ sym (append_assoc front few.0 z),
  omega (arith, few.2, length-append front few.0),
)

-- a step that failed behind what came so far has failed behind nothing
pub FailsBehind-came : (a b c : Option (List ℕ)) (front : List ℕ) (e : FrameFault) (n : ℕ) → Consumes a b front
    → WhereKnown b c (FailsBehind front e n) → WhereKnown a c (FailsBehind [] e n)
FailsBehind-came None b c front e n came fails = tt
FailsBehind-came (Some x) None c front e n came fails = absurd came
FailsBehind-came (Some x) (Some y) None front e n came fails = absurd fails
FailsBehind-came (Some x) (Some y) (Some z) front Truncated n came fails =
    (omega (arith, fails.0, ap length came, length-append front y), fails.1)
FailsBehind-came (Some x) (Some y) (Some z) front BadFlag n came fails = absurd fails
FailsBehind-came (Some x) (Some y) (Some z) front Compressed n came fails = absurd fails
FailsBehind-came (Some x) (Some y) (Some z) front TooLong n came fails = absurd fails
FailsBehind-came (Some x) (Some y) (Some z) front Io n came fails = fewer_behind x y z front n came fails
FailsBehind-came (Some x) (Some y) (Some z) front OutOfMemory n came fails = fewer_behind x y z front n came fails

-- a payload's next part did not come whole, where the input ended or a read failed
pub part_cut : (a b : Option (List ℕ)) (front part : List ℕ) (got len : ℕ) → got < length part → length front + length part ≤ len
    → Consumes a b (take got part) → (got < length part → IsAtEnd b) → WhereKnown a b (FailsBehind front Truncated len)
part_cut None b front part got len less fits came end = tt
part_cut (Some x) None front part got len less fits came end = absurd came
part_cut (Some x) (Some y) front part got len less fits came end =
    let ended : y ≡ [] = end less in
    let whole : length x ≡ got =
    ap length came ∙ length-append (take got part) y ∙ ap (λ (l : List ℕ). length (take got part) + length l) ended
    ∙ omega (arith, length-take-le got part (omega (arith, less))) in
    (omega (arith, whole, less, fits), ended)

pub part_failed : (a b : Option (List ℕ)) (front part : List ℕ) (got len : ℕ) → got < length part → length front + length part ≤ len
    → Consumes a b (take got part) → WhereKnown a b (FailsBehind front Io len)
part_failed None b front part got len less fits came = tt
part_failed (Some x) None front part got len less fits came = absurd came
part_failed (Some x) (Some y) front part got len less fits came =
    (take got part, came, omega (arith, less, fits, length-take-le got part (omega (arith, less))))

-- memory was refused before the next part
pub part_refused : (a : Option (List ℕ)) (front : List ℕ) (len : ℕ) → length front < len → WhereKnown a a (FailsBehind front OutOfMemory len)
part_refused None front len less = tt
part_refused (Some x) front len less = ([], refl, omega (arith, less))
