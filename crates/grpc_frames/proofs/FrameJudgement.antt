-- What a text says of the frame at its front is one thing, and every text says something.
use Rattle.std.proofs.Common.{◌≡◌, ◌≢◌, ℕ, ◌^◌, ◌<◌, ◌≤◌, ◌+◌, inl, inr, List, [], ◌∷◌, ◌++◌, Option, None, Some, Result, Ok, Err, arith, length, take, drop, zero, suc, refl, sym, ap, ◌∙◌, subst, append_assoc, length-append, length-drop, length-take-le, get_or, take-append-drop}
use Rattle.std.proofs.lemmas.Bool.{cases_lt, cases_eq}
use Rattle.std.proofs.lemmas.List.{drop-append-le}
use Rattle.std.proofs.lemmas.Nat.{be_bytes_4}
use Rattle.std.proofs.Math.Seq.{drop-append_seam}
use Rattle.std.specs.Int.{w32, from_be_bytes}
use Rattle.std.specs.List.{AllByRecursion}
use Rattle.byteorder.specs.Endian.{big_bytes}
use Rattle.grpc_frames.specs.declared.fault.FrameFault.{FrameFault}
use Rattle.grpc_frames.specs.declared.fault.FrameFault.TheVariants.{Truncated, BadFlag, Compressed, TooLong, Io, OutOfMemory}
use Rattle.grpc_frames.specs.Frame.{Frame, header_text, frame_text, payload_limit, IsFlag, IsFrame}
use Rattle.grpc_frames.specs.FrameFaults.{BeginsFrame, Announces, FrameFaultStands, ReadsFewer, LeavesAfter, ReadsFrame, WhereKnown, IsFaultUnlessRefused}
use Rattle.grpc_frames.specs.FrameLaws.{IsOfText, FaultsStandApart, NoFaultAtAFrame, NoFaultAtTheEnd, EndsOrBeginsOrFails, EachTextIsJudged, IsDecided, ReadingsAreOne, FailsWithinTheFrame}
use Rattle.grpc_frames.proofs.FrameTexts.{front_of, headers_one, known, no_frame_begins_another}

-- ---- a fault stands alone

-- the five bytes in front of one text
module _ (text : List ℕ) (flag n : ℕ) (rest : List ℕ) (flag' n' : ℕ) (rest' : List ℕ) (p : BeginsFrame text flag n rest) (q : BeginsFrame text flag' n' rest') where
  pub fronts_agree : (flag ≡ flag') × (n ≡ n') × (rest ≡ rest')
  fronts_agree = headers_one flag n rest flag' n' rest' p.fits q.fits (sym p.parts ∙ q.parts)

  pub flags_agree : flag ≡ flag'
  flags_agree = fronts_agree.0

-- five bytes stand in front of the text
five_at_least : (text : List ℕ) (flag n : ℕ) (rest : List ℕ) → BeginsFrame text flag n rest → length text < 5 → ⊥
five_at_least text flag n rest p few =
    omega (arith, few, ap length p.parts, length-append (header_text flag n) rest)

no_such_flag : (flag : ℕ) → IsFlag flag → flag ≢ 0 → flag ≢ 128 → ⊥
no_such_flag flag (inl e) n0 n128 = n0 e
no_such_flag flag (inr e) n0 n128 = n128 e

-- the flag is one of a message or an end, of a compressed message, or another
not_compressed : (flag : ℕ) → IsFlag flag → flag ≡ 1 → ⊥
not_compressed flag (inl e) one = omega (arith, e, one)
not_compressed flag (inr e) one = omega (arith, e, one)

bad_and_compressed : (text : List ℕ) → FrameFaultStands BadFlag text → FrameFaultStands Compressed text → ⊥
bad_and_compressed text (flag, n, rest, p, n0, n1, n128) (m, rest', q) = n1 (flags_agree text flag n rest 1 m rest' p q)

bad_and_long : (text : List ℕ) → FrameFaultStands BadFlag text → FrameFaultStands TooLong text → ⊥
bad_and_long text (flag, n, rest, p, n0, n1, n128) (flag', m, rest', q, allowed, above) =
    let same = flags_agree text flag n rest flag' m rest' p q in
    no_such_flag flag' allowed (λ e. n0 (same ∙ e)) (λ e. n128 (same ∙ e))

bad_and_cut : (text : List ℕ) → FrameFaultStands BadFlag text → FrameFaultStands Truncated text → ⊥
bad_and_cut text (flag, n, rest, p, n0, n1, n128) (inl few) = five_at_least text flag n rest p few.1
bad_and_cut text (flag, n, rest, p, n0, n1, n128) (inr (m, rest', q, less)) =
    let same = flags_agree text flag n rest q.flag m rest' p q.header in
    no_such_flag q.flag q.allowed (λ e. n0 (same ∙ e)) (λ e. n128 (same ∙ e))

compressed_and_long : (text : List ℕ) → FrameFaultStands Compressed text → FrameFaultStands TooLong text → ⊥
compressed_and_long text (n, rest, p) (flag', m, rest', q, allowed, above) =
    not_compressed flag' allowed (sym (flags_agree text 1 n rest flag' m rest' p q))

compressed_and_cut : (text : List ℕ) → FrameFaultStands Compressed text → FrameFaultStands Truncated text → ⊥
compressed_and_cut text (n, rest, p) (inl few) = five_at_least text 1 n rest p few.1
compressed_and_cut text (n, rest, p) (inr (m, rest', q, less)) =
    not_compressed q.flag q.allowed (sym (flags_agree text 1 n rest q.flag m rest' p q.header))

long_and_cut : (text : List ℕ) → FrameFaultStands TooLong text → FrameFaultStands Truncated text → ⊥
long_and_cut text (flag, n, rest, p, allowed, above) (inl few) = five_at_least text flag n rest p few.1
long_and_cut text (flag, n, rest, p, allowed, above) (inr (m, rest', q, less)) =
    omega (arith, above, q.limit, (fronts_agree text flag n rest q.flag m rest' p q.header).1)

pub faults_stand_apart : FaultsStandApart
faults_stand_apart text Truncated Truncated p q x y = refl
faults_stand_apart text Truncated BadFlag p q x y = absurd (bad_and_cut text y x)
faults_stand_apart text Truncated Compressed p q x y = absurd (compressed_and_cut text y x)
faults_stand_apart text Truncated TooLong p q x y = absurd (long_and_cut text y x)
faults_stand_apart text Truncated Io p q x y = absurd (q.0 refl)
faults_stand_apart text Truncated OutOfMemory p q x y = absurd (q.1 refl)
faults_stand_apart text BadFlag Truncated p q x y = absurd (bad_and_cut text x y)
faults_stand_apart text BadFlag BadFlag p q x y = refl
faults_stand_apart text BadFlag Compressed p q x y = absurd (bad_and_compressed text x y)
faults_stand_apart text BadFlag TooLong p q x y = absurd (bad_and_long text x y)
faults_stand_apart text BadFlag Io p q x y = absurd (q.0 refl)
faults_stand_apart text BadFlag OutOfMemory p q x y = absurd (q.1 refl)
faults_stand_apart text Compressed Truncated p q x y = absurd (compressed_and_cut text x y)
faults_stand_apart text Compressed BadFlag p q x y = absurd (bad_and_compressed text y x)
faults_stand_apart text Compressed Compressed p q x y = refl
faults_stand_apart text Compressed TooLong p q x y = absurd (compressed_and_long text x y)
faults_stand_apart text Compressed Io p q x y = absurd (q.0 refl)
faults_stand_apart text Compressed OutOfMemory p q x y = absurd (q.1 refl)
faults_stand_apart text TooLong Truncated p q x y = absurd (long_and_cut text x y)
faults_stand_apart text TooLong BadFlag p q x y = absurd (bad_and_long text y x)
faults_stand_apart text TooLong Compressed p q x y = absurd (compressed_and_long text y x)
faults_stand_apart text TooLong TooLong p q x y = refl
faults_stand_apart text TooLong Io p q x y = absurd (q.0 refl)
faults_stand_apart text TooLong OutOfMemory p q x y = absurd (q.1 refl)
faults_stand_apart text Io e p q x y = absurd (p.0 refl)
faults_stand_apart text OutOfMemory e p q x y = absurd (p.1 refl)

-- ---- no fault stands at a frame, or at the end

-- a frame's text, as five bytes that announce its payload
frame_begins : (f : Frame) (rest : List ℕ) → IsFrame f → BeginsFrame (frame_text f ++ rest) f.flag (length f.payload) (f.payload ++ rest)
frame_begins f rest hf = record { parts = refl; fits = omega (arith, hf.payload) }

pub no_fault_at_a_frame : NoFaultAtAFrame
no_fault_at_a_frame f rest Truncated hf of_text (inl few) =
    five_at_least (frame_text f ++ rest) f.flag (length f.payload) (f.payload ++ rest) (frame_begins f rest hf) few.1
no_fault_at_a_frame f rest Truncated hf of_text (inr (m, rest', q, less)) =
    let parts = front_of f q.flag m rest rest' hf q.header in
    omega (arith, less, parts.1, ap length parts.2, length-append f.payload rest)
no_fault_at_a_frame f rest BadFlag hf of_text (flag, n, left, p, n0, n1, n128) =
    let same = (front_of f flag n rest left hf p).0 in
    no_such_flag f.flag hf.flag (λ e. n0 (sym same ∙ e)) (λ e. n128 (sym same ∙ e))
no_fault_at_a_frame f rest Compressed hf of_text (n, left, p) = not_compressed f.flag hf.flag (front_of f 1 n rest left hf p).0
no_fault_at_a_frame f rest TooLong hf of_text (flag, n, left, p, allowed, above) =
    omega (arith, (front_of f flag n rest left hf p).1, hf.payload, above)
no_fault_at_a_frame f rest Io hf of_text h = of_text.0 refl
no_fault_at_a_frame f rest OutOfMemory hf of_text h = of_text.1 refl

pub no_fault_at_the_end : NoFaultAtTheEnd
no_fault_at_the_end Truncated of_text (inl few) = omega (arith, few.0)
no_fault_at_the_end Truncated of_text (inr (m, rest, q, less)) = five_at_least [] q.flag m rest q.header (omega arith)
no_fault_at_the_end BadFlag of_text h = five_at_least [] h.0 h.1 h.2 h.3 (omega arith)
no_fault_at_the_end Compressed of_text (n, rest, p) = five_at_least [] 1 n rest p (omega arith)
no_fault_at_the_end TooLong of_text h = five_at_least [] h.0 h.1 h.2 h.3 (omega arith)
no_fault_at_the_end Io of_text h = of_text.0 refl
no_fault_at_the_end OutOfMemory of_text h = of_text.1 refl

-- ---- what a read gives is one

left_one : (e : FrameFault) (text x y : List ℕ) → IsOfText e → LeavesAfter e text x → LeavesAfter e text y → x ≡ y
left_one Truncated text x y of_text p q = p ∙ sym q
left_one BadFlag text x y of_text p q = p ∙ sym q
left_one Compressed text x y of_text p q = p ∙ sym q
left_one TooLong text x y of_text p q = p ∙ sym q
left_one Io text x y of_text p q = absurd (of_text.0 refl)
left_one OutOfMemory text x y of_text p q = absurd (of_text.1 refl)

no_frame_in_nothing : (f : Frame) (rest : List ℕ) → frame_text f ++ rest ≡ [] → ⊥
no_frame_in_nothing f rest e = cc e

pub readings_are_one : ReadingsAreOne
readings_are_one text x y (Ok None) (Ok None) p q a b = (refl, a.1 ∙ sym b.1)
readings_are_one text x y (Ok None) (Ok (Some g)) p q a b = absurd (no_frame_in_nothing g y (sym b.1 ∙ a.0))
readings_are_one text x y (Ok None) (Err e) p q a b = absurd (no_fault_at_the_end e q (subst (FrameFaultStands e) a.0 b.0))
readings_are_one text x y (Ok (Some f)) (Ok None) p q a b = absurd (no_frame_in_nothing f x (sym a.1 ∙ b.0))
readings_are_one text x y (Ok (Some f)) (Ok (Some g)) p q a b =
    let same = no_frame_begins_another f g x y a.0 b.0 (sym a.1 ∙ b.1) in
    (ap (λ v. Ok (Some v)) same.0, same.1)
readings_are_one text x y (Ok (Some f)) (Err e) p q a b =
    absurd (no_fault_at_a_frame f x e a.0 q (subst (FrameFaultStands e) a.1 b.0))
readings_are_one text x y (Err d) (Ok None) p q a b = absurd (no_fault_at_the_end d p (subst (FrameFaultStands d) b.0 a.0))
readings_are_one text x y (Err d) (Ok (Some g)) p q a b =
    absurd (no_fault_at_a_frame g y d b.0 p (subst (FrameFaultStands d) b.1 a.0))
readings_are_one text x y (Err d) (Err e) p q a b =
    let same = faults_stand_apart text d e p q a.0 b.0 in
    (ap (λ v. Err v) same, left_one d text x y p a.1 (subst (λ v. LeavesAfter v text y) (sym same) b.1))

-- ---- a text with a fault is told it

truncated_of_text : IsOfText Truncated
truncated_of_text = (λ e. cc e, λ e. cc e)

badflag_of_text : IsOfText BadFlag
badflag_of_text = (λ e. cc e, λ e. cc e)

compressed_of_text : IsOfText Compressed
compressed_of_text = (λ e. cc e, λ e. cc e)

toolong_of_text : IsOfText TooLong
toolong_of_text = (λ e. cc e, λ e. cc e)

told : (text rest : List ℕ) (r : Result (Option Frame) FrameFault) (e : FrameFault) → IsOfText e → FrameFaultStands e text
    → ReadsFrame r text rest → IsFaultUnlessRefused r e
told text rest (Ok None) e of_text stands h = absurd (no_fault_at_the_end e of_text (subst (FrameFaultStands e) h.0 stands))
told text rest (Ok (Some f)) e of_text stands h =
    absurd (no_fault_at_a_frame f rest e h.0 of_text (subst (FrameFaultStands e) h.1 stands))
told text rest (Err Truncated) e of_text stands h =
    inl (ap (λ v. Err v) (faults_stand_apart text Truncated e truncated_of_text of_text h.0 stands))
told text rest (Err BadFlag) e of_text stands h =
    inl (ap (λ v. Err v) (faults_stand_apart text BadFlag e badflag_of_text of_text h.0 stands))
told text rest (Err Compressed) e of_text stands h =
    inl (ap (λ v. Err v) (faults_stand_apart text Compressed e compressed_of_text of_text h.0 stands))
told text rest (Err TooLong) e of_text stands h =
    inl (ap (λ v. Err v) (faults_stand_apart text TooLong e toolong_of_text of_text h.0 stands))
told text rest (Err Io) e of_text stands h = inr (inl refl)
told text rest (Err OutOfMemory) e of_text stands h = inr (inr refl)

pub told_unless_refused : (a b : Option (List ℕ)) (r : Result (Option Frame) FrameFault) (e : FrameFault) (text : List ℕ)
    → WhereKnown a b (ReadsFrame r) → IsOfText e → FrameFaultStands e text → a ≡ Some text → IsFaultUnlessRefused r e
told_unless_refused a b r e text h of_text stands is =
    let (rest, read) = known a b text (ReadsFrame r) h is in told text rest r e of_text stands read

-- ---- a read that failed is within the frame

-- fewer bytes than the front were taken, so some of the front are left
some_left : (taken rest front after : List ℕ) → front ++ after ≡ taken ++ rest → length taken < length front
    → (left : List ℕ) × (0 < length left) × (rest ≡ left ++ after)
some_left taken rest front after e less =
    let n = length taken in
    let within : n ≤ length front = omega (arith, less) in
    let cut : rest ≡ drop n front ++ after =
    sym (drop-append_seam taken rest) ∙ ap (drop n) (sym e) ∙ drop-append-le n front after within in
    (drop n front, omega (arith, less, length-drop n front), cut)

five_in_a_frame : (f : Frame) → 5 ≤ length (frame_text f)
five_in_a_frame f = omega (arith, length-append (header_text f.flag (length f.payload)) f.payload)

in_payload : (f : Frame) (after rest : List ℕ) (n : ℕ) (payload : List ℕ) → IsFrame f → Announces (frame_text f ++ after) n payload → ReadsFewer n payload rest
    → (left : List ℕ) × (0 < length left) × (rest ≡ left ++ after)
in_payload f after rest n payload hf announced few =
    let parts = front_of f announced.flag n after payload hf announced.header in
    some_left few.0 rest f.payload after (parts.2 ∙ few.1) (omega (arith, few.2, parts.1))

pub fails_within_the_frame : FailsWithinTheFrame
fails_within_the_frame f after rest Io hf which (inl few) =
    some_left few.0 rest (frame_text f) after few.1 (omega (arith, few.2, five_in_a_frame f))
fails_within_the_frame f after rest Io hf which (inr stop) = in_payload f after rest stop.0 stop.1 hf stop.2 stop.3
fails_within_the_frame f after rest OutOfMemory hf which stop = in_payload f after rest stop.0 stop.1 hf stop.2 stop.3
fails_within_the_frame f after rest Truncated hf which h = absurd (elim which [ inl e ↦ cc e | inr e ↦ cc e ])
fails_within_the_frame f after rest BadFlag hf which h = absurd (elim which [ inl e ↦ cc e | inr e ↦ cc e ])
fails_within_the_frame f after rest Compressed hf which h = absurd (elim which [ inl e ↦ cc e | inr e ↦ cc e ])
fails_within_the_frame f after rest TooLong hf which h = absurd (elim which [ inl e ↦ cc e | inr e ↦ cc e ])

-- ---- every text is judged

-- four bytes are the length that they spell
four_are_a_length : (a b c d : ℕ) → a < 256 → b < 256 → c < 256 → d < 256
    → (n : ℕ) × (n < 2 ^ 32) × (big_bytes 4 n ≡ a ∷ b ∷ c ∷ d ∷ [])
four_are_a_length a b c d ha hb hc hd =
    let bytes : List ℕ = a ∷ b ∷ c ∷ d ∷ [] in
    let fits : (i : ℕ) → get_or bytes i 0 < 256 = four_fits a b c d ha hb hc hd in
    (from_be_bytes w32 bytes, omega (arith, ha, hb, hc, hd), be_bytes_4 bytes (from_be_bytes w32 bytes) refl fits refl)
  where
    four_fits : (a b c d : ℕ) → a < 256 → b < 256 → c < 256 → d < 256 → (i : ℕ) → get_or (a ∷ b ∷ c ∷ d ∷ []) i 0 < 256
    four_fits a b c d ha hb hc hd zero = ha
    four_fits a b c d ha hb hc hd (suc zero) = hb
    four_fits a b c d ha hb hc hd (suc (suc zero)) = hc
    four_fits a b c d ha hb hc hd (suc (suc (suc zero))) = hd
    four_fits a b c d ha hb hc hd (suc (suc (suc (suc k)))) = omega arith

module _ (text : List ℕ) (flag n : ℕ) (rest : List ℕ) (p : BeginsFrame text flag n rest) where
  fault_at : (e : FrameFault) → IsOfText e → FrameFaultStands e text → EndsOrBeginsOrFails text
  fault_at e of_text h = inr (inr (e, of_text, h))

  payload_judged : IsFlag flag → n ≤ payload_limit → EndsOrBeginsOrFails text
  payload_judged allowed limit = elim (cases_lt (length rest) n) [
    | inl less ↦ fault_at Truncated truncated_of_text (inr (n, rest, record { flag = flag; header = p; allowed = allowed; limit = limit }, less))
    | inr enough ↦
        let f : Frame = record { flag = flag; payload = take n rest } in
        let len : length f.payload ≡ n = length-take-le n rest enough in
        let whole : text ≡ frame_text f ++ drop n rest =
        p.parts ∙ ap (λ l. header_text flag n ++ l) (sym (take-append-drop n rest))
        ∙ ap (λ k. header_text flag k ++ (take n rest ++ drop n rest)) (sym len) in
        inr (inl (f, drop n rest, record { flag = allowed; payload = omega (arith, len, limit) }, whole))
  ]

  length_judged : IsFlag flag → EndsOrBeginsOrFails text
  length_judged allowed = elim (cases_lt payload_limit n) [
    | inl above ↦ fault_at TooLong toolong_of_text (flag, n, rest, p, allowed, above)
    | inr limit ↦ payload_judged allowed limit
  ]

  pub flag_judged : EndsOrBeginsOrFails text
  flag_judged = elim (cases_eq flag 0) [
    | inl zero_flag ↦ length_judged (inl zero_flag)
    | inr n0 ↦ elim (cases_eq flag 1) [
      | inl one ↦ fault_at Compressed compressed_of_text (n, rest, record { parts = subst (λ k. text ≡ header_text k n ++ rest) one p.parts; fits = p.fits })
      | inr n1 ↦ elim (cases_eq flag 128) [
        | inl end ↦ length_judged (inr end)
        | inr n128 ↦ fault_at BadFlag badflag_of_text (flag, n, rest, p, n0, n1, n128)
      ]
    ]
  ]

few_judged : (text : List ℕ) → 0 < length text → length text < 5 → EndsOrBeginsOrFails text
few_judged text some few = inr (inr (Truncated, truncated_of_text, inl (some, few)))

pub each_text_is_judged : EachTextIsJudged
each_text_is_judged [] h = inl refl
each_text_is_judged (a ∷ []) h = few_judged _ (omega arith) (omega arith)
each_text_is_judged (a ∷ b ∷ []) h = few_judged _ (omega arith) (omega arith)
each_text_is_judged (a ∷ b ∷ c ∷ []) h = few_judged _ (omega arith) (omega arith)
each_text_is_judged (a ∷ b ∷ c ∷ d ∷ []) h = few_judged _ (omega arith) (omega arith)
each_text_is_judged (flag ∷ a ∷ b ∷ c ∷ d ∷ rest) h =
    let (n, fits, spelled) = four_are_a_length a b c d h.1.0 h.1.1.0 h.1.1.1.0 h.1.1.1.1.0 in
    flag_judged (flag ∷ a ∷ b ∷ c ∷ d ∷ rest) flag n rest (record { parts = ap (λ l. flag ∷ (l ++ rest)) (sym spelled); fits = fits })
