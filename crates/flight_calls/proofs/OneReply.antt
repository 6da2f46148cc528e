-- A request that was answered has one reply, and an answer's bytes are no refusal's.
use Rattle.std.proofs.Common.{◌≡◌, ◌≤◌, ◌+◌, ◌<◌, ◌^◌, ℕ, List, [], ◌∷◌, length, get_or, refl, sym, ap, ◌∙◌, length-append, inl, inr, arith}
use Rattle.grpc_frames.specs.Frame.{header_text}
use Rattle.proto_messages.specs.Descriptor.{Descriptor, Values, IsMessage}
use Rattle.proto_messages.specs.Canonical.{RisesFrom, Fits, canonical}
use Rattle.proto_wire.specs.Flight.{put_result_descriptor}
use Rattle.table_types.specs.Uploads.{Upload, upload_text}
use Rattle.table_types.specs.Valid.{IsUpload, IsId}
use Rattle.table_types.specs.Tables.{Outcome, applied, mismatched, conflicting, unknown}
use Rattle.call_protocol.specs.declared.refusal.CallRefusal.{CallRefusal}
use Rattle.call_protocol.specs.Statuses.{code_of, status_of, name_of, refusal_trailer}
use Rattle.call_reading.specs.Requests.{Request, describes, shows, lists, serves, puts}
use Rattle.flight_calls.specs.Replies.{BackAnswer, described, shown, listed, served, decided, failed, Reply, answers, refuses, reply_text, RepliesBy, RepliesOutcome, RepliesDescribed, RepliesShown, RepliesListed, RepliesServed, RepliesTold, Replies}
use Rattle.call_protocol.specs.Results.{applied_descriptor, put_result}
use Rattle.flight_calls.proofs.Sizes.{applied_short}

-- ---- one reply

by_one : (messages : List (List ℕ)) (x y : Reply) → RepliesBy messages x → RepliesBy messages y → x ≡ y
by_one messages x y h k =
    elim h [
      | inl a ↦ elim k [ inl b ↦ a.1 ∙ sym b.1 | inr b ↦ absurd (b.0 a.0) ]
      | inr a ↦ elim k [ inl b ↦ absurd (a.0 b.0) | inr b ↦ a.1 ∙ sym b.1 ]
    ]

described_one : (answer : BackAnswer) (x y : Reply) → RepliesDescribed answer x → RepliesDescribed answer y → x ≡ y
described_one (described d) x y h k = by_one _ x y h k
described_one (failed fault) x y h k = h ∙ sym k
described_one (shown schema) x y h k = absurd h
described_one (listed all) x y h k = absurd h
described_one (served version) x y h k = absurd h
described_one (decided outcome) x y h k = absurd h

shown_one : (answer : BackAnswer) (x y : Reply) → RepliesShown answer x → RepliesShown answer y → x ≡ y
shown_one (shown schema) x y h k = by_one _ x y h k
shown_one (failed fault) x y h k = h ∙ sym k
shown_one (described d) x y h k = absurd h
shown_one (listed all) x y h k = absurd h
shown_one (served version) x y h k = absurd h
shown_one (decided outcome) x y h k = absurd h

listed_one : (answer : BackAnswer) (x y : Reply) → RepliesListed answer x → RepliesListed answer y → x ≡ y
listed_one (listed all) x y h k = by_one _ x y h k
listed_one (failed fault) x y h k = h ∙ sym k
listed_one (described d) x y h k = absurd h
listed_one (shown schema) x y h k = absurd h
listed_one (served version) x y h k = absurd h
listed_one (decided outcome) x y h k = absurd h

served_one : (answer : BackAnswer) (x y : Reply) → RepliesServed answer x → RepliesServed answer y → x ≡ y
served_one (served version) x y h k = h ∙ sym k
served_one (failed fault) x y h k = h ∙ sym k
served_one (described d) x y h k = absurd h
served_one (shown schema) x y h k = absurd h
served_one (listed all) x y h k = absurd h
served_one (decided outcome) x y h k = absurd h

-- an encoding is that of one upload
abbrev pub AreOne : Type 0
AreOne = (x y : Upload) → IsUpload x → IsUpload y → upload_text x ≡ upload_text y → x ≡ y

outcome_one : AreOne → (text : List ℕ) (outcome : Outcome) (x y : Reply) → RepliesOutcome text outcome x → RepliesOutcome text outcome y → x ≡ y
outcome_one one text (applied version) x y h k =
    let same : h.0 ≡ k.0 = one h.0 k.0 h.1 k.1 (h.2 ∙ sym k.2) in
    h.3 ∙ ap (λ (u : Upload). answers (put_result u.id version ∷ [])) same ∙ sym k.3
outcome_one one text mismatched x y h k = h ∙ sym k
outcome_one one text conflicting x y h k = h ∙ sym k
outcome_one one text unknown x y h k = h ∙ sym k

told_one : AreOne → (text : List ℕ) (answer : BackAnswer) (x y : Reply) → RepliesTold text answer x → RepliesTold text answer y → x ≡ y
told_one one text (decided outcome) x y h k = outcome_one one text outcome x y h k
told_one one text (failed fault) x y h k = h ∙ sym k
told_one one text (described d) x y h k = absurd h
told_one one text (shown schema) x y h k = absurd h
told_one one text (listed all) x y h k = absurd h
told_one one text (served version) x y h k = absurd h

pub replies_one : AreOne → (request : Request) (answer : BackAnswer) (x y : Reply) → Replies request answer x → Replies request answer y → x ≡ y
replies_one one (describes table) answer x y h k = described_one answer x y h k
replies_one one (shows table) answer x y h k = shown_one answer x y h k
replies_one one lists answer x y h k = listed_one answer x y h k
replies_one one (serves asked) answer x y h k = served_one answer x y h k
replies_one one (puts text) answer x y h k = told_one one text answer x y h k

-- ---- an answer, and a refusal

header_long : (n : ℕ) → length (header_text 128 n) ≡ 5
header_long n = refl

trailer_long : (refusal : CallRefusal) → length (refusal_trailer refusal) ≡ 6 + length (name_of refusal)
trailer_long refusal =
    let payload : List ℕ = code_of (status_of refusal) ∷ name_of refusal in
    omega (arith, length-append (header_text 128 (length payload)) payload, header_long (length payload))

pub told_apart : ((refusal : CallRefusal) → 1 ≤ length (name_of refusal)) → (messages : List (List ℕ)) (refusal : CallRefusal) → reply_text (answers messages) ≡ reply_text (refuses refusal) → ⊥
told_apart named [] refusal e =
    let long : 6 ≡ length (refusal_trailer refusal) = ap (λ (l : List ℕ). length l) e in
    omega (arith, long, trailer_long refusal, named refusal)
told_apart named (m ∷ ms) refusal e =
    let wrong : 0 ≡ 128 = ap (λ (l : List ℕ). get_or l 0 0) e in
    omega (arith, wrong)

-- ---- what tells of an upload

abbrev pub AreMessages : Type 0
AreMessages = (descriptor : Descriptor) (v : Values descriptor) → RisesFrom 0 descriptor → Fits descriptor v → IsMessage descriptor (canonical descriptor v) v

pub put_reads : AreMessages → (id : List ℕ) (version : ℕ) → IsId id → version < 2 ^ 64
    → (text : List ℕ) × IsMessage put_result_descriptor (put_result id version) (text, tt) × IsMessage applied_descriptor text (id, (version, tt))
put_reads written id version named fits =
    let text : List ℕ = canonical applied_descriptor (id, (version, tt)) in
    let short : length text ≤ 56 = applied_short id version named.whole in
    let small : length id < 2 ^ 64 = omega (arith, named.whole) in
    let outer : length text < 2 ^ 64 = omega (arith, short) in (
      text,
      written put_result_descriptor (text, tt) (omega arith, (omega arith, omega arith), tt) (outer, tt),
      written applied_descriptor (id, (version, tt)) (omega arith, (omega arith, omega arith), (omega arith, (omega arith, omega arith), tt)) (small, (fits, tt)),
    )
