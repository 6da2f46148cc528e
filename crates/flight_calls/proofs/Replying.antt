-- Replies to what a backend answers, in frames.
use Rattle.std.proofs.Common.{◌≡◌, ◌⊎◌, ℕ, List, [], ◌∷◌, map, Result, Ok, Err, refl, sym, ap, ap₂, subst, ◌∙◌, inl, inr}
use Rattle.std.specs.List.{AllByRecursion}
use Rattle.header_types.specs.Fields.{SchemaTree}
use Rattle.table_types.specs.Uploads.{Upload, upload_text, schema_text}
use Rattle.table_types.specs.Valid.{IsUpload, FitsFrame}
use Rattle.table_types.specs.Tables.{Version, applied}
use Rattle.table_types.specs.Answers.{answer_of, answer_messages}
use Rattle.table_types.specs.Ticket.{TableVersion, IsTableVersion}
use Rattle.call_protocol.specs.declared.refusal.CallRefusal.{CallRefusal}
use Rattle.call_protocol.specs.declared.refusal.CallRefusal.TheVariants as refusals
use Rattle.call_reading.specs.Requests.{describes, shows, lists, serves}
use Rattle.flight_calls.specs.declared.table_description.TableDescription.{TableDescription}
use Rattle.flight_calls.specs.declared.outgoing.Outgoing.{Outgoing}
use Rattle.flight_calls.specs.declared.outgoing.Outgoing.TheVariants.{Shared}
use Rattle.flight_calls.specs.Replies.{Description, described, shown, listed, served, Reply, answers, refuses, RepliesBy, info_message, schema_result}
use Rattle.call_protocol.specs.Results.{put_result}
use Rattle.flight_calls.specs.Backing.{Describes, DescribeAll}
use Rattle.flight_calls.specs.Serving.{MayAnswer, Handed, Leaves, Stays}
use Rattle.flight_calls.specs.Describing.{version_in, locations_in, CanBeTold, message_told, message_of, schema_told}
use Rattle.flight_calls.specs.Framing.{Frames}
use Rattle.flight_calls.specs.Responding.{AnswersIn, TellsOutcome, RespondsBy}
use Rattle.flight_calls.proofs.Sizes.{put_fits}

-- ---- what is described, and what is told of it

abbrev of_parts : List ℕ → ℕ → TableVersion
of_parts table version = record { table = table; version = version }

version_is : (d : TableDescription) (description : Description) → Describes d description → version_in d ≡ description.version
version_is d description h = ap₂ of_parts h.table h.version

pub can_be_told : (d : TableDescription) (description : Description) → Describes d description → CanBeTold d
can_be_told d description h = record {
  valid = subst IsTableVersion (sym (version_is d description h)) h.valid;
  small = subst FitsFrame (sym h.schema) h.small;
}

told_is : (description : Description)
    → message_told description.version description.records description.total_bytes (schema_text description.schema) description.locations ≡ info_message description
unfolding message_told
told_is description = refl

same_told : (v w : TableVersion) (r s t u : ℕ) (x y : List ℕ) (k l : List (List ℕ)) → v ≡ w → r ≡ s → t ≡ u → x ≡ y → k ≡ l → message_told v r t x k ≡ message_told w s u y l
same_told v w r s t u x y k l a b c d e = cc

pub message_is : (d : TableDescription) (description : Description) → Describes d description → message_of d ≡ info_message description
message_is d description h =
    same_told (version_in d) description.version d.info.records description.records d.info.total_bytes description.total_bytes
    d.info.schema.items (schema_text description.schema) (locations_in d) description.locations
    (version_is d description h) h.records h.total_bytes h.schema h.locations
    ∙ told_is description

pub all_can_be_told : (all : List TableDescription) (descriptions : List Description) → DescribeAll all descriptions → AllByRecursion CanBeTold all
all_can_be_told [] [] h = tt
all_can_be_told [] (y ∷ ys) h = absurd h
all_can_be_told (x ∷ xs) [] h = absurd h
all_can_be_told (x ∷ xs) (y ∷ ys) h = (can_be_told x y h.0, all_can_be_told xs ys h.1)

pub messages_are : (all : List TableDescription) (descriptions : List Description) → DescribeAll all descriptions → map message_of all ≡ map info_message descriptions
messages_are [] [] h = refl
messages_are [] (y ∷ ys) h = absurd h
messages_are (x ∷ xs) [] h = absurd h
messages_are (x ∷ xs) (y ∷ ys) h = ap₂ (λ (m : List ℕ) (ms : List (List ℕ)). m ∷ ms) (message_is x y h.0) (messages_are xs ys h.1)

-- ---- frames as a reply

-- frames of these messages are a reply by them, or memory was refused
framed_reply : (messages : List (List ℕ)) (r : Result Outgoing CallRefusal) → Frames messages r
    → (reply : Reply) × (RepliesBy messages reply ⊎ (reply ≡ refuses refusals.OutOfMemory)) × AnswersIn r reply
framed_reply messages (Ok frames) h = (answers messages, inl (inl (h.0, refl)), (messages, refl, h.1))
framed_reply messages (Err refusal) h = (
  refuses refusal,
  elim h [ inl long ↦ inl (inr (long.1, ap refuses long.0)) | inr e ↦ inr (ap refuses e) ],
  refl,
)

-- ---- an upload that was put

pub applied_told : (text : List ℕ) (version : ℕ) (upload : Upload) (r : Result Outgoing CallRefusal) → IsUpload upload → upload_text upload ≡ text
    → Frames (put_result upload.id version ∷ []) r → TellsOutcome text (applied version) r
applied_told text version upload (Ok frames) valid is h =
    (answers (put_result upload.id version ∷ []), inl (upload, valid, is, refl), (put_result upload.id version ∷ [], refl, h.1))
applied_told text version upload (Err refusal) valid is h = (
  refuses refusal,
  elim h [ inl long ↦ absurd (long.1 (put_fits upload.id version valid.named.whole, tt)) | inr e ↦ inr (ap refuses e) ],
  refl,
)

-- ---- a request, and what the backend answered

module _ {B : Type 0} (may : MayAnswer B) (handed : Handed B) (leaves : Leaves B) (stays : Stays B) (old new : B) (same : handed new ≡ handed old) (took_nothing : stays old new) where
  pub described_by : (table : List ℕ) (found : TableDescription) (r : Result Outgoing CallRefusal)
      → (description : Description) × may old (describes table) (described description) × Describes found description
      → Frames (message_of found ∷ []) r → RespondsBy may handed leaves stays (describes table) old new r
  described_by table found r told frames =
      let is = message_is found told.0 told.2 in
      let k = framed_reply (info_message told.0 ∷ []) r (subst (λ (m : List ℕ). Frames (m ∷ []) r) is frames) in
      (k.0, record { answer = described told.0; may_answer = told.1; replies = k.1; hands_nothing = same; takes_nothing = took_nothing }, k.2)

  pub shown_by : (table schema : List ℕ) (r : Result Outgoing CallRefusal)
      → (tree : SchemaTree) × may old (shows table) (shown tree) × (schema ≡ schema_text tree) × FitsFrame schema
      → Frames (schema_told schema ∷ []) r → RespondsBy may handed leaves stays (shows table) old new r
  shown_by table schema r told frames =
      let k = framed_reply (schema_result told.0 ∷ []) r (subst (λ (s : List ℕ). Frames (schema_told s ∷ []) r) told.2 frames) in
      (k.0, record { answer = shown told.0; may_answer = told.1; replies = k.1; hands_nothing = same; takes_nothing = took_nothing }, k.2)

  pub listed_by : (all : List TableDescription) (r : Result Outgoing CallRefusal)
      → (descriptions : List Description) × may old lists (listed descriptions) × DescribeAll all descriptions
      → Frames (map message_of all) r → RespondsBy may handed leaves stays lists old new r
  listed_by all r told frames =
      let is = messages_are all told.0 told.2 in
      let k = framed_reply (map info_message told.0) r (subst (λ (ms : List (List ℕ)). Frames ms r) is frames) in
      (k.0, record { answer = listed told.0; may_answer = told.1; replies = k.1; hands_nothing = same; takes_nothing = took_nothing }, k.2)

  pub served_by : (asked : TableVersion) (answer : List ℕ) → (version : Version) × may old (serves asked) (served version) × (answer ≡ answer_of version)
      → RespondsBy may handed leaves stays (serves asked) old new (Ok (Shared answer))
  served_by asked answer told = (
    answers (answer_messages told.0),
    record { answer = served told.0; may_answer = told.1; replies = inl refl; hands_nothing = same; takes_nothing = took_nothing },
    (answer_messages told.0, refl, told.2),
  )
