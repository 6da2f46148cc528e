-- An upload that is read message by message.
use Rattle.std.proofs.Common.{string_bytes, Vec, true, false, ◌≡◌, ℕ, ◌+◌, ◌≤◌, ◌⊎◌, List, [], ◌∷◌, ◌++◌, length, length-append, Option, Some, None, Result, Ok, Err, refl, sym, ap, subst, ◌∙◌, append-nil, append_assoc, arith, inl, inr}
use Rattle.std.specs.List.{AllByRecursion}
use Rattle.std.specs.declared.alloc.Global.{Global}
use Rattle.grpc_frames.specs.FrameFaults.{WhereKnown}
use Rattle.std.proofs.lemmas.List.{length_push, flat_map_more}
use Rattle.header_types.specs.Fields.{SchemaTree}
use Rattle.header_types.specs.Views.{schema_of}
use Rattle.batch_types.specs.Cells.{Rows}
use Rattle.table_types.specs.Uploads.{Upload}
use Rattle.table_types.specs.Served.{in_frame}
use Rattle.table_types.specs.Valid.{FitsFrame, batches_limit}
use Rattle.proto_wire.specs.Flight.{data_descriptor}
use Rattle.uploads.specs.Making.{upload_of}
use Rattle.call_protocol.specs.declared.method.Method.TheVariants as methods
use Rattle.call_protocol.specs.declared.refusal.CallRefusal.{CallRefusal}
use Rattle.call_protocol.specs.declared.refusal.CallRefusal.TheVariants as refusals
use Rattle.call_protocol.specs.Texts.{messages_text, end_text}
use Rattle.call_reading.specs.declared.upload_builder.UploadBuilder.{UploadBuilder}
use Rattle.call_reading.specs.Requests.{Adds, AddAll, Brings, messages_limit}
use Rattle.call_reading.specs.Faults.{MeansAtFault, FurtherFault, MessageFault, IsFaultlessSoFar, BreaksMessages}
use Rattle.call_reading.specs.Builder.{with_more, IsOnItsWay, Holds, OpensSome, AddsWithin, Grows, Finishes}
use Rattle.call_reading.specs.declared.frames.CallPart.{CallPart}
use Rattle.call_reading.specs.declared.frames.CallPart.TheVariants as parts
use Rattle.call_reading.specs.Reading.{ReadsPart}
use Rattle.call_reading.specs.Uploading.{HasTaken, ReadsOpening, ReadsFurther, ReadsUpload}

-- one message more
add_all_push : (schema : SchemaTree) (messages : List (List ℕ)) (batches : List Rows) (message : List ℕ) (more : List Rows)
    → AddAll schema messages batches → Adds schema message more → AddAll schema (messages ++ message ∷ []) (batches ++ more)
add_all_push schema [] batches message more all adds =
    (more, [], adds, refl, ap (λ (b : List Rows). b ++ more) all ∙ sym (append-nil more))
add_all_push schema (first ∷ messages) batches message more all adds = (
  all.0,
  all.1 ++ more,
  all.2,
  add_all_push schema messages all.1 message more all.3 adds,
  ap (λ (b : List Rows). b ++ more) all.4 ∙ append_assoc all.0 all.1 more,
)

brings_more : (messages : List (List ℕ)) (upload : Upload) (message : List ℕ) (more : List Rows) → Brings messages upload → Adds upload.schema message more
    → Brings (messages ++ message ∷ []) (with_more upload more)
brings_more messages upload message more b adds = record {
  first = b.first;
  others = b.others ++ message ∷ [];
  messages_are = ap (λ (l : List (List ℕ)). l ++ message ∷ []) b.messages_are;
  opens = b.opens;
  adds = add_all_push upload.schema b.others upload.batches message more b.adds adds;
}

all_push : (P : List ℕ → Type 0) (xs : List (List ℕ)) (x : List ℕ) → AllByRecursion P xs → P x → AllByRecursion P (xs ++ x ∷ [])
all_push P [] x all h = (h, tt)
all_push P (y ∷ ys) x all h = (all.0, all_push P ys x all.1 h)

-- one message more has come
pub takes_more : (count : ℕ) (i j : UploadBuilder) (here now after message : List ℕ) → HasTaken count i here now → now ≡ in_frame message ++ after → FitsFrame message → Grows message i j
    → HasTaken (count + 1) j here after
takes_more count i j here now after message h front fits grows = record {
  messages = h.messages ++ message ∷ [];
  parts =
      h.parts ∙ ap (λ (l : List ℕ). messages_text h.messages ++ l) front
      ∙ sym (append_assoc (messages_text h.messages) (in_frame message) after)
      ∙ ap (λ (l : List ℕ). l ++ after) (flat_map_more in_frame [] h.messages message);
  fit = all_push FitsFrame h.messages message h.fit fits;
  count_is = length_push h.messages message ∙ ap (λ (k : ℕ). k + 1) h.count_is;
  upload = with_more h.upload grows.more;
  brings =
      brings_more h.messages h.upload message grows.more h.brings
      (subst (λ (s : SchemaTree). Adds s message grows.more) (sym h.holds.schema_is) grows.adds);
  holds = grows.holds h.upload h.holds;
}

-- ---- faults behind the first message

full_count : (count left : ℕ) → count + left ≡ messages_limit → left ≡ 0 → count ≡ messages_limit
full_count count left sum none = omega (arith, sum, none)

again : (messages : List (List ℕ)) (upload : Upload) (b : Brings messages upload) → Brings (b.first ∷ b.others) upload
again messages upload b = subst (λ (m : List (List ℕ)). Brings m upload) b.messages_are b

-- a further message is none, and there may be so many
faultless_more : (first : List ℕ) (others : List (List ℕ)) (upload : Upload) (message : List ℕ) (schema : SchemaTree) (count : ℕ) → Brings (first ∷ others) upload
    → schema ≡ upload.schema → count ≡ length upload.batches → length (first ∷ others) + 1 ≤ messages_limit → AddsWithin schema count message
    → IsFaultlessSoFar methods.DoPut (first ∷ (others ++ message ∷ []))
faultless_more first others upload message schema count b is counted room adds = (
  with_more upload adds.0,
  brings_more (first ∷ others) upload message adds.0 b (subst (λ (s : SchemaTree). Adds s message adds.0) is adds.1),
  omega (arith, adds.2, counted, length-append upload.batches adds.0),
  omega (arith, room, length_push (first ∷ others) message),
)

-- nor is the first
faultless_opening : (message : List ℕ) → OpensSome message → IsFaultlessSoFar methods.DoPut (message ∷ [])
faultless_opening message o = (
  record { table = o.0; id = o.1; schema = o.2; batches = [] },
  record { first = message; others = []; messages_are = refl; opens = o.3; adds = refl },
  omega arith,
  omega arith,
)

-- a further message is at fault, or none can be read
pub further_breaks : (count left : ℕ) (i j : UploadBuilder) (here now after : List ℕ) (refusal : CallRefusal) → count + left ≡ messages_limit → IsOnItsWay i → HasTaken count i here now
    → ReadsFurther left i j (Err refusal) now after → BreaksMessages methods.DoPut here after refusal
further_breaks count left i j here now after refusal sum way h breaks =
    let b = h.brings in
    let upload = h.upload in
    let shape = b.messages_are in
    let like : Brings (b.first ∷ b.others) upload = again h.messages upload b in
    let count_is : length (b.first ∷ b.others) ≡ count = sym (ap (λ (m : List (List ℕ)). length m) shape) ∙ h.count_is in
    let batches_are : i.count ≡ length upload.batches = h.holds.count_is in
    let few : length upload.batches ≤ batches_limit = subst (λ (n : ℕ). n ≤ batches_limit) batches_are way.few in
    let within : length (b.first ∷ b.others) ≤ messages_limit = omega (arith, count_is, sum) in
    record {
      before = h.messages;
      place = now;
      parts = h.parts;
      fit = h.fit;
      faultless = subst (λ (m : List (List ℕ)). IsFaultlessSoFar methods.DoPut m) (sym shape) (upload, like, few, within);
      breaks =
          elim breaks [
            | inl frame ↦ inl frame
            | inr m ↦
                inr (inl (
                  m.0,
                  m.1,
                  m.2,
                  elim m.3 [
                    | inl none ↦
                        let full : length (b.first ∷ b.others) ≡ messages_limit = count_is ∙ full_count count left sum none.0 in
                        inl (subst (λ (ms : List (List ℕ)). MessageFault methods.DoPut ms m.0 refusal) (sym shape) (inl (full, none.1)))
                    | inr other ↦
                        elim other [
                          | inl fault ↦
                              inl (subst (λ (ms : List (List ℕ)). MessageFault methods.DoPut ms m.0 refusal) (sym shape)
                              (inr (
                                upload,
                                like,
                                subst (λ (s : SchemaTree). MeansAtFault data_descriptor (FurtherFault s (length upload.batches)) m.0 refusal) (sym h.holds.schema_is)
                                    (subst (λ (n : ℕ). MeansAtFault data_descriptor (FurtherFault (schema_of i.schema) n) m.0 refusal) batches_are fault),
                              )))
                          | inr refused ↦
                              inr (
                                subst (λ (ms : List (List ℕ)). IsFaultlessSoFar methods.DoPut (ms ++ m.0 ∷ [])) (sym shape)
                                    (faultless_more b.first b.others upload m.0 (schema_of i.schema) i.count like
                                    (sym h.holds.schema_is) batches_are (omega (arith, within, count_is, sum, refused.0)) refused.1),
                                refused.2,
                              )
                        ]
                  ],
                ))
          ];
    }

-- the first message is at fault, or there is none
opening_faults : (here after : List ℕ) (refusal : CallRefusal) → ReadsOpening (Err refusal) here after → BreaksMessages methods.DoPut here after refusal
opening_faults here after refusal breaks = record {
  before = [];
  place = here;
  parts = refl;
  fit = tt;
  faultless = tt;
  breaks =
      elim breaks [
        | inl frame ↦ inl frame
        | inr behind ↦
            elim behind [
              | inl ended ↦ inr (inr (ended.0, inl (inl (refl, ended.1))))
              | inr m ↦
                  inr (inl (m.0, m.1, m.2, elim m.3 [ inl fault ↦ inl fault | inr refused ↦ inr (faultless_opening m.0 refused.0, refused.1) ]))
            ]
      ];
}

-- ---- the end

finished : (count : ℕ) (i : UploadBuilder) (here now after : List ℕ) (r : Result (List ℕ) CallRefusal) → count ≤ messages_limit → IsOnItsWay i → (h : HasTaken count i here now)
    → now ≡ end_text ++ after → Finishes h.upload r → ReadsUpload r here after
finished count i here now after (Ok text) few way h front fin = record {
  messages = h.messages;
  parts = h.parts ∙ ap (λ l. messages_text h.messages ++ l) front;
  fit = h.fit;
  few = omega (arith, h.count_is, few);
  mean = (h.upload, h.brings, fin.0, fin.1);
}
finished count i here now after (Err refusal) few way h front fin =
    let b = h.brings in
    let shape = b.messages_are in
    let like : Brings (b.first ∷ b.others) h.upload = again h.messages h.upload b in
    let within : length (b.first ∷ b.others) ≤ messages_limit = omega (arith, ap length shape, h.count_is, few) in
    record {
      before = h.messages;
      place = now;
      parts = h.parts;
      fit = h.fit;
      faultless =
          subst (λ m. IsFaultlessSoFar methods.DoPut m) (sym shape)
          (h.upload, like, subst (λ n. n ≤ batches_limit) h.holds.count_is way.few, within);
      breaks =
          inr (inr (
            front,
            elim fin [
              | inl large ↦ inl (inr (h.upload, b, large.0, large.1))
              | inr refused ↦ inr ((h.upload, b, refused.0), refused.1)
            ],
          ));
    }

-- ---- where the bytes are told

abbrev pub HasRead : ℕ → UploadBuilder → Option (List ℕ) → Option (List ℕ) → Type 0
HasRead count i here now = WhereKnown here now (HasTaken count i)

pub read_starts : (i : UploadBuilder) (here now : Option (List ℕ)) → WhereKnown here now (ReadsOpening (Ok i)) → HasRead 1 i here now
read_starts i None now opens = tt
read_starts i (Some x) None opens = absurd opens
read_starts i (Some x) (Some y) opens = record {
  messages = opens.0 ∷ [];
  parts = opens.1 ∙ ap (λ l. l ++ y) (sym (append-nil (in_frame opens.0)));
  fit = (opens.2, tt);
  count_is = refl;
  upload = upload_of (string_bytes i.table) i.id (schema_of i.schema) [];
  brings = record { first = opens.0; others = []; messages_are = refl; opens = opens.3.0; adds = refl };
  holds = opens.3.1;
}

pub read_goes_on : (count left : ℕ) (i j : UploadBuilder) (here now after : Option (List ℕ)) → HasRead count i here now → WhereKnown now after (ReadsFurther left i j (Ok true))
    → HasRead (count + 1) j here after
read_goes_on count left i j None now after h further = tt
read_goes_on count left i j (Some x) None after h further = absurd h
read_goes_on count left i j (Some x) (Some y) None h further = absurd further
read_goes_on count left i j (Some x) (Some y) (Some z) h further =
    takes_more count i j x y z further.0 h further.1 further.2 further.3

pub read_ends : (count left : ℕ) (i j : UploadBuilder) (here now after : Option (List ℕ)) (r : Result (List ℕ) CallRefusal) → count ≤ messages_limit → IsOnItsWay i → HasRead count i here now
    → WhereKnown now after (ReadsFurther left i j (Ok false)) → ((upload : Upload) → Holds j upload → Finishes upload r) → WhereKnown here after (ReadsUpload r)
read_ends count left i j None now after r few way h further fin = tt
read_ends count left i j (Some x) None after r few way h further fin = absurd h
read_ends count left i j (Some x) (Some y) None r few way h further fin = absurd further
read_ends count left i j (Some x) (Some y) (Some z) r few way h further fin =
    finished count i x y z r few way h further.0 (fin h.upload (subst (λ k. Holds k h.upload) (sym further.1) h.holds))

pub read_breaks : (count left : ℕ) (i j : UploadBuilder) (here now after : Option (List ℕ)) (refusal : CallRefusal) → count + left ≡ messages_limit → IsOnItsWay i → HasRead count i here now
    → WhereKnown now after (ReadsFurther left i j (Err refusal)) → WhereKnown here after (ReadsUpload (Err refusal))
read_breaks count left i j None now after refusal sum way h further = tt
read_breaks count left i j (Some x) None after refusal sum way h further = absurd h
read_breaks count left i j (Some x) (Some y) None refusal sum way h further = absurd further
read_breaks count left i j (Some x) (Some y) (Some z) refusal sum way h further = further_breaks count left i j x y z refusal sum way h further

pub opening_breaks : (here after : Option (List ℕ)) (refusal : CallRefusal) → WhereKnown here after (ReadsOpening (Err refusal)) → WhereKnown here after (ReadsUpload (Err refusal))
opening_breaks None after refusal opens = tt
opening_breaks (Some x) None refusal opens = absurd opens
opening_breaks (Some x) (Some y) refusal opens = opening_faults x y refusal opens

-- what is told of a further message that is not taken
abbrev pub IsToldOfFurther : UploadBuilder → List ℕ → CallRefusal → Type 0
IsToldOfFurther i text refusal =
    MeansAtFault data_descriptor (FurtherFault (schema_of i.schema) i.count) text refusal
    ⊎ (AddsWithin (schema_of i.schema) i.count text × (refusal ≡ refusals.OutOfMemory))

-- a further message that is at fault, or for which memory was refused
pub further_read : (left : ℕ) (i j : UploadBuilder) (here after : Option (List ℕ)) (part : CallPart) (message : Vec ℕ Global) (text : List ℕ) (refusal : CallRefusal)
    → WhereKnown here after (ReadsPart (Ok part)) → part ≡ parts.Message message → text ≡ message.items
    → 1 ≤ left → IsToldOfFurther i text refusal → WhereKnown here after (ReadsFurther left i j (Err refusal))
further_read left i j None after part message text refusal reads is same some fault = tt
further_read left i j (Some x) None part message text refusal reads is same some fault = absurd reads
further_read left i j (Some x) (Some y) part message text refusal reads is same some fault =
    let read : ReadsPart (Ok (parts.Message message)) x y = subst (λ p. ReadsPart (Ok p) x y) is reads in
    let at : IsToldOfFurther i message.items refusal = subst (λ m. IsToldOfFurther i m refusal) same fault in
    inr (message.items, read.1, read.0, inr (elim at [ inl wrong ↦ inl wrong | inr refused ↦ inr (some, refused.0, refused.1) ]))
