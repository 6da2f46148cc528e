-- Two refusals of one message tell of one fault, or either of two may be told.
use Rattle.std.proofs.Common.{◌≡◌, ◌≢◌, ◌⊎◌, ℕ, List, [], ◌∷◌, None, Some, length, sym, ap, subst, ◌∙◌, inl, inr}
use Rattle.proto_messages.specs.Descriptor.{Descriptor as MessageType, Values}
use Rattle.proto_wire.specs.Flight.{flight_descriptor_descriptor, ticket_descriptor, criteria_descriptor, data_descriptor}
use Rattle.proto_fields.specs.declared.fault.WireFault.{WireFault}
use Rattle.header_types.specs.declared.fault.MetaFault.{MetaFault}
use Rattle.header_types.specs.Fields.{SchemaTree}
use Rattle.header_types.specs.Header.{Head, schema_header, batch_header, ShowsHeader}
use Rattle.batch_types.specs.declared.fault.BatchFault.{BatchFault}
use Rattle.batch_types.specs.Cells.{Rows}
use Rattle.batch_types.specs.LaysOut.{LaysOut, IsFaultOf}
use Rattle.record_batches.specs.Reading.{IsToldOf}
use Rattle.table_types.specs.Uploads.{Upload}
use Rattle.call_protocol.specs.declared.method.Method.{Method}
use Rattle.call_protocol.specs.declared.method.Method.TheVariants as methods
use Rattle.call_protocol.specs.declared.refusal.CallRefusal.{CallRefusal}
use Rattle.call_protocol.specs.declared.refusal.CallRefusal.TheVariants as refusals
use Rattle.call_protocol.specs.Methods.{PathFault}
use Rattle.call_protocol.specs.Names.{Descriptor, DescriptorFault, NamesTable, NamesUpload, TableFault, UploadNameFault}
use Rattle.call_reading.specs.Requests.{Data, header_in, body_in, Brings}
use Rattle.call_reading.specs.Faults.{MeansAtFault, CriteriaFault, TicketFault, SchemaFault, OpeningFault, BatchFaultIn, HeadFault, FurtherFault, OneFault, UploadFault, MessageFault, UploadEndFault, EndFault, IsOfMemory, IsOfTheMachine}
use Rattle.call_reading.proofs.Apart.{MessagesAreOne, HeadersAreOne, same_head}
use Rattle.call_reading.proofs.NotRefused.{MessagesApart, HeadersApart, means_none, no_header}
use Rattle.request_laws.specs.Agreeing.{IsOfFields, IsOfAHeader, IsOfADescriptor, IsOfASchema, IsOfAFurtherMessage, MayTellEither, Agree}

-- one of them says that memory was refused or a read failed, or they agree
abbrev pub Both : CallRefusal → CallRefusal → Type 0
Both x y = IsOfTheMachine x ⊎ IsOfTheMachine y ⊎ Agree x y

same : (x y : CallRefusal) → x ≡ y → Both x y
same x y is = inr (inr (inl (inl is)))

-- ---- one message

module _ (messages_one : MessagesAreOne) (messages_apart : MessagesApart) where
  -- what it means is at fault, and of one meaning they agree
  means_agree : (type : MessageType) (F : Values type → CallRefusal → Type 0) → ((v : Values type) (x y : CallRefusal) → F v x → F v y → Both x y)
      → (message : List ℕ) (x y : CallRefusal) → MeansAtFault type F message x → MeansAtFault type F message y → Both x y
  means_agree type F agree message x y p q =
      elim p [
        | inl broken ↦
            elim q [
              | inl other ↦ inr (inr (inl (inr (inl ((broken.fault, broken.is), (other.fault, other.is))))))
              | inr m ↦ inl (inl (means_none messages_one messages_apart type message m.0 x m.1 broken))
            ]
        | inr k ↦
            elim q [
              | inl other ↦ inr (inl (inl (means_none messages_one messages_apart type message k.0 y k.1 other)))
              | inr m ↦ agree m.0 x y (subst (λ v. F v x) (messages_one type message k.0 m.0 k.1 m.1) k.2) m.2
            ]
      ]

descriptors_agree : (Names : Type 0) (d : Descriptor) (x y : CallRefusal) → DescriptorFault Names d x → DescriptorFault Names d y → x ≡ y
descriptors_agree Names d x y p q =
    elim p [
      | inl h ↦ elim q [ inl k ↦ h.1 ∙ sym k.1 | inr k ↦ absurd (k.0 h.0) ]
      | inr h ↦ elim q [ inl k ↦ absurd (h.0 k.0) | inr k ↦ h.2 ∙ sym k.2 ]
    ]

-- ---- a header

module _ (headers_one : HeadersAreOne) (headers_apart : HeadersApart) where
  schemas_agree : (header : List ℕ) (x y : CallRefusal) → SchemaFault header x → SchemaFault header y → Both x y
  schemas_agree header x y p q =
      elim p [
        | inl h ↦
            elim q [
              | inl k ↦ same x y (h.0 ∙ sym k.0)
              | inr k ↦
                  elim h.1 [
                    | inl empty ↦ absurd (k.0 empty)
                    | inr head ↦ inr (inl (inl (no_header headers_apart header (batch_header head.0) y head.1 k.1)))
                  ]
            ]
        | inr h ↦
            elim q [
              | inl k ↦
                  elim k.1 [
                    | inl empty ↦ absurd (h.0 empty)
                    | inr head ↦ inl (inl (no_header headers_apart header (batch_header head.0) x head.1 h.1))
                  ]
              | inr k ↦ inr (inr (inl (inr (inr ((h.1.fault, h.1.is), (k.1.fault, k.1.is))))))
            ]
      ]

  heads_agree : (header : List ℕ) (x y : CallRefusal) → HeadFault header x → HeadFault header y → Both x y
  heads_agree header x y p q =
      elim p [
        | inl broken ↦
            elim q [
              | inl other ↦ inr (inr (inl (inr (inr ((broken.fault, broken.is), (other.fault, other.is))))))
              | inr k ↦ inl (inl (no_header headers_apart header (schema_header k.0.0) x k.0.1 broken))
            ]
        | inr h ↦
            elim q [
              | inl other ↦ inr (inl (inl (no_header headers_apart header (schema_header h.0.0) y h.0.1 other)))
              | inr k ↦ same x y (h.1 ∙ sym k.1)
            ]
      ]

  no_schema_of_a_batch : (schema : SchemaTree) (head : Head) → schema_header schema ≡ batch_header head → ⊥
  no_schema_of_a_batch schema head is = absurd cc

  -- where a header shows the head of a batch, it is refused for want of memory alone
  head_of_a_batch : (header : List ℕ) (head : Head) (refusal : CallRefusal) → ShowsHeader header (batch_header head) → HeadFault header refusal → IsOfMemory refusal
  head_of_a_batch header head refusal shows fault =
      elim fault [
        | inl broken ↦ no_header headers_apart header (batch_header head) refusal shows broken
        | inr second ↦ absurd (no_schema_of_a_batch second.0.0 head (headers_one header (schema_header second.0.0) (batch_header head) second.0.1 shows))
      ]

-- ---- a batch

abbrev pub FaultsAreOne : Type 0
FaultsAreOne =
    (schema : SchemaTree) (head : Head) (body : List ℕ) (x y : BatchFault) → IsFaultOf schema head body x → IsFaultOf schema head body y → x ≡ y

abbrev pub FaultsStandApart : Type 0
FaultsStandApart =
    (schema : SchemaTree) (head : Head) (body : List ℕ) (rows : Rows) (fault : BatchFault) → LaysOut schema head body rows → IsFaultOf schema head body fault → ⊥

module _ (faults_one : FaultsAreOne) (faults_apart : FaultsStandApart) where
  told_agree : (schema : SchemaTree) (head : Head) (body : List ℕ) (e f : BatchFault) → IsToldOf schema head body e → IsToldOf schema head body f → e ≡ f
  told_agree schema head body e f p q =
      elim p [
        | inl stands ↦
            elim q [
              | inl other ↦ faults_one schema head body e f stands other
              | inr laid ↦ absurd (faults_apart schema head body laid.1.0 e laid.1.1 stands)
            ]
        | inr laid ↦
            elim q [
              | inl other ↦ absurd (faults_apart schema head body laid.1.0 f laid.1.1 other)
              | inr too ↦ laid.0 ∙ sym too.0
            ]
      ]

  module _ (headers_one : HeadersAreOne) where
    batches_agree : (schema : SchemaTree) (count : ℕ) (header body : List ℕ) (x y : CallRefusal) → BatchFaultIn schema count header body x
        → BatchFaultIn schema count header body y → Both x y
    batches_agree schema count header body x y p q =
        let heads = same_head p.0 q.0 (headers_one header (batch_header p.0) (batch_header q.0) p.1 q.1) in
        elim p.2 [
          | inl a ↦
              elim q.2 [
                | inl b ↦
                    let told = told_agree schema q.0 body a.0 b.0 (subst (λ h. IsToldOf schema h body a.0) heads a.1) b.1 in
                    same x y (a.2 ∙ ap (λ e. refusals.Batch e) told ∙ sym b.2)
                | inr b ↦ inr (inr (inr (inr (inr (inl (b.1, (a.0, a.2)))))))
              ]
          | inr a ↦
              elim q.2 [
                | inl b ↦ inr (inr (inr (inl (inr (inl (a.1, (b.0, b.2)))))))
                | inr b ↦ same x y (a.1 ∙ sym b.1)
              ]
        ]

-- ---- the messages of an upload

schema_kind : (header : List ℕ) (refusal : CallRefusal) → SchemaFault header refusal → IsOfASchema refusal
schema_kind header refusal fault = elim fault [ inl h ↦ inl h.0 | inr h ↦ inr (h.1.fault, h.1.is) ]

descriptor_kind : (Names : Type 0) (d : Descriptor) (refusal : CallRefusal) → DescriptorFault Names d refusal → IsOfADescriptor refusal
descriptor_kind Names d refusal fault = elim fault [ inl h ↦ inr h.1 | inr h ↦ inl h.2 ]

further_kind : (schema : SchemaTree) (count : ℕ) (message : List ℕ) (refusal : CallRefusal) → MeansAtFault data_descriptor (FurtherFault schema count) message refusal
    → IsOfAFurtherMessage refusal
further_kind schema count message refusal fault =
    elim fault [
      | inl broken ↦ inl (broken.fault, broken.is)
      | inr m ↦
          elim m.2.1 [
            | inl head ↦
                elim head [
                  | inl broken ↦ inr (inl (broken.fault, broken.is))
                  | inr second ↦ inr (inr (inl second.1))
                ]
            | inr batch ↦
                elim batch.2 [
                  | inl b ↦ inr (inr (inr (inl (b.0, b.2))))
                  | inr many ↦ inr (inr (inr (inr many.1)))
                ]
          ]
    ]

some_same : (d e : Descriptor) → Some d ≡ Some e → d ≡ e
some_same d e is = cc

-- what an upload is refused for by its descriptor
abbrev NameFault : Data → CallRefusal → Type 0
NameFault values refusal =
    ((values.0 ≡ None) × (refusal ≡ refusals.BadDescriptor)) ⊎ ((descriptor : Descriptor) × (values.0 ≡ Some descriptor) × UploadNameFault descriptor refusal)

name_kind : (values : Data) (refusal : CallRefusal) → NameFault values refusal → IsOfADescriptor refusal
name_kind values refusal fault =
    elim fault [
      | inl none ↦ inl none.1
      | inr some ↦ descriptor_kind ((table id : List ℕ) × NamesUpload some.0 table id) some.0 refusal some.2
    ]

names_agree : (values : Data) (x y : CallRefusal) → NameFault values x → NameFault values y → x ≡ y
names_agree values x y p q =
    elim p [
      | inl none ↦
          elim q [
            | inl other ↦ none.1 ∙ sym other.1
            | inr some ↦ absurd (no_none some.0 (sym none.0 ∙ some.1))
          ]
      | inr some ↦
          elim q [
            | inl none ↦ absurd (no_none some.0 (sym none.0 ∙ some.1))
            | inr other ↦
                descriptors_agree ((table id : List ℕ) × NamesUpload other.0 table id) other.0 x y
                (subst (λ d. UploadNameFault d x) (some_same some.0 other.0 (sym some.1 ∙ other.1)) some.2) other.2
          ]
    ]
  where
    no_none : (d : Descriptor) → None ≡ Some d → ⊥
    no_none d is = absurd cc

name_or_schema : (values : Data) (refusal : CallRefusal) → OpeningFault values refusal → NameFault values refusal ⊎ SchemaFault (header_in values) refusal
name_or_schema values refusal fault =
    elim fault [
      | inl none ↦ inl (inl none)
      | inr other ↦ elim other [ inl some ↦ inl (inr some) | inr schema ↦ inr schema ]
    ]

abbrev pub UploadsAreOne : Type 0
UploadsAreOne = (messages : List (List ℕ)) (x y : Upload) → Brings messages x → Brings messages y → x ≡ y

module _ (messages_one : MessagesAreOne) (messages_apart : MessagesApart) (headers_one : HeadersAreOne) (headers_apart : HeadersApart)
    (faults_one : FaultsAreOne) (faults_apart : FaultsStandApart) where
  opening_agree : (values : Data) (x y : CallRefusal) → OpeningFault values x → OpeningFault values y → Both x y
  opening_agree values x y p q =
      elim (name_or_schema values x p) [
        | inl name ↦
            elim (name_or_schema values y q) [
              | inl other ↦ same x y (names_agree values x y name other)
              | inr schema ↦ inr (inr (inr (inl (inl (name_kind values x name, schema_kind (header_in values) y schema)))))
            ]
        | inr schema ↦
            elim (name_or_schema values y q) [
              | inl name ↦ inr (inr (inr (inr (inl (name_kind values y name, schema_kind (header_in values) x schema)))))
              | inr other ↦ schemas_agree headers_one headers_apart (header_in values) x y schema other
            ]
      ]

  further_agree : (schema : SchemaTree) (count : ℕ) (values : Data) (x y : CallRefusal) → FurtherFault schema count values x → FurtherFault schema count values y → Both x y
  further_agree schema count values x y p q =
      elim p.1 [
        | inl head ↦
            elim q.1 [
              | inl other ↦ heads_agree headers_one headers_apart (header_in values) x y head other
              | inr batch ↦ inl (inl (head_of_a_batch headers_one headers_apart (header_in values) batch.0 x batch.1 head))
            ]
        | inr batch ↦
            elim q.1 [
              | inl head ↦ inr (inl (inl (head_of_a_batch headers_one headers_apart (header_in values) batch.0 y batch.1 head)))
              | inr other ↦ batches_agree faults_one faults_apart headers_one schema count (header_in values) (body_in values) x y batch other
            ]
      ]

  module _ (uploads_one : UploadsAreOne) where
    uploads_agree : (before : List (List ℕ)) (message : List ℕ) (x y : CallRefusal) → UploadFault before message x → UploadFault before message y → Both x y
    uploads_agree [] message x y p q = means_agree messages_one messages_apart data_descriptor OpeningFault opening_agree message x y p q
    uploads_agree (first ∷ others) message x y p q =
        elim p [
          | inl many ↦
              elim q [
                | inl too ↦ same x y (many.1 ∙ sym too.1)
                | inr k ↦ inr (inr (inr (inl (inr (inr (many.1, further_kind k.0.schema (length k.0.batches) message y k.2))))))
              ]
          | inr h ↦
              elim q [
                | inl many ↦ inr (inr (inr (inr (inr (inr (many.1, further_kind h.0.schema (length h.0.batches) message x h.2))))))
                | inr k ↦
                    let one = uploads_one (first ∷ others) h.0 k.0 h.1 k.1 in
                    means_agree messages_one messages_apart data_descriptor (FurtherFault k.0.schema (length k.0.batches))
                    (further_agree k.0.schema (length k.0.batches)) message x y
                    (subst (λ u. MeansAtFault data_descriptor (FurtherFault u.schema (length u.batches)) message x) one h.2) k.2
              ]
        ]

    -- ---- any message

    one_agrees : (type : MessageType) (F : Values type → CallRefusal → Type 0) → ((v : Values type) (x y : CallRefusal) → F v x → F v y → x ≡ y)
        → (before : List (List ℕ)) (message : List ℕ) (x y : CallRefusal) → OneFault (MeansAtFault type F) before message x → OneFault (MeansAtFault type F) before message y → Both x y
    one_agrees type F agree [] message x y p q =
        means_agree messages_one messages_apart type F (λ v a b f g. same a b (agree v a b f g)) message x y p q
    one_agrees type F agree (first ∷ others) message x y p q = same x y (p ∙ sym q)

    tables_agree : (d : Descriptor) (x y : CallRefusal) → TableFault d x → TableFault d y → x ≡ y
    tables_agree d x y p q = descriptors_agree ((table : List ℕ) × NamesTable d table) d x y p q

    pub messages_agree : (method : Method) (before : List (List ℕ)) (message : List ℕ) (x y : CallRefusal) → MessageFault method before message x
        → MessageFault method before message y → Both x y
    messages_agree methods.GetFlightInfo before message x y p q = one_agrees flight_descriptor_descriptor TableFault tables_agree before message x y p q
    messages_agree methods.GetSchema before message x y p q = one_agrees flight_descriptor_descriptor TableFault tables_agree before message x y p q
    messages_agree methods.ListFlights before message x y p q =
        one_agrees criteria_descriptor CriteriaFault (λ v a b f g. f.1 ∙ sym g.1) before message x y p q
    messages_agree methods.DoGet before message x y p q =
        one_agrees ticket_descriptor TicketFault (λ v a b f g. f.1 ∙ sym g.1) before message x y p q
    messages_agree methods.DoPut before message x y p q = uploads_agree before message x y p q

-- ---- the end

none_brought : (upload : Upload) → ¬ Brings [] upload
none_brought upload brings = no_first brings.first brings.others brings.messages_are
  where
    no_first : (first : List ℕ) (others : List (List ℕ)) → [] ≡ first ∷ others → ⊥
    no_first first others is = absurd cc

uploads_end : (messages : List (List ℕ)) (x y : CallRefusal) → UploadEndFault messages x → UploadEndFault messages y → x ≡ y
uploads_end messages x y p q =
    elim p [
      | inl none ↦
          elim q [
            | inl other ↦ none.1 ∙ sym other.1
            | inr large ↦ absurd (none_brought large.0 (subst (λ m. Brings m large.0) none.0 large.1))
          ]
      | inr large ↦
          elim q [
            | inl none ↦ absurd (none_brought large.0 (subst (λ m. Brings m large.0) none.0 large.1))
            | inr other ↦ large.3 ∙ sym other.3
          ]
    ]

pub ends_agree : (method : Method) (messages : List (List ℕ)) (x y : CallRefusal) → EndFault method messages x → EndFault method messages y → x ≡ y
ends_agree methods.GetFlightInfo messages x y p q = p.1 ∙ sym q.1
ends_agree methods.GetSchema messages x y p q = p.1 ∙ sym q.1
ends_agree methods.ListFlights messages x y p q = p.1 ∙ sym q.1
ends_agree methods.DoGet messages x y p q = p.1 ∙ sym q.1
ends_agree methods.DoPut messages x y p q = uploads_end messages x y p q

-- ---- the path

pub paths_agree : (path : List ℕ) (x y : CallRefusal) → PathFault path x → PathFault path y → x ≡ y
paths_agree path x y p q =
    elim p [
      | inl h ↦ elim q [ inl k ↦ h.1 ∙ sym k.1 | inr k ↦ absurd (h.0 k.0 k.1) ]
      | inr h ↦ elim q [ inl k ↦ absurd (k.0 h.0 h.1) | inr k ↦ h.3 ∙ sym k.3 ]
    ]

-- ---- some that do not agree

-- neither is one of those of which either may be told
abbrev IsNoneOfThese : CallRefusal → Type 0
IsNoneOfThese refusal =
    (¬ IsOfFields refusal) × (¬ IsOfAHeader refusal) × (¬ IsOfADescriptor refusal) × (refusal ≢ refusals.TooManyBatches)

no_either : (x y : CallRefusal) → IsNoneOfThese x → IsNoneOfThese y → (x ≡ refusals.MessageCount → ¬ IsOfAFurtherMessage y) → ¬ MayTellEither x y
no_either x y p q count either =
    elim either [
      | inl first ↦ p.2 first.0
      | inr other ↦ elim other [ inl many ↦ p.3 many.0 | inr message ↦ count message.0 message.1 ]
    ]

not_agreeing : (x y : CallRefusal) → IsNoneOfThese x → IsNoneOfThese y → x ≢ y → (x ≡ refusals.MessageCount → ¬ IsOfAFurtherMessage y)
    → (y ≡ refusals.MessageCount → ¬ IsOfAFurtherMessage x) → ¬ Agree x y
not_agreeing x y p q differ count other_count agree =
    elim agree [
      | inl one ↦
          elim one [
            | inl is ↦ differ is
            | inr kind ↦ elim kind [ inl fields ↦ p.0 fields.0 | inr header ↦ p.1 header.0 ]
          ]
      | inr either ↦
          elim either [
            | inl here ↦ no_either x y p q count here
            | inr there ↦ no_either y x q p other_count there
          ]
    ]

by_name : (refusal : CallRefusal) → ((fault : WireFault) → refusal ≢ refusals.Wire fault) → ((fault : MetaFault) → refusal ≢ refusals.Meta fault)
    → refusal ≢ refusals.BadDescriptor → refusal ≢ refusals.CmdDescriptor → refusal ≢ refusals.TooManyBatches → IsNoneOfThese refusal
by_name refusal fields header bad command many = (
  λ is. fields is.0 is.1,
  λ is. header is.0 is.1,
  λ is. elim is [ inl b ↦ bad b | inr c ↦ command c ],
  many,
)

bad_path : IsNoneOfThese refusals.BadPath
bad_path = by_name refusals.BadPath (λ f is. absurd cc) (λ f is. absurd cc) (λ is. absurd cc) (λ is. absurd cc) (λ is. absurd cc)

no_call : IsNoneOfThese refusals.NoCall
no_call = by_name refusals.NoCall (λ f is. absurd cc) (λ f is. absurd cc) (λ is. absurd cc) (λ is. absurd cc) (λ is. absurd cc)

message_count : IsNoneOfThese refusals.MessageCount
message_count = by_name refusals.MessageCount (λ f is. absurd cc) (λ f is. absurd cc) (λ is. absurd cc) (λ is. absurd cc) (λ is. absurd cc)

bad_ticket : IsNoneOfThese refusals.BadTicket
bad_ticket = by_name refusals.BadTicket (λ f is. absurd cc) (λ f is. absurd cc) (λ is. absurd cc) (λ is. absurd cc) (λ is. absurd cc)

no_schema : IsNoneOfThese refusals.NoSchema
no_schema = by_name refusals.NoSchema (λ f is. absurd cc) (λ f is. absurd cc) (λ is. absurd cc) (λ is. absurd cc) (λ is. absurd cc)

too_large : IsNoneOfThese refusals.TooLarge
too_large = by_name refusals.TooLarge (λ f is. absurd cc) (λ f is. absurd cc) (λ is. absurd cc) (λ is. absurd cc) (λ is. absurd cc)

no_ticket_further : ¬ IsOfAFurtherMessage refusals.BadTicket
no_ticket_further further =
    elim further [
      | inl fields ↦ bad_ticket.0 fields
      | inr a ↦
          elim a [
            | inl header ↦ bad_ticket.1 header
            | inr b ↦
                elim b [
                  | inl second ↦ let no_second : refusals.BadTicket ≡ refusals.SecondSchema = second in absurd cc
                  | inr c ↦
                      elim c [
                        | inl batch ↦ no_batch batch.0 batch.1
                        | inr many ↦ bad_ticket.3 many
                      ]
                ]
          ]
    ]
  where
    no_batch : (fault : BatchFault) → refusals.BadTicket ≡ refusals.Batch fault → ⊥
    no_batch fault is = absurd cc

pub some_differ : (¬ Agree refusals.BadPath refusals.NoCall) × (¬ Agree refusals.MessageCount refusals.BadTicket) × (¬ Agree refusals.NoSchema refusals.TooLarge)
some_differ = (
  not_agreeing refusals.BadPath refusals.NoCall bad_path no_call (λ is. absurd cc) (λ is. absurd cc) (λ is. absurd cc),
  not_agreeing refusals.MessageCount refusals.BadTicket message_count bad_ticket (λ is. absurd cc) (λ is. no_ticket_further) (λ is. absurd cc),
  not_agreeing refusals.NoSchema refusals.TooLarge no_schema too_large (λ is. absurd cc) (λ is. absurd cc) (λ is. absurd cc),
)
