-- A call is not refused for what stands in it.
use Rattle.std.proofs.Common.{length, length-append, ◌≤◌, ◌≡◌, ◌⊎◌, ◌+◌, ℕ, List, [], ◌∷◌, ◌++◌, refl, sym, ap, subst, ◌∙◌, append-nil, append_assoc, arith, inl, inr, Some, None}
use Rattle.std.specs.List.{AllByRecursion}
use Rattle.grpc_frames.specs.Frame.{Frame, frame_text, IsFrame}
use Rattle.grpc_frames.specs.FrameFaults.{FrameFaultStands}
use Rattle.grpc_frames.specs.FrameLaws.{NoFrameBeginsAnother, NoFaultAtAFrame}
use Rattle.grpc_frames.specs.declared.fault.FrameFault.{FrameFault}
use Rattle.grpc_frames.specs.declared.fault.FrameFault.TheVariants as frames
use Rattle.proto_fields.specs.declared.fault.WireFault.{WireFault}
use Rattle.proto_messages.specs.Descriptor.{Descriptor as MessageType, Values, IsMessage, TextFault, FieldIsAtFault}
use Rattle.proto_wire.specs.Flight.{flight_descriptor_descriptor, ticket_descriptor, criteria_descriptor, data_descriptor}
use Rattle.header_types.specs.Fields.{SchemaTree}
use Rattle.header_types.specs.Header.{Head, Header, schema_header, batch_header, ShowsHeader}
use Rattle.header_types.specs.declared.fault.MetaFault.{MetaFault}
use Rattle.header_reading.specs.Faults.{HeaderFault}
use Rattle.batch_types.specs.declared.fault.BatchFault.{BatchFault}
use Rattle.batch_types.specs.declared.fault.BatchFault.TheVariants as batches
use Rattle.batch_types.specs.Cells.{Rows}
use Rattle.batch_types.specs.LaysOut.{LaysOut}
use Rattle.record_batches.specs.Reading.{IsToldOf}
use Rattle.table_types.specs.Uploads.{Upload}
use Rattle.table_types.specs.Served.{in_frame}
use Rattle.table_types.specs.Valid.{FitsFrame, batches_limit}
use Rattle.table_types.specs.Ticket.{TableVersion}
use Rattle.uploads.specs.Making.{IsSmall}
use Rattle.call_protocol.specs.declared.method.Method.{Method}
use Rattle.call_protocol.specs.declared.method.Method.TheVariants as methods
use Rattle.call_protocol.specs.declared.refusal.CallRefusal.{CallRefusal}
use Rattle.call_protocol.specs.declared.refusal.CallRefusal.TheVariants as refusals
use Rattle.call_protocol.specs.Methods.{path_text, PathFault}
use Rattle.call_protocol.specs.Names.{Descriptor, NamesTable, NamesUpload, TableFault, UploadNameFault}
use Rattle.call_protocol.specs.Texts.{messages_text, end_text}
use Rattle.call_reading.specs.Requests.{Request, describes, shows, lists, serves, puts, AsksForTable, AsksForAll, AsksForVersion, HasOne, Data, header_in, body_in, Opens, HasBatch, Adds, AddAll, Brings, BringsUpload, method_of, MessagesMean, messages_limit, IsCall}
use Rattle.call_reading.specs.Faults.{IsNoMessage, MeansAtFault, CriteriaFault, TicketFault, IsNoHeader, OpeningFault, FurtherFault, BatchFaultIn, OneFault, UploadFault, MessageFault, EndsEarly, UploadEndFault, EndFault, IsOneOrNone, IsUploadOrNone, IsFaultlessSoFar, IsFaultlessEnd, FrameBreaks, BreaksMessages, RefusalStands, IsOfMemory, IsOfTheMachine}
use Rattle.call_reading.proofs.Apart.{message_frame, end_frame, is_message, is_end, front_message, no_end_here, path_fits, call_parts, MessagesAreOne, HeadersAreOne, BatchesAreOne, TablesAreOne, NamesAreOne, TicketsAreOne, nothing_shown, same_head, same_first, one_opening, one_list, one_upload}

-- ---- frames

frame_some : (f : Frame) (rest : List ℕ) → frame_text f ++ rest ≡ [] → ⊥
frame_some f rest none = cc

module _ (law : NoFrameBeginsAnother) (no_fault : NoFaultAtAFrame) where
  told_of_frame : (f : Frame) (rest : List ℕ) (fault : FrameFault) → IsFrame f → FrameFaultStands fault (frame_text f ++ rest) → IsOfTheMachine (refusals.Frame fault)
  told_of_frame f rest frames.Truncated is stands = absurd (no_fault f rest frames.Truncated is (λ same. cc, λ same. cc) stands)
  told_of_frame f rest frames.BadFlag is stands = absurd (no_fault f rest frames.BadFlag is (λ same. cc, λ same. cc) stands)
  told_of_frame f rest frames.Compressed is stands = absurd (no_fault f rest frames.Compressed is (λ same. cc, λ same. cc) stands)
  told_of_frame f rest frames.TooLong is stands = absurd (no_fault f rest frames.TooLong is (λ same. cc, λ same. cc) stands)
  told_of_frame f rest frames.Io is stands = inr refl
  told_of_frame f rest frames.OutOfMemory is stands = inl refl

  no_break : (f : Frame) (rest here after : List ℕ) (refusal : CallRefusal) → IsFrame f → (f.flag ≡ 0) ⊎ (f.payload ≡ []) → here ≡ frame_text f ++ rest → FrameBreaks here after refusal → IsOfTheMachine refusal
  no_break f rest here after refusal is kind front breaks =
      elim breaks [
        | inl fault ↦ subst (λ r. IsOfTheMachine r) (sym fault.3) (told_of_frame f rest fault.0 is (subst (λ h. FrameFaultStands fault.0 h) front fault.1))
        | inr behind ↦
            elim behind [
              | inl none ↦ absurd (frame_some f rest (sym front ∙ none.0))
              | inr ended ↦
                  let ending : Frame = record { flag = 128; payload = ended.0 } in
                  let same = (law f ending rest after is (record { flag = inr refl; payload = ended.2 }) (sym front ∙ ended.3)).0 in
                  elim kind [
                    | inl flag ↦ absurd (omega (arith, flag, ap (λ g. g.flag) same))
                    | inr payload ↦ absurd (ended.1 (sym (ap (λ g. g.payload) same) ∙ payload))
                  ]
            ]
      ]

  -- the messages before a place are the first of the call's
  record Beyond (messages before : List (List ℕ)) (place rest : List ℕ) : Type 0 where
    pub more : List (List ℕ)
    pub are : messages ≡ before ++ more
    pub front : place ≡ messages_text more ++ (end_text ++ rest)
    pub fit : AllByRecursion FitsFrame more

  beyond : (messages before : List (List ℕ)) (place rest : List ℕ) → AllByRecursion FitsFrame messages → AllByRecursion FitsFrame before
      → messages_text messages ++ (end_text ++ rest) ≡ messages_text before ++ place → Beyond messages before place rest
  beyond messages [] place rest fit other same = record { more = messages; are = refl; front = sym same; fit = fit }
  beyond [] (b ∷ bs) place rest fit other same =
      absurd (no_end_here law b (messages_text bs ++ place) rest other.0 (sym (append_assoc (in_frame b) (messages_text bs) place) ∙ sym same))
  beyond (m ∷ ms) (b ∷ bs) place rest fit other same =
      let front = front_message law m b (messages_text ms ++ (end_text ++ rest)) (messages_text bs ++ place) fit.0 other.0
      (sym (append_assoc (in_frame m) (messages_text ms) (end_text ++ rest)) ∙ same ∙ append_assoc (in_frame b) (messages_text bs) place) in
      let h = beyond ms bs place rest fit.1 other.1 front.1 in
      record { more = h.more; are = ap (λ x. x ∷ ms) front.0 ∙ ap (λ l. b ∷ l) h.are; front = h.front; fit = h.fit }

  at_place : (more : List (List ℕ)) (place rest after : List ℕ) (refusal : CallRefusal) → AllByRecursion FitsFrame more → place ≡ messages_text more ++ (end_text ++ rest) → FrameBreaks place after refusal
      → IsOfTheMachine refusal
  at_place [] place rest after refusal fit front breaks = no_break end_frame rest place after refusal is_end (inr refl) front breaks
  at_place (m ∷ ms) place rest after refusal fit front breaks =
      no_break (message_frame m) (messages_text ms ++ (end_text ++ rest)) place after refusal (is_message m fit.0) (inl refl)
      (front ∙ append_assoc (in_frame m) (messages_text ms) (end_text ++ rest)) breaks

  next_is : (more : List (List ℕ)) (place rest after message : List ℕ) → AllByRecursion FitsFrame more → FitsFrame message → place ≡ messages_text more ++ (end_text ++ rest) → place ≡ in_frame message ++ after
      → (others : List (List ℕ)) × (more ≡ message ∷ others)
  next_is [] place rest after message fit fits front here = absurd (no_end_here law message after rest fits (sym here ∙ front))
  next_is (m ∷ ms) place rest after message fit fits front here = (
    ms,
    ap (λ x. x ∷ ms) (front_message law m message (messages_text ms ++ (end_text ++ rest)) after fit.0 fits
        (sym (append_assoc (in_frame m) (messages_text ms) (end_text ++ rest)) ∙ sym front ∙ here)).0,
  )

  none_is : (more : List (List ℕ)) (place rest after : List ℕ) → AllByRecursion FitsFrame more → place ≡ messages_text more ++ (end_text ++ rest) → place ≡ end_text ++ after → more ≡ []
  none_is [] place rest after fit front here = refl
  none_is (m ∷ ms) place rest after fit front here =
      absurd (no_end_here law m (messages_text ms ++ (end_text ++ rest)) after fit.0
      (sym (append_assoc (in_frame m) (messages_text ms) (end_text ++ rest)) ∙ sym front ∙ here))

-- ---- one message

not_behind : (xs ys : List (List ℕ)) (y : List ℕ) → [] ≡ xs ++ y ∷ ys → ⊥
not_behind [] ys y none = cc
not_behind (x ∷ xs) ys y none = cc

not_none : (messages others : List (List ℕ)) (first : List ℕ) → messages ≡ first ∷ others → messages ≡ [] → ⊥
not_none messages others first are none = cc

one_stands : (P : List ℕ → Type 0) (F : List ℕ → CallRefusal → Type 0) → ((m : List ℕ) (r : CallRefusal) → P m → F m r → IsOfMemory r)
    → (messages before others : List (List ℕ)) (message : List ℕ) (refusal : CallRefusal) → HasOne P messages → messages ≡ before ++ message ∷ others → OneFault F before message refusal → IsOfMemory refusal
one_stands P F apart messages [] others message refusal h are fault =
    apart message refusal (subst P (same_first h.0 message [] others (sym h.1 ∙ are)).0 h.2) fault
one_stands P F apart messages (b ∷ bs) others message refusal h are fault =
    absurd (not_behind bs others message (same_first h.0 b [] (bs ++ message ∷ others) (sym h.1 ∙ are)).1)

one_faultless : (P : List ℕ → Type 0) (F : List ℕ → CallRefusal → Type 0) → ((m : List ℕ) (r : CallRefusal) → P m → F m r → IsOfMemory r)
    → (before : List (List ℕ)) (message : List ℕ) (refusal : CallRefusal) → IsOneOrNone P (before ++ message ∷ []) → OneFault F before message refusal → IsOfMemory refusal
one_faultless P F apart [] message refusal h fault = apart message refusal h fault
one_faultless P F apart (b ∷ []) message refusal h fault = absurd h
one_faultless P F apart (b ∷ c ∷ bs) message refusal h fault = absurd h

one_ends : (P : List ℕ → Type 0) (messages : List (List ℕ)) (refusal : CallRefusal) → HasOne P messages → EndsEarly messages refusal → IsOfMemory refusal
one_ends P messages refusal h early = absurd (not_none messages [] h.0 h.1 early.0)

abbrev pub MessagesApart : Type 0
MessagesApart = (type : MessageType) (text : List ℕ) (fault : WireFault) (v : Values type) → TextFault (FieldIsAtFault type) fault text → ¬ IsMessage type text v

abbrev pub HeadersApart : Type 0
HeadersApart = (text : List ℕ) (e : MetaFault) (x : Header) → HeaderFault text e → ¬ ShowsHeader text x

abbrev pub BatchesApart : Type 0
BatchesApart = (schema : SchemaTree) (head : Head) (body : List ℕ) (fault : BatchFault) (rows : Rows) → IsToldOf schema head body fault → LaysOut schema head body rows → fault ≡ batches.OutOfMemory

abbrev pub TablesApart : Type 0
TablesApart = (d : Descriptor) (x : List ℕ) (refusal : CallRefusal) → NamesTable d x → ¬ TableFault d refusal

abbrev pub NamesApart : Type 0
NamesApart = (d : Descriptor) (t x : List ℕ) (refusal : CallRefusal) → NamesUpload d t x → ¬ UploadNameFault d refusal

some_is_none : (x : Data) (d : Descriptor) → x.0 ≡ Some d → x.0 ≡ None → ⊥
some_is_none x d is none = cc

some_same : (x : Data) (d e : Descriptor) → x.0 ≡ Some d → x.0 ≡ Some e → d ≡ e
some_same x d e is other = cc

kinds_differ : (schema : SchemaTree) (head : Head) → batch_header head ≡ schema_header schema → ⊥
kinds_differ schema head same = cc

module _ (messages_one : MessagesAreOne) (messages_apart : MessagesApart) where
  pub means_none : (type : MessageType) (message : List ℕ) (v : Values type) (refusal : CallRefusal) → IsMessage type message v → IsNoMessage type message refusal → IsOfMemory refusal
  means_none type message v refusal means n =
      elim n.stands [
        | inl memory ↦ subst (λ r. IsOfMemory r) (sym n.is) memory
        | inr fault ↦ absurd (messages_apart type message n.fault v fault means)
      ]

  meant : (type : MessageType) (F : Values type → CallRefusal → Type 0) (message : List ℕ) (v : Values type) (refusal : CallRefusal) → IsMessage type message v → (F v refusal → IsOfMemory refusal)
      → MeansAtFault type F message refusal → IsOfMemory refusal
  meant type F message v refusal means apart fault =
      elim fault [
        | inl none ↦ means_none type message v refusal means none
        | inr other ↦ apart (subst (λ x. F x refusal) (messages_one type message other.0 v other.1 means) other.2)
      ]

  table_stands : TablesApart → (table m : List ℕ) (r : CallRefusal) → AsksForTable m table → MeansAtFault flight_descriptor_descriptor TableFault m r → IsOfMemory r
  table_stands apart table m r a fault =
      meant flight_descriptor_descriptor TableFault m a.descriptor r a.means (λ f. absurd (apart a.descriptor table r a.names f)) fault

  all_stand : (m : List ℕ) (r : CallRefusal) → AsksForAll m → MeansAtFault criteria_descriptor CriteriaFault m r → IsOfMemory r
  all_stand m r a fault = meant criteria_descriptor CriteriaFault m ([], tt) r a (λ f. absurd (f.0 refl)) fault

  version_stands : (asked : TableVersion) (m : List ℕ) (r : CallRefusal) → AsksForVersion m asked → MeansAtFault ticket_descriptor TicketFault m r → IsOfMemory r
  version_stands asked m r a fault =
      meant ticket_descriptor TicketFault m (a.ticket, tt) r a.means
      (λ f. absurd (f.0 asked a.is_ticket)) fault

-- ---- uploads

pub no_header : HeadersApart → (header : List ℕ) (shown : Header) (refusal : CallRefusal) → ShowsHeader header shown → IsNoHeader header refusal → IsOfMemory refusal
no_header apart header shown refusal is_shown n =
    elim n.stands [
      | inl fault ↦ absurd (apart header n.fault shown fault is_shown)
      | inr memory ↦ subst (λ r. IsOfMemory r) (sym n.is) memory.0
    ]

-- what a message adds among others
record Among (schema : SchemaTree) (xs : List (List ℕ)) (message : List ℕ) (all : List Rows) : Type 0 where
  pub before : List Rows
  pub own : List Rows
  pub first : AddAll schema xs before
  pub adds : Adds schema message own
  pub sum : length before + length own ≤ length all

among : (schema : SchemaTree) (xs ys : List (List ℕ)) (message : List ℕ) (all : List Rows) → AddAll schema (xs ++ message ∷ ys) all → Among schema xs message all
among schema [] ys message all h =
    record { before = []; own = h.0; first = refl; adds = h.2; sum = omega (arith, ap length h.4, length-append h.0 h.1) }
among schema (x ∷ xs) ys message all h =
    let a = among schema xs ys message h.1 h.3 in
    record {
      before = h.0 ++ a.before;
      own = a.own;
      first = (h.0, a.before, h.2, a.first, refl);
      adds = a.adds;
      sum = omega (arith, a.sum, ap length h.4, length-append h.0 h.1, length-append h.0 a.before);
    }

module _ (messages_one : MessagesAreOne) (headers_one : HeadersAreOne) (batches_one : BatchesAreOne) (tables_one : TablesAreOne) (names_one : NamesAreOne) (tickets_one : TicketsAreOne) (messages_apart : MessagesApart) (headers_apart : HeadersApart) (batches_apart : BatchesApart) (tables_apart : TablesApart) (names_apart : NamesApart) where
  opening_stands : (message table id : List ℕ) (schema : SchemaTree) (refusal : CallRefusal) → Opens message table id schema → MeansAtFault data_descriptor OpeningFault message refusal → IsOfMemory refusal
  opening_stands message table id schema refusal o fault =
      meant messages_one messages_apart data_descriptor OpeningFault message o.values refusal o.means
      (λ f. elim f [
        | inl none ↦ absurd (some_is_none o.values o.descriptor o.descriptor_is none.0)
        | inr g ↦
            elim g [
              | inl named ↦
                  absurd (names_apart o.descriptor table id refusal o.names
                  (subst (λ d. UploadNameFault d refusal) (some_same o.values named.0 o.descriptor named.1 o.descriptor_is) named.2))
              | inr s ↦
                  elim s [
                    | inl missing ↦
                        elim missing.1 [
                          | inl empty ↦ absurd (nothing_shown (schema_header schema) (subst (λ h. ShowsHeader h (schema_header schema)) empty o.shows_schema))
                          | inr batch ↦
                              absurd (kinds_differ schema batch.0 (headers_one (header_in o.values) (batch_header batch.0) (schema_header schema) batch.1 o.shows_schema))
                        ]
                    | inr bad ↦ no_header headers_apart (header_in o.values) (schema_header schema) refusal o.shows_schema bad.1
                  ]
            ]
      ])
      fault

  batch_stands : (schema : SchemaTree) (header body : List ℕ) (rows : Rows) (count : ℕ) (refusal : CallRefusal) → HasBatch schema header body rows → count + 1 ≤ batches_limit → BatchFaultIn schema count header body refusal → IsOfMemory refusal
  batch_stands schema header body rows count refusal b few fault =
      elim fault.2 [
        | inl told ↦
            let same = same_head fault.0 b.head (headers_one header (batch_header fault.0) (batch_header b.head) fault.1 b.shows_head) in
            subst (λ r. IsOfMemory r) (sym told.2)
            (batches_apart schema b.head body told.0 rows (subst (λ h. IsToldOf schema h body told.0) same told.1) b.lays_out)
        | inr many ↦ absurd (omega (arith, few, many.0))
      ]

  addition_stands : (schema : SchemaTree) (message : List ℕ) (own : List Rows) (count : ℕ) (refusal : CallRefusal) → Adds schema message own → count + length own ≤ batches_limit
      → MeansAtFault data_descriptor (FurtherFault schema count) message refusal → IsOfMemory refusal
  addition_stands schema message own count refusal a few fault =
      meant messages_one messages_apart data_descriptor (FurtherFault schema count) message a.values refusal a.means
      (λ f. elim a.adds [
        | inl blank ↦ absurd (f.0 blank.0)
        | inr batch ↦
            elim f.1 [
              | inl head ↦
                  elim head [
                    | inl bad ↦ no_header headers_apart (header_in a.values) (batch_header batch.1.head) refusal batch.1.shows_head bad
                    | inr second ↦
                        absurd (kinds_differ second.0.0 batch.1.head
                        (headers_one (header_in a.values) (batch_header batch.1.head) (schema_header second.0.0) batch.1.shows_head second.0.1))
                  ]
              | inr inside ↦
                  batch_stands schema (header_in a.values) (body_in a.values) batch.0 count refusal batch.1 (omega (arith, few, ap length batch.2)) inside
            ]
      ])
      fault

  further_stands : (messages bs others : List (List ℕ)) (f message : List ℕ) (upload taken : Upload) (refusal : CallRefusal) → Brings messages upload → length upload.batches ≤ batches_limit
      → messages ≡ f ∷ (bs ++ message ∷ others) → Brings (f ∷ bs) taken → MeansAtFault data_descriptor (FurtherFault taken.schema (length taken.batches)) message refusal → IsOfMemory refusal
  further_stands messages bs others f message upload taken refusal b few are a fault =
      let fronts = same_first b.first f b.others (bs ++ message ∷ others) (sym b.messages_are ∙ are) in
      let inner = same_first f a.first bs a.others a.messages_are in
      let schema =
      (one_opening messages_one headers_one batches_one tables_one names_one tickets_one a.first taken.table upload.table taken.id upload.id taken.schema upload.schema a.opens
      (subst (λ m. Opens m upload.table upload.id upload.schema) (fronts.0 ∙ inner.0) b.opens)).2 in
      let s = among upload.schema bs others message upload.batches (subst (λ m. AddAll upload.schema m upload.batches) fronts.1 b.adds) in
      let moved : AddAll upload.schema bs taken.batches =
      subst (λ x. AddAll x bs taken.batches) schema (subst (λ m. AddAll taken.schema m taken.batches) (sym inner.1) a.adds) in
      let same = one_list messages_one headers_one batches_one tables_one names_one tickets_one upload.schema bs s.before taken.batches s.first moved in
      addition_stands upload.schema message s.own (length taken.batches) refusal s.adds (omega (arith, few, s.sum, ap length same))
      (subst (λ x. MeansAtFault data_descriptor (FurtherFault x (length taken.batches)) message refusal) schema fault)

  upload_stands : (text : List ℕ) (messages before others : List (List ℕ)) (message : List ℕ) (refusal : CallRefusal) → BringsUpload messages text → length messages ≤ messages_limit → messages ≡ before ++ message ∷ others
      → UploadFault before message refusal → IsOfMemory refusal
  upload_stands text messages [] others message refusal u few are fault =
      let b = u.1 in
      let front = same_first b.first message b.others others (sym b.messages_are ∙ are) in
      opening_stands message u.0.table u.0.id u.0.schema refusal (subst (λ m. Opens m u.0.table u.0.id u.0.schema) front.0 b.opens) fault
  upload_stands text messages (f ∷ bs) others message refusal u few are fault =
      elim fault [
        | inl full ↦ absurd (omega (arith, full.0, few, ap length are, length-append (f ∷ bs) (message ∷ others)))
        | inr further ↦ further_stands messages bs others f message u.0 further.0 refusal u.1 u.2.batches_few are further.1 further.2
      ]

  upload_ends : (text : List ℕ) (messages : List (List ℕ)) (refusal : CallRefusal) → BringsUpload messages text → UploadEndFault messages refusal → IsOfMemory refusal
  upload_ends text messages refusal u fault =
      elim fault [
        | inl none ↦ absurd (not_none messages u.1.others u.1.first u.1.messages_are none.0)
        | inr large ↦
            let same = one_upload messages_one headers_one batches_one tables_one names_one tickets_one messages u.0 large.0 u.1 large.1 in
            let small : IsSmall u.0 = record { short = u.2.short; schema_served = u.2.schema_served; batches_served = u.2.batches_served } in
            absurd (large.2 (subst (λ x. IsSmall x) same small))
      ]

  -- ---- whole calls

  message_stands : (request : Request) (messages before others : List (List ℕ)) (message : List ℕ) (refusal : CallRefusal) → MessagesMean request messages → length messages ≤ messages_limit → messages ≡ before ++ message ∷ others
      → MessageFault (method_of request) before message refusal → IsOfMemory refusal
  message_stands (describes t) messages before others message refusal mean few are fault =
      one_stands (λ m. AsksForTable m t) (MeansAtFault flight_descriptor_descriptor TableFault) (table_stands messages_one messages_apart tables_apart t) messages before others message refusal mean are fault
  message_stands (shows t) messages before others message refusal mean few are fault =
      one_stands (λ m. AsksForTable m t) (MeansAtFault flight_descriptor_descriptor TableFault) (table_stands messages_one messages_apart tables_apart t) messages before others message refusal mean are fault
  message_stands lists messages before others message refusal mean few are fault =
      one_stands AsksForAll (MeansAtFault criteria_descriptor CriteriaFault) (all_stand messages_one messages_apart) messages before others message refusal mean are fault
  message_stands (serves v) messages before others message refusal mean few are fault =
      one_stands (λ m. AsksForVersion m v) (MeansAtFault ticket_descriptor TicketFault) (version_stands messages_one messages_apart v) messages before others message refusal mean are fault
  message_stands (puts text) messages before others message refusal mean few are fault =
      upload_stands text messages before others message refusal mean few are fault

  end_stands : (request : Request) (messages : List (List ℕ)) (refusal : CallRefusal) → MessagesMean request messages → EndFault (method_of request) messages refusal → IsOfMemory refusal
  end_stands (describes t) messages refusal mean fault = one_ends (λ m. AsksForTable m t) messages refusal mean fault
  end_stands (shows t) messages refusal mean fault = one_ends (λ m. AsksForTable m t) messages refusal mean fault
  end_stands lists messages refusal mean fault = one_ends AsksForAll messages refusal mean fault
  end_stands (serves v) messages refusal mean fault = one_ends (λ m. AsksForVersion m v) messages refusal mean fault
  end_stands (puts text) messages refusal mean fault = upload_ends text messages refusal mean fault

  -- ---- messages without fault so far

  upload_faultless : (before : List (List ℕ)) (message : List ℕ) (refusal : CallRefusal) → IsUploadOrNone (before ++ message ∷ []) → UploadFault before message refusal → IsOfMemory refusal
  upload_faultless [] message refusal h fault =
      let front = same_first h.1.first message h.1.others [] (sym h.1.messages_are) in
      opening_stands message h.0.table h.0.id h.0.schema refusal (subst (λ m. Opens m h.0.table h.0.id h.0.schema) front.0 h.1.opens) fault
  upload_faultless (f ∷ bs) message refusal h fault =
      elim fault [
        | inl full ↦ absurd (omega (arith, full.0, h.3, length-append (f ∷ bs) (message ∷ [])))
        | inr further ↦ further_stands ((f ∷ bs) ++ message ∷ []) bs [] f message h.0 further.0 refusal h.1 h.2 refl further.1 further.2
      ]

  pub message_faultless : (method : Method) (before : List (List ℕ)) (message : List ℕ) (refusal : CallRefusal) → IsFaultlessSoFar method (before ++ message ∷ []) → MessageFault method before message refusal
      → IsOfMemory refusal
  message_faultless methods.GetFlightInfo before message refusal h fault =
      one_faultless (λ m. (table : List ℕ) × AsksForTable m table) (MeansAtFault flight_descriptor_descriptor TableFault)
      (λ m r a f. table_stands messages_one messages_apart tables_apart a.0 m r a.1 f) before message refusal h fault
  message_faultless methods.GetSchema before message refusal h fault =
      one_faultless (λ m. (table : List ℕ) × AsksForTable m table) (MeansAtFault flight_descriptor_descriptor TableFault)
      (λ m r a f. table_stands messages_one messages_apart tables_apart a.0 m r a.1 f) before message refusal h fault
  message_faultless methods.ListFlights before message refusal h fault =
      one_faultless AsksForAll (MeansAtFault criteria_descriptor CriteriaFault) (all_stand messages_one messages_apart) before message refusal h fault
  message_faultless methods.DoGet before message refusal h fault =
      one_faultless (λ m. (asked : TableVersion) × AsksForVersion m asked) (MeansAtFault ticket_descriptor TicketFault)
      (λ m r a f. version_stands messages_one messages_apart a.0 m r a.1 f) before message refusal h fault
  message_faultless methods.DoPut before message refusal h fault = upload_faultless before message refusal h fault

  pub end_faultless : (method : Method) (messages : List (List ℕ)) (refusal : CallRefusal) → IsFaultlessEnd method messages → EndFault method messages refusal → IsOfMemory refusal
  end_faultless methods.GetFlightInfo messages refusal some fault = absurd (some fault.0)
  end_faultless methods.GetSchema messages refusal some fault = absurd (some fault.0)
  end_faultless methods.ListFlights messages refusal some fault = absurd (some fault.0)
  end_faultless methods.DoGet messages refusal some fault = absurd (some fault.0)
  end_faultless methods.DoPut messages refusal h fault =
      elim fault [
        | inl none ↦ absurd (not_none messages h.1.others h.1.first h.1.messages_are none.0)
        | inr large ↦
            let same = one_upload messages_one headers_one batches_one tables_one names_one tickets_one messages h.0 large.0 h.1 large.1 in
            absurd (large.2 (subst (λ x. IsSmall x) same h.2))
      ]

  -- ---- a whole call

  of_memory : (refusal : CallRefusal) → refusal ≡ refusals.OutOfMemory → IsOfMemory refusal
  of_memory refusal is = subst (λ r. IsOfMemory r) (sym is) tt

  whole : (before messages more : List (List ℕ)) → messages ≡ before ++ more → more ≡ [] → before ≡ messages
  whole before messages more are none = sym (are ∙ ap (λ l. before ++ l) none ∙ append-nil before)

  behind_the_path : NoFrameBeginsAnother → NoFaultAtAFrame → (request : Request) (messages : List (List ℕ)) (here rest after : List ℕ) (refusal : CallRefusal) → AllByRecursion FitsFrame messages
      → length messages ≤ messages_limit → MessagesMean request messages → here ≡ messages_text messages ++ (end_text ++ rest) → BreaksMessages (method_of request) here after refusal → IsOfTheMachine refusal
  behind_the_path law no_fault request messages here rest after refusal fit few mean front b =
      let y = beyond law no_fault messages b.before b.place rest fit b.fit (sym front ∙ b.parts) in
      elim b.breaks [
        | inl frame ↦ at_place law no_fault y.more b.place rest after refusal y.fit y.front frame
        | inr breaks ↦
            inl (elim breaks [
              | inl m ↦
                  let next = next_is law no_fault y.more b.place rest after m.0 y.fit m.2 y.front m.1 in
                  elim m.3 [
                    | inl fault ↦ message_stands request messages b.before next.0 m.0 refusal mean few (y.are ∙ ap (λ l. b.before ++ l) next.1) fault
                    | inr memory ↦ of_memory refusal memory.1
                  ]
              | inr ended ↦
                  let none = none_is law no_fault y.more b.place rest after y.fit y.front ended.0 in
                  elim ended.1 [
                    | inl fault ↦ end_stands request messages refusal mean (subst (λ ms. EndFault (method_of request) ms refusal) (whole b.before messages y.more y.are none) fault)
                    | inr memory ↦ of_memory refusal memory.1
                  ]
            ])
      ]

  pub not_refused : NoFrameBeginsAnother → NoFaultAtAFrame → ((x y : Method) → path_text x ≡ path_text y → x ≡ y) → ((x : Method) (refusal : CallRefusal) → ¬ PathFault (path_text x) refusal)
      → (text rest after : List ℕ) (request : Request) (refusal : CallRefusal) → IsCall text request rest → RefusalStands refusal text after → IsOfTheMachine refusal
  not_refused law no_fault paths path_apart text rest after request refusal h stands =
      let path = path_text (method_of request) in
      let behind = messages_text h.messages ++ (end_text ++ rest) in
      let front : text ≡ in_frame path ++ behind = h.parts ∙ call_parts path h.messages rest in
      elim stands [
        | inl frame ↦ no_break law no_fault (message_frame path) behind text after refusal (is_message path (path_fits (method_of request))) (inl refl) front frame
        | inr other ↦
            elim other [
              | inl at_path ↦
                  elim at_path [
                    | inl none ↦ absurd (no_end_here law path behind after (path_fits (method_of request)) (sym front ∙ none.0))
                    | inr p ↦
                        let same = front_message law p.0 path after behind p.2 (path_fits (method_of request)) (sym p.1 ∙ front) in
                        absurd (path_apart (method_of request) refusal (subst (λ x. PathFault x refusal) same.0 p.3))
                  ]
              | inr b ↦
                  let same = front_message law (path_text b.0) path b.1 behind (path_fits b.0) (path_fits (method_of request)) (sym b.2 ∙ front) in
                  behind_the_path law no_fault request h.messages b.1 rest after refusal h.fit h.few h.mean same.1
                  (subst (λ m. BreaksMessages m b.1 after refusal) (paths b.0 (method_of request) same.0) b.3)
            ]
      ]
