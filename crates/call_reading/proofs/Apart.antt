-- A text begins with one call at most.
use Rattle.std.proofs.Common.{length, length-append, ◌≤◌, ◌≡◌, ◌⊎◌, ℕ, List, [], ◌∷◌, ◌++◌, refl, sym, ap, subst, ◌∙◌, append_assoc, arith, inl, inr, Some}
use Rattle.std.specs.List.{AllByRecursion}
use Rattle.grpc_frames.specs.Frame.{Frame, IsFrame}
use Rattle.grpc_frames.specs.FrameLaws.{NoFrameBeginsAnother}
use Rattle.proto_messages.specs.Descriptor.{Descriptor as MessageType, Values, IsMessage}
use Rattle.proto_wire.specs.Flight.{flight_descriptor_descriptor, ticket_descriptor, data_descriptor}
use Rattle.header_types.specs.Fields.{SchemaTree}
use Rattle.header_types.specs.Header.{Head, Header, schema_header, batch_header, ShowsHeader}
use Rattle.batch_types.specs.Cells.{Rows}
use Rattle.batch_types.specs.LaysOut.{LaysOut}
use Rattle.table_types.specs.Uploads.{Upload, upload_text}
use Rattle.table_types.specs.Served.{in_frame}
use Rattle.table_types.specs.Valid.{FitsFrame}
use Rattle.table_types.specs.Ticket.{TableVersion, IsTicket}
use Rattle.call_protocol.specs.declared.method.Method.{Method}
use Rattle.call_protocol.specs.declared.method.Method.TheVariants as methods
use Rattle.call_protocol.specs.Methods.{path_text}
use Rattle.call_protocol.specs.Names.{Descriptor, NamesTable, NamesUpload}
use Rattle.call_protocol.specs.Texts.{messages_text, end_text, call_text}
use Rattle.call_reading.specs.Requests.{Request, describes, shows, lists, serves, puts, AsksForTable, AsksForVersion, Data, header_in, body_in, Opens, IsBlank, HasBatch, Adds, AddAll, Brings, method_of, MessagesMean, IsCall}

-- ---- frames

abbrev pub message_frame : List ℕ → Frame
message_frame payload = record { flag = 0; payload = payload }

abbrev pub end_frame : Frame
end_frame = record { flag = 128; payload = [] }

pub is_message : (payload : List ℕ) → FitsFrame payload → IsFrame (message_frame payload)
is_message payload fits = record { flag = inl refl; payload = fits }

pub is_end : IsFrame end_frame
is_end = record { flag = inr refl; payload = omega arith }

module _ (law : NoFrameBeginsAnother) where
  pub front_message : (x y : List ℕ) (a b : List ℕ) → FitsFrame x → FitsFrame y → in_frame x ++ a ≡ in_frame y ++ b → (x ≡ y) × (a ≡ b)
  front_message x y a b fits_x fits_y same =
      let h = law (message_frame x) (message_frame y) a b (is_message x fits_x) (is_message y fits_y) same in
      (ap (λ f. f.payload) h.0, h.1)

  pub no_end_here : (x a b : List ℕ) → FitsFrame x → in_frame x ++ a ≡ end_text ++ b → ⊥
  no_end_here x a b fits same =
      let h = law (message_frame x) end_frame a b (is_message x fits) is_end same in
      absurd (omega (arith, ap (λ f. f.flag) h.0))

  same_messages : (xs ys : List (List ℕ)) (a b : List ℕ) → AllByRecursion FitsFrame xs → AllByRecursion FitsFrame ys
      → messages_text xs ++ (end_text ++ a) ≡ messages_text ys ++ (end_text ++ b) → (xs ≡ ys) × (a ≡ b)
  same_messages [] [] a b fit other same = (refl, (law end_frame end_frame a b is_end is_end same).1)
  same_messages [] (y ∷ ys) a b fit other same =
      absurd (no_end_here y (messages_text ys ++ (end_text ++ b)) a other.0 (sym (append_assoc (in_frame y) (messages_text ys) (end_text ++ b)) ∙ sym same))
  same_messages (x ∷ xs) [] a b fit other same =
      absurd (no_end_here x (messages_text xs ++ (end_text ++ a)) b fit.0 (sym (append_assoc (in_frame x) (messages_text xs) (end_text ++ a)) ∙ same))
  same_messages (x ∷ xs) (y ∷ ys) a b fit other same =
      let front = front_message x y (messages_text xs ++ (end_text ++ a)) (messages_text ys ++ (end_text ++ b)) fit.0 other.0
      (sym (append_assoc (in_frame x) (messages_text xs) (end_text ++ a)) ∙ same ∙ append_assoc (in_frame y) (messages_text ys) (end_text ++ b)) in
      let behind = same_messages xs ys a b fit.1 other.1 front.1 in
      (ap (λ m. m ∷ xs) front.0 ∙ ap (λ l. y ∷ l) behind.0, behind.1)

pub path_fits : (method : Method) → FitsFrame (path_text method)
path_fits methods.GetFlightInfo = omega arith
path_fits methods.GetSchema = omega arith
path_fits methods.ListFlights = omega arith
path_fits methods.DoGet = omega arith
path_fits methods.DoPut = omega arith

pub call_parts : (path : List ℕ) (messages : List (List ℕ)) (rest : List ℕ) → call_text path messages ++ rest ≡ in_frame path ++ (messages_text messages ++ (end_text ++ rest))
call_parts path messages rest =
    append_assoc (in_frame path ++ messages_text messages) end_text rest
    ∙ append_assoc (in_frame path) (messages_text messages) (end_text ++ rest)

-- ---- what messages mean

abbrev pub MessagesAreOne : Type 0
MessagesAreOne = (type : MessageType) (text : List ℕ) (v w : Values type) → IsMessage type text v → IsMessage type text w → v ≡ w

abbrev pub HeadersAreOne : Type 0
HeadersAreOne = (text : List ℕ) (x y : Header) → ShowsHeader text x → ShowsHeader text y → x ≡ y

abbrev pub BatchesAreOne : Type 0
BatchesAreOne =
    (schema : SchemaTree) (head : Head) (body : List ℕ) (x y : Rows) → LaysOut schema head body x → LaysOut schema head body y → x ≡ y

abbrev pub TablesAreOne : Type 0
TablesAreOne = (d : Descriptor) (x y : List ℕ) → NamesTable d x → NamesTable d y → x ≡ y

abbrev pub NamesAreOne : Type 0
NamesAreOne = (d : Descriptor) (t u x y : List ℕ) → NamesUpload d t x → NamesUpload d u y → (t ≡ u) × (x ≡ y)

abbrev pub TicketsAreOne : Type 0
TicketsAreOne = (text : List ℕ) (x y : TableVersion) → IsTicket text x → IsTicket text y → x ≡ y

not_empty : (before bytes after : List ℕ) → 1 ≤ length bytes → [] ≡ before ++ bytes ++ after → ⊥
not_empty before bytes after some none =
    absurd (omega (arith, some, ap length none, length-append (before ++ bytes) after, length-append before bytes))

pub nothing_shown : (x : Header) → ShowsHeader [] x → ⊥
nothing_shown (schema_header schema) shown = not_empty shown.2.root.shown.held.before _ shown.2.root.shown.held.after (omega arith) shown.2.root.shown.held.parts
nothing_shown (batch_header head) shown = not_empty shown.2.root.shown.held.before _ shown.2.root.shown.held.after (omega arith) shown.2.root.shown.held.parts

pub same_schema : (x y : SchemaTree) → schema_header x ≡ schema_header y → x ≡ y
same_schema x y same = cc

pub same_head : (x y : Head) → batch_header x ≡ batch_header y → x ≡ y
same_head x y same = cc

pub same_first : (x y : List ℕ) (xs ys : List (List ℕ)) → x ∷ xs ≡ y ∷ ys → (x ≡ y) × (xs ≡ ys)
same_first x y xs ys same = (cc, cc)

module _ (messages_one : MessagesAreOne) (headers_one : HeadersAreOne) (batches_one : BatchesAreOne) (tables_one : TablesAreOne) (names_one : NamesAreOne) (tickets_one : TicketsAreOne) where
  one_table : (message x y : List ℕ) → AsksForTable message x → AsksForTable message y → x ≡ y
  one_table message x y a b =
      let same = messages_one flight_descriptor_descriptor message a.descriptor b.descriptor a.means b.means in
      tables_one b.descriptor x y (subst (λ d. NamesTable d x) same a.names) b.names

  one_version : (message : List ℕ) (x y : TableVersion) → AsksForVersion message x → AsksForVersion message y → x ≡ y
  one_version message x y a b =
      let same = messages_one ticket_descriptor message (a.ticket, tt) (b.ticket, tt) a.means b.means in
      tickets_one b.ticket x y (subst (λ t. IsTicket t x) (ap (λ v. v.0) same) a.is_ticket) b.is_ticket

  same_descriptor : (message : List ℕ) (v w : Data) (d e : Descriptor) → IsMessage data_descriptor message v → IsMessage data_descriptor message w → v.0 ≡ Some d → w.0 ≡ Some e → d ≡ e
  same_descriptor message v w d e mv mw is other =
      some_same d e (sym is ∙ ap (λ x. x.0) (messages_one data_descriptor message v w mv mw) ∙ other)
    where
      some_same : (d e : Descriptor) → Some d ≡ Some e → d ≡ e
      some_same d e same = cc

  pub one_opening : (message t u i j : List ℕ) (r s : SchemaTree) → Opens message t i r → Opens message u j s → (t ≡ u) × (i ≡ j) × (r ≡ s)
  one_opening message t u i j r s a b =
      let values = messages_one data_descriptor message a.values b.values a.means b.means in
      let descriptor = same_descriptor message a.values b.values a.descriptor b.descriptor a.means b.means a.descriptor_is b.descriptor_is in
      let names = names_one b.descriptor t u i j (subst (λ d. NamesUpload d t i) descriptor a.names) b.names in
      let shown = headers_one (header_in b.values) (schema_header r) (schema_header s) (subst (λ v. ShowsHeader (header_in v) (schema_header r)) values a.shows_schema) b.shows_schema in
      (names.0, names.1, same_schema r s shown)

  one_batch : (schema : SchemaTree) (header body : List ℕ) (x y : Rows) → HasBatch schema header body x → HasBatch schema header body y → x ≡ y
  one_batch schema header body x y a b =
      let head = same_head a.head b.head (headers_one header (batch_header a.head) (batch_header b.head) a.shows_head b.shows_head) in
      batches_one schema b.head body x y (subst (λ h. LaysOut schema h body x) head a.lays_out) b.lays_out

  no_blank_batch : (schema : SchemaTree) (header body : List ℕ) (rows : Rows) → HasBatch schema header body rows → header ≡ [] → ⊥
  no_blank_batch schema header body rows a none = nothing_shown (batch_header a.head) (subst (λ h. ShowsHeader h (batch_header a.head)) none a.shows_head)

  one_addition : (schema : SchemaTree) (message : List ℕ) (x y : List Rows) → Adds schema message x → Adds schema message y → x ≡ y
  one_addition schema message x y a b =
      let values = messages_one data_descriptor message a.values b.values a.means b.means in
      let first : (IsBlank (header_in b.values) (body_in b.values) × (x ≡ [])) ⊎ ((rows : Rows) × HasBatch schema (header_in b.values) (body_in b.values) rows × (x ≡ rows ∷ [])) =
      subst (λ v. (IsBlank (header_in v) (body_in v) × (x ≡ [])) ⊎ ((rows : Rows) × HasBatch schema (header_in v) (body_in v) rows × (x ≡ rows ∷ []))) values a.adds in
      elim first [
        | inl blank ↦
            elim b.adds [
              | inl other ↦ blank.1 ∙ sym other.1
              | inr batch ↦ absurd (no_blank_batch schema (header_in b.values) (body_in b.values) batch.0 batch.1 blank.0.0)
            ]
        | inr batch ↦
            elim b.adds [
              | inl other ↦ absurd (no_blank_batch schema (header_in b.values) (body_in b.values) batch.0 batch.1 other.0.0)
              | inr other ↦
                  batch.2 ∙ ap (λ r. r ∷ []) (one_batch schema (header_in b.values) (body_in b.values) batch.0 other.0 batch.1 other.1) ∙ sym other.2
            ]
      ]

  pub one_list : (schema : SchemaTree) (messages : List (List ℕ)) (x y : List Rows) → AddAll schema messages x → AddAll schema messages y → x ≡ y
  one_list schema [] x y a b = a ∙ sym b
  one_list schema (message ∷ messages) x y a b =
      a.4 ∙ ap (λ l. l ++ a.1) (one_addition schema message a.0 b.0 a.2 b.2)
      ∙ ap (λ l. b.0 ++ l) (one_list schema messages a.1 b.1 a.3 b.3) ∙ sym b.4

  of_parts : List ℕ → List ℕ → SchemaTree → List Rows → Upload
  of_parts table id schema batches = record { table = table; id = id; schema = schema; batches = batches }

  same_parts : (x y : Upload) → x.table ≡ y.table → x.id ≡ y.id → x.schema ≡ y.schema → x.batches ≡ y.batches → x ≡ y
  unfolding of_parts
  same_parts x y table id schema batches =
      ap (λ t. of_parts t x.id x.schema x.batches) table ∙ ap (λ i. of_parts y.table i x.schema x.batches) id
      ∙ ap (λ s. of_parts y.table y.id s x.batches) schema ∙ ap (λ b. of_parts y.table y.id y.schema b) batches

  pub one_upload : (messages : List (List ℕ)) (x y : Upload) → Brings messages x → Brings messages y → x ≡ y
  one_upload messages x y a b =
      let fronts = same_first a.first b.first a.others b.others (sym a.messages_are ∙ b.messages_are) in
      let opened = one_opening b.first x.table y.table x.id y.id x.schema y.schema (subst (λ m. Opens m x.table x.id x.schema) fronts.0 a.opens) b.opens in
      let moved : AddAll y.schema b.others x.batches =
      subst (λ s. AddAll s b.others x.batches) opened.2 (subst (λ m. AddAll x.schema m x.batches) fronts.1 a.adds) in
      same_parts x y opened.0 opened.1 opened.2 (one_list y.schema b.others x.batches y.batches moved b.adds)

  -- ---- calls

  one_request : (x y : Request) (messages : List (List ℕ)) → method_of x ≡ method_of y → MessagesMean x messages → MessagesMean y messages → x ≡ y
  one_request (describes t) (describes u) messages same a b = ap (λ n. describes n) (one_asked t u messages a b)
    where
      one_asked : (t u : List ℕ) (messages : List (List ℕ)) → MessagesMean (describes t) messages → MessagesMean (describes u) messages → t ≡ u
      one_asked t u messages a b =
          let front = same_first a.0 b.0 [] [] (sym a.1 ∙ b.1) in
          one_table b.0 t u (subst (λ m. AsksForTable m t) front.0 a.2) b.2
  one_request (shows t) (shows u) messages same a b = ap (λ n. shows n) (one_asked t u messages a b)
    where
      one_asked : (t u : List ℕ) (messages : List (List ℕ)) → MessagesMean (shows t) messages → MessagesMean (shows u) messages → t ≡ u
      one_asked t u messages a b =
          let front = same_first a.0 b.0 [] [] (sym a.1 ∙ b.1) in
          one_table b.0 t u (subst (λ m. AsksForTable m t) front.0 a.2) b.2
  one_request lists lists messages same a b = refl
  one_request (serves t) (serves u) messages same a b =
      let front = same_first a.0 b.0 [] [] (sym a.1 ∙ b.1) in
      ap (λ n. serves n) (one_version b.0 t u (subst (λ m. AsksForVersion m t) front.0 a.2) b.2)
  one_request (puts t) (puts u) messages same a b =
      ap (λ n. puts n) (a.3 ∙ ap upload_text (one_upload messages a.0 b.0 a.1 b.1) ∙ sym b.3)
  one_request (describes t) (shows u) messages same a b = cc
  one_request (describes t) lists messages same a b = cc
  one_request (describes t) (serves u) messages same a b = cc
  one_request (describes t) (puts u) messages same a b = cc
  one_request (shows t) (describes u) messages same a b = cc
  one_request (shows t) lists messages same a b = cc
  one_request (shows t) (serves u) messages same a b = cc
  one_request (shows t) (puts u) messages same a b = cc
  one_request lists (describes u) messages same a b = cc
  one_request lists (shows u) messages same a b = cc
  one_request lists (serves u) messages same a b = cc
  one_request lists (puts u) messages same a b = cc
  one_request (serves t) (describes u) messages same a b = cc
  one_request (serves t) (shows u) messages same a b = cc
  one_request (serves t) lists messages same a b = cc
  one_request (serves t) (puts u) messages same a b = cc
  one_request (puts t) (describes u) messages same a b = cc
  one_request (puts t) (shows u) messages same a b = cc
  one_request (puts t) lists messages same a b = cc
  one_request (puts t) (serves u) messages same a b = cc

  pub one_call : NoFrameBeginsAnother → ((x y : Method) → path_text x ≡ path_text y → x ≡ y) → (text a b : List ℕ) (x y : Request) → IsCall text x a → IsCall text y b → (x ≡ y) × (a ≡ b)
  one_call law paths text a b x y p q =
      let i = path_text (method_of x) in
      let j = path_text (method_of y) in
      let front =
      front_message law i j (messages_text p.messages ++ (end_text ++ a)) (messages_text q.messages ++ (end_text ++ b)) (path_fits (method_of x)) (path_fits (method_of y))
      (sym (call_parts i p.messages a) ∙ sym p.parts ∙ q.parts ∙ call_parts j q.messages b) in
      let behind = same_messages law p.messages q.messages a b p.fit q.fit front.1 in
      (one_request x y q.messages (paths (method_of x) (method_of y) front.0) (subst (λ m. MessagesMean x m) behind.0 p.mean) q.mean, behind.1)
