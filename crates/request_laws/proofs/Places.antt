-- A text is refused at one place, and for one fault there.
use Rattle.std.proofs.Common.{length, length-append, ◌≤◌, ◌≡◌, ◌≢◌, ◌⊎◌, ℕ, List, [], ◌∷◌, ◌++◌, Option, Some, None, Result, Ok, Err, refl, sym, ap, subst, ◌∙◌, append-nil, append_assoc, arith, inl, inr}
use Rattle.std.specs.List.{AllByRecursion}
use Rattle.grpc_frames.specs.Frame.{Frame}
use Rattle.grpc_frames.specs.FrameFaults.{FrameFaultStands, LeavesAfter, ReadsFrame}
use Rattle.grpc_frames.specs.FrameLaws.{NoFrameBeginsAnother, ReadingsAreOne, IsDecided}
use Rattle.grpc_frames.specs.declared.fault.FrameFault.{FrameFault}
use Rattle.grpc_frames.specs.declared.fault.FrameFault.TheVariants as frames
use Rattle.header_types.specs.Fields.{SchemaTree}
use Rattle.batch_types.specs.Cells.{Rows}
use Rattle.table_types.specs.Served.{in_frame}
use Rattle.table_types.specs.Valid.{FitsFrame}
use Rattle.table_types.specs.Ticket.{TableVersion}
use Rattle.call_protocol.specs.declared.method.Method.{Method}
use Rattle.call_protocol.specs.declared.method.Method.TheVariants as methods
use Rattle.call_protocol.specs.declared.refusal.CallRefusal.{CallRefusal}
use Rattle.call_protocol.specs.declared.refusal.CallRefusal.TheVariants as refusals
use Rattle.call_protocol.specs.Methods.{path_text, PathFault}
use Rattle.call_protocol.specs.Texts.{messages_text, end_text}
use Rattle.call_reading.specs.Requests.{AsksForTable, AsksForAll, AsksForVersion, AddAll}
use Rattle.call_reading.specs.Faults.{MessageFault, IsOneOrNone, IsUploadOrNone, IsFaultlessSoFar, IsFaultlessEnd, EndFault, FrameBreaks, PathBreaks, MessageBreaks, BreaksMessages, RefusalStands, IsOfMemory, IsOfTheMachine}
use Rattle.call_reading.proofs.Apart.{message_frame, end_frame, is_message, is_end, front_message, no_end_here, path_fits}
use Rattle.request_laws.specs.Agreeing.{Agree}
use Rattle.request_laws.proofs.Agreeing.{Both, ends_agree, paths_agree}

-- ---- what stands next

-- it is no message and no end
abbrev IsNeither : Result (Option Frame) FrameFault → Type 0
IsNeither (Err fault) = Unit {0}
IsNeither (Ok None) = Unit {0}
IsNeither (Ok (Some frame)) = (frame.flag ≡ 128) × (frame.payload ≢ [])

-- what is read next, by the text alone
record Next (here after : List ℕ) : Type 0 where
  pub read : Result (Option Frame) FrameFault
  pub decided : IsDecided read
  pub reads : ReadsFrame read here after

-- what it is refused for
abbrev refused_for : Result (Option Frame) FrameFault → CallRefusal
refused_for (Err fault) = refusals.Frame fault
refused_for (Ok None) = refusals.NoEnd
refused_for (Ok (Some frame)) = refusals.EndPayload

abbrev NextIsNeither : List ℕ → List ℕ → CallRefusal → Type 0
NextIsNeither here after refusal = (next : Next here after) × IsNeither next.read × (refusal ≡ refused_for next.read)

fault_next : (here after : List ℕ) (refusal : CallRefusal) (fault : FrameFault) → FrameFaultStands fault here → LeavesAfter fault here after → refusal ≡ refusals.Frame fault
    → IsOfTheMachine refusal ⊎ NextIsNeither here after refusal
fault_next here after refusal frames.Truncated stands leaves is = inr (record { read = Err frames.Truncated; decided = (λ same. cc, λ same. cc); reads = (stands, leaves) }, tt, is)
fault_next here after refusal frames.BadFlag stands leaves is = inr (record { read = Err frames.BadFlag; decided = (λ same. cc, λ same. cc); reads = (stands, leaves) }, tt, is)
fault_next here after refusal frames.Compressed stands leaves is = inr (record { read = Err frames.Compressed; decided = (λ same. cc, λ same. cc); reads = (stands, leaves) }, tt, is)
fault_next here after refusal frames.TooLong stands leaves is = inr (record { read = Err frames.TooLong; decided = (λ same. cc, λ same. cc); reads = (stands, leaves) }, tt, is)
fault_next here after refusal frames.Io stands leaves is = inl (subst (λ r. IsOfTheMachine r) (sym is) (inr refl))
fault_next here after refusal frames.OutOfMemory stands leaves is = inl (subst (λ r. IsOfTheMachine r) (sym is) (inl refl))

frame_next : (here after : List ℕ) (refusal : CallRefusal) → FrameBreaks here after refusal → IsOfTheMachine refusal ⊎ NextIsNeither here after refusal
frame_next here after refusal breaks =
    elim breaks [
      | inl fault ↦ fault_next here after refusal fault.0 fault.1 fault.2 fault.3
      | inr behind ↦
          elim behind [
            | inl none ↦ inr (record { read = Ok None; decided = tt; reads = (none.0, none.1) }, tt, none.2)
            | inr ended ↦
                inr (
                  record {
                    read = Ok (Some (record { flag = 128; payload = ended.0 }));
                    decided = tt;
                    reads = (record { flag = inr refl; payload = ended.2 }, ended.3);
                  },
                  (refl, ended.1),
                  ended.4,
                )
          ]
    ]

end_next : (here after : List ℕ) → here ≡ end_text ++ after → Next here after
end_next here after front = record { read = Ok (Some end_frame); decided = tt; reads = (is_end, front) }

abbrev Breaks : Method → List (List ℕ) → List ℕ → List ℕ → CallRefusal → Type 0
Breaks method before here after refusal = FrameBreaks here after refusal ⊎ MessageBreaks method before here after refusal

abbrev BreaksInFront : List ℕ → List ℕ → CallRefusal → Type 0
BreaksInFront text after refusal = FrameBreaks text after refusal ⊎ PathBreaks text after refusal

-- ---- messages without fault so far, and those of them that came first

one_before : (P : List ℕ → Type 0) (before more : List (List ℕ)) (message : List ℕ) → IsOneOrNone P (before ++ message ∷ more) → IsOneOrNone P (before ++ message ∷ [])
one_before P [] [] message h = h
one_before P [] (m ∷ ms) message h = absurd h
one_before P (b ∷ []) more message h = absurd h
one_before P (b ∷ c ∷ bs) more message h = absurd h

-- some of them are added by the messages up to one of them
record AddedBefore (schema : SchemaTree) (messages : List (List ℕ)) (all : List Rows) : Type 0 where
  pub some : List Rows
  pub added : AddAll schema messages some
  pub few : length some ≤ length all

added_before : (schema : SchemaTree) (before more : List (List ℕ)) (message : List ℕ) (all : List Rows) → AddAll schema (before ++ message ∷ more) all → AddedBefore schema (before ++ message ∷ []) all
added_before schema [] more message all h = record {
  some = h.0;
  added = (h.0, [], h.2, refl, sym (append-nil h.0));
  few = omega (arith, ap length h.4, length-append h.0 h.1);
}
added_before schema (b ∷ bs) more message all h =
    let first = added_before schema bs more message h.1 h.3 in
    record {
      some = h.0 ++ first.some;
      added = (h.0, first.some, h.2, first.added, refl);
      few = omega (arith, first.few, ap length h.4, length-append h.0 h.1, length-append h.0 first.some);
    }

first_of : (x y : List ℕ) (xs ys : List (List ℕ)) → x ∷ xs ≡ y ∷ ys → (x ≡ y) × (xs ≡ ys)
first_of x y xs ys same = (cc, cc)

upload_before : (before more : List (List ℕ)) (message : List ℕ) → IsUploadOrNone (before ++ message ∷ more) → IsUploadOrNone (before ++ message ∷ [])
upload_before [] more message h =
    let b = h.1 in
    let fronts = first_of b.first message b.others more (sym b.messages_are) in (
      record { table = h.0.table; id = h.0.id; schema = h.0.schema; batches = [] },
      record { first = b.first; others = []; messages_are = ap (λ m. m ∷ []) (sym fronts.0); opens = b.opens; adds = refl },
      omega arith,
      omega arith,
    )
upload_before (f ∷ bs) more message h =
    let b = h.1 in
    let fronts = first_of b.first f b.others (bs ++ message ∷ more) (sym b.messages_are) in
    let some = added_before h.0.schema bs more message h.0.batches (subst (λ l. AddAll h.0.schema l h.0.batches) fronts.1 b.adds) in (
      record { table = h.0.table; id = h.0.id; schema = h.0.schema; batches = some.some },
      record { first = b.first; others = bs ++ message ∷ []; messages_are = ap (λ m. m ∷ (bs ++ message ∷ [])) (sym fronts.0); opens = b.opens; adds = some.added },
      omega (arith, some.few, h.2),
      omega (arith, h.3, length-append bs (message ∷ more), length-append bs (message ∷ [])),
    )

faultless_before : (method : Method) (before more : List (List ℕ)) (message : List ℕ) → IsFaultlessSoFar method (before ++ message ∷ more) → IsFaultlessSoFar method (before ++ message ∷ [])
faultless_before methods.GetFlightInfo before more message h = one_before (λ m. (table : List ℕ) × AsksForTable m table) before more message h
faultless_before methods.GetSchema before more message h = one_before (λ m. (table : List ℕ) × AsksForTable m table) before more message h
faultless_before methods.ListFlights before more message h = one_before AsksForAll before more message h
faultless_before methods.DoGet before more message h = one_before (λ m. (asked : TableVersion) × AsksForVersion m asked) before more message h
faultless_before methods.DoPut before more message h = upload_before before more message h

-- ---- two places of one text

-- the second list goes on behind the first, and so does its text behind the first place
record GoesOn (xs ys : List (List ℕ)) (a b : List ℕ) : Type 0 where
  pub message : List ℕ
  pub more : List (List ℕ)
  pub are : ys ≡ xs ++ message ∷ more
  pub fits : FitsFrame message
  pub front : a ≡ in_frame message ++ (messages_text more ++ b)

abbrev Places : List (List ℕ) → List (List ℕ) → List ℕ → List ℕ → Type 0
Places xs ys a b = ((xs ≡ ys) × (a ≡ b)) ⊎ GoesOn xs ys a b ⊎ GoesOn ys xs b a

places_behind : (x y : List ℕ) (xs ys : List (List ℕ)) (a b : List ℕ) → x ≡ y → Places xs ys a b → Places (x ∷ xs) (y ∷ ys) a b
places_behind x y xs ys a b first places =
    elim places [
      | inl same ↦ inl (ap (λ m. m ∷ xs) first ∙ ap (λ l. y ∷ l) same.0, same.1)
      | inr other ↦
          inr (elim other [
            | inl on ↦
                inl (record {
                  message = on.message;
                  more = on.more;
                  are = ap (λ m. m ∷ ys) (sym first) ∙ ap (λ l. x ∷ l) on.are;
                  fits = on.fits;
                  front = on.front;
                })
            | inr on ↦
                inr (record {
                  message = on.message;
                  more = on.more;
                  are = ap (λ m. m ∷ xs) first ∙ ap (λ l. y ∷ l) on.are;
                  fits = on.fits;
                  front = on.front;
                })
          ])
    ]

module _ (law : NoFrameBeginsAnother) where
  two_places : (xs ys : List (List ℕ)) (a b : List ℕ) → AllByRecursion FitsFrame xs → AllByRecursion FitsFrame ys → messages_text xs ++ a ≡ messages_text ys ++ b → Places xs ys a b
  two_places [] [] a b fit other same = inl (refl, same)
  two_places [] (y ∷ ys) a b fit other same =
      inr (inl (record { message = y; more = ys; are = refl; fits = other.0; front = same ∙ append_assoc (in_frame y) (messages_text ys) b }))
  two_places (x ∷ xs) [] a b fit other same =
      inr (inr (record { message = x; more = xs; are = refl; fits = fit.0; front = sym same ∙ append_assoc (in_frame x) (messages_text xs) a }))
  two_places (x ∷ xs) (y ∷ ys) a b fit other same =
      let front = front_message law x y (messages_text xs ++ a) (messages_text ys ++ b) fit.0 other.0
      (sym (append_assoc (in_frame x) (messages_text xs) a) ∙ same ∙ append_assoc (in_frame y) (messages_text ys) b) in
      places_behind x y xs ys a b front.0 (two_places xs ys a b fit.1 other.1 front.1)

abbrev pub MemoryIsLast : Type 0
MemoryIsLast =
    (method : Method) (before : List (List ℕ)) (message : List ℕ) (refusal : CallRefusal) → IsFaultlessSoFar method (before ++ message ∷ []) → MessageFault method before message refusal
    → IsOfMemory refusal

-- one of them says that memory was refused or a read failed, or the same is left behind both, and they agree
abbrev Refused : List ℕ → List ℕ → CallRefusal → CallRefusal → Type 0
Refused a b x y = IsOfTheMachine x ⊎ IsOfTheMachine y ⊎ ((a ≡ b) × Agree x y)

with_place : (a b : List ℕ) (x y : CallRefusal) → a ≡ b → Both x y → Refused a b x y
with_place a b x y left both =
    elim both [
      | inl machine ↦ inl machine
      | inr other ↦ elim other [ inl machine ↦ inr (inl machine) | inr agree ↦ inr (inr (left, agree)) ]
    ]

abbrev pub MessagesAgree : Type 0
MessagesAgree =
    (method : Method) (before : List (List ℕ)) (message : List ℕ) (x y : CallRefusal) → MessageFault method before message x → MessageFault method before message y → Both x y

-- a message is at fault, or memory was refused; or the end is, or memory was
abbrev AtAMessage : Method → List (List ℕ) → List ℕ → CallRefusal → Type 0
AtAMessage method before message refusal =
    MessageFault method before message refusal ⊎ (IsFaultlessSoFar method (before ++ message ∷ []) × (refusal ≡ refusals.OutOfMemory))

abbrev AtTheEnd : Method → List (List ℕ) → CallRefusal → Type 0
AtTheEnd method before refusal = EndFault method before refusal ⊎ (IsFaultlessEnd method before × (refusal ≡ refusals.OutOfMemory))

not_neither_end : ¬ IsNeither (Ok (Some end_frame))
not_neither_end is = is.1 refl

not_neither : (message : List ℕ) → ¬ IsNeither (Ok (Some (message_frame message)))
not_neither message is = omega (arith, is.0)

module _ (law : NoFrameBeginsAnother) (readings : ReadingsAreOne) (memory : MemoryIsLast) (messages_agree : MessagesAgree) where
  one_after : (here a b : List ℕ) → Next here a → Next here b → a ≡ b
  one_after here a b x y = (readings here a b x.read y.read x.decided y.decided x.reads y.reads).1

  -- no frame breaks where a message stands
  no_frame_breaks : (here after rest message : List ℕ) (refusal : CallRefusal) → FitsFrame message → here ≡ in_frame message ++ rest → FrameBreaks here after refusal → IsOfTheMachine refusal
  no_frame_breaks here after rest message refusal fits front frame =
      elim (frame_next here after refusal frame) [
        | inl machine ↦ machine
        | inr next ↦
            let same = (readings here after rest next.0.read (Ok (Some (message_frame message))) next.0.decided tt next.0.reads (is_message message fits, front)).0 in
            absurd (not_neither message (subst (λ r. IsNeither r) same next.1))
      ]

  -- nor does anything where it is without fault
  none_breaks : (method : Method) (before : List (List ℕ)) (here after rest message : List ℕ) (refusal : CallRefusal) → FitsFrame message → here ≡ in_frame message ++ rest
      → IsFaultlessSoFar method (before ++ message ∷ []) → Breaks method before here after refusal → IsOfTheMachine refusal
  none_breaks method before here after rest message refusal fits front faultless breaks =
      elim breaks [
        | inl frame ↦ no_frame_breaks here after rest message refusal fits front frame
        | inr messages ↦
            elim messages [
              | inl m ↦
                  let same = (front_message law m.0 message after rest m.2 fits (sym m.1 ∙ front)).0 in
                  inl (elim m.3 [
                    | inl fault ↦ memory method before message refusal faultless (subst (λ k. MessageFault method before k refusal) same fault)
                    | inr refused ↦ subst (λ r. IsOfMemory r) (sym refused.1) tt
                  ])
              | inr ended ↦ absurd (no_end_here law message rest after fits (sym front ∙ ended.0))
            ]
      ]

  -- nor where the end does
  no_frame_at_an_end : (here after rest : List ℕ) (refusal : CallRefusal) → here ≡ end_text ++ rest → FrameBreaks here after refusal → IsOfTheMachine refusal
  no_frame_at_an_end here after rest refusal front frame =
      elim (frame_next here after refusal frame) [
        | inl machine ↦ machine
        | inr next ↦
            let read = (readings here after rest next.0.read (Ok (Some end_frame)) next.0.decided tt next.0.reads (is_end, front)).0 in
            absurd (not_neither_end (subst (λ r. IsNeither r) read next.1))
      ]

  frames_agree : (here a b : List ℕ) (x y : CallRefusal) → FrameBreaks here a x → FrameBreaks here b y → Refused a b x y
  frames_agree here a b x y p q =
      elim (frame_next here a x p) [
        | inl machine ↦ inl machine
        | inr next ↦
            elim (frame_next here b y q) [
              | inl machine ↦ inr (inl machine)
              | inr other ↦
                  let both = readings here a b next.0.read other.0.read next.0.decided other.0.decided next.0.reads other.0.reads in
                  inr (inr (both.1, inl (inl (next.2 ∙ ap refused_for both.0 ∙ sym other.2))))
            ]
      ]

  messages_at_one_place : (method : Method) (before : List (List ℕ)) (message : List ℕ) (a b : List ℕ) (x y : CallRefusal) → a ≡ b
      → AtAMessage method before message x → AtAMessage method before message y → Refused a b x y
  messages_at_one_place method before message a b x y left p q =
      elim p [
        | inl fault ↦
            elim q [
              | inl other ↦ with_place a b x y left (messages_agree method before message x y fault other)
              | inr refused ↦ inr (inl (inl (subst (λ r. IsOfMemory r) (sym refused.1) tt)))
            ]
        | inr refused ↦ inl (inl (subst (λ r. IsOfMemory r) (sym refused.1) tt))
      ]

  ends_at_one_place : (method : Method) (before : List (List ℕ)) (a b : List ℕ) (x y : CallRefusal) → a ≡ b
      → AtTheEnd method before x → AtTheEnd method before y → Refused a b x y
  ends_at_one_place method before a b x y left p q =
      elim p [
        | inl fault ↦
            elim q [
              | inl other ↦ inr (inr (left, inl (inl (ends_agree method before x y fault other))))
              | inr refused ↦ inr (inl (inl (subst (λ r. IsOfMemory r) (sym refused.1) tt)))
            ]
        | inr refused ↦ inl (inl (subst (λ r. IsOfMemory r) (sym refused.1) tt))
      ]

  at_one_place : (method : Method) (before : List (List ℕ)) (here a b : List ℕ) (x y : CallRefusal) → Breaks method before here a x
      → Breaks method before here b y → Refused a b x y
  at_one_place method before here a b x y p q =
      elim p [
        | inl frame ↦
            elim q [
              | inl other ↦ frames_agree here a b x y frame other
              | inr others ↦
                  elim others [
                    | inl k ↦ inl (no_frame_breaks here a b k.0 x k.2 k.1 frame)
                    | inr ended ↦ inl (no_frame_at_an_end here a b x ended.0 frame)
                  ]
            ]
        | inr messages ↦
            elim messages [
              | inl m ↦
                  elim q [
                    | inl frame ↦ inr (inl (no_frame_breaks here b a m.0 y m.2 m.1 frame))
                    | inr others ↦
                        elim others [
                          | inl k ↦
                              let front = front_message law m.0 k.0 a b m.2 k.2 (sym m.1 ∙ k.1) in
                              messages_at_one_place method before k.0 a b x y front.1 (subst (λ n. AtAMessage method before n x) front.0 m.3) k.3
                          | inr ended ↦ absurd (no_end_here law m.0 a b m.2 (sym m.1 ∙ ended.0))
                        ]
                  ]
              | inr ended ↦
                  elim q [
                    | inl frame ↦ inr (inl (no_frame_at_an_end here b a y ended.0 frame))
                    | inr others ↦
                        elim others [
                          | inl k ↦ absurd (no_end_here law k.0 b a k.2 (sym k.1 ∙ ended.0))
                          | inr other ↦ ends_at_one_place method before a b x y (one_after here a b (end_next here a ended.0) (end_next here b other.0)) ended.1 other.1
                        ]
                  ]
            ]
      ]

  behind_the_path : (method : Method) (here a b : List ℕ) (x y : CallRefusal) → BreaksMessages method here a x → BreaksMessages method here b y → Refused a b x y
  behind_the_path method here a b x y p q =
      elim (two_places law p.before q.before p.place q.place p.fit q.fit (sym p.parts ∙ q.parts)) [
        | inl same ↦
            at_one_place method q.before q.place a b x y
            (subst (λ l. Breaks method l q.place a x) same.0 (subst (λ h. Breaks method p.before h a x) same.1 p.breaks)) q.breaks
        | inr apart ↦
            elim apart [
              | inl on ↦
                  inl (none_breaks method p.before p.place a (messages_text on.more ++ q.place) on.message x on.fits on.front
                  (faultless_before method p.before on.more on.message (subst (λ l. IsFaultlessSoFar method l) on.are q.faultless)) p.breaks)
              | inr on ↦
                  inr (inl (none_breaks method q.before q.place b (messages_text on.more ++ p.place) on.message y on.fits on.front
                  (faultless_before method q.before on.more on.message (subst (λ l. IsFaultlessSoFar method l) on.are p.faultless)) q.breaks))
            ]
      ]

  -- what is refused in front of a path's method has no such path
  none_in_front : ((x : Method) (refusal : CallRefusal) → ¬ PathFault (path_text x) refusal) → (method : Method) (text here after : List ℕ) (refusal : CallRefusal)
      → text ≡ in_frame (path_text method) ++ here → BreaksInFront text after refusal → IsOfTheMachine refusal
  none_in_front apart method text here after refusal front breaks =
      elim breaks [
        | inl frame ↦ no_frame_breaks text after here (path_text method) refusal (path_fits method) front frame
        | inr at_path ↦
            elim at_path [
              | inl none ↦ absurd (no_end_here law (path_text method) here after (path_fits method) (sym front ∙ none.0))
              | inr p ↦
                  let same = front_message law p.0 (path_text method) after here p.2 (path_fits method) (sym p.1 ∙ front) in
                  absurd (apart method refusal (subst (λ k. PathFault k refusal) same.0 p.3))
            ]
      ]

  paths_at_one_place : (text a b : List ℕ) (x y : CallRefusal) → PathBreaks text a x → PathBreaks text b y → Refused a b x y
  paths_at_one_place text a b x y p q =
      elim p [
        | inl none ↦
            elim q [
              | inl other ↦ inr (inr (one_after text a b (end_next text a none.0) (end_next text b other.0), inl (inl (none.1 ∙ sym other.1))))
              | inr k ↦ absurd (no_end_here law k.0 b a k.2 (sym k.1 ∙ none.0))
            ]
        | inr m ↦
            elim q [
              | inl none ↦ absurd (no_end_here law m.0 a b m.2 (sym m.1 ∙ none.0))
              | inr k ↦
                  let front = front_message law m.0 k.0 a b m.2 k.2 (sym m.1 ∙ k.1) in
                  inr (inr (front.1, inl (inl (paths_agree k.0 x y (subst (λ n. PathFault n x) front.0 m.3) k.3))))
            ]
      ]

  both_in_front : (text a b : List ℕ) (x y : CallRefusal) → BreaksInFront text a x → BreaksInFront text b y → Refused a b x y
  both_in_front text a b x y p q =
      elim p [
        | inl frame ↦
            elim q [
              | inl other ↦ frames_agree text a b x y frame other
              | inr at_path ↦
                  elim at_path [
                    | inl none ↦ inl (no_frame_at_an_end text a b x none.0 frame)
                    | inr k ↦ inl (no_frame_breaks text a b k.0 x k.2 k.1 frame)
                  ]
            ]
        | inr path ↦
            elim q [
              | inl frame ↦
                  elim path [
                    | inl none ↦ inr (inl (no_frame_at_an_end text b a y none.0 frame))
                    | inr m ↦ inr (inl (no_frame_breaks text b a m.0 y m.2 m.1 frame))
                  ]
              | inr other ↦ paths_at_one_place text a b x y path other
            ]
      ]

  abbrev BreaksBehind : List ℕ → List ℕ → CallRefusal → Type 0
  BreaksBehind text after refusal = (method : Method) × (here : List ℕ) × (text ≡ in_frame (path_text method) ++ here) × BreaksMessages method here after refusal

  both_behind : ((x y : Method) → path_text x ≡ path_text y → x ≡ y) → (text a b : List ℕ) (x y : CallRefusal) → BreaksBehind text a x → BreaksBehind text b y
      → Refused a b x y
  both_behind paths text a b x y p q =
      let front = front_message law (path_text p.0) (path_text q.0) p.1 q.1 (path_fits p.0) (path_fits q.0) (sym p.2 ∙ q.2) in
      behind_the_path q.0 q.1 a b x y
      (subst (λ h. BreaksMessages q.0 h a x) front.1 (subst (λ m. BreaksMessages m p.1 a x) (paths p.0 q.0 front.0) p.3)) q.3

  in_front_or_behind : (text after : List ℕ) (refusal : CallRefusal) → RefusalStands refusal text after → BreaksInFront text after refusal ⊎ BreaksBehind text after refusal
  in_front_or_behind text after refusal stands =
      elim stands [
        | inl frame ↦ inl (inl frame)
        | inr other ↦ elim other [ inl path ↦ inl (inr path) | inr behind ↦ inr behind ]
      ]

  pub one_place : ((x y : Method) → path_text x ≡ path_text y → x ≡ y) → ((x : Method) (refusal : CallRefusal) → ¬ PathFault (path_text x) refusal)
      → (text a b : List ℕ) (x y : CallRefusal) → RefusalStands x text a → RefusalStands y text b → Refused a b x y
  one_place paths apart text a b x y p q =
      elim (in_front_or_behind text a x p) [
        | inl front ↦
            elim (in_front_or_behind text b y q) [
              | inl other ↦ both_in_front text a b x y front other
              | inr behind ↦ inl (none_in_front apart behind.0 text behind.1 a x behind.2 front)
            ]
        | inr behind ↦
            elim (in_front_or_behind text b y q) [
              | inl front ↦ inr (inl (none_in_front apart behind.0 text behind.1 b y behind.2 front))
              | inr other ↦ both_behind paths text a b x y behind other
            ]
      ]
