-- Messages that came, one behind the other, and what stands behind them.
use Rattle.std.proofs.Common.{◌≡◌, ◌<◌, ◌≤◌, ◌+◌, ℕ, List, [], ◌∷◌, ◌++◌, length, Vec, Option, Some, None, Ok, Err, refl, sym, ap, subst, ◌∙◌, append-nil, append_assoc, arith, inl, inr, string_bytes}
use Rattle.std.specs.declared.alloc.Global.{Global}
use Rattle.std.specs.List.{AllByRecursion}
use Rattle.std.specs.Prelude.{get_or}
use Rattle.std.proofs.lemmas.List.{length_push, length-append, flat_map_more}
use Rattle.grpc_frames.specs.Frame.{Frame, frame_text, IsFrame}
use Rattle.grpc_frames.specs.FrameFaults.{WhereKnown}
use Rattle.grpc_frames.specs.FrameLaws.{NoFrameBeginsAnother}
use Rattle.table_types.specs.Served.{in_frame}
use Rattle.table_types.specs.Valid.{FitsFrame}
use Rattle.call_protocol.specs.Statuses.{trailer_text, ok_trailer}
use Rattle.call_protocol.specs.Texts.{messages_text}
use Rattle.call_protocol.specs.declared.call_fault.CallFault.TheVariants as calls
use Rattle.client_calls.specs.declared.client_fault.ClientFault.{ClientFault}
use Rattle.client_calls.specs.declared.client_fault.ClientFault.TheVariants as faults
use Rattle.client_calls.specs.declared.parts.AnswerPart.TheVariants as parts
use Rattle.client_calls.specs.Answers.{frames_limit, IsAnswer, IsRefused, IsNoAnswer, Receives}
use Rattle.client_calls.specs.Parts.{IsTrailer, IsPart, IsNoPart, RefusesHere, ReadsPart, HasRead}

-- ---- frames

abbrev pub message_frame : List ℕ → Frame
message_frame message = record { flag = 0; payload = message }

abbrev pub trailer_frame : List ℕ → Frame
trailer_frame payload = record { flag = 128; payload = payload }

is_message_frame : (message : List ℕ) → FitsFrame message → IsFrame (message_frame message)
is_message_frame message fits = record { flag = inl refl; payload = fits }

pub is_trailer_frame : (payload : List ℕ) → FitsFrame payload → IsFrame (trailer_frame payload)
is_trailer_frame payload fits = record { flag = inr refl; payload = fits }

-- no message stands where a trailer does
no_trailer : (message payload x y : List ℕ) → in_frame message ++ x ≡ frame_text (trailer_frame payload) ++ y → ⊥
no_trailer message payload x y same =
    let flags : 0 ≡ 128 = ap (λ (l : List ℕ). get_or l 0 0) same in
    omega (arith, flags)

-- ---- two ways in which a text begins with messages and a trailer

-- A trailer behind messages stands behind all that came, and behind the messages that are still to come.
pub record GoesOn (came all : List (List ℕ)) (now end : List ℕ) : Type 0 where
  pub more : List (List ℕ)
  pub all_are : all ≡ came ++ more
  pub fit : AllByRecursion FitsFrame more
  pub parts : now ≡ messages_text more ++ end

pub goes_on : NoFrameBeginsAnother → (came all : List (List ℕ)) (payload now rest : List ℕ) → AllByRecursion FitsFrame came → AllByRecursion FitsFrame all
    → messages_text came ++ now ≡ messages_text all ++ (frame_text (trailer_frame payload) ++ rest) → GoesOn came all now (frame_text (trailer_frame payload) ++ rest)
goes_on law [] all payload now rest came_fit all_fit same = record { more = all; all_are = refl; fit = all_fit; parts = same }
goes_on law (x ∷ came) [] payload now rest came_fit all_fit same =
    absurd (no_trailer x payload (messages_text came ++ now) rest (sym (append_assoc (in_frame x) (messages_text came) now) ∙ same))
goes_on law (x ∷ came) (y ∷ all) payload now rest came_fit all_fit same =
    let end : List ℕ = frame_text (trailer_frame payload) ++ rest in
    let one = law (message_frame x) (message_frame y) (messages_text came ++ now) (messages_text all ++ end) (is_message_frame x came_fit.0) (is_message_frame y all_fit.0)
    (sym (append_assoc (in_frame x) (messages_text came) now) ∙ same ∙ append_assoc (in_frame y) (messages_text all) end) in
    let names : x ≡ y = ap (λ (f : Frame). f.payload) one.0 in
    let behind = goes_on law came all payload now rest came_fit.1 all_fit.1 one.1 in
    record {
      more = behind.more;
      all_are = ap (λ (m : List ℕ). m ∷ all) (sym names) ∙ ap (λ (l : List (List ℕ)). x ∷ l) behind.all_are;
      fit = behind.fit;
      parts = behind.parts;
    }

-- the frame with which the rest of a text begins, where a trailer stands behind messages
abbrev pub front_of : List (List ℕ) → List ℕ → Frame
front_of [] payload = trailer_frame payload
front_of (x ∷ more) payload = message_frame x

front_is_frame : (more : List (List ℕ)) (payload : List ℕ) → AllByRecursion FitsFrame more → FitsFrame payload → IsFrame (front_of more payload)
front_is_frame [] payload fit fits = is_trailer_frame payload fits
front_is_frame (x ∷ more) payload fit fits = is_message_frame x fit.0

abbrev pub behind_front : List (List ℕ) → List ℕ → List ℕ → List ℕ
behind_front [] payload rest = rest
behind_front (x ∷ more) payload rest = messages_text more ++ (frame_text (trailer_frame payload) ++ rest)

front_stands : (more : List (List ℕ)) (payload rest : List ℕ)
    → messages_text more ++ (frame_text (trailer_frame payload) ++ rest) ≡ frame_text (front_of more payload) ++ behind_front more payload rest
front_stands [] payload rest = refl
front_stands (x ∷ more) payload rest = append_assoc (in_frame x) (messages_text more) (frame_text (trailer_frame payload) ++ rest)

front_is_part : (more : List (List ℕ)) (payload : List ℕ) → IsTrailer payload → IsPart (front_of more payload)
front_is_part [] payload trailer = inr (refl, trailer)
front_is_part (x ∷ more) payload trailer = inl refl

-- a trailer that stands behind no message is the one that stands there
pub end_alone : NoFrameBeginsAnother → (more : List (List ℕ)) (payload other rest after : List ℕ) → FitsFrame payload → FitsFrame other
    → frame_text (trailer_frame payload) ++ rest ≡ messages_text more ++ (frame_text (trailer_frame other) ++ after) → (more ≡ []) × (payload ≡ other)
end_alone law [] payload other rest after fits other_fits same =
    let one = law (trailer_frame payload) (trailer_frame other) rest after (is_trailer_frame payload fits) (is_trailer_frame other other_fits) same in
    (refl, ap (λ (f : Frame). f.payload) one.0)
end_alone law (x ∷ more) payload other rest after fits other_fits same =
    let end : List ℕ = frame_text (trailer_frame other) ++ after in
    absurd (no_trailer x payload (messages_text more ++ end) rest (sym (append_assoc (in_frame x) (messages_text more) end) ∙ sym same))

-- ---- the readings of a text

module _ (law : NoFrameBeginsAnother) (Holds : List (List ℕ) → Type 0) (count : ℕ) (here now : List ℕ) (h : HasRead Holds count here now) where
  -- a trailer behind messages goes on from here
  trailer_goes_on : (all : List (List ℕ)) (payload rest : List ℕ) → AllByRecursion FitsFrame all → here ≡ messages_text all ++ (frame_text (trailer_frame payload) ++ rest)
      → GoesOn h.messages all now (frame_text (trailer_frame payload) ++ rest)
  trailer_goes_on all payload rest fit is = goes_on law h.messages all payload now rest h.fit fit (sym h.parts ∙ is)

  answer_parts : (all : List (List ℕ)) (rest : List ℕ) → IsAnswer here all rest → here ≡ messages_text all ++ (ok_trailer ++ rest)
  answer_parts all rest a = a.parts ∙ append_assoc (messages_text all) ok_trailer rest

  -- where nothing of an answer stands next, nothing that ends in a trailer stands in the text
  ends_nowhere : (all : List (List ℕ)) (payload rest : List ℕ) → IsNoPart now → FitsFrame payload → IsTrailer payload → AllByRecursion FitsFrame all
      → here ≡ messages_text all ++ (frame_text (trailer_frame payload) ++ rest) → ⊥
  ends_nowhere all payload rest none fits trailer fit is =
      let on = trailer_goes_on all payload rest fit is in
      none (front_of on.more payload) (behind_front on.more payload rest) (front_is_frame on.more payload on.fit fits)
      (on.parts ∙ front_stands on.more payload rest) (front_is_part on.more payload trailer)

  ok_fits : FitsFrame (0 ∷ [])
  ok_fits = omega arith

  pub no_part : (IsResult : List (List ℕ) → Type 0) (after : List ℕ) → IsNoPart now → IsNoAnswer IsResult here after
  no_part IsResult after none = record {
    no_result = λ all rest a is. ends_nowhere all (0 ∷ []) rest none ok_fits (inl refl) a.fit (answer_parts all rest a);
    no_refusal =
        λ code words rest r. ends_nowhere r.messages (code ∷ words) rest none r.trailer_fits (inr (code, words, (refl, r.not_ok, r.utf8))) r.fit r.parts;
    left = λ all rest a. absurd (ends_nowhere all (0 ∷ []) rest none ok_fits (inl refl) a.fit (answer_parts all rest a));
  }

  longer : (all : List (List ℕ)) (end : List ℕ) → GoesOn h.messages all now end → count ≤ length all
  longer all end on =
      let long : length all ≡ length (h.messages ++ on.more) = ap (λ (l : List (List ℕ)). length l) on.all_are in
      let sum : length (h.messages ++ on.more) ≡ length h.messages + length on.more = length-append h.messages on.more in
      let is = h.count_is in
      omega (arith, long, sum, is)

  -- as many messages came as there may be frames
  no_room : (all : List (List ℕ)) (rest : List ℕ) → count ≡ frames_limit → IsAnswer here all rest → ⊥
  no_room all rest full a =
      let long = longer all (ok_trailer ++ rest) (trailer_goes_on all (0 ∷ []) rest a.fit (answer_parts all rest a)) in
      let few = a.few in
      omega (arith, long, full, few)

  pub too_many : (IsResult : List (List ℕ) → Type 0) (after : List ℕ) → count ≡ frames_limit → IsNoAnswer IsResult here after
  too_many IsResult after full = record {
    no_result = λ all rest a is. no_room all rest full a;
    no_refusal = λ code words rest r.
        let long = longer r.messages (trailer_text code words ++ rest) (trailer_goes_on r.messages (code ∷ words) rest r.fit r.parts) in
        let few = r.few in
        absurd (omega (arith, long, full, few));
    left = λ all rest a. absurd (no_room all rest full a);
  }

  within : count < frames_limit → length h.messages < frames_limit
  within few =
      let is = h.count_is in
      omega (arith, is, few)

  -- the trailer of an answer came
  pub is_answer : (rest : List ℕ) → count < frames_limit → now ≡ ok_trailer ++ rest → IsAnswer here h.messages rest
  is_answer rest few end = record {
    parts = h.parts ∙ ap (λ (l : List ℕ). messages_text h.messages ++ l) end ∙ sym (append_assoc (messages_text h.messages) ok_trailer rest);
    fit = h.fit;
    few = within few;
  }

  -- that of a refusal came
  pub is_refused : (code : ℕ) (words rest : List ℕ) → count < frames_limit → RefusesHere now code words rest → IsRefused here code words rest
  is_refused code words rest few r = record {
    messages = h.messages;
    parts = h.parts ∙ ap (λ (l : List ℕ). messages_text h.messages ++ l) r.0;
    fit = h.fit;
    few = within few;
    trailer_fits = r.1;
    not_ok = r.2;
    utf8 = r.3;
  }

  -- that of an answer came, and what was held is no result
  pub is_no_result : (IsResult : List (List ℕ) → Type 0) (after : List ℕ) → now ≡ ok_trailer ++ after → (IsResult h.messages → ⊥) → IsNoAnswer IsResult here after
  is_no_result IsResult after end none = record {
    no_result = λ all rest a is.
        let on = trailer_goes_on all (0 ∷ []) rest a.fit (answer_parts all rest a) in
        let alone = end_alone law on.more (0 ∷ []) (0 ∷ []) after rest ok_fits ok_fits (sym end ∙ on.parts) in
        let one : all ≡ h.messages = on.all_are ∙ ap (λ (l : List (List ℕ)). h.messages ++ l) alone.0 ∙ append-nil h.messages in
        none (subst IsResult one is);
    no_refusal = λ code words rest r.
        let on = trailer_goes_on r.messages (code ∷ words) rest r.fit r.parts in
        let alone = end_alone law on.more (0 ∷ []) (code ∷ words) after rest ok_fits r.trailer_fits (sym end ∙ on.parts) in
        r.not_ok (sym (ap (λ (l : List ℕ). get_or l 0 0) alone.1));
    left = λ all rest a.
        let on = trailer_goes_on all (0 ∷ []) rest a.fit (answer_parts all rest a) in
        let alone = end_alone law on.more (0 ∷ []) (0 ∷ []) after rest ok_fits ok_fits (sym end ∙ on.parts) in
        let same : ok_trailer ++ after ≡ ok_trailer ++ rest = sym end ∙ on.parts ∙ ap (λ (m : List (List ℕ)). messages_text m ++ (ok_trailer ++ rest)) alone.0 in
        (law (trailer_frame (0 ∷ [])) (trailer_frame (0 ∷ [])) after rest (is_trailer_frame (0 ∷ []) ok_fits) (is_trailer_frame (0 ∷ []) ok_fits) same).1;
  }

-- ---- where the bytes are told

pub none_came : (Holds : List (List ℕ) → Type 0) (here : Option (List ℕ)) → Holds [] → WhereKnown here here (HasRead Holds 0)
none_came Holds None holds = tt
none_came Holds (Some here) holds = record { messages = []; parts = refl; fit = tt; count_is = refl; holds = holds }

all_push : (P : List ℕ → Type 0) (xs : List (List ℕ)) (x : List ℕ) → AllByRecursion P xs → P x → AllByRecursion P (xs ++ x ∷ [])
all_push P [] x all h = (h, tt)
all_push P (y ∷ ys) x all h = (all.0, all_push P ys x all.1 h)

one_more : (Holds Further : List (List ℕ) → Type 0) (count : ℕ) (here now after message : List ℕ) → HasRead Holds count here now → FitsFrame message → now ≡ in_frame message ++ after
    → ((messages : List (List ℕ)) → Holds messages → FitsFrame message → Further (messages ++ message ∷ [])) → HasRead Further (count + 1) here after
one_more Holds Further count here now after message h fits front holds = record {
  messages = h.messages ++ message ∷ [];
  parts =
      h.parts ∙ ap (λ (l : List ℕ). messages_text h.messages ++ l) front
      ∙ sym (append_assoc (messages_text h.messages) (in_frame message) after)
      ∙ ap (λ (l : List ℕ). l ++ after) (flat_map_more in_frame [] h.messages message);
  fit = all_push FitsFrame h.messages message h.fit fits;
  count_is = length_push h.messages message ∙ ap (λ (k : ℕ). k + 1) h.count_is;
  holds = holds h.messages h.holds fits;
}

-- a message that a frame had room for
pub short_came : (Holds Further : List (List ℕ) → Type 0) (count : ℕ) (here now after : Option (List ℕ)) (message : Vec ℕ Global) → WhereKnown here now (HasRead Holds count)
    → WhereKnown now after (ReadsPart (Ok (parts.Message message))) → ((messages : List (List ℕ)) → Holds messages → FitsFrame message.items → Further (messages ++ message.items ∷ []))
    → WhereKnown here after (HasRead Further (count + 1))
short_came Holds Further count None now after message h part holds = tt
short_came Holds Further count (Some here) None after message h part holds = absurd h
short_came Holds Further count (Some here) (Some now) None message h part holds = absurd part
short_came Holds Further count (Some here) (Some now) (Some after) message h part holds =
    one_more Holds Further count here now after message.items h part.0 part.1 holds

pub more_came : (Holds Further : List (List ℕ) → Type 0) (count : ℕ) (here now after : Option (List ℕ)) (message : Vec ℕ Global) → WhereKnown here now (HasRead Holds count)
    → WhereKnown now after (ReadsPart (Ok (parts.Message message))) → ((messages : List (List ℕ)) → Holds messages → Further (messages ++ message.items ∷ []))
    → WhereKnown here after (HasRead Further (count + 1))
more_came Holds Further count here now after message h part holds =
    short_came Holds Further count here now after message h part (λ messages held fits. holds messages held)

module _ {T : Type 0} (law : NoFrameBeginsAnother) (Gives : List (List ℕ) → T → Type 0) (IsResult Holds : List (List ℕ) → Type 0) (count : ℕ) where
  pub value_came : (here now after : Option (List ℕ)) (value : T) → count < frames_limit → WhereKnown here now (HasRead Holds count)
      → WhereKnown now after (ReadsPart (Ok parts.End)) → ((messages : List (List ℕ)) → Holds messages → Gives messages value)
      → WhereKnown here after (Receives Gives IsResult (Ok value))
  value_came None now after value few h part gives = tt
  value_came (Some here) None after value few h part gives = absurd h
  value_came (Some here) (Some now) None value few h part gives = absurd part
  value_came (Some here) (Some now) (Some after) value few h part gives =
      (h.messages, is_answer law Holds count here now h after few part, gives h.messages h.holds)

  pub no_value_came : (here now after : Option (List ℕ)) → WhereKnown here now (HasRead Holds count)
      → WhereKnown now after (ReadsPart (Ok parts.End)) → ((messages : List (List ℕ)) → Holds messages → ¬ IsResult messages)
      → WhereKnown here after (Receives Gives IsResult (Err faults.BadAnswer))
  no_value_came None now after h part none = tt
  no_value_came (Some here) None after h part none = absurd h
  no_value_came (Some here) (Some now) None h part none = absurd part
  no_value_came (Some here) (Some now) (Some after) h part none =
      is_no_result law Holds count here now h IsResult after part (none h.messages h.holds)

  fault_known : (here now after : List ℕ) (fault : ClientFault) → count < frames_limit → HasRead Holds count here now → ReadsPart (Err fault) now after → Receives Gives IsResult (Err fault) here after
  fault_known here now after (faults.Status code words) few h part = is_refused law Holds count here now h code (string_bytes words) after few part
  fault_known here now after faults.BadAnswer few h part = no_part law Holds count here now h IsResult after part
  fault_known here now after (faults.Call calls.Read) few h part = tt
  fault_known here now after (faults.Call calls.OutOfMemory) few h part = tt
  fault_known here now after (faults.Call calls.Write) few h part = absurd part

  pub fault_came : (here now after : Option (List ℕ)) (fault : ClientFault) → count < frames_limit → WhereKnown here now (HasRead Holds count)
      → WhereKnown now after (ReadsPart (Err fault)) → WhereKnown here after (Receives Gives IsResult (Err fault))
  fault_came None now after fault few h part = tt
  fault_came (Some here) None after fault few h part = absurd h
  fault_came (Some here) (Some now) None fault few h part = absurd part
  fault_came (Some here) (Some now) (Some after) fault few h part = fault_known here now after fault few h part

  pub too_many_came : (here now : Option (List ℕ)) → count ≡ frames_limit → WhereKnown here now (HasRead Holds count)
      → WhereKnown here now (Receives Gives IsResult (Err faults.BadAnswer))
  too_many_came None now full h = tt
  too_many_came (Some here) None full h = absurd h
  too_many_came (Some here) (Some now) full h = too_many law Holds count here now h IsResult now full

-- ---- what the messages of an answer say

-- an answer as messages that came, with its trailer behind them
as_read : (text : List ℕ) (messages : List (List ℕ)) (rest : List ℕ) → IsAnswer text messages rest → HasRead (λ all. all ≡ messages) (length messages) text (ok_trailer ++ rest)
as_read text messages rest a = record {
  messages = messages;
  parts = a.parts ∙ append_assoc (messages_text messages) ok_trailer rest;
  fit = a.fit;
  count_is = refl;
  holds = refl;
}

-- the messages of the answer that a text begins with are no result, and so there is none
pub says_nothing : NoFrameBeginsAnother → (IsResult : List (List ℕ) → Type 0) (text : List ℕ) (messages : List (List ℕ)) (rest : List ℕ) → IsAnswer text messages rest → (IsResult messages → ⊥) → IsNoAnswer IsResult text rest
unfolding as_read
says_nothing law IsResult text messages rest a none =
    is_no_result law (λ all. all ≡ messages) (length messages) text (ok_trailer ++ rest) (as_read text messages rest a) IsResult rest refl none

-- a value of which another is made
pub value_says : {S T : Type 0} (Gives : List (List ℕ) → S → Type 0) (IsResult : List (List ℕ) → Type 0) (Further : List (List ℕ) → T → Type 0) (IsFurther : List (List ℕ) → Type 0)
    (here after : Option (List ℕ)) (value : S) (made : T) → WhereKnown here after (Receives Gives IsResult (Ok value))
    → ((messages : List (List ℕ)) → Gives messages value → Further messages made) → WhereKnown here after (Receives Further IsFurther (Ok made))
value_says Gives IsResult Further IsFurther None after value made h says = tt
value_says Gives IsResult Further IsFurther (Some here) None value made h says = absurd h
value_says Gives IsResult Further IsFurther (Some here) (Some after) value made h says = (h.0, h.1, says h.0 h.2)

-- a value of which none is made
pub value_fails : {S T : Type 0} → NoFrameBeginsAnother → (Gives : List (List ℕ) → S → Type 0) (IsResult : List (List ℕ) → Type 0) (Further : List (List ℕ) → T → Type 0) (IsFurther : List (List ℕ) → Type 0)
    (here after : Option (List ℕ)) (value : S) → WhereKnown here after (Receives Gives IsResult (Ok value))
    → ((messages : List (List ℕ)) → Gives messages value → ¬ IsFurther messages) → WhereKnown here after (Receives Further IsFurther (Err faults.BadAnswer))
value_fails law Gives IsResult Further IsFurther None after value h none = tt
value_fails law Gives IsResult Further IsFurther (Some here) None value h none = absurd h
value_fails law Gives IsResult Further IsFurther (Some here) (Some after) value h none = says_nothing law IsFurther here h.0 after h.1 (none h.0 h.2)

fault_of_both : {S T : Type 0} (Gives : List (List ℕ) → S → Type 0) (IsResult : List (List ℕ) → Type 0) (Further : List (List ℕ) → T → Type 0) (IsFurther : List (List ℕ) → Type 0)
    (here after : List ℕ) (fault : ClientFault) → Receives Gives IsResult (Err fault) here after → ((messages : List (List ℕ)) → IsFurther messages → IsResult messages)
    → Receives Further IsFurther (Err fault) here after
fault_of_both Gives IsResult Further IsFurther here after (faults.Status code words) h wider = h
fault_of_both Gives IsResult Further IsFurther here after faults.BadAnswer h wider =
    record { no_result = λ messages rest a is. h.no_result messages rest a (wider messages is); no_refusal = h.no_refusal; left = h.left }
fault_of_both Gives IsResult Further IsFurther here after (faults.Call calls.Write) h wider = h
fault_of_both Gives IsResult Further IsFurther here after (faults.Call calls.Read) h wider = h
fault_of_both Gives IsResult Further IsFurther here after (faults.Call calls.OutOfMemory) h wider = h

-- the same fault, where fewer messages are a result
pub fault_stays : {S T : Type 0} (Gives : List (List ℕ) → S → Type 0) (IsResult : List (List ℕ) → Type 0) (Further : List (List ℕ) → T → Type 0) (IsFurther : List (List ℕ) → Type 0)
    (here after : Option (List ℕ)) (fault : ClientFault) → WhereKnown here after (Receives Gives IsResult (Err fault)) → ((messages : List (List ℕ)) → IsFurther messages → IsResult messages)
    → WhereKnown here after (Receives Further IsFurther (Err fault))
fault_stays Gives IsResult Further IsFurther None after fault h wider = tt
fault_stays Gives IsResult Further IsFurther (Some here) None fault h wider = absurd h
fault_stays Gives IsResult Further IsFurther (Some here) (Some after) fault h wider = fault_of_both Gives IsResult Further IsFurther here after fault h wider

-- ---- the frames of the messages

abbrev pub HoldsFrames : Vec ℕ Global → List (List ℕ) → Type 0
HoldsFrames frames messages = frames.items ≡ messages_text messages

pub one_frame_more : (frames next : Vec ℕ Global) (message : List ℕ) → next.items ≡ frames.items ++ in_frame message
    → (messages : List (List ℕ)) → HoldsFrames frames messages → HoldsFrames next (messages ++ message ∷ [])
one_frame_more frames next message is messages held =
    is ∙ ap (λ (l : List ℕ). l ++ in_frame message) held ∙ flat_map_more in_frame [] messages message
