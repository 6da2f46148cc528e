-- The batches of an upload that were sent, and those that are left.
use Rattle.std.proofs.Common.{◌≡◌, ◌<◌, refl, sym, ap, subst, ◌∙◌, ℕ, List, [], ◌∷◌, ◌++◌, map, length, arith, append-nil, append_assoc}
use Rattle.std.proofs.Common.{Bor, Option, Some, None, Ok, Err}
use Rattle.grpc_frames.specs.FrameFaults.{WhereKnown}
use Rattle.header_types.specs.Fields.{SchemaTree}
use Rattle.batch_types.specs.Cells.{Rows}
use Rattle.table_types.specs.Served.{in_frame, data_text}
use Rattle.table_types.specs.Uploads.{Upload, upload_text}
use Rattle.table_types.specs.Valid.{IsUpload}
use Rattle.uploads.specs.Parts.{batch_parts, batches_parts, batch_text, batches_text, served_of, HasLeft, Gives}
use Rattle.uploads.proofs.CallerLemmas.{more_long, some_bytes}
use Rattle.call_protocol.specs.declared.call_fault.CallFault.{CallFault}
use Rattle.call_protocol.specs.Texts.{messages_text}
use Rattle.client_calls.specs.Requests.{further_message}
use Rattle.client_calls.specs.Sending.{Sends}
use Rattle.client_calls.proofs.Sent.{send_fails, send_follows}

abbrev pub texts_of : List (List ℕ × List ℕ) → List ℕ
texts_of parts = messages_text (map (served_of []) parts)

texts_join : (sent left : List (List ℕ × List ℕ)) → texts_of (sent ++ left) ≡ texts_of sent ++ texts_of left
texts_join [] left = refl
texts_join (x ∷ sent) left =
    ap (λ (l : List ℕ). in_frame (served_of [] x) ++ l) (texts_join sent left) ∙ sym (append_assoc (in_frame (served_of [] x)) (texts_of sent) (texts_of left))

texts_are : (schema : SchemaTree) (batches : List Rows) → texts_of (map (batch_parts schema) batches) ≡ messages_text (map (further_message schema) batches)
texts_are schema [] = refl
texts_are schema (rows ∷ batches) = ap (λ (l : List ℕ). in_frame (further_message schema rows) ++ l) (texts_are schema batches)

-- these batches were sent, and these are left
pub record StillToSend (text now : List ℕ) (old mid : Option (List ℕ)) : Type 0 where
  pub upload : Upload
  pub valid : IsUpload upload
  pub encoded : upload_text upload ≡ text
  pub sent : List (List ℕ × List ℕ)
  pub left : List (List ℕ × List ℕ)
  pub all_are : batches_parts upload ≡ sent ++ left
  pub has : HasLeft now left
  pub out : WhereKnown old mid (Sends (Ok tt) (texts_of sent))

nothing_yet : (held : Option (List ℕ)) → WhereKnown held held (Sends (Ok tt) [])
nothing_yet None = tt
nothing_yet (Some held) = sym (append-nil held)

pub begin_sending : (text now : List ℕ) (held : Option (List ℕ)) (u : Upload) → IsUpload u → upload_text u ≡ text → HasLeft now (batches_parts u) → StillToSend text now held held
begin_sending text now held u is same has = record {
  upload = u;
  valid = is;
  encoded = same;
  sent = [];
  left = batches_parts u;
  all_are = refl;
  has = has;
  out = nothing_yet held;
}

-- a batch was taken from those that are left
pub record Taken (given : Bor (List ℕ) × Bor (List ℕ)) (new : List ℕ) (left : List (List ℕ × List ℕ)) : Type 0 where
  pub parts : List ℕ × List ℕ
  pub rest : List (List ℕ × List ℕ)
  pub left_is : left ≡ parts ∷ rest
  pub header_is : given.0.now ≡ parts.0
  pub body_is : given.1.now ≡ parts.1
  pub has : HasLeft new rest

some_none : (x : Bor (List ℕ) × Bor (List ℕ)) → Some x ≡ None → ⊥
some_none x same = cc

taken : (result : Option (Bor (List ℕ) × Bor (List ℕ))) (given : Bor (List ℕ) × Bor (List ℕ)) (new : List ℕ) (left : List (List ℕ × List ℕ)) → result ≡ Some given → Gives result new left → Taken given new left
taken result given new [] is gives = absurd (some_none given (sym is ∙ gives.0))
taken result given new (parts ∷ rest) is gives = one (subst (λ (r : Option (Bor (List ℕ) × Bor (List ℕ))). Gives r new (parts ∷ rest)) is gives)
  where
    one : Gives (Some given) new (parts ∷ rest) → Taken given new (parts ∷ rest)
    one g = record { parts = parts; rest = rest; left_is = refl; header_is = g.0; body_is = g.1; has = g.2 }

module _ (text old_now new_now : List ℕ) (result : Option (Bor (List ℕ) × Bor (List ℕ))) (given : Bor (List ℕ) × Bor (List ℕ)) (old mid new : Option (List ℕ)) (still : StillToSend text old_now old mid)
    (is : result ≡ Some given) (gives : Gives result new_now still.left) where
  private_taken : Taken given new_now still.left
  private_taken = taken result given new_now still.left is gives

  message_is : (t : Taken given new_now still.left) → data_text given.0.now [] given.1.now ≡ served_of [] t.parts
  message_is t = ap (λ (h : List ℕ). data_text h [] given.1.now) t.header_is ∙ ap (λ (b : List ℕ). data_text t.parts.0 [] b) t.body_is

  -- its message was sent
  pub sent_more : WhereKnown mid new (Sends (Ok tt) (in_frame (data_text given.0.now [] given.1.now))) → StillToSend text new_now old new
  sent_more h =
      let t = private_taken in
      let one : texts_of (t.parts ∷ []) ≡ in_frame (served_of [] t.parts) = append-nil (in_frame (served_of [] t.parts)) in
      let message : in_frame (data_text given.0.now [] given.1.now) ≡ texts_of (t.parts ∷ []) = ap (λ (m : List ℕ). in_frame m) (message_is t) ∙ sym one in
      record {
        upload = still.upload;
        valid = still.valid;
        encoded = still.encoded;
        sent = still.sent ++ t.parts ∷ [];
        left = t.rest;
        all_are = still.all_are ∙ ap (λ (l : List (List ℕ × List ℕ)). still.sent ++ l) t.left_is ∙ sym (append_assoc still.sent (t.parts ∷ []) t.rest);
        has = t.has;
        out = subst (λ (l : List ℕ). WhereKnown old new (Sends (Ok tt) l)) (sym (texts_join still.sent (t.parts ∷ [])))
            (send_follows (Ok tt) (texts_of still.sent) (texts_of (t.parts ∷ [])) old mid new still.out (subst (λ (l : List ℕ). WhereKnown mid new (Sends (Ok tt) l)) message h));
      }

  -- fewer are left
  pub fewer_left : length new_now < length old_now
  fewer_left =
      let t = private_taken in
      let before : HasLeft old_now (t.parts ∷ t.rest) = subst (λ (l : List (List ℕ × List ℕ)). HasLeft old_now l) t.left_is still.has in
      let old_long : length old_now ≡ length (batches_text (t.parts ∷ t.rest)) = ap (λ (l : List ℕ). length l) before.is in
      let new_long : length new_now ≡ length (batches_text t.rest) = ap (λ (l : List ℕ). length l) t.has.is in
      let sum = more_long 4 (batch_text t.parts) (batches_text t.rest) in
      let some = some_bytes 4 (batch_text t.parts) in
      omega (arith, old_long, new_long, sum, some)

  -- it could not be sent
  pub sending_fails : (fault : CallFault) → WhereKnown mid new (Sends (Err fault) (in_frame (data_text given.0.now [] given.1.now)))
      → WhereKnown old new (Sends (Err fault) (texts_of (batches_parts still.upload)))
  sending_fails fault h =
      let t = private_taken in
      let all : batches_parts still.upload ≡ still.sent ++ (t.parts ∷ t.rest) = still.all_are ∙ ap (λ (l : List (List ℕ × List ℕ)). still.sent ++ l) t.left_is in
      let texts : texts_of still.sent ++ (in_frame (data_text given.0.now [] given.1.now) ++ texts_of t.rest) ≡ texts_of (batches_parts still.upload) =
      ap (λ (m : List ℕ). texts_of still.sent ++ (in_frame m ++ texts_of t.rest)) (message_is t)
      ∙ sym (texts_join still.sent (t.parts ∷ t.rest)) ∙ sym (ap (λ (l : List (List ℕ × List ℕ)). texts_of l) all) in
      subst (λ (l : List ℕ). WhereKnown old new (Sends (Err fault) l)) texts
      (send_follows (Err fault) (texts_of still.sent) (in_frame (data_text given.0.now [] given.1.now) ++ texts_of t.rest) old mid new still.out
      (send_fails fault (in_frame (data_text given.0.now [] given.1.now)) (texts_of t.rest) mid new h))

-- none is left
none_left : (result : Option (Bor (List ℕ) × Bor (List ℕ))) (new : List ℕ) (left : List (List ℕ × List ℕ)) → result ≡ None → Gives result new left → left ≡ []
none_left result new [] is gives = refl
none_left result new (parts ∷ rest) is gives = absurd (subst (λ (r : Option (Bor (List ℕ) × Bor (List ℕ))). Gives r new (parts ∷ rest)) is gives)

-- what was said of the upload that is held is said of each that has this encoding
pub said_of_each : (P : List ℕ → Type 0) (text : List ℕ) (held : Upload) → IsUpload held → upload_text held ≡ text
    → ((x y : Upload) → IsUpload x → IsUpload y → upload_text x ≡ upload_text y → x ≡ y) → P (texts_of (batches_parts held))
    → (u : Upload) → IsUpload u → upload_text u ≡ text → P (messages_text (map (further_message u.schema) u.batches))
said_of_each P text held valid encoded one says u is same =
    let same_upload : held ≡ u = one held u valid is (encoded ∙ sym same) in
    subst P (texts_are u.schema u.batches) (subst (λ (x : Upload). P (texts_of (batches_parts x))) same_upload says)

pub all_sent : (text old_now new_now : List ℕ) (result : Option (Bor (List ℕ) × Bor (List ℕ))) (old mid : Option (List ℕ)) → (still : StillToSend text old_now old mid) → result ≡ None → Gives result new_now still.left
    → WhereKnown old mid (Sends (Ok tt) (texts_of (batches_parts still.upload)))
all_sent text old_now new_now result old mid still is gives =
    let all : batches_parts still.upload ≡ still.sent =
    still.all_are ∙ ap (λ (l : List (List ℕ × List ℕ)). still.sent ++ l) (none_left result new_now still.left is gives) ∙ append-nil still.sent in
    subst (λ (l : List (List ℕ × List ℕ)). WhereKnown old mid (Sends (Ok tt) (texts_of l))) (sym all) still.out
