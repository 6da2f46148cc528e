-- Texts that were sent, one behind the other.
use Rattle.std.proofs.Common.{◌≡◌, ℕ, List, [], ◌++◌, Option, Some, None, Result, Ok, Err, refl, sym, subst, ap, ◌∙◌, append_assoc, append-nil}
use Rattle.grpc_frames.specs.FrameFaults.{WhereKnown}
use Rattle.call_protocol.specs.declared.call_fault.CallFault.{CallFault}
use Rattle.call_protocol.specs.declared.call_fault.CallFault.TheVariants as calls
use Rattle.client_calls.specs.Sending.{Sends, SendsPart}

-- a beginning of a text is one of a longer text
part_more : (text more old new : List ℕ) → SendsPart text old new → SendsPart (text ++ more) old new
part_more text more old new h =
    (h.0, (h.1.0 ++ more, sym (append_assoc h.0 h.1.0 more) ∙ ap (λ (l : List ℕ). l ++ more) h.1.1), h.2)

part_then : (front text old mid new : List ℕ) → mid ≡ old ++ front → SendsPart text mid new → SendsPart (front ++ text) old new
part_then front text old mid new sent h = (
  front ++ h.0,
  (h.1.0, append_assoc front h.0 h.1.0 ∙ ap (λ (l : List ℕ). front ++ l) h.1.1),
  h.2 ∙ ap (λ (l : List ℕ). l ++ h.0) sent ∙ append_assoc old front h.0,
)

fails : (fault : CallFault) (text more old new : List ℕ) → Sends (Err fault) text old new → Sends (Err fault) (text ++ more) old new
fails calls.Write text more old new h = part_more text more old new h
fails calls.OutOfMemory text more old new h = part_more text more old new h
fails calls.Read text more old new h = absurd h

follows : (r : Result (Unit {0}) CallFault) (front text old mid new : List ℕ) → mid ≡ old ++ front → Sends r text mid new → Sends r (front ++ text) old new
follows (Ok done) front text old mid new sent h = h ∙ ap (λ (l : List ℕ). l ++ text) sent ∙ append_assoc old front text
follows (Err calls.Write) front text old mid new sent h = part_then front text old mid new sent h
follows (Err calls.OutOfMemory) front text old mid new sent h = part_then front text old mid new sent h
follows (Err calls.Read) front text old mid new sent h = absurd h

-- what failed did so before the text that was to follow
pub send_fails : (fault : CallFault) (text more : List ℕ) (old new : Option (List ℕ)) → WhereKnown old new (Sends (Err fault) text) → WhereKnown old new (Sends (Err fault) (text ++ more))
send_fails fault text more None new h = tt
send_fails fault text more (Some old) None h = absurd h
send_fails fault text more (Some old) (Some new) h = fails fault text more old new h

-- a text was sent behind one that was
pub send_follows : (r : Result (Unit {0}) CallFault) (front text : List ℕ) (old mid new : Option (List ℕ)) → WhereKnown old mid (Sends (Ok tt) front) → WhereKnown mid new (Sends r text)
    → WhereKnown old new (Sends r (front ++ text))
send_follows r front text None mid new sent h = tt
send_follows r front text (Some old) None new sent h = absurd sent
send_follows r front text (Some old) (Some mid) None sent h = absurd h
send_follows r front text (Some old) (Some mid) (Some new) sent h = follows r front text old mid new sent h

-- nothing was sent, for want of memory
pub nothing_sent : (fault : CallFault) (text : List ℕ) (held : Option (List ℕ)) → fault ≡ calls.OutOfMemory → WhereKnown held held (Sends (Err fault) text)
nothing_sent fault text None is = tt
nothing_sent calls.OutOfMemory text (Some held) is = ([], (text, refl), sym (append-nil held))
nothing_sent calls.Write text (Some held) is = ([], (text, refl), sym (append-nil held))
nothing_sent calls.Read text (Some held) is = absurd (let wrong : calls.Read ≡ calls.OutOfMemory = is in cc)

-- ---- a request of one message

module _ (path message end : List ℕ) where
  -- the three texts, as those of a request are joined
  abbrev pub three : List ℕ
  three = path ++ (message ++ []) ++ end

  three_are : path ++ (message ++ end) ≡ three
  three_are = ap (λ (l : List ℕ). path ++ (l ++ end)) (sym (append-nil message)) ∙ sym (append_assoc path (message ++ []) end)

  pub first_fails : (fault : CallFault) (old new : Option (List ℕ)) → WhereKnown old new (Sends (Err fault) path) → WhereKnown old new (Sends (Err fault) three)
  first_fails fault old new h =
      subst (λ (t : List ℕ). WhereKnown old new (Sends (Err fault) t)) three_are (send_fails fault path (message ++ end) old new h)

  pub second_fails : (fault : CallFault) (old mid new : Option (List ℕ)) → WhereKnown old mid (Sends (Ok tt) path) → WhereKnown mid new (Sends (Err fault) message)
      → WhereKnown old new (Sends (Err fault) three)
  second_fails fault old mid new sent h =
      subst (λ (t : List ℕ). WhereKnown old new (Sends (Err fault) t)) three_are
      (send_follows (Err fault) path (message ++ end) old mid new sent (send_fails fault message end mid new h))

  pub all_three : (r : Result (Unit {0}) CallFault) (old mid late new : Option (List ℕ)) → WhereKnown old mid (Sends (Ok tt) path) → WhereKnown mid late (Sends (Ok tt) message)
      → WhereKnown late new (Sends r end) → WhereKnown old new (Sends r three)
  all_three r old mid late new sent second h =
      subst (λ (t : List ℕ). WhereKnown old new (Sends r t)) three_are
      (send_follows r path (message ++ end) old mid new sent (send_follows r message end mid late new second h))
