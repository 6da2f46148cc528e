-- Answers and refusals are told apart.
use Rattle.std.proofs.Common.{◌≡◌, ℕ, List, [], ◌∷◌, ◌++◌, sym, ap, ◌∙◌, append-nil, append_assoc, arith, drop}
use Rattle.std.specs.Prelude.{get_or}
use Rattle.std.specs.List.{AllByRecursion}
use Rattle.grpc_frames.specs.Frame.{frame_text}
use Rattle.grpc_frames.specs.FrameLaws.{NoFrameBeginsAnother}
use Rattle.table_types.specs.Valid.{FitsFrame}
use Rattle.call_protocol.specs.Statuses.{ok_trailer}
use Rattle.call_protocol.specs.Texts.{messages_text}
use Rattle.client_calls.specs.Answers.{IsAnswer, IsRefused}
use Rattle.client_calls.proofs.Came.{trailer_frame, is_trailer_frame, goes_on, end_alone}

-- a text begins with these messages and this trailer, and this is left
pub record Ends (text : List ℕ) (messages : List (List ℕ)) (payload rest : List ℕ) : Type 0 where
  pub parts : text ≡ messages_text messages ++ (frame_text (trailer_frame payload) ++ rest)
  pub fit : AllByRecursion FitsFrame messages
  pub fits : FitsFrame payload

pub answer_ends : (text : List ℕ) (messages : List (List ℕ)) (rest : List ℕ) → IsAnswer text messages rest → Ends text messages (0 ∷ []) rest
answer_ends text messages rest a =
    record { parts = a.parts ∙ append_assoc (messages_text messages) ok_trailer rest; fit = a.fit; fits = omega arith }

pub refusal_ends : (text : List ℕ) (code : ℕ) (words rest : List ℕ) → (r : IsRefused text code words rest) → Ends text r.messages (code ∷ words) rest
refusal_ends text code words rest r = record { parts = r.parts; fit = r.fit; fits = r.trailer_fits }

-- it does so in one way
pub ends_are_one : NoFrameBeginsAnother → (text : List ℕ) (messages others : List (List ℕ)) (payload other rest after : List ℕ) → Ends text messages payload rest → Ends text others other after
    → (others ≡ messages) × (payload ≡ other) × (rest ≡ after)
ends_are_one law text messages others payload other rest after x y =
    let on = goes_on law messages others other (frame_text (trailer_frame payload) ++ rest) after x.fit y.fit (sym x.parts ∙ y.parts) in
    let alone = end_alone law on.more payload other rest after x.fits y.fits on.parts in
    let one : frame_text (trailer_frame payload) ++ rest ≡ frame_text (trailer_frame other) ++ after =
    on.parts ∙ ap (λ (m : List (List ℕ)). messages_text m ++ (frame_text (trailer_frame other) ++ after)) alone.0 in
    let frames = law (trailer_frame payload) (trailer_frame other) rest after (is_trailer_frame payload x.fits) (is_trailer_frame other y.fits) one in
    (on.all_are ∙ ap (λ (l : List (List ℕ)). messages ++ l) alone.0 ∙ append-nil messages, alone.1, frames.1)

pub code_is : (code number : ℕ) (words texts : List ℕ) → code ∷ words ≡ number ∷ texts → code ≡ number
code_is code number words texts same = ap (λ (l : List ℕ). get_or l 0 0) same

pub words_are : (code number : ℕ) (words texts : List ℕ) → code ∷ words ≡ number ∷ texts → words ≡ texts
words_are code number words texts same = ap (λ (l : List ℕ). drop 1 l) same
