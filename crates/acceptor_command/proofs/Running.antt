-- A whole run, frame after frame.
use Rattle.std.proofs.Common.{◌≡◌, ℕ, ◌+◌, ◌<◌, Bool, true, false, List, [], ◌∷◌, ◌++◌, Option, Some, None, Result, Ok, Err, refl, sym, ap, subst, ◌∙◌, append-nil, append_assoc, arith, inl, inr}
use Rattle.std.specs.List.{flat_map}
use Rattle.std.proofs.lemmas.List.{length_push, flat_map_more}
use Rattle.grpc_frames.specs.Frame.{Frame, frame_text}
use Rattle.grpc_frames.specs.FrameFaults.{WhereKnown}
use Rattle.acceptor.specs.Standing.{Standing, IsFresh}
use Rattle.acceptor_command.specs.declared.fault.AnswerFault.{AnswerFault}
use Rattle.acceptor_command.specs.declared.fault.AnswerFault.TheVariants as faults
use Rattle.acceptor_command.specs.Conversation.{Turn, Turns}
use Rattle.acceptor_command.specs.Serving.{frame_limit, SoFar, FrontTurn, Steps, Ends, Serves}

turns_push : (start mid next : Standing) (frames : List Frame) (texts : List (List ℕ)) (f : Frame) (text : List ℕ) → Turns start frames texts mid → Turn mid f text next
    → Turns start (frames ++ f ∷ []) (texts ++ text ∷ []) next
turns_push start mid next [] [] f text h turn = (next, subst (λ (s : Standing). Turn s f text next) (sym h) turn, refl)
turns_push start mid next [] (t ∷ texts) f text h turn = absurd h
turns_push start mid next (g ∷ frames) [] f text h turn = absurd h
turns_push start mid next (g ∷ frames) (t ∷ texts) f text h turn = (h.0, h.1, turns_push h.0 mid next frames texts f text h.2 turn)

-- one frame more was answered
so_far_more : (n : ℕ) (now next : Standing) (text rest after old mid new : List ℕ) → SoFar n now text rest old mid → FrontTurn now next rest after mid new → SoFar (n + 1) next text after old new
so_far_more n now next text rest after old mid new h t =
    let s = h.served in
    record {
      frames = h.frames ++ t.frame ∷ [];
      texts = h.texts ++ t.text ∷ [];
      served = record {
        parts =
            s.parts ∙ ap (λ (l : List ℕ). flat_map frame_text h.frames ++ l) t.front ∙ sym (append_assoc (flat_map frame_text h.frames) (frame_text t.frame) after)
            ∙ ap (λ (l : List ℕ). l ++ after) (flat_map_more frame_text [] h.frames t.frame);
        start = s.start;
        fresh = s.fresh;
        turns = turns_push s.start now next h.frames h.texts t.frame t.text s.turns t.turn;
      };
      count = length_push h.frames t.frame ∙ ap (λ (k : ℕ). k + 1) h.count;
      out = t.out ∙ ap (λ (l : List ℕ). l ++ t.text) h.out ∙ flat_map_more (λ (l : List ℕ). l) old h.texts t.text;
    }

-- ---- where the bytes are told

abbrev pub HasRun : ℕ → Standing → Option (List ℕ) → Option (List ℕ) → Option (List ℕ) → Option (List ℕ) → Type 0
HasRun n now text rest old new = WhereKnown text rest (λ x y. WhereKnown old new (SoFar n now x y))

abbrev pub HasStepped : Result Bool AnswerFault → Standing → Standing → Option (List ℕ) → Option (List ℕ) → Option (List ℕ) → Option (List ℕ) → Type 0
HasStepped r now next rest after old new = WhereKnown rest after (λ x y. WhereKnown old new (Steps r now next x y))

pub run_starts : (now : Standing) (text held : Option (List ℕ)) → IsFresh now → HasRun 0 now text text held held
run_starts now None held fresh = tt
run_starts now (Some text) None fresh = tt
run_starts now (Some text) (Some held) fresh = record {
  frames = [];
  texts = [];
  served = record { parts = refl; start = now; fresh = fresh; turns = refl };
  count = refl;
  out = sym (append-nil held);
}

pub run_goes_on : (n : ℕ) (now next : Standing) (text rest after old mid new : Option (List ℕ)) → HasRun n now text rest old mid → HasStepped (Ok true) now next rest after mid new → HasRun (n + 1) next text after old new
run_goes_on n now next None rest after old mid new h t = tt
run_goes_on n now next (Some text) None after old mid new h t = absurd h
run_goes_on n now next (Some text) (Some rest) None old mid new h t = absurd t
run_goes_on n now next (Some text) (Some rest) (Some after) None mid new h t = tt
run_goes_on n now next (Some text) (Some rest) (Some after) (Some old) None new h t = absurd h
run_goes_on n now next (Some text) (Some rest) (Some after) (Some old) (Some mid) None h t = absurd t
run_goes_on n now next (Some text) (Some rest) (Some after) (Some old) (Some mid) (Some new) h t = so_far_more n now next text rest after old mid new h t

-- ---- how a run ends

abbrev pub HasEnded : Result (Unit {0}) (ℕ × AnswerFault) → Option (List ℕ) → Option (List ℕ) → Option (List ℕ) → Option (List ℕ) → Type 0
HasEnded r text rest old new = WhereKnown text rest (λ x y. WhereKnown old new (Serves r x y))

pub run_is_over : (n : ℕ) (now next : Standing) (text rest after old mid new : Option (List ℕ)) → n < frame_limit → HasRun n now text rest old mid → HasStepped (Ok false) now next rest after mid new → HasEnded (Ok tt) text after old new
run_is_over n now next None rest after old mid new lt h t = tt
run_is_over n now next (Some text) None after old mid new lt h t = absurd h
run_is_over n now next (Some text) (Some rest) None old mid new lt h t = absurd t
run_is_over n now next (Some text) (Some rest) (Some after) None mid new lt h t = tt
run_is_over n now next (Some text) (Some rest) (Some after) (Some old) None new lt h t = absurd h
run_is_over n now next (Some text) (Some rest) (Some after) (Some old) (Some mid) None lt h t = absurd t
run_is_over n now next (Some text) (Some rest) (Some after) (Some old) (Some mid) (Some new) lt h t =
    record {
      n = n;
      now = now;
      all = subst (λ (l : List ℕ). SoFar n now text [] old l) (sym t.2) (subst (λ (l : List ℕ). SoFar n now text l old mid) t.0 h);
      left = t.1;
      within = lt;
    }

ends_at : (fault : AnswerFault) (n : ℕ) (now : Standing) (rest after old new : List ℕ) → Ends fault 0 now rest after old new → Ends fault n now rest after old new
ends_at faults.EndFlag n now rest after old new h = h
ends_at (faults.Message fault) n now rest after old new h = h
ends_at faults.AnswerTooLong n now rest after old new h = h
ends_at faults.Write n now rest after old new h = h
ends_at faults.OutOfMemory n now rest after old new h = h
ends_at (faults.Frame fault) n now rest after old new h = h
ends_at faults.FrameLimit n now rest after old new h = absurd (omega (arith, h.0))

pub run_fails : (fault : AnswerFault) (n : ℕ) (now next : Standing) (text rest after old mid new : Option (List ℕ)) → n < frame_limit → HasRun n now text rest old mid → HasStepped (Err fault) now next rest after mid new → HasEnded (Err (n, fault)) text after old new
run_fails fault n now next None rest after old mid new lt h t = tt
run_fails fault n now next (Some text) None after old mid new lt h t = absurd h
run_fails fault n now next (Some text) (Some rest) None old mid new lt h t = absurd t
run_fails fault n now next (Some text) (Some rest) (Some after) None mid new lt h t = tt
run_fails fault n now next (Some text) (Some rest) (Some after) (Some old) None new lt h t = absurd h
run_fails fault n now next (Some text) (Some rest) (Some after) (Some old) (Some mid) None lt h t = absurd t
run_fails fault n now next (Some text) (Some rest) (Some after) (Some old) (Some mid) (Some new) lt h t =
    record { now = now; rest = rest; mid = mid; before = h; ends = ends_at fault n now rest after mid new t; within = inr lt }

pub run_is_full : (n : ℕ) (now : Standing) (text rest old new : Option (List ℕ)) → n ≡ frame_limit → HasRun n now text rest old new → HasEnded (Err (n, faults.FrameLimit)) text rest old new
run_is_full n now None rest old new e h = tt
run_is_full n now (Some text) None old new e h = absurd h
run_is_full n now (Some text) (Some rest) None new e h = tt
run_is_full n now (Some text) (Some rest) (Some old) None e h = absurd h
run_is_full n now (Some text) (Some rest) (Some old) (Some new) e h = record { now = now; rest = rest; mid = new; before = h; ends = (e, refl, refl); within = inl refl }
