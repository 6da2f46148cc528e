-- What an array says of a node is one event.
use Rattle.std.proofs.Common.{◌≡◌, ℕ, List, [], ◌∷◌, Some, refl, sym, ap, subst, ◌∙◌}
use Rattle.std.proofs.lemmas.Option.{same_Some}
use Rattle.std.specs.Prelude.{slice_get}
use Rattle.serde_json.specs.Data.{Data}
use Rattle.serde_json.specs.Find.{as_array}
use Rattle.node_events.specs.declared.event.Event.{Event}
use Rattle.node_events.specs.declared.event.Event.TheVariants.{Put, Tick, Deliver, TickCut, DeliverCut, Restart, Get, Info, Outcome}
use Rattle.run_files.specs.JsonValues.{whole, words}
use Rattle.run_files.specs.ScheduleFile.{Says, TellsEvent}
use Rattle.run_files.proofs.Words.{differ, one_ticket, words_are_one}

-- ---- what a word says

one_upload : (uploads : List (List ℕ)) (rest : List Data) (p q : ℕ) (x y : List ℕ) → rest ≡ whole p ∷ [] → rest ≡ whole q ∷ []
    → slice_get uploads p ≡ Some x → slice_get uploads q ≡ Some y → x ≡ y
one_upload uploads rest p q x y a b c d =
    let same : p ≡ q = cc in
    same_Some x y (sym c ∙ ap (slice_get uploads) same ∙ d)

pub said_is_one : (uploads : List (List ℕ)) (word : List ℕ) (node : ℕ) (rest : List Data) (e f : Event)
    → Says uploads word node rest e → Says uploads word node rest f → e ≡ f
said_is_one us w n r (Put a x) (Put b y) p q =
    let same : x ≡ y = one_upload us r p.2 q.2 x y p.3 q.3 p.4 q.4 in cc
said_is_one us w n r (Tick a x) (Tick b y) p q = cc
said_is_one us w n r (Deliver a x) (Deliver b y) p q = cc
said_is_one us w n r (TickCut a x) (TickCut b y) p q = cc
said_is_one us w n r (DeliverCut a x) (DeliverCut b y) p q = cc
said_is_one us w n r (Restart a) (Restart b) p q = cc
said_is_one us w n r (Get a x) (Get b y) p q =
    let table : x.table ≡ y.table = cc in
    let version : x.version ≡ y.version = cc in
    let same : x ≡ y = one_ticket x y table version in cc
said_is_one us w n r (Info a x) (Info b y) p q = cc
said_is_one us w n r (Outcome a x) (Outcome b y) p q =
    let same : x ≡ y = one_upload us r p.2 q.2 x y p.3 q.3 p.4 q.4 in cc
said_is_one us w n r e f p q = absurd (differ w _ _ p.0 q.0 refl)

-- ---- the array that tells an event

-- what it says of a node is what its words say
pub event_said : (us : List (List ℕ)) (d : Data) (word : List ℕ) (node : ℕ) (rest : List Data) (event : Event) → as_array d ≡ Some (words word node rest)
    → TellsEvent us d event → Says us word node rest event
event_said us d word node rest event is told =
    let one = words_are_one d told.word word told.node node told.rest rest told.items is in
    subst (λ (w : List ℕ). Says us w node rest event) one.0
    (subst (λ (n : ℕ). Says us told.word n rest event) one.1 (subst (λ (l : List Data). Says us told.word told.node l event) one.2 told.says))

-- it tells one event
pub event_is_one : (us : List (List ℕ)) (d : Data) (e f : Event) → TellsEvent us d e → TellsEvent us d f → e ≡ f
event_is_one us d e f p q = said_is_one us q.word q.node q.rest e f (event_said us d q.word q.node q.rest e q.items p) q.says
