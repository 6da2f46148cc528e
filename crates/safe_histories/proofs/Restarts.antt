-- Restarts and cuts, with one step more.
use Rattle.std.proofs.Common.{◌≡◌, ◌≢◌, ℕ, ◌||◌, ◌&&◌, ◌==◌, not, Bool, true, false, if◌then◌else◌, List, [], ◌∷◌, ◌++◌, Option, Some, None, slice_get, refl, sym, ap, ◌∙◌, ne_eqb}
use Rattle.std.specs.Option.{option_and_then}
use Rattle.std.specs.List.{filter_map, cons_option, list_any}
use Rattle.std.proofs.lemmas.List.Elements.{filter_map-append}
use Rattle.std.proofs.lemmas.List.Folds.{list_any-append}
use Rattle.ballots.specs.declared.message.Message.{Message}
use Rattle.histories.specs.Event.{Event, node_of}
use Rattle.histories.specs.Event as event
use Rattle.histories.specs.EventResult.{EventResult, is_done}
use Rattle.histories.specs.History.{Step}
use Rattle.safe_histories.specs.Learning.{brings_up, brings_down, since_restart, is_taken, delivered_in, heard_since_restart}

-- ---- one step more

restarts : (up here this any : Bool) (x step : Step) (xs later before : List Step) → any ≡ (up || (here || false))
    → later ≡ (if here then [] else before ++ step ∷ [])
    → (if any then later else (if this then xs ++ step ∷ [] else x ∷ (xs ++ step ∷ [])))
    ≡ (if here then [] else (if up then before else (if this then xs else x ∷ xs)) ++ step ∷ [])
restarts true here this any x step xs later before is more = rw is more
restarts false true this any x step xs later before is more = rw is more
restarts false false true any x step xs later before is more = rw is refl
restarts false false false any x step xs later before is more = rw is refl

pub restart_more : (node : ℕ) (steps : List Step) (step : Step)
    → since_restart node (steps ++ step ∷ []) ≡ (if brings_up node step then [] else since_restart node steps ++ step ∷ [])
restart_more node [] step = refl
restart_more node (x ∷ xs) step =
    restarts (list_any (brings_up node) xs) (brings_up node step) (brings_up node x) (list_any (brings_up node) (xs ++ step ∷ [])) x step xs
    (since_restart node (xs ++ step ∷ [])) (since_restart node xs) (list_any-append (brings_up node) xs (step ∷ [])) (restart_more node xs step)

-- a step that restarts it: nothing is behind it
pub restart_here : (node : ℕ) (steps : List Step) (step : Step) → brings_up node step ≡ true → since_restart node (steps ++ step ∷ []) ≡ []
restart_here node steps step is = restart_more node steps step ∙ ap (λ b. if b then [] else since_restart node steps ++ step ∷ []) is

-- another step stands behind the others
pub no_restart : (node : ℕ) (steps : List Step) (step : Step) → brings_up node step ≡ false
    → since_restart node (steps ++ step ∷ []) ≡ since_restart node steps ++ step ∷ []
no_restart node steps step is = restart_more node steps step ∙ ap (λ b. if b then [] else since_restart node steps ++ step ∷ []) is

pub heard_more : (sent : List Message) (node : ℕ) (steps : List Step) (step : Step) → brings_up node step ≡ false
    → heard_since_restart sent (steps ++ step ∷ []) node ≡ heard_since_restart sent steps node ++ cons_option (delivered_in sent node step) []
heard_more sent node steps step is =
    ap (filter_map (delivered_in sent node)) (no_restart node steps step is) ∙ filter_map-append (delivered_in sent node) (since_restart node steps) (step ∷ [])

pub downs_more : (node : ℕ) (steps : List Step) (step : Step) → brings_up node step ≡ false
    → list_any (brings_down node) (since_restart node (steps ++ step ∷ [])) ≡ (list_any (brings_down node) (since_restart node steps) || brings_down node step)
downs_more node steps step is =
    ap (list_any (brings_down node)) (no_restart node steps step is) ∙ list_any-append (brings_down node) (since_restart node steps) (step ∷ [])
    ∙ ap (λ b. list_any (brings_down node) (since_restart node steps) || b) (or_none (brings_down node step))
  where
    or_none : (b : Bool) → (b || false) ≡ b
    or_none true = refl
    or_none false = refl

-- ---- steps of another node

pub nothing_either_way : {X : Type 0} (b : Bool) → (if b then None else None) ≡ (let o : Option X = None in o)
nothing_either_way true = refl
nothing_either_way false = refl

-- the step neither restarts the node nor brings it down, and delivers nothing to it
pub record Elsewhere (sent : List Message) (node : ℕ) (step : Step) : Type 0 where
  pub no_restart : brings_up node step ≡ false
  pub no_cut : brings_down node step ≡ false
  pub nothing : delivered_in sent node step ≡ None

abbrev pub step_of : Event → EventResult → Step
step_of e given = record { event = e; result = given }

another : (node other : ℕ) → node ≢ other → (other == node) ≡ false
another node other apart = ne_eqb other node (λ same. apart (sym same))

pub elsewhere : (sent : List Message) (node : ℕ) (e : Event) (given : EventResult) → node ≢ node_of e → Elsewhere sent node (step_of e given)
elsewhere sent node (event.Put other text) given apart =
    record { no_restart = refl; no_cut = refl; nothing = nothing_either_way (is_taken given) }
elsewhere sent node (event.Tick other left) given apart =
    record { no_restart = refl; no_cut = refl; nothing = nothing_either_way (is_taken given) }
elsewhere sent node (event.Deliver other number) given apart = record {
  no_restart = refl;
  no_cut = refl;
  nothing =
      ap (λ b. if is_taken given then option_and_then (λ n. slice_get sent n) (if b then Some number else None) else None) (another node other apart)
      ∙ nothing_either_way (is_taken given);
}
elsewhere sent node (event.TickCut other left) given apart = record {
  no_restart = refl;
  no_cut = ap (λ b. (b && is_done given) || (false && not (is_done given))) (another node other apart);
  nothing = nothing_either_way (is_taken given);
}
elsewhere sent node (event.DeliverCut other number) given apart = record {
  no_restart = refl;
  no_cut = ap (λ b. (b && is_done given) || (false && not (is_done given))) (another node other apart);
  nothing = nothing_either_way (is_taken given);
}
elsewhere sent node (event.Restart other) given apart = record {
  no_restart = ap (λ b. b && is_done given) (another node other apart);
  no_cut = ap (λ b. (false && is_done given) || (b && not (is_done given))) (another node other apart);
  nothing = nothing_either_way (is_taken given);
}
elsewhere sent node (event.Get other table version) given apart =
    record { no_restart = refl; no_cut = refl; nothing = nothing_either_way (is_taken given) }
elsewhere sent node (event.Info other table) given apart =
    record { no_restart = refl; no_cut = refl; nothing = nothing_either_way (is_taken given) }
elsewhere sent node (event.Outcome other text) given apart =
    record { no_restart = refl; no_cut = refl; nothing = nothing_either_way (is_taken given) }
