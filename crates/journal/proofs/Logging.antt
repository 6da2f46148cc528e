-- The log of all nodes' own entries, beside a journal that grows.
use Rattle.std.proofs.Common.{◌≡◌, ◌⊎◌, inl, inr, ℕ, ◌<◌, ◌≤◌, ◌^◌, ◌==◌, ◌&&◌, not, Bool, true, false, if◌then◌else◌, Option, None, Some, List, [], ◌∷◌, ◌++◌, length, refl, sym, ap, subst, ◌∙◌}
use mathlib.Core.List.{IsPrefix}
use Rattle.std.specs.Option.{IfSome}
use Rattle.std.proofs.lemmas.List.{append-nil}
use Rattle.std.proofs.lemmas.List.Elements.{filter-append}
use Rattle.node_parts.specs.ballots.specs.declared.message.Message.{Message}
use Rattle.node_parts.specs.histories.specs.Event.{node_of}
use Rattle.node_parts.specs.histories.specs.Owning.{OwnEntry, is_query, entry_of, entries_of, own}
use Rattle.node_parts.specs.traces.specs.declared.config.Config.{Config}
use Rattle.node_parts.specs.traces.specs.declared.step.Step.{Step}
use Rattle.node_parts.specs.traces.specs.Told.{event_of, step_of, steps_of}
use Rattle.journal.specs.Journaled.{Journaled, TellsSame, HasEntry, own_in}
use Rattle.journal.specs.Logged.{own_of, HasLogged, GoesOn, with_entry, own_entry}

-- nothing is logged of a journal without a step
pub nothing_logged : (journal : Journaled) (log : List OwnEntry) → journal.trace.steps ≡ [] → log ≡ [] → HasLogged log journal
nothing_logged journal log none empty node member =
    ap (λ (ss : List Step). own node journal.trace.sent (steps_of ss) journal.recovered) none ∙ sym (ap (λ (es : List OwnEntry). own_of node es) empty)

-- a journal that tells the same has the same own entries
same_own : (before after : Journaled) (node : ℕ) → TellsSame before after → own_in node after ≡ own_in node before
same_own before after node same =
    subst (λ (ms : List Message). own node ms (steps_of after.trace.steps) after.recovered ≡ own_in node before) (sym same.trace.sent_is)
    (subst (λ (ss : List Step). own node before.trace.sent (steps_of ss) after.recovered ≡ own_in node before) (sym same.trace.steps_are)
    (subst (λ (rs : List Bool). own node before.trace.sent (steps_of before.trace.steps) rs ≡ own_in node before) (sym same.recovered_is) refl))

pub still_logged : (before after : Journaled) (log : List OwnEntry) → TellsSame before after → HasLogged log before → HasLogged log after
still_logged before after log same has node member =
    same_own before after node same ∙ has node (subst (λ (c : Config). node < c.members) same.trace.config_is member)

pub still_logged_some : (before after : Journaled) (progress : Option (List OwnEntry)) → TellsSame before after → IfSome progress (λ log. HasLogged log before)
    → IfSome progress (λ log. HasLogged log after)
still_logged_some before after None same has = tt
still_logged_some before after (Some log) same has = still_logged before after log same has

-- ---- an entry more

-- the journal's own entries grow by those of the step
abbrev pub Grown : Journaled → Journaled → Step → Bool → Type 0
Grown old new step was =
    (node : ℕ) → node < old.trace.config.members → own_in node new ≡ own_in node old ++ entries_of node new.trace.sent (step_of step) was

no_concern : (here query : Bool) → query ≡ true → (here && not query) ≡ false
no_concern true query is = ap (λ (b : Bool). not b) is
no_concern false query is = refl

just_here : (here query : Bool) → query ≡ false → (here && not query) ≡ here
just_here true query is = ap (λ (b : Bool). not b) is
just_here false query is = refl

-- a query has none
question_logged : (old new : Journaled) (step : Step) (was : Bool) (log : List OwnEntry) → new.trace.config ≡ old.trace.config → Grown old new step was → is_query (event_of step.event) ≡ true
    → HasLogged log old → HasLogged log new
question_logged old new step was log config grown query has node member =
    let here = subst (λ (c : Config). node < c.members) config member in
    grown node here
    ∙ (ap (λ (b : Bool). own_in node old ++ (if b then entry_of new.trace.sent (step_of step) was ∷ [] else []))
    (no_concern (node_of (event_of step.event) == node) (is_query (event_of step.event)) query)
    ∙ (append-nil (own_in node old) ∙ has node here))

-- the entries of one node, with one more
own_more : (node : ℕ) (log : List OwnEntry) (entry : OwnEntry) → own_of node (log ++ entry ∷ []) ≡ own_of node log ++ (if node_of entry.step.event == node then entry ∷ [] else [])
own_more node log entry = filter-append (λ (e : OwnEntry). node_of e.step.event == node) log (entry ∷ [])

entry_logged : (old new : Journaled) (step : Step) (was : Bool) (log : List OwnEntry) → new.trace.config ≡ old.trace.config → Grown old new step was → is_query (event_of step.event) ≡ false
    → HasLogged log old → HasLogged (log ++ entry_of new.trace.sent (step_of step) was ∷ []) new
entry_logged old new step was log config grown query has node member =
    let here = subst (λ (c : Config). node < c.members) config member in
    let entry = entry_of new.trace.sent (step_of step) was in
    grown node here
    ∙ (ap (λ (b : Bool). own_in node old ++ (if b then entry ∷ [] else [])) (just_here (node_of (event_of step.event) == node) (is_query (event_of step.event)) query)
    ∙ (ap (λ (es : List OwnEntry). es ++ (if node_of (event_of step.event) == node then entry ∷ [] else [])) (has node here)
    ∙ sym (own_more node log entry)))

some_same : (a b : OwnEntry) → Some a ≡ Some b → a ≡ b
some_same a b is = cc

some_none : (a : OwnEntry) → Some a ≡ None → ⊥
some_none a is = cc

-- the log keeps up with the journal
pub logged_on : (old new : Journaled) (step : Step) (more : List Message) (was asked : Bool) (log : List OwnEntry) (mine : Option OwnEntry)
    → is_query (event_of step.event) ≡ asked → HasEntry old step more was new → Grown old new step was → HasLogged log old
    → mine ≡ own_entry old step more was → HasLogged (with_entry log mine) new
logged_on old new step more was true log None query entered grown has is =
    question_logged old new step was log entered.trace.config_is grown query has
logged_on old new step more was true log (Some entry) query entered grown has is =
    absurd (some_none entry (is ∙ ap (λ (b : Bool). if b then None else Some (entry_of (old.trace.sent ++ more) (step_of step) was)) query))
logged_on old new step more was false log None query entered grown has is =
    absurd (some_none (entry_of (old.trace.sent ++ more) (step_of step) was)
    (sym (is ∙ ap (λ (b : Bool). if b then None else Some (entry_of (old.trace.sent ++ more) (step_of step) was)) query)))
logged_on old new step more was false log (Some entry) query entered grown has is =
    let one : entry ≡ entry_of new.trace.sent (step_of step) was =
    some_same entry (entry_of (old.trace.sent ++ more) (step_of step) was)
    (is ∙ ap (λ (b : Bool). if b then None else Some (entry_of (old.trace.sent ++ more) (step_of step) was)) query)
    ∙ ap (λ (ms : List Message). entry_of ms (step_of step) was) (sym entered.trace.sent_is) in
    subst (λ (es : List OwnEntry). HasLogged es new) (sym (ap (λ (e : OwnEntry). log ++ e ∷ []) one))
    (entry_logged old new step was log entered.trace.config_is grown query has)

pub logged_some : (old new : Journaled) (step : Step) (more : List Message) (was : Bool) (log outrun : Option (List OwnEntry)) (mine : Option OwnEntry) (log_now outrun_now : Option (List OwnEntry))
    → HasEntry old step more was new → Grown old new step was → IfSome log (λ l. HasLogged l old)
    → mine ≡ own_entry old step more was → GoesOn log outrun mine log_now outrun_now → IfSome log_now (λ l. HasLogged l new)
logged_some old new step more was None outrun mine log_now outrun_now entered grown has is goes =
    subst (λ (o : Option (List OwnEntry)). IfSome o (λ l. HasLogged l new)) (sym goes.0) tt
logged_some old new step more was (Some log) outrun mine log_now outrun_now entered grown has is (inl stays) =
    subst (λ (o : Option (List OwnEntry)). IfSome o (λ l. HasLogged l new)) (sym stays.0)
    (logged_on old new step more was (is_query (event_of step.event)) log mine refl entered grown has is)
logged_some old new step more was (Some log) outrun mine log_now outrun_now entered grown has is (inr gone) =
    subst (λ (o : Option (List OwnEntry)). IfSome o (λ l. HasLogged l new)) (sym gone.0) tt

-- ---- a log that is known no longer

none_some : (log : List OwnEntry) → None ≡ Some log → ⊥
none_some log is = cc

pub gone_on : (log : List OwnEntry) (outrun seen : Option (List OwnEntry)) (more : Option OwnEntry) → GoesOn (Some log) outrun more None seen
    → (now : List OwnEntry) × (seen ≡ Some now) × IsPrefix log now × ((length log < length now) ⊎ (2 ^ 62 ≤ length log))
gone_on log outrun seen more (inl stays) = absurd (none_some (with_entry log more) stays.0)
gone_on log outrun None more (inr gone) = absurd gone.1
gone_on log outrun (Some now) more (inr gone) = (now, refl, gone.1.0, gone.1.1)
