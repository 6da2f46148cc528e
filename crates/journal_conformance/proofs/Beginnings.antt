-- A journal whose nodes started with nothing: no step went before its own.
use Rattle.std.proofs.Common.{◌≡◌, List, [], sym, subst}
use Rattle.seats.specs.parts.agreement_rules.specs.Views.{AgreementConfig}
use Rattle.seats.specs.parts.histories.specs.History.{History}
use Rattle.seats.specs.parts.histories.specs.Following.{UpOrDown, at_first}
use Rattle.seats.specs.parts.joined_histories.specs.Joined.{joined, Precedes}
use Rattle.seats.specs.parts.traces.specs.Told.{config_of}
use Rattle.seats.specs.parts.traces.specs.Traced.{history_of}
use Rattle.seats.specs.journal.specs.Journaled.{seats_in, Journaled}

abbrev nothing : AgreementConfig → History
nothing config = record { config = config; sent = []; steps = [] }

-- ---- the law that is cited

abbrev pub NothingPrecedes : Type 0
NothingPrecedes = (config : AgreementConfig) → Precedes config at_first (record { config = config; sent = []; steps = [] })

abbrev pub NothingIsJoined : Type 0
NothingIsJoined = (tail : History) → joined (record { config = tail.config; sent = []; steps = [] }) tail ≡ tail

-- ---- what holds behind any history that left its nodes so holds of its own

precedes : NothingPrecedes → (journal : Journaled) → journal.start ≡ []
    → Precedes (config_of journal.trace.config) (seats_in journal.start) (nothing (config_of journal.trace.config))
precedes first journal start =
    subst (λ (from : List UpOrDown). Precedes (config_of journal.trace.config) (seats_in from) (nothing (config_of journal.trace.config)))
    (sym start) (first (config_of journal.trace.config))

pub alone : NothingPrecedes → NothingIsJoined → (journal : Journaled) → journal.start ≡ [] → (P : History → Type 0)
    → ((before : History) → Precedes (config_of journal.trace.config) (seats_in journal.start) before → P (joined before (history_of journal.trace)))
    → P (history_of journal.trace)
alone first joins journal start P behind =
    subst P (joins (history_of journal.trace)) (behind (nothing (config_of journal.trace.config)) (precedes first journal start))
