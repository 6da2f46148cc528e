-- A file means one schedule, which is said of the value that it was read as.
use Rattle.std.proofs.Common.{◌≡◌, ℕ, List, Some, None, Result, Ok, Err, sym, ap, subst, ◌∙◌}
use Rattle.std.specs.Prelude.{codes}
use Rattle.std.specs.List.{AllZip}
use Rattle.std.proofs.lemmas.Option.{same_Some}
use Rattle.serde_json.specs.Data.{Data}
use Rattle.serde_json.specs.Read.{read as read_text}
use Rattle.serde_json.specs.View.{items_of}
use Rattle.node_events.specs.declared.event.Event.{Event}
use Rattle.traces.specs.declared.config.Config.{Config}
use Rattle.run_files.specs.UploadValue.{MeansUpload}
use Rattle.run_files.specs.JsonValues.{array_at}
use Rattle.run_files.specs.ScheduleFile.{TellsEvent, TellsConfig, MeansSchedule}
use Rattle.run_files.specs.Flaws.{IsScheduleFlaw, IsScheduleFlawIn, IsTextFlaw, ReadsSchedule}
use Rattle.run_files.specs.declared.schedule_file.Schedule.{Schedule}
use Rattle.run_files.specs.declared.flaw.TextFlaw.{TextFlaw}
use Rattle.run_files.specs.declared.flaw.TextFlaw.TheVariants.{NotUtf8, NotJson}
use Rattle.run_files.specs.declared.flaw.ScheduleFlaw.{ScheduleFlaw}
use Rattle.run_files.specs.declared.flaw.ScheduleFlaw.TheVariants as flaws
use Rattle.run_files.proofs.Reading.{items_are_one, zipped_are_one, unfit_refused}
use Rattle.run_files.proofs.EventWords.{event_is_one}
use Rattle.run_files.proofs.UploadValues.{upload_is_one}

pub config_is_one : (d : Data) (x y : Config) → TellsConfig d x → TellsConfig d y → x ≡ y
config_is_one d x y p q =
    let members : x.members ≡ y.members = same_Some x.members y.members (sym p.members ∙ q.members) in
    let slots : x.slot_limit ≡ y.slot_limit = same_Some x.slot_limit y.slot_limit (sym p.slots ∙ q.slots) in
    let entries : x.journal_limit ≡ y.journal_limit = p.entries ∙ sym q.entries in
    let first : ℕ → Config = λ n. record { members = n; slot_limit = x.slot_limit; journal_limit = x.journal_limit } in
    let second : ℕ → Config = λ n. record { members = y.members; slot_limit = n; journal_limit = x.journal_limit } in
    let third : ℕ → Config = λ n. record { members = y.members; slot_limit = y.slot_limit; journal_limit = n } in
    ap first members ∙ ap second slots ∙ ap third entries

module _ (file : List ℕ) (d : Data) (config : Config) (events : List Event) (read : read_text file ≡ Some d) (h : MeansSchedule file config events) where
  same : h.value ≡ d
  same = same_Some h.value d (sym h.read ∙ read)

  pub config_said : TellsConfig d config
  config_said = subst (λ (x : Data). TellsConfig x config) same h.configured

  array_said : (name : List ℕ) (ds es : List Data) → array_at name h.value ≡ Some (items_of ds) → array_at name d ≡ Some (items_of es) → ds ≡ es
  array_said name ds es is_here is_there =
      items_are_one ds es (same_Some (items_of ds) (items_of es) (sym is_here ∙ ap (array_at name) same ∙ is_there))

  -- the uploads that are told are those of the values at their name
  uploads_said : (ds : List Data) → array_at (codes "uploads") d ≡ Some (items_of ds) → AllZip MeansUpload ds h.uploads
  uploads_said ds is_there =
      subst (λ (l : List Data). AllZip MeansUpload l h.uploads) (array_said (codes "uploads") h.upload_values ds h.uploads_at is_there) h.uploads_mean

  -- and so are the events, of these uploads
  events_said : (ds es : List Data) (uploads : List (List ℕ)) → array_at (codes "uploads") d ≡ Some (items_of ds) → AllZip MeansUpload ds uploads
      → array_at (codes "events") d ≡ Some (items_of es) → AllZip (TellsEvent uploads) es events
  events_said ds es uploads uploads_there mean events_there =
      let all : h.uploads ≡ uploads = zipped_are_one MeansUpload upload_is_one ds h.uploads uploads (uploads_said ds uploads_there) mean in
      subst (λ (us : List (List ℕ)). AllZip (TellsEvent us) es events) all
      (subst (λ (l : List Data). AllZip (TellsEvent h.uploads) l events) (array_said (codes "events") h.event_values es h.events_at events_there) h.events_mean)

  array_missing : (name : List ℕ) (ds : List Data) → array_at name h.value ≡ Some (items_of ds) → array_at name d ≡ None → ⊥
  array_missing name ds is_here none =
      let both : Some (items_of ds) ≡ None = sym is_here ∙ ap (array_at name) same ∙ none in absurd cc

  -- with what is wrong in the value, it would mean none
  refused_in : (flaw : ScheduleFlaw) → IsScheduleFlawIn d flaw → ⊥
  refused_in (flaws.Text flaw) bad = absurd bad
  refused_in flaws.Members bad = bad config.members (config_said.members, config_said.members_within)
  refused_in flaws.SlotLimit bad = bad.1 config.slot_limit config_said.slots config_said.within.0.0 config_said.within.0.1
  refused_in flaws.Uploads bad = array_missing (codes "uploads") h.upload_values h.uploads_at bad.1
  refused_in flaws.Events bad = array_missing (codes "events") h.event_values h.events_at bad.2
  refused_in (flaws.Upload place) bad = unfit_refused MeansUpload bad.items place h.uploads bad.first (uploads_said bad.items bad.there)
  refused_in (flaws.Event place) bad =
      unfit_refused (TellsEvent bad.uploads) bad.items place events bad.first
      (events_said bad.upload_items bad.items bad.uploads bad.uploads_there bad.uploads_mean bad.there)

-- ---- a file that something is wrong with means no schedule

text_refused : (file : List ℕ) (flaw : TextFlaw) (config : Config) (events : List Event) → IsTextFlaw file flaw → MeansSchedule file config events → ⊥
text_refused file NotUtf8 config events bad h = bad h.is_text
text_refused file NotJson config events bad h = let both : Some h.value ≡ None = sym h.read ∙ bad.1 in absurd cc

pub schedule_refused : (file : List ℕ) (flaw : ScheduleFlaw) (config : Config) (events : List Event) → IsScheduleFlaw file flaw → MeansSchedule file config events → ⊥
schedule_refused file (flaws.Text flaw) config events bad h = text_refused file flaw config events bad h
schedule_refused file flaws.Members config events bad h = refused_in file bad.0 config events bad.1.1 h flaws.Members bad.2
schedule_refused file flaws.SlotLimit config events bad h = refused_in file bad.0 config events bad.1.1 h flaws.SlotLimit bad.2
schedule_refused file flaws.Uploads config events bad h = refused_in file bad.0 config events bad.1.1 h flaws.Uploads bad.2
schedule_refused file flaws.Events config events bad h = refused_in file bad.0 config events bad.1.1 h flaws.Events bad.2
schedule_refused file (flaws.Upload place) config events bad h = refused_in file bad.0 config events bad.1.1 h (flaws.Upload place) bad.2
schedule_refused file (flaws.Event place) config events bad h = refused_in file bad.0 config events bad.1.1 h (flaws.Event place) bad.2

-- ---- a file means one schedule at most

pub one_schedule : (file : List ℕ) (c d : Config) (s t : List Event) → MeansSchedule file c s → MeansSchedule file d t → (c ≡ d) × (s ≡ t)
one_schedule file c d s t p q =
    let value : p.value ≡ q.value = same_Some p.value q.value (sym p.read ∙ q.read) in
    let us : p.upload_values ≡ q.upload_values
    = items_are_one p.upload_values q.upload_values (same_Some (items_of p.upload_values) (items_of q.upload_values) (sym p.uploads_at ∙ ap (array_at (codes "uploads")) value ∙ q.uploads_at)) in
    let es : p.event_values ≡ q.event_values
    = items_are_one p.event_values q.event_values (same_Some (items_of p.event_values) (items_of q.event_values) (sym p.events_at ∙ ap (array_at (codes "events")) value ∙ q.events_at)) in
    let uploads : p.uploads ≡ q.uploads
    = zipped_are_one MeansUpload upload_is_one q.upload_values p.uploads q.uploads (subst (λ (l : List Data). AllZip MeansUpload l p.uploads) us p.uploads_mean) q.uploads_mean in (
      config_is_one q.value c d (config_said file q.value c s q.read p) q.configured,
      zipped_are_one (TellsEvent q.uploads) (event_is_one q.uploads) q.event_values s t
          (subst (λ (l : List (List ℕ)). AllZip (TellsEvent l) q.event_values s) uploads (subst (λ (l : List Data). AllZip (TellsEvent p.uploads) l s) es p.events_mean))
          q.events_mean,
    )

-- ---- what was read of it

-- the schedule that was read is the one that the file means
pub reads_one : (file : List ℕ) (r : Result Schedule ScheduleFlaw) (own : Schedule) (config : Config) (events : List Event) → r ≡ Ok own → ReadsSchedule file r
    → MeansSchedule file config events → (own.config ≡ config) × (own.events.items ≡ events)
reads_one file r own config events is reads h =
    let means : ReadsSchedule file (Ok own) = subst (ReadsSchedule file) is reads in
    one_schedule file own.config config own.events.items events means h

-- where something was found to be wrong, it means none
pub reads_none : (file : List ℕ) (r : Result Schedule ScheduleFlaw) (flaw : ScheduleFlaw) (config : Config) (events : List Event) → r ≡ Err flaw → ReadsSchedule file r
    → MeansSchedule file config events → ⊥
reads_none file r flaw config events is reads h =
    let bad : ReadsSchedule file (Err flaw) = subst (ReadsSchedule file) is reads in
    schedule_refused file flaw config events bad h
