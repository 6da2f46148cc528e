-- What is wrong with a file, step by step.
use Rattle.std.proofs.Common.{◌≡◌, ℕ, ◌<◌, List, Some, length, take, map, get_or, sym, subst, ◌∙◌, ap}
use Rattle.std.specs.List.{AllZip}
use Rattle.std.proofs.lemmas.List.{take-map, length-map, get_or-map}
use Rattle.serde_json.specs.Data.{Data}
use Rattle.serde_json.specs.Read.{read as read_text}
use Rattle.serde_json.specs.View.{view, items_of}
use Rattle.serde_json.specs.declared.value.Value.{Value}
use Rattle.ballots.specs.declared.message.Message.{Message as Sent}
use Rattle.audit_command.specs.TraceFile.{SpellsMessage, sent_at}
use Rattle.audit_command.specs.Flaws.{IsFlaw, IsMessageFlaw, IsFirstFlaw, IsItemFault, IsItemsFault, TellsFlaw}
use Rattle.audit_command.specs.declared.trace_file.MessageFlaw.{MessageFlaw}
use Rattle.audit_command.specs.declared.trace_file.TraceFault.{TraceFault}
use Rattle.audit_command.specs.declared.trace_file.TraceFault.TheVariants.{BadTrace, OutOfMemory}
use Rattle.audit_command.specs.declared.trace_file.TraceFlaw.{TraceFlaw}
use Rattle.audit_command.specs.declared.trace_file.TraceFlaw.TheVariants as flaws
use Rattle.audit_command.proofs.TraceReading.{listed_view}

module _ (vs : List Value) (i : ℕ) (x : Value) (sent : List Sent) (within : i < length vs) (is : x ≡ get_or vs i x) (before : AllZip SpellsMessage (map view (take i vs)) sent) where
  first_flaw : (flaw : MessageFlaw) → IsMessageFlaw flaw (view x) → IsFirstFlaw (map view vs) i flaw
  first_flaw flaw here = record {
    within = subst (λ (n : ℕ). i < n) (sym (length-map vs view)) within;
    sent = sent;
    before = subst (λ (ds : List Data). AllZip SpellsMessage ds sent) (sym (take-map view i vs)) before;
    here = λ d. subst (IsMessageFlaw flaw) (ap view is ∙ sym (get_or-map view vs i x d within)) here;
  }

  -- a fault of the item in that place is one of all items
  pub items_fault : (fault : TraceFault) → IsItemFault fault i (view x) → IsItemsFault fault (map view vs)
  items_fault (BadTrace flaws.NotUtf8) h = absurd h
  items_fault (BadTrace flaws.NotJson) h = absurd h
  items_fault (BadTrace flaws.Members) h = absurd h
  items_fault (BadTrace flaws.Sent) h = absurd h
  items_fault (BadTrace (flaws.Message at flaw)) h = subst (λ (k : ℕ). IsFirstFlaw (map view vs) k flaw) (sym h.0) (first_flaw flaw h.1)
  items_fault OutOfMemory h = tt

-- and so one of the file that has these items
pub file_fault : (file : List ℕ) (d : Data) (ds : List Data) (fault : TraceFault) → read_text file ≡ Some d → Some (items_of ds) ≡ sent_at d → IsItemsFault fault ds → TellsFlaw fault file
file_fault file d ds (BadTrace flaws.NotUtf8) read is h = absurd h
file_fault file d ds (BadTrace flaws.NotJson) read is h = absurd h
file_fault file d ds (BadTrace flaws.Members) read is h = absurd h
file_fault file d ds (BadTrace flaws.Sent) read is h = absurd h
file_fault file d ds (BadTrace (flaws.Message at flaw)) read is h =
    (d, read, (items_of ds, sym is, subst (λ (l : List Data). IsFirstFlaw l at flaw) (sym (listed_view ds)) h))
file_fault file d ds OutOfMemory read is h = tt

-- the flaw that is handed on
pub told_flaw : (file : List ℕ) (fault : TraceFault) (flaw shown : TraceFlaw) → fault ≡ BadTrace flaw → shown ≡ flaw → TellsFlaw fault file → IsFlaw shown file
told_flaw file fault flaw shown is same told =
    subst (λ (f : TraceFlaw). IsFlaw f file) (sym same) (let own : TellsFlaw (BadTrace flaw) file = subst (λ (f : TraceFault). TellsFlaw f file) is told in own)
