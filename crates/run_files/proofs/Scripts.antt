-- What an array says is asked is one call, and a file means one script.
use Rattle.std.proofs.Common.{◌≡◌, ℕ, List, [], ◌∷◌, Some, None, Result, Ok, Err, refl, sym, ap, subst, ◌∙◌}
use Rattle.std.specs.Prelude.{codes}
use Rattle.std.specs.List.{AllZip}
use Rattle.std.proofs.lemmas.Option.{same_Some}
use Rattle.serde_json.specs.Data.{Data}
use Rattle.serde_json.specs.Read.{read as read_text}
use Rattle.serde_json.specs.Find.{as_array}
use Rattle.serde_json.specs.View.{items_of}
use Rattle.run_files.specs.declared.script.ClusterSize.{ClusterSize}
use Rattle.run_files.specs.declared.script.ClusterSize.TheVariants.{Three, Five}
use Rattle.run_files.specs.declared.script.CallRequest.{CallRequest}
use Rattle.run_files.specs.declared.script.CallRequest.TheVariants.{Put, Get, Info}
use Rattle.run_files.specs.declared.script.ScriptCall.{ScriptCall}
use Rattle.run_files.specs.JsonValues.{words, number_at, array_at}
use Rattle.run_files.specs.UploadValue.{MeansUpload}
use Rattle.run_files.specs.ScriptFile.{node_count, Asks, TellsCall, MeansScript}
use Rattle.run_files.specs.Flaws.{IsScriptFlaw, IsScriptFlawIn, IsTextFlaw, ReadsScript}
use Rattle.run_files.specs.declared.script.Script.{Script}
use Rattle.run_files.specs.declared.flaw.TextFlaw.{TextFlaw}
use Rattle.run_files.specs.declared.flaw.TextFlaw.TheVariants.{NotUtf8, NotJson}
use Rattle.run_files.specs.declared.flaw.ScriptFlaw.{ScriptFlaw}
use Rattle.run_files.specs.declared.flaw.ScriptFlaw.TheVariants as flaws
use Rattle.run_files.proofs.Reading.{items_are_one, zipped_are_one, unfit_refused}
use Rattle.run_files.proofs.Words.{differ, one_ticket, words_are_one}
use Rattle.run_files.proofs.UploadValues.{upload_is_one}

-- ---- what is asked

one_of : (rest : List Data) (d e : Data) (x y : List ℕ) → rest ≡ d ∷ [] → rest ≡ e ∷ [] → MeansUpload d x → MeansUpload e y → x ≡ y
one_of rest d e x y a b p q =
    let same : d ≡ e = cc in
    upload_is_one e x y (subst (λ (v : Data). MeansUpload v x) same p) q

pub asked_is_one : (word : List ℕ) (rest : List Data) (a b : CallRequest) → Asks word rest a → Asks word rest b → a ≡ b
asked_is_one w r (Put x) (Put y) p q = ap Put (one_of r p.1 q.1 x y p.2 q.2 p.3 q.3)
asked_is_one w r (Get x) (Get y) p q =
    let table : x.table ≡ y.table = cc in
    let version : x.version ≡ y.version = cc in
    ap Get (one_ticket x y table version)
asked_is_one w r (Info x) (Info y) p q = let same : x ≡ y = cc in ap Info same
asked_is_one w r a b p q = absurd (differ w _ _ p.0 q.0 refl)

-- behind the word of an upload stands what means it
pub put_said : (word : List ℕ) (d : Data) (a : CallRequest) → word ≡ codes "put" → Asks word (d ∷ []) a → (upload : List ℕ) × MeansUpload d upload
put_said word d (Put upload) is says =
    let same : d ≡ says.1 = cc in (upload, subst (λ (v : Data). MeansUpload v upload) (sym same) says.3)
put_said word d (Get ticket) is says = absurd (differ word _ _ is says.0 refl)
put_said word d (Info table) is says = absurd (differ word _ _ is says.0 refl)

-- ---- the array that tells a call

-- what it says of a node is what its words say
pub call_said : (nodes : ClusterSize) (d : Data) (word : List ℕ) (node : ℕ) (rest : List Data) (call : ScriptCall) → as_array d ≡ Some (words word node rest)
    → TellsCall nodes d call → (call.node ≡ node) × Asks word rest call.asked
call_said nodes d word node rest call is told =
    let one = words_are_one d told.word word call.node node told.rest rest told.items is in (
      one.1,
      subst (λ (w : List ℕ). Asks w rest call.asked) one.0 (subst (λ (l : List Data). Asks told.word l call.asked) one.2 told.asks),
    )

one_call : (x y : ScriptCall) → x.node ≡ y.node → x.asked ≡ y.asked → x ≡ y
one_call x y node asked =
    let first : ℕ → ScriptCall = λ n. record { node = n; asked = x.asked } in
    let second : CallRequest → ScriptCall = λ a. record { node = y.node; asked = a } in
    ap first node ∙ ap second asked

pub call_is_one : (nodes : ClusterSize) (d : Data) (x y : ScriptCall) → TellsCall nodes d x → TellsCall nodes d y → x ≡ y
call_is_one nodes d x y p q =
    let said = call_said nodes d q.word y.node q.rest x q.items p in
    one_call x y said.0 (asked_is_one q.word q.rest x.asked y.asked said.1 q.asks)

-- ---- the file

pub count_is_one : (n m : ClusterSize) → node_count n ≡ node_count m → n ≡ m
count_is_one Three Three h = refl
count_is_one Five Five h = refl
count_is_one Three Five h = absurd cc
count_is_one Five Three h = absurd cc

module _ (file : List ℕ) (d : Data) (nodes : ClusterSize) (calls : List ScriptCall) (read : read_text file ≡ Some d) (h : MeansScript file nodes calls) where
  same : h.value ≡ d
  same = same_Some h.value d (sym h.read ∙ read)

  pub count_said : number_at (codes "nodes") d ≡ Some (node_count nodes)
  count_said = ap (number_at (codes "nodes")) (sym same) ∙ h.counted

  -- so many nodes are read
  pub nodes_said : (n : ClusterSize) → number_at (codes "nodes") d ≡ Some (node_count n) → n ≡ nodes
  nodes_said n is = count_is_one n nodes (same_Some (node_count n) (node_count nodes) (sym is ∙ count_said))

  values_said : (ds : List Data) → array_at (codes "calls") d ≡ Some (items_of ds) → h.call_values ≡ ds
  values_said ds is_there =
      items_are_one h.call_values ds (same_Some (items_of h.call_values) (items_of ds) (sym h.calls_at ∙ ap (array_at (codes "calls")) same ∙ is_there))

  -- the calls that are told are those of the values at their name
  calls_said : (n : ClusterSize) (ds : List Data) → number_at (codes "nodes") d ≡ Some (node_count n) → array_at (codes "calls") d ≡ Some (items_of ds) → AllZip (TellsCall n) ds calls
  calls_said n ds counted is_there =
      subst (λ (k : ClusterSize). AllZip (TellsCall k) ds calls) (sym (nodes_said n counted))
      (subst (λ (l : List Data). AllZip (TellsCall nodes) l calls) (values_said ds is_there) h.calls_mean)

  -- with what is wrong in the value, it would mean none
  refused_in : (flaw : ScriptFlaw) → IsScriptFlawIn d flaw → ⊥
  refused_in (flaws.Text flaw) bad = absurd bad
  refused_in flaws.Nodes bad = bad nodes count_said
  refused_in flaws.Calls bad =
      let both : Some (items_of h.call_values) ≡ None = sym h.calls_at ∙ ap (array_at (codes "calls")) same ∙ bad.1 in absurd cc
  refused_in (flaws.Call place) bad = unfit_refused (TellsCall bad.nodes) bad.items place calls bad.first (calls_said bad.nodes bad.items bad.counted bad.there)

-- ---- a file that something is wrong with means no script

text_refused : (file : List ℕ) (flaw : TextFlaw) (nodes : ClusterSize) (calls : List ScriptCall) → IsTextFlaw file flaw → MeansScript file nodes calls → ⊥
text_refused file NotUtf8 nodes calls bad h = bad h.is_text
text_refused file NotJson nodes calls bad h = let both : Some h.value ≡ None = sym h.read ∙ bad.1 in absurd cc

pub script_refused : (file : List ℕ) (flaw : ScriptFlaw) (nodes : ClusterSize) (calls : List ScriptCall) → IsScriptFlaw file flaw → MeansScript file nodes calls → ⊥
script_refused file (flaws.Text flaw) nodes calls bad h = text_refused file flaw nodes calls bad h
script_refused file flaws.Nodes nodes calls bad h = refused_in file bad.0 nodes calls bad.1.1 h flaws.Nodes bad.2
script_refused file flaws.Calls nodes calls bad h = refused_in file bad.0 nodes calls bad.1.1 h flaws.Calls bad.2
script_refused file (flaws.Call place) nodes calls bad h = refused_in file bad.0 nodes calls bad.1.1 h (flaws.Call place) bad.2

-- ---- a file means one script at most

pub one_script : (file : List ℕ) (n m : ClusterSize) (s t : List ScriptCall) → MeansScript file n s → MeansScript file m t → (n ≡ m) × (s ≡ t)
one_script file n m s t p q =
    let value : p.value ≡ q.value = same_Some p.value q.value (sym p.read ∙ q.read) in
    let count : n ≡ m = nodes_said file q.value m t q.read q n (ap (number_at (codes "nodes")) (sym value) ∙ p.counted) in
    let values : p.call_values ≡ q.call_values
    = items_are_one p.call_values q.call_values (same_Some (items_of p.call_values) (items_of q.call_values) (sym p.calls_at ∙ ap (array_at (codes "calls")) value ∙ q.calls_at)) in (
      count,
      zipped_are_one (TellsCall m) (call_is_one m) q.call_values s t
          (subst (λ (k : ClusterSize). AllZip (TellsCall k) q.call_values s) count (subst (λ (l : List Data). AllZip (TellsCall n) l s) values p.calls_mean)) q.calls_mean,
    )

-- ---- what was read of it

-- the script that was read is the one that the file means
pub reads_one : (file : List ℕ) (r : Result Script ScriptFlaw) (own : Script) (nodes : ClusterSize) (calls : List ScriptCall) → r ≡ Ok own → ReadsScript file r
    → MeansScript file nodes calls → (own.nodes ≡ nodes) × (own.calls.items ≡ calls)
reads_one file r own nodes calls is reads h =
    let means : ReadsScript file (Ok own) = subst (ReadsScript file) is reads in
    one_script file own.nodes nodes own.calls.items calls means h

-- where something was found to be wrong, it means none
pub reads_none : (file : List ℕ) (r : Result Script ScriptFlaw) (flaw : ScriptFlaw) (nodes : ClusterSize) (calls : List ScriptCall) → r ≡ Err flaw → ReadsScript file r
    → MeansScript file nodes calls → ⊥
reads_none file r flaw nodes calls is reads h =
    let bad : ReadsScript file (Err flaw) = subst (ReadsScript file) is reads in
    script_refused file flaw nodes calls bad h
