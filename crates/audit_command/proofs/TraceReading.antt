-- Messages read from texts, one by one.
use Rattle.std.proofs.Common.{◌≡◌, ◌⊎◌, ◌↔◌, Bool, true, false, IsTrue, ℕ, zero, suc, ◌+◌, ◌<◌, List, [], ◌∷◌, ◌++◌, Option, Some, None, Result, Ok, Err, IsErrAnd, IsUtf8, map, take, length, get_or, refl, sym, ap, subst, ◌∙◌, inl, inr, arith}
use Rattle.std.specs.List.{AllZip}
use Rattle.std.proofs.lemmas.List.{map_more}
use Rattle.std.proofs.lemmas.Option.{same_Some}
use Rattle.std.proofs.lemmas.Result.{err_from_is_err_and}
use Rattle.serde_json.specs.Data.{Data, Items}
use Rattle.serde_json.specs.declared.value.Value.{Value}
use Rattle.serde_json.specs.Find.{as_str}
use Rattle.serde_json.specs.Read.{read as read_text}
use Rattle.serde_json.specs.View.{view, items_of}
use Rattle.hex.specs.Hex.{decode_of}
use Rattle.ballots.specs.Majority.{IsMembers}
use Rattle.ballots.specs.declared.message.Message.{Message}
use Rattle.ballots.specs.declared.fault.MessageFault.{MessageFault}
use Rattle.ballots.specs.declared.fault.MessageFault.TheVariants as faults
use Rattle.ballots.specs.Message.{IsMessageText}
use Rattle.lawful_histories.specs.Lawful.{IsLawful}
use Rattle.audit_command.specs.declared.trace_file.TraceFault.{TraceFault}
use Rattle.audit_command.specs.declared.trace_file.TraceFlaw.{TraceFlaw}
use Rattle.audit_command.specs.declared.trace_file.TraceFault.TheVariants.{BadTrace, OutOfMemory}
use Rattle.audit_command.specs.TraceFile.{IsMessageHex, SpellsMessage, MeansTrace, MeansNothing, Judges, listed, members_at, sent_at}

abbrev value_or : {A E : Type 0} → A → Result A E → A
value_or d (Ok x) = x
value_or d (Err e) = d

abbrev text_or : List ℕ → Option (List ℕ) → List ℕ
text_or d (Some x) = x
text_or d None = d

-- the digits that spell a message decode to bytes that mean it
pub hex_means : (digits bytes : List ℕ) (m : Message) → decode_of digits ≡ Ok bytes → IsMessageHex digits m → IsMessageText bytes m
hex_means digits bytes m decoded h =
    subst (λ (b : List ℕ). IsMessageText b m) (ap (value_or []) (sym h.decoded ∙ decoded)) h.means

-- and so a text that spells a message spells it by its digits
pub text_means : (d : Data) (digits : List ℕ) (m : Message) → as_str d ≡ Some digits → SpellsMessage d m → IsMessageHex digits m
text_means d digits m is_text h =
    subst (λ (s : List ℕ). IsMessageHex s m) (ap (text_or []) (sym h.is_text ∙ is_text)) h.spelled

-- ---- the items of an array, one after the other

module _ {A B : Type 0} (R : A → B → Type 0) where
  zip_push : (xs : List A) (ys : List B) (x : A) (y : B) → AllZip R xs ys → R x y → AllZip R (xs ++ x ∷ []) (ys ++ y ∷ [])
  zip_push [] [] x y h r = (r, tt)
  zip_push [] (b ∷ ys) x y h r = absurd h
  zip_push (a ∷ xs) [] x y h r = absurd h
  zip_push (a ∷ xs) (b ∷ ys) x y h r = (h.0, zip_push xs ys x y h.1 r)

  zip_last : (xs : List A) (x : A) (zs : List B) → AllZip R (xs ++ x ∷ []) zs → (ys : List B) × (y : B) × (zs ≡ ys ++ y ∷ []) × AllZip R xs ys × R x y
  zip_last [] x [] h = absurd h
  zip_last [] x (z ∷ []) h = ([], z, refl, tt, h.0)
  zip_last [] x (z ∷ w ∷ zs) h = absurd h.1
  zip_last (a ∷ xs) x [] h = absurd h
  zip_last (a ∷ xs) x (z ∷ zs) h =
      let rest = zip_last xs x zs h.1 in (z ∷ rest.0, rest.1, ap (λ (l : List B). z ∷ l) rest.2, (h.0, rest.3), rest.4)

pub spelled_at : (vs : List Value) (ms : List Message) (i : ℕ) (d : Value) → AllZip SpellsMessage (map view vs) ms → i < length vs → (m : Message) × SpellsMessage (view (get_or vs i d)) m
spelled_at [] ms i d h lt = let no : ⊥ = omega arith in absurd no
spelled_at (v ∷ vs) [] i d h lt = absurd h
spelled_at (v ∷ vs) (m ∷ ms) zero d h lt = (m, h.0)
spelled_at (v ∷ vs) (m ∷ ms) (suc i) d h lt = spelled_at vs ms i d h.1 (omega arith)

-- the first of these items spell these messages, and no others
pub record ReadSoFar (vs : List Value) (i : ℕ) (sent : List Message) : Type 0 where
  pub spelled : AllZip SpellsMessage (map view (take i vs)) sent
  pub only : (ms : List Message) → AllZip SpellsMessage (map view (take i vs)) ms → sent ≡ ms

nothing_read : (ms : List Message) → AllZip SpellsMessage [] ms → [] ≡ ms
nothing_read [] h = refl
nothing_read (m ∷ ms) h = absurd h

pub reading_starts : (vs : List Value) → ReadSoFar vs 0 []
reading_starts vs = record { spelled = tt; only = nothing_read }

-- what is read of one item
abbrev pub ReadsItem : Result Message TraceFault → Data → Type 0
ReadsItem r d = (m : Message) → SpellsMessage d m → (r ≡ Ok m) ⊎ (r ≡ Err OutOfMemory)

the_same : (m n : Message) → ◌≡◌ {A = Result Message TraceFault} (Ok m) (Ok n) ⊎ ◌≡◌ {A = Result Message TraceFault} (Ok m) (Err OutOfMemory) → m ≡ n
the_same m n (inl e) = cc
the_same m n (inr e) = absurd cc

memory_only : (fault : TraceFault) (m : Message) → ◌≡◌ {A = Result Message TraceFault} (Err fault) (Ok m) ⊎ ◌≡◌ {A = Result Message TraceFault} (Err fault) (Err OutOfMemory) → fault ≡ OutOfMemory
memory_only fault m (inl e) = absurd cc
memory_only fault m (inr e) = cc

pub reading_goes_on : (vs : List Value) (i : ℕ) (x : Value) (sent : List Message) (m : Message) → i < length vs → x ≡ get_or vs i x → ReadSoFar vs i sent
    → SpellsMessage (view x) m → ReadsItem (Ok m) (view x) → ReadSoFar vs (i + 1) (sent ++ m ∷ [])
reading_goes_on vs i x sent m lt is h spells only =
    let more : map view (take (i + 1) vs) ≡ map view (take i vs) ++ view x ∷ []
    = map_more view vs i x lt ∙ ap (λ (v : Value). map view (take i vs) ++ view v ∷ []) (sym is) in
    record {
      spelled =
          subst (λ (ds : List Data). AllZip SpellsMessage ds (sent ++ m ∷ [])) (sym more)
          (zip_push SpellsMessage (map view (take i vs)) sent (view x) m h.spelled spells);
      only = λ ms all.
          let last = zip_last SpellsMessage (map view (take i vs)) (view x) ms (subst (λ (ds : List Data). AllZip SpellsMessage ds ms) more all) in
          ap (λ (l : List Message). l ++ m ∷ []) (h.only last.0 last.3) ∙ ap (λ (n : Message). last.0 ++ n ∷ []) (the_same m last.1 (only last.1 last.4)) ∙ sym last.2;
    }

-- an item that is not read, where all items spell messages, is for want of memory
pub item_is_read : (vs : List Value) (i : ℕ) (x : Value) (fault : TraceFault) (ms : List Message) → i < length vs → x ≡ get_or vs i x → AllZip SpellsMessage (map view vs) ms → ReadsItem (Err fault) (view x) → fault ≡ OutOfMemory
item_is_read vs i x fault ms lt is all only =
    let here = spelled_at vs ms i x all lt in
    memory_only fault here.0 (only here.0 (subst (λ (v : Value). SpellsMessage (view v) here.0) (sym is) here.1))

-- ---- results that are handed on

-- a message that was decoded is the one that the bytes mean
pub read_as : (r : Result Message MessageFault) (m n : Message) → r ≡ Ok m → (r ≡ Ok n) ⊎ (r ≡ Err faults.OutOfMemory)
    → ◌≡◌ {A = Result Message TraceFault} (Ok m) (Ok n) ⊎ ◌≡◌ {A = Result Message TraceFault} (Ok m) (Err OutOfMemory)
read_as r m n is (inl e) = inl cc
read_as r m n is (inr e) = absurd cc

-- a fault comes where they mean none, or it is want of memory
pub refused_as : (r : Result Message MessageFault) (n : Message) (fault : MessageFault) (own : TraceFault) → r ≡ Err fault → (fault ≡ faults.OutOfMemory → own ≡ OutOfMemory) → (r ≡ Ok n) ⊎ (r ≡ Err faults.OutOfMemory)
    → ◌≡◌ {A = Result Message TraceFault} (Err own) (Ok n) ⊎ ◌≡◌ {A = Result Message TraceFault} (Err own) (Err OutOfMemory)
refused_as r n fault own is told (inl e) = absurd cc
refused_as r n fault own is told (inr e) =
    let memory : fault ≡ faults.OutOfMemory = cc in
    inr (ap (λ (x : TraceFault). Err x) (told memory))

-- the fault that `?` hands on
pub handed_on : {T : Type 0} (r : Result T TraceFault) (fault : TraceFault) → IsErrAnd r (λ e. e ≡ fault) → r ≡ Err fault
handed_on r fault h = let p = err_from_is_err_and r h in p.1 ∙ ap (λ (e : TraceFault). Err e) p.2

-- ---- a whole file

pub listed_view : (ds : List Data) → listed (items_of ds) ≡ ds
listed_view [] = refl
listed_view (d ∷ ds) = ap (λ (l : List Data). d ∷ l) (listed_view ds)

-- what the file means is said of the value that it was read as
pub record MeansAt (d : Data) (ds : List Data) (members : ℕ) (sent : List Message) : Type 0 where
  pub count : members_at d ≡ Some members
  pub within : IsMembers members
  pub messages : AllZip SpellsMessage ds sent

pub means_at : (file : List ℕ) (d : Data) (ds : List Data) (members : ℕ) (sent : List Message) → read_text file ≡ Some d → Some (items_of ds) ≡ sent_at d → MeansTrace file members sent → MeansAt d ds members sent
means_at file d ds members sent read is_sent h =
    let same : h.value ≡ d = same_Some h.value d (sym h.read ∙ read) in
    let items_are : h.items ≡ items_of ds = same_Some h.items (items_of ds) (sym h.listed_at ∙ ap sent_at same ∙ sym is_sent) in
    record {
      count = subst (λ (x : Data). members_at x ≡ Some members) same h.count;
      within = h.within;
      messages = subst (λ (l : List Data). AllZip SpellsMessage l sent) (ap listed items_are ∙ listed_view ds) h.messages;
    }

pub at_means : (file : List ℕ) (d : Data) (ds : List Data) (members : ℕ) (sent : List Message) → IsUtf8 file → read_text file ≡ Some d → Some (items_of ds) ≡ sent_at d → members_at d ≡ Some members → IsMembers members
    → AllZip SpellsMessage ds sent → MeansTrace file members sent
at_means file d ds members sent is_text read is_sent count within messages = record {
  is_text = is_text;
  value = d;
  read = read;
  count = count;
  within = within;
  items = items_of ds;
  listed_at = sym is_sent;
  messages = subst (λ (l : List Data). AllZip SpellsMessage l sent) (sym (listed_view ds)) messages;
}

-- ---- a file means one trace at most

abbrev pub MessagesAreOne : Type 0
MessagesAreOne = (text : List ℕ) (m n : Message) → IsMessageText text m → IsMessageText text n → m ≡ n

spelled_is_one : MessagesAreOne → (d : Data) (m n : Message) → SpellsMessage d m → SpellsMessage d n → m ≡ n
spelled_is_one one d m n a b = one a.spelled.bytes m n a.spelled.means (hex_means a.digits a.spelled.bytes n a.spelled.decoded (text_means d a.digits n a.is_text b))

spelled_are_one : MessagesAreOne → (ds : List Data) (s t : List Message) → AllZip SpellsMessage ds s → AllZip SpellsMessage ds t → s ≡ t
spelled_are_one one [] [] [] a b = refl
spelled_are_one one [] (m ∷ s) t a b = absurd a
spelled_are_one one [] [] (n ∷ t) a b = absurd b
spelled_are_one one (d ∷ ds) [] t a b = absurd a
spelled_are_one one (d ∷ ds) (m ∷ s) [] a b = absurd b
spelled_are_one one (d ∷ ds) (m ∷ s) (n ∷ t) a b =
    ap (λ (x : Message). x ∷ s) (spelled_is_one one d m n a.0 b.0) ∙ ap (λ (l : List Message). n ∷ l) (spelled_are_one one ds s t a.1 b.1)

pub one_trace : MessagesAreOne → (file : List ℕ) (m n : ℕ) (s t : List Message) → MeansTrace file m s → MeansTrace file n t → (m ≡ n) × (s ≡ t)
one_trace one file m n s t a b =
    let same : a.value ≡ b.value = same_Some a.value b.value (sym a.read ∙ b.read) in
    let items : a.items ≡ b.items = same_Some a.items b.items (sym a.listed_at ∙ ap sent_at same ∙ b.listed_at) in (
      same_Some m n (sym a.count ∙ ap members_at same ∙ b.count),
      spelled_are_one one (listed b.items) s t (subst (λ (i : Items). AllZip SpellsMessage (listed i) s) items a.messages) b.messages,
    )

-- ---- what an audit says of it

-- a file that is no trace, by a fault that is not memory
pub means_nothing : (file : List ℕ) (fault : TraceFault) (flaw : TraceFlaw) → fault ≡ BadTrace flaw → ((members : ℕ) (sent : List Message) → MeansTrace file members sent → fault ≡ OutOfMemory) → MeansNothing file
means_nothing file fault flaw is only members sent h = let e = sym is ∙ only members sent h in absurd cc

pub judged : (lawful : Bool) (file : List ℕ) (members : ℕ) (sent : List Message) → MeansTrace file members sent → (IsTrue lawful ↔ IsLawful members sent) → Judges (Ok lawful) file
judged true file members sent means exact = record { members = members; sent = sent; means = means; lawful = exact.0 refl }
judged false file members sent means exact = record {
  members = members;
  sent = sent;
  means = means;
  unlawful = λ lawful. let e = exact.1 lawful in absurd cc;
}
