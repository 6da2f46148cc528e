-- What a value tells is one identity at most, and so a text means one at most.
use Rattle.std.proofs.Common.{◌≡◌, ℕ, List, length, Option, Some, None, IsSome, IfSome, IsTrue, sym, ap, subst, ◌∙◌}
use Rattle.std.specs.Prelude.{codes, Vec, map}
use Rattle.std.specs.declared.alloc.Global.{Global}
use Rattle.std.specs.List.{AllZip}
use Rattle.std.proofs.lemmas.Option.{same_Some}
use Rattle.serde_json.specs.Data.{Data}
use Rattle.serde_json.specs.View.{view, items_of, items_view}
use Rattle.serde_json.specs.declared.value.Value.{Value}
use Rattle.cluster_identity.specs.declared.file_mark.FileMark.{FileMark}
use Rattle.cluster_identity.specs.declared.identity.Identity.{Identity}
use Rattle.cluster_identity.specs.Identities.{is_node_count, number_at, array_at, HasBytes, TellsMark, TellsIdentity, MeansIdentity}
use Rattle.cluster_identity.specs.Readings.{ReadsIdentity, ReadsMarks, ReadsText}
use Rattle.cluster_identity.proofs.Zipped.{items_are_one, zipped_are_one}
use Rattle.cluster_identity.proofs.Digits.{bytes_told}

pub one_mark : (x y : FileMark) → x.length ≡ y.length → x.digest ≡ y.digest → x ≡ y
one_mark x y sized digested =
    let first : ℕ → FileMark = λ n. record { length = n; digest = x.digest } in
    let second : List ℕ → FileMark = λ l. record { length = y.length; digest = l } in
    ap first sized ∙ ap second digested

pub mark_is_one : (d : Data) (x y : FileMark) → TellsMark d x → TellsMark d y → x ≡ y
mark_is_one d x y p q =
    one_mark x y (same_Some x.length y.length (sym p.sized ∙ q.sized)) (bytes_told d (codes "sha256") 32 x.digest y.digest p.digested q.digested)

-- the marks that are told are those of the values that stand there
pub marks_told : (d : Data) (ds : List Data) (members : ℕ) (id : List ℕ) (files : List FileMark) → array_at (codes "files") d ≡ Some (items_of ds)
    → TellsIdentity d members id files → AllZip TellsMark ds files
marks_told d ds members id files there told =
    let same : told.values ≡ ds = items_are_one told.values ds (same_Some (items_of told.values) (items_of ds) (sym told.values_at ∙ there)) in
    subst (λ (l : List Data). AllZip TellsMark l files) same told.marked

pub marks_are_one : (ds : List Data) (x y : List FileMark) → AllZip TellsMark ds x → AllZip TellsMark ds y → x ≡ y
marks_are_one = zipped_are_one TellsMark mark_is_one

pub told_is_one : (d : Data) (m n : ℕ) (i j : List ℕ) (f g : List FileMark) → TellsIdentity d m i f → TellsIdentity d n j g → (m ≡ n) × (i ≡ j) × (f ≡ g)
told_is_one d m n i j f g p q = (
  same_Some m n (sym p.counted ∙ q.counted),
  bytes_told d (codes "id") 16 i j p.named q.named,
  marks_are_one q.values f g (marks_told d q.values m i f q.values_at p) q.marked,
)

-- ---- an identity that is made of what is told

-- the parts of an identity
abbrev pub HasParts : ℕ → List ℕ → List FileMark → Identity → Type 0
HasParts members id files identity = (identity.members ≡ members) × (identity.id ≡ id) × (identity.files.items ≡ files)

pub reads_made : (d : Data) (members : ℕ) (id : List ℕ) (ds : List Data) (files : List FileMark) (r : Option Identity) → number_at (codes "members") d ≡ Some members
    → HasBytes d (codes "id") 16 id → array_at (codes "files") d ≡ Some (items_of ds) → AllZip TellsMark ds files → IfSome r (HasParts members id files)
    → (IsTrue (is_node_count members) → length files ≡ members → IsSome r) → ReadsIdentity d r
reads_made d members id ds files (Some identity) counted named there marked is only = record {
  counted = counted ∙ ap (λ (n : ℕ). Some n) (sym is.0);
  three_or_five = identity.counted;
  named = subst (HasBytes d (codes "id") 16) (sym is.1) named;
  values = ds;
  values_at = there;
  marked = subst (AllZip TellsMark ds) (sym is.2) marked;
  one_each = identity.one_each;
}
reads_made d members id ds files None counted named there marked is only = λ m i f told.
    let many : m ≡ members = same_Some m members (sym told.counted ∙ counted) in
    let same : files ≡ f = marks_are_one ds files f marked (marks_told d ds m i f there told) in
    let three_or_five : IsTrue (is_node_count members) = subst (λ (n : ℕ). IsTrue (is_node_count n)) many told.three_or_five in
    let some : (let none : Option Identity = None in IsSome none) = only three_or_five (ap length same ∙ told.one_each ∙ many) in
    absurd cc

-- ---- a text means one identity at most

pub means_one : (text : List ℕ) (m n : ℕ) (i j : List ℕ) (f g : List FileMark) → MeansIdentity text m i f → MeansIdentity text n j g → (m ≡ n) × (i ≡ j) × (f ≡ g)
means_one text m n i j f g p q =
    let same : p.value ≡ q.value = same_Some p.value q.value (sym p.read ∙ q.read) in
    told_is_one q.value m n i j f g (subst (λ (d : Data). TellsIdentity d m i f) same p.tells) q.tells

-- what is told by the value that was read is what the text means
pub tells_read : (text : List ℕ) (value : Value) (m : ℕ) (i : List ℕ) (f : List FileMark) → ReadsText text (Some value) → MeansIdentity text m i f → TellsIdentity (view value) m i f
tells_read text value m i f read h =
    subst (λ (d : Data). TellsIdentity d m i f) (same_Some h.value (view value) (sym h.read ∙ read.1)) h.tells

-- ---- the same of values that are seen as their data

pub marks_seen : (d : Data) (vs ws : List Value) (m : ℕ) (i : List ℕ) (f : List FileMark) → ws ≡ vs → Some (items_view vs) ≡ array_at (codes "files") d
    → TellsIdentity d m i f → AllZip TellsMark (map view ws) f
marks_seen d vs ws m i f same there told =
    subst (λ (l : List Value). AllZip TellsMark (map view l) f) (sym same) (marks_told d (map view vs) m i f (sym there) told)

pub reads_seen : (d : Data) (members : ℕ) (id : List ℕ) (vs ws : List Value) (files : Vec FileMark Global) (o : Option (Vec FileMark Global)) (r : Option Identity)
    → Some members ≡ number_at (codes "members") d → HasBytes d (codes "id") 16 id → ws ≡ vs → Some (items_view vs) ≡ array_at (codes "files") d
    → o ≡ Some files → ReadsMarks (map view ws) o → IfSome r (HasParts members id files.items)
    → (IsTrue (is_node_count members) → length files.items ≡ members → IsSome r) → ReadsIdentity d r
reads_seen d members id vs ws files o r counted named same there is read made only =
    let marked : ReadsMarks (map view ws) (Some files) = subst (ReadsMarks (map view ws)) is read in
    reads_made d members id (map view vs) files.items r (sym counted) named (sym there)
    (subst (λ (l : List Value). AllZip TellsMark (map view l) files.items) same marked) made only

pub reads_none : (d : Data) (vs ws : List Value) (o : Option (Vec FileMark Global)) (m : ℕ) (i : List ℕ) (f : List FileMark) → ws ≡ vs
    → Some (items_view vs) ≡ array_at (codes "files") d → o ≡ None → ReadsMarks (map view ws) o → TellsIdentity d m i f → ⊥
reads_none d vs ws o m i f same there is read told =
    let none : ReadsMarks (map view ws) None = subst (ReadsMarks (map view ws)) is read in
    none f (marks_seen d vs ws m i f same there told)

-- ---- a text, by what was read of it

pub read_is_one : (text : List ℕ) (v : Option Value) (value : Value) (o : Option Identity) (own : Identity) (m : ℕ) (i : List ℕ) (f : List FileMark) → v ≡ Some value
    → ReadsText text v → o ≡ Some own → ReadsIdentity (view value) o → MeansIdentity text m i f → HasParts m i f own
read_is_one text v value o own m i f is read found reads h =
    let value_read : ReadsText text (Some value) = subst (ReadsText text) is read in
    let own_told : ReadsIdentity (view value) (Some own) = subst (ReadsIdentity (view value)) found reads in
    told_is_one (view value) own.members m own.id i own.files.items f own_told (tells_read text value m i f value_read h)

pub read_is_none : (text : List ℕ) (v : Option Value) (value : Value) (o : Option Identity) (m : ℕ) (i : List ℕ) (f : List FileMark) → v ≡ Some value
    → ReadsText text v → o ≡ None → ReadsIdentity (view value) o → MeansIdentity text m i f → ⊥
read_is_none text v value o m i f is read found reads h =
    let value_read : ReadsText text (Some value) = subst (ReadsText text) is read in
    let none : ReadsIdentity (view value) None = subst (ReadsIdentity (view value)) found reads in
    none m i f (tells_read text value m i f value_read h)
