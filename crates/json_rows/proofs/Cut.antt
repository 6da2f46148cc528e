-- A text that is cut into lines.
use Rattle.std.proofs.Common.{◌≡◌, ℕ, zero, suc, ◌+◌, ◌<◌, Bool, true, false, List, [], ◌∷◌, ◌++◌, length, take, drop, refl, sym, ap, subst, ◌∙◌, arith, append_assoc, append-nil, Option, Some, None}
use Rattle.std.specs.Prelude.{◌==◌, ◌||◌, slice_index}
use Rattle.std.specs.List.{AllByRecursion, AllZip}
use Rattle.std.specs.Option.{is_none}
use Rattle.memchr.specs.Find.{IsFirstByte, is_byte}
use Rattle.std.proofs.Common.{Result, IsErrAnd, IfErr}
use Rattle.std.proofs.lemmas.Option.{same_Some}
use Rattle.serde_json.specs.Data.{Data}
use Rattle.header_types.specs.Fields.{Forest}
use Rattle.batch_types.specs.Cells.{Rows}
use Rattle.json_rows.specs.declared.fault.JsonFault.{JsonFault}
use Rattle.json_rows.specs.Lines.{lines_of, begin_with, has_feed, text_of, EndsLines, IsOfLines, TellsBatches, TellsLine, TellsRows, TellsSomeRow}
use Rattle.json_rows.proofs.Zipped.{handed_on, zipped_are_one}

not_true : (b : Bool) → (b ≡ true → ⊥) → b ≡ false
not_true true never = absurd (never refl)
not_true false never = refl

-- ---- at the first line feed

pub cut_at_feed : (text : List ℕ) (k : ℕ) → k < length text → ((j : ℕ) → j < k → (slice_index text j == 10) ≡ true → ⊥) → (slice_index text k == 10) ≡ true
    → lines_of text ≡ take k text ∷ lines_of (drop (k + 1) text)
cut_at_feed [] k there before here = let no : ⊥ = omega arith in absurd no
cut_at_feed (b ∷ text) zero there before here = rw here
cut_at_feed (b ∷ text) (suc k) there before here =
    let other : (b == 10) ≡ false = not_true (b == 10) (before 0 (omega arith)) in
    let one_more : suc k + 1 ≡ suc (k + 1) = omega arith in
    rw other (ap (begin_with b) (cut_at_feed text k (omega arith) (λ j less. before (suc j) (omega arith)) here)
    ∙ ap (λ (n : ℕ). (b ∷ take k text) ∷ lines_of (drop n (b ∷ text))) (sym one_more))

pub no_feed : (text : List ℕ) → 0 < length text → ((j : ℕ) → j < length text → (slice_index text j == 10) ≡ true → ⊥) → lines_of text ≡ text ∷ []
no_feed [] some none = let no : ⊥ = omega arith in absurd no
no_feed (b ∷ []) some none = rw (not_true (b == 10) (none 0 (omega arith)))
no_feed (b ∷ d ∷ text) some none =
    rw (not_true (b == 10) (none 0 (omega arith))) (ap (begin_with b) (no_feed (d ∷ text) (omega arith) (λ j less. none (suc j) (omega arith))))

-- ---- a line that has none, and its line feed

line_next : (b : ℕ) (line rest : List ℕ) (test : Bool) → (b == 10) ≡ test → has_feed (b ∷ line) ≡ false → (has_feed line ≡ false → lines_of (line ++ 10 ∷ rest) ≡ line ∷ lines_of rest)
    → lines_of ((b ∷ line) ++ 10 ∷ rest) ≡ (b ∷ line) ∷ lines_of rest
line_next b line rest true is none later = let never : true ≡ false = sym (ap (λ (t : Bool). t || has_feed line) is) ∙ none in absurd cc
line_next b line rest false is none later = rw is (ap (begin_with b) (later (sym (ap (λ (t : Bool). t || has_feed line) is) ∙ none)))

pub line_then : (line rest : List ℕ) → has_feed line ≡ false → lines_of (line ++ 10 ∷ rest) ≡ line ∷ lines_of rest
line_then [] rest none = refl
line_then (b ∷ line) rest none = line_next b line rest (b == 10) refl none (line_then line rest)

-- ---- lists whose items belong together, in parts

module _ {A B : Type 0} (R : A → B → Type 0) where
  pub zip_middle : (xs : List A) (x : A) (ys : List A) (zs : List B) → AllZip R (xs ++ x ∷ ys) zs → (z : B) × R x z
  zip_middle [] x ys [] zip = absurd zip
  zip_middle [] x ys (z ∷ zs) zip = (z, zip.0)
  zip_middle (w ∷ xs) x ys [] zip = absurd zip
  zip_middle (w ∷ xs) x ys (z ∷ zs) zip = zip_middle xs x ys zs zip.1

  pub zip_joined : (xs : List A) (ys : List A) (us : List B) (vs : List B) → AllZip R xs us → AllZip R ys vs → AllZip R (xs ++ ys) (us ++ vs)
  zip_joined [] ys [] vs a b = b
  zip_joined [] ys (u ∷ us) vs a b = absurd a
  zip_joined (x ∷ xs) ys [] vs a b = absurd a
  zip_joined (x ∷ xs) ys (u ∷ us) vs a b = (a.0, zip_joined xs ys us vs a.1 b)

-- ---- lines that are written

no_feed_in : (text : List ℕ) → ((j : ℕ) → j < length text → (slice_index text j == 10) ≡ true → ⊥) → has_feed text ≡ false
no_feed_in [] none = refl
no_feed_in (b ∷ text) none = rw (not_true (b == 10) (none 0 (omega arith))) (no_feed_in text (λ j less. none (suc j) (omega arith)))

pub one_line : (text : List ℕ) (r : Option ℕ) → IsFirstByte (is_byte 10) text r → is_none r ≡ true → has_feed text ≡ false
one_line text None first is = no_feed_in text (λ j less here. first j (omega arith) less here)
one_line text (Some k) first is = cc

pub lines_again : (lines : List (List ℕ)) → AllByRecursion (λ line. has_feed line ≡ false) lines → lines_of (text_of lines) ≡ lines
lines_again [] whole = refl
lines_again (line ∷ lines) whole =
    ap lines_of (append_assoc line (10 ∷ []) (text_of lines)) ∙ line_then line (text_of lines) whole.0
    ∙ ap (λ (l : List (List ℕ)). line ∷ l) (lines_again lines whole.1)

lines_before : (lines : List (List ℕ)) (behind : List ℕ) → AllByRecursion (λ line. has_feed line ≡ false) lines → lines_of (text_of lines ++ behind) ≡ lines ++ lines_of behind
lines_before [] behind whole = refl
lines_before (line ∷ lines) behind whole =
    ap lines_of (append_assoc (line ++ 10 ∷ []) (text_of lines) behind ∙ append_assoc line (10 ∷ []) (text_of lines ++ behind))
    ∙ line_then line (text_of lines ++ behind) whole.0 ∙ ap (λ (l : List (List ℕ)). line ∷ l) (lines_before lines behind whole.1)

pub ends_lines : (text : List ℕ) (lines : List (List ℕ)) → text ≡ text_of lines → AllByRecursion (λ line. has_feed line ≡ false) lines → EndsLines text
ends_lines text lines is whole = λ behind.
    ap (λ (t : List ℕ). lines_of (t ++ behind)) is ∙ lines_before lines behind whole
    ∙ ap (λ (l : List (List ℕ)). l ++ lines_of behind) (sym (ap lines_of is ∙ lines_again lines whole))

pub text_joined : (lines : List (List ℕ)) (line : List ℕ) → text_of (lines ++ line ∷ []) ≡ text_of lines ++ (line ++ 10 ∷ [])
text_joined [] line = append-nil (line ++ 10 ∷ [])
text_joined (first ∷ lines) line =
    ap (λ (l : List ℕ). (first ++ 10 ∷ []) ++ l) (text_joined lines line) ∙ sym (append_assoc (first ++ 10 ∷ []) (text_of lines) (line ++ 10 ∷ []))

module _ {A : Type 0} (P : A → Type 0) where
  pub all_then : (xs : List A) (x : A) → AllByRecursion P xs → P x → AllByRecursion P (xs ++ x ∷ [])
  all_then [] x all p = (p, tt)
  all_then (y ∷ xs) x all p = (all.0, all_then xs x all.1 p)

-- ---- lists in parts

module _ {A B : Type 0} (R : A → B → Type 0) where
  pub zip_split : (xs ys : List A) (zs : List B) → AllZip R (xs ++ ys) zs → (us : List B) × (vs : List B) × (zs ≡ us ++ vs) × AllZip R xs us × AllZip R ys vs
  zip_split [] ys zs zip = ([], zs, refl, tt, zip)
  zip_split (x ∷ xs) ys [] zip = absurd zip
  zip_split (x ∷ xs) ys (z ∷ zs) zip =
      let later = zip_split xs ys zs zip.1 in (z ∷ later.0, later.1, ap (λ (l : List B). z ∷ l) later.2, (zip.0, later.3), later.4)

module _ {A : Type 0} (P : A → Type 0) where
  pub all_behind : (xs ys : List A) → AllByRecursion P (xs ++ ys) → AllByRecursion P ys
  all_behind [] ys all = all
  all_behind (x ∷ xs) ys all = all_behind xs ys all.1

  pub all_before : (xs ys : List A) → AllByRecursion P (xs ++ ys) → AllByRecursion P xs
  all_before [] ys all = tt
  all_before (x ∷ xs) ys all = (all.0, all_before xs ys all.1)

-- ---- values of lines

pub one_value : (line : List ℕ) (d e : Data) → TellsLine line d → TellsLine line e → d ≡ e
one_value line d e a b = same_Some d e (sym a.value ∙ b.value)

-- the rows that are told by the lines that come next
pub rows_next : (fields : Forest) (text rest : List ℕ) (before lines : List (List ℕ)) (left : List ℕ) (values here : List Data) → lines_of text ≡ before ++ lines_of rest
    → lines_of rest ≡ lines ++ lines_of left → AllZip TellsLine lines here → AllZip TellsLine (lines_of text) values → AllByRecursion (TellsSomeRow fields) values
    → AllByRecursion (TellsSomeRow fields) here
rows_next fields text rest before lines left values here cut next read told all =
    let one = zip_split TellsLine before (lines_of rest) values (subst (λ (l : List (List ℕ)). AllZip TellsLine l values) cut told) in
    let two = zip_split TellsLine lines (lines_of left) one.1 (subst (λ (l : List (List ℕ)). AllZip TellsLine l one.1) next one.4) in
    let same : two.0 ≡ here = zipped_are_one TellsLine one_value lines two.0 here two.3 read in
    let behind = all_behind (TellsSomeRow fields) one.0 one.1 (subst (AllByRecursion (TellsSomeRow fields)) one.2 all) in
    subst (AllByRecursion (TellsSomeRow fields)) same (all_before (TellsSomeRow fields) two.0 two.1 (subst (AllByRecursion (TellsSomeRow fields)) two.2 behind))

-- ---- batches

pub batches_then : (fields : Forest) (values here : List Data) (batches : List Rows) (rows : Rows) → TellsBatches fields values batches → TellsRows fields here rows
    → TellsBatches fields (values ++ here) (batches ++ rows ∷ [])
batches_then fields values here [] rows told more_told =
    (here, [], ap (λ (l : List Data). l ++ here) told ∙ sym (append-nil here), more_told, refl)
batches_then fields values here (first ∷ batches) rows told more_told =
    (told.0, told.1 ++ here, ap (λ (l : List Data). l ++ here) told.2 ∙ append_assoc told.0 told.1 here, told.3, batches_then fields told.1 here batches rows told.4 more_told)

-- ---- faults

pub not_of_lines : {T : Type 0} (r : Result T JsonFault) (fault : JsonFault) → IsErrAnd r (λ e. e ≡ fault) → (IsOfLines fault → ⊥) → IfErr r (λ e. IsOfLines e → ⊥)
not_of_lines {T = T} r fault handed other = subst (λ (a : Result T JsonFault). IfErr a (λ e. IsOfLines e → ⊥)) (sym (handed_on r fault handed)) other
