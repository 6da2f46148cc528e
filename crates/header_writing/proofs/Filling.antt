-- Lengths of texts that are written from the front on, and what they are once their references are set.
use Rattle.std.proofs.Common.{◌≡◌, ℕ, zero, suc, ◌+◌, ◌-◌, ◌*◌, ◌≤◌, List, [], ◌∷◌, ◌++◌, length, take, drop, arith}
use Rattle.std.proofs.Common.{refl, ap, sym, ◌∙◌, append_assoc, length-append, length-drop}
use Rattle.std.proofs.lemmas.List.{append-nil, take_at, drop_at, length-take}
use Rattle.byteorder.specs.Endian.{little_bytes}
use Rattle.byteorder.specs.Numbers.{length-bytes_low_first}
use Rattle.header_writing.specs.Objects.{Object, Cells, no_cells, inline, reference, references_object, table_object}
use Rattle.header_writing.specs.Objects.{zeros, padding, shorts, cell_count, cells_size, table_lead, lead, laid}
use Rattle.header_writing.specs.Objects.{cells_text, objects_text, unpadded}
use Rattle.header_writing.specs.Filling.{referring, with_object, blank, filled, table_begun, references_begun}

-- ---- lengths

pub length_zeros : (n : ℕ) → length (zeros n) ≡ n
length_zeros zero = refl
length_zeros (suc n) = ap suc (length_zeros n)

pub length_little : (n x : ℕ) → length (little_bytes n x) ≡ n
length_little n x = length-bytes_low_first 0 n x

pub length_shorts : (numbers : List ℕ) → length (shorts numbers) ≡ 2 * length numbers
length_shorts [] = refl
length_shorts (x ∷ rest) = omega (arith, length_shorts rest)

pub length_blank : (cells : Cells) → length (blank cells) ≡ cells_size cells
length_blank no_cells = refl
length_blank (inline bytes rest) = length-append bytes (blank rest)
    ∙ ap (λ (n : ℕ). length bytes + n) (length_blank rest)
length_blank (reference o rest) = omega (arith, length_blank rest)

-- a text with some of its bytes replaced by as many
replaced_length : (text bytes : List ℕ) (from : ℕ) → from + 4 ≤ length text → length bytes ≡ 4
    → length (take from text ++ (bytes ++ drop (from + 4) text)) ≡ length text
replaced_length text bytes from within is = simp (length-append, length-take, length-drop) (omega (arith, within, is))

length_referring : (text : List ℕ) (from target : ℕ) → from + 4 ≤ length text
    → length (referring text from target) ≡ length text
length_referring text from target within =
    replaced_length text (little_bytes 4 (target - from)) from within (length_little 4 (target - from))

pub length_with_object : (text : List ℕ) (from : ℕ) (o : Object) → from + 4 ≤ length text
    → length (with_object text from o) ≡ length text + length (laid (length text) o)
length_with_object text from o within =
    let target = length text + lead (length text) o in
    length-append (referring text from target) (laid (length text) o)
    ∙ ap (λ (n : ℕ). n + length (laid (length text) o)) (length_referring text from target within)

length_four : (a b c d : List ℕ) (l x y z : ℕ) → length a ≡ l → length b ≡ x → length c ≡ y → length d ≡ z
    → length (((a ++ b) ++ c) ++ d) ≡ l + x + y + z
length_four a b c d l x y z ea eb ec ed = simp length-append (omega arith)

length_five : (a b c d e : List ℕ) (l x y z u : ℕ) → length a ≡ l → length b ≡ x → length c ≡ y → length d ≡ z
    → length e ≡ u
    → length ((((a ++ b) ++ c) ++ d) ++ e) ≡ l + (x + y) + z + u
length_five a b c d e l x y z u ea eb ec ed ee = simp length-append (omega arith)

pub length_table_begun : (text : List ℕ) (from : ℕ) (numbers cells : List ℕ) → from + 4 ≤ length text
    → length (table_begun text from numbers cells) ≡ length text + table_lead (length text) numbers + 4 + length cells
length_table_begun text from numbers cells within =
    let target = length text + table_lead (length text) numbers in
    let gap = padding 8 (length text + 2 * length numbers) in
    length_five (referring text from target) (zeros gap) (shorts numbers) (little_bytes 4 (2 * length numbers)) cells
    (length text) gap (2 * length numbers) 4 (length cells)
    (length_referring text from target within) (length_zeros gap) (length_shorts numbers)
    (length_little 4 (2 * length numbers)) refl

pub length_references_begun : (text : List ℕ) (from count : ℕ) (cells : List ℕ) → from + 4 ≤ length text
    → length (references_begun text from count cells) ≡ length text + padding 4 (length text) + 4 + length cells
length_references_begun text from count cells within =
    let target = length text + padding 4 (length text) in
    let gap = padding 4 (length text) in
    length_four (referring text from target) (zeros gap) (little_bytes 4 count) cells (length text) gap 4 (length cells)
    (length_referring text from target within) (length_zeros gap) (length_little 4 count) refl

-- ---- references set

-- four bytes between two parts
between : (pre gap post new : List ℕ) (at : ℕ) → at ≡ length pre → length gap ≡ 4
    → take at (pre ++ (gap ++ post)) ++ (new ++ drop (at + 4) (pre ++ (gap ++ post))) ≡ pre ++ (new ++ post)
between pre gap post new at here four =
    let front : take at (pre ++ (gap ++ post)) ≡ pre = take_at pre (gap ++ post) at (sym here) in
    let behind : length (pre ++ gap) ≡ at + 4 = length-append pre gap ∙ omega arith in
    let back : drop (at + 4) (pre ++ (gap ++ post)) ≡ post =
    ap (drop (at + 4)) (sym (append_assoc pre gap post)) ∙ drop_at (pre ++ gap) post (at + 4) behind in
    ap (λ (l : List ℕ). l ++ (new ++ drop (at + 4) (pre ++ (gap ++ post)))) front
    ∙ ap (λ (l : List ℕ). pre ++ (new ++ l)) back

-- an object behind a text, to which a reference in between is set
with_object_between : (pre gap post : List ℕ) (at next : ℕ) (o : Object) → at ≡ length pre → length gap ≡ 4
    → length (pre ++ (gap ++ post)) ≡ next
    → with_object (pre ++ (gap ++ post)) at o ≡ (pre ++ (little_bytes 4 (next + lead next o - at) ++ post)) ++ laid next
    o
with_object_between pre gap post at next o here four whole =
    let set : (n : ℕ) → referring (pre ++ (gap ++ post)) at (n + lead n o) ++ laid n o
    ≡ (pre ++ (little_bytes 4 (n + lead n o - at) ++ post)) ++ laid n o =
    λ n. ap (λ (l : List ℕ). l ++ laid n o) (between pre gap post (little_bytes 4 (n + lead n o - at)) at here four) in
    set (length (pre ++ (gap ++ post)))
    ∙ ap (λ (n : ℕ). (pre ++ (little_bytes 4 (n + lead n o - at) ++ post)) ++ laid n o) whole

regrouped : (pre new mid post last : List ℕ)
    → (pre ++ (new ++ (mid ++ post))) ++ last ≡ (pre ++ new) ++ (mid ++ (post ++ last))
regrouped pre new mid post last = simp append_assoc

regrouped_cells : (pre new cells post first rest : List ℕ)
    → (pre ++ new) ++ (cells ++ ((post ++ first) ++ rest)) ≡ pre ++ ((new ++ cells) ++ (post ++ (first ++ rest)))
regrouped_cells pre new cells post first rest = simp append_assoc

regrouped_inline : (pre bytes cells post : List ℕ)
    → (pre ++ bytes) ++ (cells ++ post) ≡ pre ++ ((bytes ++ cells) ++ post)
regrouped_inline pre bytes cells post = simp append_assoc

regrouped_blank : (pre bytes blanks post : List ℕ)
    → pre ++ ((bytes ++ blanks) ++ post) ≡ (pre ++ bytes) ++ (blanks ++ post)
regrouped_blank pre bytes blanks post = simp append_assoc

length_three : (a b c : List ℕ) (x y z n : ℕ) → length a ≡ x → length b ≡ y → length c ≡ z → x + (y + z) ≡ n
    → length (a ++ (b ++ c)) ≡ n
length_three a b c x y z n ea eb ec en = simp length-append (omega arith)

four_more : (pre new : List ℕ) (at : ℕ) → at ≡ length pre → length new ≡ 4 → at + 4 ≡ length (pre ++ new)
four_more pre new at here four = simp length-append (omega arith)

pub cells_filled : (pre post : List ℕ) (cells : Cells) (at next : ℕ) → at ≡ length pre
    → at + cells_size cells + length post ≡ next
    → filled (pre ++ (blank cells ++ post)) at
    cells ≡ pre ++ (cells_text at next cells ++ (post ++ objects_text next cells))
cells_filled pre post no_cells at next here whole = ap (λ (l : List ℕ). pre ++ l) (sym (append-nil post))
cells_filled pre post (inline bytes rest) at next here whole =
    ap (λ (l : List ℕ). filled l (at + length bytes) rest) (regrouped_blank pre bytes (blank rest) post)
    ∙ cells_filled (pre ++ bytes) post rest (at + length bytes) next (omega (arith, length-append pre bytes))
    (omega (arith, whole))
    ∙ regrouped_inline pre bytes (cells_text (at + length bytes) next rest) (post ++ objects_text next rest)
cells_filled pre post (reference o rest) at next here whole =
    let new = little_bytes 4 (next + lead next o - at) in
    let after = next + length (laid next o) in
    let four : length (zeros 4) ≡ 4 = refl in
    let rest_long : length (blank rest ++ post) ≡ cells_size rest + length post =
    length-append (blank rest) post ∙ ap (λ (n : ℕ). n + length post) (length_blank rest) in
    let long : length (pre ++ (zeros 4 ++ (blank rest ++ post))) ≡ next =
    length_three pre (zeros 4) (blank rest ++ post) at 4 (cells_size rest + length post) next (sym here) four rest_long
    (omega (arith, whole)) in
    ap (λ (l : List ℕ). filled l (at + 4) rest)
    (with_object_between pre (zeros 4) (blank rest ++ post) at next o here four long
    ∙ regrouped pre new (blank rest) post (laid next o))
    ∙ cells_filled (pre ++ new) (post ++ laid next o) rest (at + 4) after
    (four_more pre new at here (length_little 4 (next + lead next o - at)))
    (omega (arith, whole, length-append post (laid next o)))
    ∙ regrouped_cells pre new (cells_text (at + 4) after rest) post (laid next o) (objects_text after rest)

behind_filled : (pre : List ℕ) (cells : Cells) (at : ℕ) → at ≡ length pre
    → filled (pre ++ blank cells) at cells ≡ pre ++ (cells_text at (at + cells_size cells) cells ++ objects_text
    (at + cells_size cells) cells)
behind_filled pre cells at here =
    ap (λ (l : List ℕ). filled (pre ++ l) at cells) (sym (append-nil (blank cells)))
    ∙ cells_filled pre [] cells at (at + cells_size cells) here (omega arith)

length_lead : (a b c d : List ℕ) (l x y z : ℕ) → length a ≡ l → length b ≡ x → length c ≡ y → length d ≡ z
    → length (((a ++ b) ++ c) ++ d) ≡ l + (x + y) + z
length_lead a b c d l x y z ea eb ec ed = simp length-append (omega arith)

length_count : (a b c : List ℕ) (l x y : ℕ) → length a ≡ l → length b ≡ x → length c ≡ y
    → length ((a ++ b) ++ c) ≡ l + x + y
length_count a b c l x y ea eb ec = simp length-append (omega arith)

regrouped_table : (set gap numbers size cells objects : List ℕ)
    → (((set ++ gap) ++ numbers) ++ size) ++ (cells ++ objects)
    ≡ set ++ ((((gap ++ numbers) ++ size) ++ cells) ++ objects)
regrouped_table set gap numbers size cells objects = simp append_assoc

regrouped_references : (set gap count cells objects : List ℕ)
    → ((set ++ gap) ++ count) ++ (cells ++ objects) ≡ set ++ (((gap ++ count) ++ cells) ++ objects)
regrouped_references set gap count cells objects = simp append_assoc

pub table_filled : (text numbers : List ℕ) (cells : Cells) (from first : ℕ) → from + 4 ≤ length text
    → first ≡ length text + table_lead (length text) numbers + 4
    → filled (table_begun text from numbers (blank cells)) first cells ≡ with_object text from
    (table_object numbers cells)
table_filled text numbers cells from first within is =
    let target = length text + table_lead (length text) numbers in
    let gap = zeros (padding 8 (length text + 2 * length numbers)) in
    let size = little_bytes 4 (2 * length numbers) in
    let set = referring text from target in
    let pre = ((set ++ gap) ++ shorts numbers) ++ size in
    let at = target + 4 in
    let next = at + cells_size cells in
    let long : length pre ≡ at =
    length_lead set gap (shorts numbers) size (length text) (padding 8 (length text + 2 * length numbers))
    (2 * length numbers) 4
    (length_referring text from target within) (length_zeros (padding 8 (length text + 2 * length numbers)))
    (length_shorts numbers)
    (length_little 4 (2 * length numbers)) in
    ap (λ (n : ℕ). filled (pre ++ blank cells) n cells) is
    ∙ behind_filled pre cells at (sym long)
    ∙ regrouped_table set gap (shorts numbers) size (cells_text at next cells) (objects_text next cells)

pub references_filled : (text : List ℕ) (cells : Cells) (from first : ℕ) → from + 4 ≤ length text
    → first ≡ length text + padding 4 (length text) + 4
    → filled (references_begun text from (cell_count cells) (blank cells)) first cells ≡ with_object text from
    (references_object cells)
references_filled text cells from first within is =
    let target = length text + padding 4 (length text) in
    let gap = zeros (padding 4 (length text)) in
    let count = little_bytes 4 (cell_count cells) in
    let set = referring text from target in
    let pre = (set ++ gap) ++ count in
    let at = target + 4 in
    let next = at + cells_size cells in
    let long : length pre ≡ at =
    length_count set gap count (length text) (padding 4 (length text)) 4
    (length_referring text from target within) (length_zeros (padding 4 (length text)))
    (length_little 4 (cell_count cells)) in
    ap (λ (n : ℕ). filled (pre ++ blank cells) n cells) is
    ∙ behind_filled pre cells at (sym long)
    ∙ regrouped_references set gap count (cells_text at next cells) (objects_text next cells)

pub root_filled : (root : Object) → with_object (zeros 4) 0 root ≡ unpadded root
root_filled root =
    let same : 4 + lead 4 root - 0 ≡ 4 + lead 4 root = omega arith in
    ap (λ (n : ℕ). little_bytes 4 n ++ laid 4 root) same
