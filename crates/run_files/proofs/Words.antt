-- Words that differ, and arrays of words that are one.
use Rattle.std.proofs.Common.{◌≡◌, ℕ, ◌+◌, ◌*◌, ◌≤◌, false, nat_eq, List, [], ◌∷◌, length, get_or, map, Some, sym, ap, subst, ◌∙◌, arith}
use Rattle.std.proofs.lemmas.Option.{same_Some}
use Rattle.std.proofs.lemmas.Bool.Decides.{nat_tests}
use Rattle.serde_json.specs.Data.{Data, string}
use Rattle.serde_json.specs.Find.{as_array}
use Rattle.serde_json.specs.View.{view, items_of}
use Rattle.serde_json.specs.declared.value.Value.{Value}
use Rattle.table_types.specs.Ticket.{TableVersion}
use Rattle.run_files.specs.JsonValues.{whole, words}
use Rattle.run_files.proofs.Reading.{items_are_one}

-- ---- words differ in their first letters, or in how long they are

same_apart : (n : ℕ) → nat_eq n n ≡ false → ⊥
same_apart n h = grind (arith, nat_tests)

abbrev mark : List ℕ → ℕ
mark word = 100 * get_or word 0 0 + length word

pub differ : (word a b : List ℕ) → word ≡ a → word ≡ b → nat_eq (mark a) (mark b) ≡ false → ⊥
differ word a b p q apart =
    same_apart (mark b) (subst (λ (l : List ℕ). nat_eq (mark l) (mark b) ≡ false) (sym p ∙ q) apart)

pub one_ticket : (x y : TableVersion) → x.table ≡ y.table → x.version ≡ y.version → x ≡ y
one_ticket x y table version =
    let named : List ℕ → TableVersion = λ t. record { table = t; version = x.version } in
    let numbered : ℕ → TableVersion = λ v. record { table = y.table; version = v } in
    ap named table ∙ ap numbered version

-- ---- an array has one word, one number and one list of what stands behind them

pub words_are_one : (d : Data) (v w : List ℕ) (a b : ℕ) (r s : List Data) → as_array d ≡ Some (words v a r) → as_array d ≡ Some (words w b s)
    → (v ≡ w) × (a ≡ b) × (r ≡ s)
words_are_one d v w a b r s p q =
    let all : List Data = string v ∷ whole a ∷ r in
    let others : List Data = string w ∷ whole b ∷ s in
    let same : all ≡ others = items_are_one all others (same_Some (items_of all) (items_of others) (sym p ∙ q)) in
    let word : v ≡ w = cc in
    let node : a ≡ b = cc in
    let rest : r ≡ s = cc in (word, node, rest)

-- ---- an array that has these has two items at least

two_long : (ws : List Value) (a b : Data) (rest : List Data) → map view ws ≡ a ∷ b ∷ rest → 2 ≤ length ws
two_long [] a b rest e = absurd cc
two_long (x ∷ []) a b rest e = absurd cc
two_long (x ∷ y ∷ ws) a b rest e = omega arith

pub two_items : (d : Data) (vs ws : List Value) (word : List ℕ) (node : ℕ) (rest : List Data) → ws ≡ vs → Some (items_of (map view vs)) ≡ as_array d
    → as_array d ≡ Some (words word node rest) → 2 ≤ length ws
two_items d vs ws word node rest same is told =
    let all : List Data = string word ∷ whole node ∷ rest in
    two_long ws (string word) (whole node) rest
    (ap (map view) same ∙ items_are_one (map view vs) all (same_Some (items_of (map view vs)) (items_of all) (is ∙ told)))
