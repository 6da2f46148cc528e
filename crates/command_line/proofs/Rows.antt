-- The rows that the words give, and the defaults behind them.
use Rattle.std.proofs.Common.{◌≡◌, Bool, true, false, not, true≢false, List, [], ◌∷◌, ◌++◌, ◌&&◌, ◌||◌, Option, Some, None, is_some, option_map, if◌then◌else◌, append-nil, refl, sym, ap, ap₂, ◌∙◌}
use Rattle.std.specs.Prelude.{find, fold, option_and_then, slice_get}
use Rattle.std.specs.List.{AllByRecursion, list_all}
use Rattle.std.specs.Option.{option_map_or, option_or}
use Rattle.std.specs.Str.{bytes_eq}
use Rattle.std.proofs.lemmas.List.Folds.{find-append, list_any-append}
use Rattle.clap.specs.declared.builder.action.ArgAction.TheVariants.{Append}
use Rattle.clap.specs.Facts.{explicit_source}
use Rattle.clap.specs.Simple.{filled}
use Rattle.clap.specs.Takes.{is_given}
use Rattle.clap.specs.Walk.{Row, Rule, Text, at_row, default_rows, first_of, has_row, reading_by, used, used_as, with_default, without}
use Rattle.clap.proofs.WalkLemmas.{both}
use Rattle.command_line.specs.Calls.{under}
use Rattle.command_line.specs.CommandLine.{is_yes, option_rule}

-- ---- one more row

-- the row of a name that the words give this value
abbrev pub given_row : Text × Text → List Row
given_row value = used (filled (option_rule value.0)) (value.1 ∷ []) []

abbrev pub given_rows : List (Text × Text) → List Row
given_rows [] = []
given_rows (value ∷ rest) = given_row value ++ given_rows rest

either_false : (a b : Bool) → (a || b) ≡ false → (a ≡ false) × (b ≡ false)
either_false true b e = absurd (true≢false e)
either_false false b e = (refl, e)

without_absent : (name : Text) (rows : List Row) → has_row name rows ≡ false → without name rows ≡ rows
without_absent name [] absent = refl
without_absent name (r ∷ rs) absent =
    let split = either_false (bytes_eq r.id name) (has_row name rs) absent in
    let e = split.0 in
    let rest = without_absent name rs split.1 in
    rw e (ap (λ (xs : List Row). r ∷ xs) rest)

appends : (name : Text) (a : Rule) (values : List Text) (rows : List Row) → has_row name rows ≡ false
    → used_as Append name (reading_by a) values rows ≡ rows ++ used_as Append name (reading_by a) values []
appends name a values [] absent = refl
appends name a values (r ∷ rs) absent =
    let split = either_false (bytes_eq r.id name) (has_row name rs) absent in
    let e = split.0 in
    let rest = appends name a values rs split.1 in
    rw e (ap (λ (xs : List Row). r ∷ xs) rest)

-- a name that has no row yet gets one, behind the others
pub puts : (name : Text) (a : Rule) (values : List Text) (rows : List Row) → has_row name rows ≡ false
    → used_as Append name (reading_by a) values (without name rows) ≡ rows ++ used_as Append name (reading_by a) values []
puts name a values rows absent = ap (used_as Append name (reading_by a) values) (without_absent name rows absent) ∙ appends name a values rows absent

-- none of the names has a row
abbrev pub AreAbsent : List Row → List (Text × Text) → Type 0
AreAbsent rows = AllByRecursion (λ value. has_row value.0 rows ≡ false)

pub absent_at_first : (values : List (Text × Text)) → AreAbsent [] values
absent_at_first [] = tt
absent_at_first (value ∷ rest) = (refl, absent_at_first rest)

pub still_absent : (rows : List Row) (value : Text × Text) (rest : List (Text × Text)) → AreAbsent rows rest → AllByRecursion (λ other. bytes_eq value.0 other.0 ≡ false) rest
    → AreAbsent (rows ++ given_row value) rest
still_absent rows value [] absent different = tt
still_absent rows value (other ∷ rest) absent different = (
  list_any-append (λ r. bytes_eq r.id other.0) rows (given_row value)
      ∙ ap₂ (λ (a b : Bool). a || (b || false)) absent.0 different.0,
  still_absent rows value rest absent.1 different.1,
)

-- ---- what stands under a name

-- the value that a parse gives for a row, and whether the words gave it
abbrev value_at : Option Row → Option Text
value_at = option_and_then (λ r. slice_get r.values 0)

abbrev is_explicit : Option Row → Bool
is_explicit row = option_map_or (λ r. explicit_source r.source) row false

module _ (name : Text) where
  abbrev at : List Row → Option Row
  at = find (λ r. bytes_eq r.id name)

  value_here : (b : Bool) (r : Row) (value : Text × Text) (rest : List (Text × Text)) → slice_get r.values 0 ≡ Some value.1 → value_at (at (given_rows rest)) ≡ under rest name
      → value_at (if b then Some r else at (given_rows rest)) ≡ option_map (λ v. v.1) (if b then Some value else find (λ v. bytes_eq v.0 name) rest)
  value_here true r value rest here behind = here
  value_here false r value rest here behind = behind

  pub found_under : (values : List (Text × Text)) → value_at (at (given_rows values)) ≡ under values name
  found_under [] = refl
  found_under (value ∷ rest) = value_here (bytes_eq value.0 name) _ value rest refl (found_under rest)

  given_here : (b : Bool) (r : Row) (value : Text × Text) (rest : List (Text × Text)) → explicit_source r.source ≡ true → is_explicit (at (given_rows rest)) ≡ is_some (under rest name)
      → is_explicit (if b then Some r else at (given_rows rest)) ≡ is_some (option_map (λ v. v.1) (if b then Some value else find (λ v. bytes_eq v.0 name) rest))
  given_here true r value rest here behind = here
  given_here false r value rest here behind = behind

  given_under : (values : List (Text × Text)) → is_explicit (at (given_rows values)) ≡ is_some (under values name)
  given_under [] = refl
  given_under (value ∷ rest) = given_here (bytes_eq value.0 name) _ value rest refl (given_under rest)

-- ---- the defaults

-- the rows that an argument adds which was not used
default_part : List Row → Rule → List Row
default_part rows a = if has_row a.id rows then [] else default_rows a.id (reading_by a) a.defaults []

default_appends : (name : Text) (a : Rule) (v : Text) (vs : List Text) (rows : List Row) → has_row name rows ≡ false
    → default_rows name (reading_by a) (v ∷ vs) rows ≡ rows ++ default_rows name (reading_by a) (v ∷ vs) []
default_appends name a v vs [] absent = refl
default_appends name a v vs (r ∷ rs) absent =
    let split = either_false (bytes_eq r.id name) (has_row name rs) absent in
    let e = split.0 in
    let rest = default_appends name a v vs rs split.1 in
    rw e (ap (λ (xs : List Row). r ∷ xs) rest)

default_added : (rows : List Row) (a : Rule) → with_default rows a ≡ rows ++ default_part rows a
unfolding default_part
default_added rows a = by (has_row a.id rows) refl
  where
    added : (values : List Text) → has_row a.id rows ≡ false → default_rows a.id (reading_by a) values rows ≡ rows ++ default_rows a.id (reading_by a) values []
    added [] absent = sym (append-nil rows)
    added (v ∷ vs) absent = default_appends a.id a v vs rows absent

    by : (b : Bool) → has_row a.id rows ≡ b
        → (if b then rows else default_rows a.id (reading_by a) a.defaults rows) ≡ rows ++ (if b then [] else default_rows a.id (reading_by a) a.defaults [])
    by true there = sym (append-nil rows)
    by false absent = added a.defaults absent

module _ {X : Type 0} (g : Option Row → X) (name : Text) where
  -- a default of the argument leaves what g sees of this name
  pub Leaves : Rule → Type 0
  Leaves a = (rows : List Row) (o : Option Row) → g (option_or o (find (λ r. bytes_eq r.id name) (default_part rows a))) ≡ g o

  pub defaults_leave : (rules : List Rule) → AllByRecursion Leaves rules → (rows : List Row)
      → g (find (λ r. bytes_eq r.id name) (fold with_default rows rules)) ≡ g (find (λ r. bytes_eq r.id name) rows)
  unfolding Leaves
  defaults_leave [] leave rows = refl
  defaults_leave (a ∷ rules) leave rows =
      defaults_leave rules leave.1 (with_default rows a)
      ∙ ap (λ (xs : List Row). g (find (λ r. bytes_eq r.id name) xs)) (default_added rows a)
      ∙ ap g (find-append (λ r. bytes_eq r.id name) rows (default_part rows a))
      ∙ leave.0 rows (find (λ r. bytes_eq r.id name) rows)

  -- so it is where g does not see a default of the argument
  leaves_by : (a : Rule) → ((o : Option Row) → g (option_or o (find (λ r. bytes_eq r.id name) (default_rows a.id (reading_by a) a.defaults []))) ≡ g o) → Leaves a
  unfolding Leaves default_part
  leaves_by a unseen rows o = by (has_row a.id rows)
    where
      none : (o : Option Row) → g (option_or o None) ≡ g o
      none None = refl
      none (Some r) = refl

      by : (b : Bool) → g (option_or o (find (λ r. bytes_eq r.id name) (if b then [] else default_rows a.id (reading_by a) a.defaults []))) ≡ g o
      by true = none o
      by false = unseen o

  none_seen : (o : Option Row) → g (option_or o None) ≡ g o
  none_seen None = refl
  none_seen (Some r) = refl

  row_seen : (b : Bool) (r : Row) → ((b ≡ true) → g (Some r) ≡ g None) → (o : Option Row) → g (option_or o (if b then Some r else None)) ≡ g o
  row_seen true r unseen None = unseen refl
  row_seen true r unseen (Some other) = refl
  row_seen false r unseen None = refl
  row_seen false r unseen (Some other) = refl

-- a default is none that the words gave
explicit_leaves : (name : Text) (a : Rule) → Leaves is_explicit name a
explicit_leaves name a = leaves_by is_explicit name a (go a.defaults)
  where
    go : (values : List Text) (o : Option Row) → is_explicit (option_or o (find (λ r. bytes_eq r.id name) (default_rows a.id (reading_by a) values []))) ≡ is_explicit o
    go [] o = none_seen is_explicit name o
    go (v ∷ vs) o = row_seen is_explicit name (bytes_eq a.id name) _ (λ _. refl) o

-- the argument has no default, or another name
abbrev has_none : List Text → Bool
has_none [] = true
has_none (v ∷ vs) = false

abbrev pub is_other : Text → Rule → Bool
is_other name a = has_none a.defaults || not (bytes_eq a.id name)

value_leaves : (name : Text) (a : Rule) → is_other name a ≡ true → Leaves value_at name a
value_leaves name a other = leaves_by value_at name a (go a.defaults other)
  where
    differs : (b : Bool) → not b ≡ true → b ≡ true → ⊥
    differs true n e = true≢false (sym n)
    differs false n e = true≢false (sym e)

    go : (values : List Text) → (has_none values || not (bytes_eq a.id name)) ≡ true → (o : Option Row)
        → value_at (option_or o (find (λ r. bytes_eq r.id name) (default_rows a.id (reading_by a) values []))) ≡ value_at o
    go [] other o = none_seen value_at name o
    go (v ∷ vs) other o = row_seen value_at name (bytes_eq a.id name) _ (λ e. absurd (differs (bytes_eq a.id name) other e)) o

-- the argument's default does not say that it is there
abbrev pub is_no : Rule → Bool
is_no a = not (is_yes (slice_get a.defaults 0))

abbrev yes_at : Option Row → Bool
yes_at row = is_yes (value_at row)

flag_leaves : (name : Text) (a : Rule) → is_no a ≡ true → Leaves yes_at name a
flag_leaves name a unsaid = leaves_by yes_at name a (go a.defaults unsaid)
  where
    is_false : (b : Bool) → not b ≡ true → b ≡ false
    is_false true n = absurd (true≢false (sym n))
    is_false false n = refl

    go : (values : List Text) → not (is_yes (slice_get values 0)) ≡ true → (o : Option Row)
        → yes_at (option_or o (find (λ r. bytes_eq r.id name) (default_rows a.id (reading_by a) values []))) ≡ yes_at o
    go [] unsaid o = none_seen yes_at name o
    go (v ∷ vs) unsaid o = row_seen yes_at name (bytes_eq a.id name) _ (λ _. is_false (is_yes (Some v)) unsaid) o

each : (test : Rule → Bool) (P : Rule → Type 0) → ((a : Rule) → test a ≡ true → P a) → (rules : List Rule) → list_all test rules ≡ true → AllByRecursion P rules
each test P holds [] all = tt
each test P holds (a ∷ rules) all = (holds a (both (test a) _ all).0, each test P holds rules (both (test a) _ all).1)

any_leaves : (name : Text) (rules : List Rule) → AllByRecursion (Leaves is_explicit name) rules
any_leaves name [] = tt
any_leaves name (a ∷ rules) = (explicit_leaves name a, any_leaves name rules)

-- ---- what a parse finds at its end

-- a name that the words gave a value is given
pub is_given_under : (rules : List Rule) (values : List (Text × Text)) (name : Text) → is_some (under values name) ≡ true → is_given name (fold with_default (given_rows values) rules) ≡ true
is_given_under rules values name there =
    defaults_leave is_explicit name rules (any_leaves name rules) (given_rows values) ∙ given_under name values ∙ there

pub are_given : (rules : List Rule) (values : List (Text × Text)) (names : List Text) → list_all (λ name. is_some (under values name)) names ≡ true
    → list_all (λ name. is_given name (fold with_default (given_rows values) rules)) names ≡ true
are_given rules values [] there = refl
are_given rules values (name ∷ names) there =
    let split = both (is_some (under values name)) _ there in
    ap₂ (λ (a b : Bool). a && b) (is_given_under rules values name split.0) (are_given rules values names split.1)

-- the value under a name that has no default
pub value_under : (rules : List Rule) (values : List (Text × Text)) (name : Text) → list_all (is_other name) rules ≡ true
    → first_of name (fold with_default (given_rows values) rules) ≡ under values name
value_under rules values name other =
    defaults_leave value_at name rules (each (is_other name) (Leaves value_at name) (value_leaves name) rules other) (given_rows values) ∙ found_under name values

-- whether an option without a value is there
pub flag_under : (rules : List Rule) (values : List (Text × Text)) (name : Text) → list_all is_no rules ≡ true
    → is_yes (first_of name (fold with_default (given_rows values) rules)) ≡ is_yes (under values name)
flag_under rules values name unsaid =
    defaults_leave yes_at name rules (each is_no (Leaves yes_at name) (flag_leaves name) rules unsaid) (given_rows values) ∙ ap is_yes (found_under name values)
