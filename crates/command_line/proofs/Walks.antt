-- A walk over the parts of a call passes, and finds their values.
use Rattle.std.proofs.Common.{◌≡◌, codes, ℕ, ◌+◌, min, Bool, true, false, not, List, [], ◌∷◌, ◌++◌, ◌&&◌, ◌||◌, ◌==◌, ◌≢◌, Option, Some, None, if◌then◌else◌, inl, inr, append-nil, append_assoc, refl, sym, subst, ap, ap₂, ◌∙◌}
use Rattle.std.proofs.lemmas.Bool.{ne_eqb}
use Rattle.std.proofs.lemmas.Slice.Eq.{bytes_eq-Decides}
use Rattle.std.specs.Prelude.{fold, nat_lt, option_and_then}
use Rattle.std.specs.List.{AllByRecursion, list_all}
use Rattle.std.specs.Option.{option_map_or}
use Rattle.std.specs.Str.{bytes_eq}
use Rattle.clap.specs.Lexer.{long_of, long_of_rest, short_of, short_of_rest, strip_byte, usize_max}
use Rattle.clap.specs.Simple.{Shape, filled, with_index}
use Rattle.clap.specs.Takes.{bundle_passes, default_passes, flag_word_passes, is_given, is_valid, level_passes, long_passes, other_passes, positional_passes, react_passes, settle_passes, step_passes, turn_passes, use_passes, walk_passes, word_passes}
use Rattle.clap.specs.Walk.{Held, Row, Rule, Step, Text, Waiting, Walk, after_flag, after_step, arg_by_id, arg_by_index, arg_by_long, finished, has_row, idle, is_pending, long_met, long_or_other, most_values, next, nothing_held, option, option_word as read_option, pending_count, plain_word, positional_held, pushed, reacted, rows_after, settled, settled_rows, short_or_plain, subcommand_met, subcommand_or_other, to_positional, trailing, used, used_by_id, value, walked, with_default, word_met}
use Rattle.clap.specs.Words.{new_rule}
use Rattle.command_line.specs.Calls.{AreDifferent, AreParts, AreTaken, IsAmong, IsOperand, Part, flag, joined, operand, operand_names, option_word, valued, values_from, values_in, words_of}
use Rattle.command_line.specs.CommandLine.{Takes, flag_rule, option_rule}
use Rattle.command_line.proofs.Rows.{AreAbsent, absent_at_first, are_given, given_row, given_rows, puts, still_absent}

-- ---- a word that is an operand is no flag

long_of_one : (b : Bool) → option_and_then long_of_rest (option_and_then (strip_byte 45) (if b then Some [] else None)) ≡ None
long_of_one true = refl
long_of_one false = refl

short_of_one : (b : Bool) → option_and_then short_of_rest (if b then Some [] else None) ≡ None
short_of_one true = refl
short_of_one false = refl

and_false : (b : Bool) → (b && false) ≡ false
and_false true = refl
and_false false = refl

is_no_hyphen : (first : ℕ) → first ≢ 45 → (first == 45) ≡ false
is_no_hyphen first other = ne_eqb first 45 other

no_long : (word : List ℕ) → IsOperand word → long_of word ≡ None
no_long [] is = refl
no_long (only ∷ []) is = long_of_one (only == 45)
no_long (first ∷ second ∷ rest) is = let e = is_no_hyphen first is in rw e refl

no_short : (word : List ℕ) → IsOperand word → short_of word ≡ None
no_short [] is = refl
no_short (only ∷ []) is = short_of_one (only == 45)
no_short (first ∷ second ∷ rest) is = let e = is_no_hyphen first is in rw e refl

no_mark : (word : List ℕ) → IsOperand word → bytes_eq word (45 ∷ 45 ∷ []) ≡ false
no_mark [] is = refl
no_mark (only ∷ []) is = and_false (only == 45)
no_mark (first ∷ second ∷ rest) is = let e = is_no_hyphen first is in rw e refl

-- ---- the arguments of a command that is built

abbrev pub built_operand : Text → ℕ → Bool → Rule
built_operand name place required = with_index place (filled (record (new_rule name) { required = required }))

abbrev pub built_option : Text → Rule
built_option name = filled (option_rule name)

abbrev pub built_flag : Text → Rule
built_flag name = filled (flag_rule name)

-- the operands of these names, from this place on
abbrev pub Operands : List Rule → ℕ → List Text → Type 0
Operands rules place [] = Unit {0}
Operands rules place (name ∷ names) =
    ((required : Bool) × (arg_by_index rules place ≡ Some (built_operand name place required)) × (arg_by_id rules name ≡ Some (built_operand name place required)))
    × Operands rules (min (place + 1) usize_max) names

-- an option of this name, read as this argument
pub record IsOption (rules : List Rule) (name : Text) (a : Rule) : Type 0 where
  pub mark : bytes_eq (option_word name) (45 ∷ 45 ∷ []) ≡ false
  pub long : long_of (option_word name) ≡ Some (name, None)
  pub joined_mark : (text : Text) → bytes_eq (option_word name ++ 61 ∷ text) (45 ∷ 45 ∷ []) ≡ false
  pub joined_long : (text : Text) → long_of (option_word name ++ 61 ∷ text) ≡ Some (name, Some text)
  pub by_long : arg_by_long rules name ≡ Some a
  pub by_id : arg_by_id rules name ≡ Some a

-- the command reads what it takes
pub record Reads (s : Shape) (t : Takes) : Type 0 where
  pub operands : Operands s.rules 1 (operand_names t)
  pub options : AllByRecursion (λ name. IsOption s.rules name (built_option name)) t.options
  pub flags : AllByRecursion (λ name. IsOption s.rules name (built_flag name)) t.flags
  pub defaults : list_all default_passes s.rules ≡ true
  pub valid : (rows : List Row) → list_all (λ name. is_given name rows) t.required ≡ true → is_valid s rows false ≡ true

among : (P : Text → Type 0) (names : List Text) (name : Text) → AllByRecursion P names → IsAmong name names → P name
among P [] name all is = absurd is
among P (first ∷ rest) name all (inl e) = subst P (sym e) all.0
among P (first ∷ rest) name all (inr behind) = among P rest name all.1 behind

-- ---- a walk between two parts

walk_at : Held → ℕ → Walk
walk_at h place = record { held = h; waiting = idle; position = place; is_trailing = false; stopped = None }

module _ (s : Shape) where
  -- what is held comes to these rows
  record Comes (h : Held) (rows : List Row) : Type 0 where
    come : settled_rows s.rules h.pending h.rows ≡ rows
    settle : settle_passes s.rules s.args_override_self h ≡ true

  -- the words pass, and what is held behind them comes to these rows
  Ends : Walk → List Text → List Row → Type 0
  Ends w words rows = (walk_passes s [] w words ≡ true) × Comes (fold (walked s.rules []) w words).held rows

  one_more : (w after : Walk) (word : Text) (rest : List Text) (rows : List Row) → walked s.rules [] w word ≡ after → turn_passes s [] w word ≡ true
      → Ends after rest rows → Ends w (word ∷ rest) rows
  unfolding Ends walk_passes
  one_more w after word rest rows goes passes ends = (
    ap₂ (λ (t : Bool) (v : Walk). t && walk_passes s [] v rest) passes goes ∙ ends.0,
    subst (λ (v : Walk). Comes (fold (walked s.rules []) v rest).held rows) (sym goes) ends.1,
  )

  -- what is pending with its value, behind these rows
  pending_with : Text → Text → Held → Held
  pending_with name text h = record (settled s.rules h) { pending = Some (name, text ∷ []) }

  -- an argument that has one value puts a row behind the others
  record TakesOne (name : Text) (a : Rule) : Type 0 where
    put : (text : Text) (rows : List Row) → has_row name rows ≡ false → used a (text ∷ []) rows ≡ rows ++ given_row (name, text)
    passes : (text : Text) (rows : List Row) → has_row name rows ≡ false → use_passes s.args_override_self a (text ∷ []) rows ≡ true

  operand_takes : (name : Text) (place : ℕ) (required : Bool) → TakesOne name (built_operand name place required)
  operand_takes name place required = record {
    put = λ text rows absent. puts name (built_operand name place required) (text ∷ []) rows absent;
    passes = λ text rows absent. ap (λ (b : Bool). (not b || s.args_override_self) && true) absent;
  }

  option_takes : (name : Text) → TakesOne name (built_option name)
  option_takes name = record {
    put = λ text rows absent. puts name (built_option name) (text ∷ []) rows absent;
    passes = λ text rows absent. ap (λ (b : Bool). (not b || s.args_override_self) && true) absent;
  }

  pending_comes : (name text : Text) (a : Rule) (h : Held) (rows : List Row) → TakesOne name a → arg_by_id s.rules name ≡ Some a → Comes h rows → has_row name rows ≡ false
      → Comes (pending_with name text h) (rows ++ given_row (name, text))
  unfolding pending_with
  pending_comes name text a h rows takes by_id comes absent = record {
    come =
        ap (λ (o : Option Rule). used_by_id o (text ∷ []) (settled s.rules h).rows) by_id ∙ ap (used a (text ∷ [])) comes.come
        ∙ takes.put text rows absent;
    settle =
        ap (λ (o : Option Rule). option_map_or (λ (b : Rule). use_passes s.args_override_self b (text ∷ []) (settled s.rules h).rows) o true) by_id
        ∙ ap (use_passes s.args_override_self a (text ∷ [])) comes.come ∙ takes.passes text rows absent;
  }

  -- ---- a word that is no option

  module _ (h : Held) (word : Text) (is : IsOperand word) where
    word_is : (waiting : Waiting) (place : ℕ) → subcommand_met [] waiting word ≡ None → word_met s.rules [] false waiting place word h ≡ plain_word s.rules waiting word h
    word_is waiting place none =
        ap (λ (o : Option Text). subcommand_or_other s.rules o waiting place word h) none
        ∙ ap (λ (b : Bool). if b then (h, trailing place) else long_or_other s.rules waiting word (long_of word) h) (no_mark word is)
        ∙ ap (λ l. long_or_other s.rules waiting word l h) (no_long word is)
        ∙ ap (λ f. short_or_plain s.rules waiting word f h) (no_short word is)

    word_is_free : (waiting : Waiting) → subcommand_met [] waiting word ≡ None → word_passes s [] false waiting word h ≡ true
    word_is_free waiting none =
        ap (λ (o : Option Text). other_passes s o word h) none
        ∙ ap (λ (b : Bool). b || flag_word_passes s.rules s.args_override_self (long_of word) word h) (no_mark word is)
        ∙ ap (λ l. flag_word_passes s.rules s.args_override_self l word h) (no_long word is)
        ∙ ap (λ f. option_map_or (λ flags. bundle_passes s.rules s.args_override_self flags h) f true) (no_short word is)

  -- ---- an operand

  module _ (h : Held) (rows : List Row) (comes : Comes h rows) (place : ℕ) (name text : Text) (is : IsOperand text) (required : Bool) (by_index : arg_by_index s.rules place ≡ Some (built_operand name place required)) where
    operand_walk : walked s.rules [] (walk_at h place) text ≡ walk_at (pending_with name text h) (min (place + 1) usize_max)
    unfolding walked walk_at pending_with
    operand_walk =
        ap (λ (met : Held × Step). after_step s.rules text (walk_at h place) met.0 met.1) (word_is h text is idle place refl)
        ∙ ap (λ (o : Option Rule). to_positional s.rules o text (walk_at h place) h) by_index
        ∙ ap (λ (b : Bool). walk_at (pushed name text (if b then h else settled s.rules h)) (min (place + 1) usize_max)) (and_false (is_pending (built_operand name place required) h.pending))

    operand_turn : turn_passes s [] (walk_at h place) text ≡ true
    unfolding walk_at
    operand_turn =
        ap₂ (λ (free : Bool) (met : Held × Step). free && step_passes s place met.0 met.1) (word_is_free h text is idle refl) (word_is h text is idle place refl)
        ∙ ap (λ (o : Option Rule). option_map_or (λ (a : Rule). positional_passes s.rules s.args_override_self a h) o false) by_index
        ∙ ap₂ (λ (pending settles : Bool). pending || settles) (and_false (is_pending (built_operand name place required) h.pending)) comes.settle

  -- ---- options

  -- what is held behind an option that waits for its value
  waiting_for : Text → Held → Held
  waiting_for name h = record (settled s.rules h) { pending = Some (name, []) }

  -- a walk that waits for it
  walk_waiting : Text → Held → ℕ → Walk
  walk_waiting name h place = record { held = waiting_for name h; waiting = option name; position = place; is_trailing = false; stopped = None }

  is_itself : (name : Text) → bytes_eq name name ≡ true
  is_itself name = (bytes_eq-Decides name name).1 refl

  -- the words of an option, by what they are read as
  module _ (h : Held) (place : ℕ) (word name : Text) (given : Option Text) (a : Rule) (mark : bytes_eq word (45 ∷ 45 ∷ []) ≡ false) (long : long_of word ≡ Some (name, given)) (by_long : arg_by_long s.rules name ≡ Some a) where
    long_is : word_met s.rules [] false idle place word h ≡ after_flag s.rules idle word (long_met s.rules (Some a) given h).0 (long_met s.rules (Some a) given h).1
    long_is =
        ap (λ (b : Bool). if b then (h, trailing place) else long_or_other s.rules idle word (long_of word) h) mark
        ∙ ap (λ l. long_or_other s.rules idle word l h) long
        ∙ ap (λ (o : Option Rule). after_flag s.rules idle word (long_met s.rules o given h).0 (long_met s.rules o given h).1) by_long

    long_passes_by : word_passes s [] false idle word h ≡ long_passes s.rules s.args_override_self (Some a) given h
    long_passes_by =
        ap (λ (b : Bool). b || flag_word_passes s.rules s.args_override_self (long_of word) word h) mark
        ∙ ap (λ l. flag_word_passes s.rules s.args_override_self l word h) long
        ∙ ap (λ (o : Option Rule). long_passes s.rules s.args_override_self o given h) by_long

  module _ (h : Held) (rows : List Row) (comes : Comes h rows) (place : ℕ) (name : Text) where
    -- an option whose value is the next word
    option_walk : IsOption s.rules name (built_option name) → walked s.rules [] (walk_at h place) (option_word name) ≡ walk_waiting name h place
    unfolding walked walk_at walk_waiting waiting_for
    option_walk is =
        ap (λ (met : Held × Step). after_step s.rules (option_word name) (walk_at h place) met.0 met.1)
        (long_is h place (option_word name) name None (built_option name) is.mark is.long is.by_long)

    option_turn : IsOption s.rules name (built_option name) → turn_passes s [] (walk_at h place) (option_word name) ≡ true
    unfolding walk_at
    option_turn is =
        ap₂ (λ (free : Bool) (met : Held × Step). free && step_passes s place met.0 met.1)
        (long_passes_by h place (option_word name) name None (built_option name) is.mark is.long is.by_long ∙ comes.settle)
        (long_is h place (option_word name) name None (built_option name) is.mark is.long is.by_long)

    module _ (text : Text) (is_operand : IsOperand text) where
      value_met : IsOption s.rules name (built_option name)
          → word_met s.rules [] false (option name) place text (waiting_for name h) ≡ (pending_with name text h, next idle)
      unfolding waiting_for pending_with
      value_met is =
          word_is (waiting_for name h) text is_operand (option name) place refl
          ∙ ap (λ (o : Option Rule). ((read_option o name text (waiting_for name h)).0, next (read_option o name text (waiting_for name h)).1)) is.by_id
          ∙ ap (λ (b : Bool). (pending_with name text h, next (if nat_lt (if b then 1 else 0) 1 then option name else idle))) (is_itself name)

      value_walk : IsOption s.rules name (built_option name) → walked s.rules [] (walk_waiting name h place) text ≡ walk_at (pending_with name text h) place
      unfolding walked walk_at walk_waiting
      value_walk is = ap (λ (met : Held × Step). after_step s.rules text (walk_waiting name h place) met.0 met.1) (value_met is)

      value_turn : IsOption s.rules name (built_option name) → turn_passes s [] (walk_waiting name h place) text ≡ true
      unfolding walk_waiting
      value_turn is =
          ap₂ (λ (free : Bool) (met : Held × Step). free && step_passes s place met.0 met.1) (word_is_free (waiting_for name h) text is_operand (option name) refl) (value_met is)

    -- an option with its value in the same word, or without a value: it is used at once
    at_once : Rule → List Text → Held
    at_once a values = reacted s.rules a values h

    at_once_comes : (a : Rule) (values : List Text) (after : List Row) → used a values rows ≡ after → Comes (at_once a values) after
    unfolding at_once
    at_once_comes a values after is = record { come = ap (used a values) comes.come ∙ is; settle = refl }

    react_passes_by : (a : Rule) (values : List Text) → use_passes s.args_override_self a values rows ≡ true → react_passes s.rules s.args_override_self a values h ≡ true
    react_passes_by a values passes = ap₂ (λ (settles uses : Bool). settles && uses) comes.settle (ap (use_passes s.args_override_self a values) comes.come ∙ passes)

    module _ (text : Text) where
      joined_walk : IsOption s.rules name (built_option name)
          → walked s.rules [] (walk_at h place) (option_word name ++ 61 ∷ text) ≡ walk_at (at_once (built_option name) (text ∷ [])) place
      unfolding walked walk_at at_once
      joined_walk is =
          ap (λ (met : Held × Step). after_step s.rules (option_word name ++ 61 ∷ text) (walk_at h place) met.0 met.1)
          (long_is h place (option_word name ++ 61 ∷ text) name (Some text) (built_option name) (is.joined_mark text) (is.joined_long text) is.by_long)

      joined_turn : has_row name rows ≡ false → IsOption s.rules name (built_option name) → turn_passes s [] (walk_at h place) (option_word name ++ 61 ∷ text) ≡ true
      unfolding walk_at
      joined_turn absent is =
          ap₂ (λ (free : Bool) (met : Held × Step). free && step_passes s place met.0 met.1)
          (long_passes_by h place (option_word name ++ 61 ∷ text) name (Some text) (built_option name) (is.joined_mark text) (is.joined_long text) is.by_long
          ∙ react_passes_by (built_option name) (text ∷ []) ((option_takes name).passes text rows absent))
          (long_is h place (option_word name ++ 61 ∷ text) name (Some text) (built_option name) (is.joined_mark text) (is.joined_long text) is.by_long)

    flag_walk : IsOption s.rules name (built_flag name) → walked s.rules [] (walk_at h place) (option_word name) ≡ walk_at (at_once (built_flag name) []) place
    unfolding walked walk_at at_once
    flag_walk is =
        ap (λ (met : Held × Step). after_step s.rules (option_word name) (walk_at h place) met.0 met.1)
        (long_is h place (option_word name) name None (built_flag name) is.mark is.long is.by_long)

    flag_turn : has_row name rows ≡ false → IsOption s.rules name (built_flag name) → turn_passes s [] (walk_at h place) (option_word name) ≡ true
    unfolding walk_at
    flag_turn absent is =
        ap₂ (λ (free : Bool) (met : Held × Step). free && step_passes s place met.0 met.1)
        (long_passes_by h place (option_word name) name None (built_flag name) is.mark is.long is.by_long
        ∙ react_passes_by (built_flag name) [] (ap (λ (b : Bool). (not b || s.args_override_self) && true) absent))
        (long_is h place (option_word name) name None (built_flag name) is.mark is.long is.by_long)

  -- ---- all parts

  module _ (t : Takes) (reads : Reads s t) where
    regroup : (rows : List Row) (first : Text × Text) (rest : List (Text × Text)) (w : Walk) (words : List Text) → Ends w words ((rows ++ given_row first) ++ given_rows rest)
        → Ends w words (rows ++ given_rows (first ∷ rest))
    regroup rows first rest w words = subst (Ends w words) (append_assoc rows (given_row first) (given_rows rest))

    parts_end : (names : List Text) (place : ℕ) (parts : List Part) (h : Held) (rows : List Row) → Operands s.rules place names → AreTaken t names parts
        → AreAbsent rows (values_from names parts) → AreDifferent (values_from names parts) → Comes h rows
        → Ends (walk_at h place) (words_of parts) (rows ++ given_rows (values_from names parts))
    unfolding Ends walk_passes walk_at
    parts_end names place [] h rows operands taken absent distinct comes = (refl, subst (Comes h) (sym (append-nil rows)) comes)
    parts_end [] place (operand text ∷ parts) h rows operands taken absent distinct comes = absurd taken
    parts_end (name ∷ names) place (operand text ∷ parts) h rows operands taken absent distinct comes =
        regroup rows (name, text) (values_from names parts) (walk_at h place) (words_of (operand text ∷ parts))
        (one_more (walk_at h place) (walk_at (pending_with name text h) (min (place + 1) usize_max)) text (words_of parts) _
        (operand_walk h rows comes place name text taken.0 operands.0.0 operands.0.1) (operand_turn h rows comes place name text taken.0 operands.0.0 operands.0.1)
        (parts_end names (min (place + 1) usize_max) parts (pending_with name text h) (rows ++ given_row (name, text)) operands.1 taken.1
        (still_absent rows (name, text) (values_from names parts) absent.1 distinct.0) distinct.1
        (pending_comes name text (built_operand name place operands.0.0) h rows (operand_takes name place operands.0.0) operands.0.2 comes absent.0)))
    parts_end names place (valued name text ∷ parts) h rows operands taken absent distinct comes =
        let is = among (λ n. IsOption s.rules n (built_option n)) t.options name reads.options taken.0 in
        regroup rows (name, text) (values_from names parts) (walk_at h place) (words_of (valued name text ∷ parts))
        (one_more (walk_at h place) (walk_waiting name h place) (option_word name) (text ∷ words_of parts) _
        (option_walk h rows comes place name is) (option_turn h rows comes place name is)
        (one_more (walk_waiting name h place) (walk_at (pending_with name text h) place) text (words_of parts) _
        (value_walk h rows comes place name text taken.1 is) (value_turn h rows comes place name text taken.1 is)
        (parts_end names place parts (pending_with name text h) (rows ++ given_row (name, text)) operands taken.2
        (still_absent rows (name, text) (values_from names parts) absent.1 distinct.0) distinct.1
        (pending_comes name text (built_option name) h rows (option_takes name) is.by_id comes absent.0))))
    parts_end names place (joined name text ∷ parts) h rows operands taken absent distinct comes =
        let is = among (λ n. IsOption s.rules n (built_option n)) t.options name reads.options taken.0 in
        regroup rows (name, text) (values_from names parts) (walk_at h place) (words_of (joined name text ∷ parts))
        (one_more (walk_at h place) (walk_at (at_once h rows comes place name (built_option name) (text ∷ [])) place) (option_word name ++ 61 ∷ text) (words_of parts) _
        (joined_walk h rows comes place name text is) (joined_turn h rows comes place name text absent.0 is)
        (parts_end names place parts (at_once h rows comes place name (built_option name) (text ∷ [])) (rows ++ given_row (name, text)) operands taken.1
        (still_absent rows (name, text) (values_from names parts) absent.1 distinct.0) distinct.1
        (at_once_comes h rows comes place name (built_option name) (text ∷ []) (rows ++ given_row (name, text)) ((option_takes name).put text rows absent.0))))
    parts_end names place (flag name ∷ parts) h rows operands taken absent distinct comes =
        let is = among (λ n. IsOption s.rules n (built_flag n)) t.flags name reads.flags taken.0 in
        regroup rows (name, codes "true") (values_from names parts) (walk_at h place) (words_of (flag name ∷ parts))
        (one_more (walk_at h place) (walk_at (at_once h rows comes place name (built_flag name) []) place) (option_word name) (words_of parts) _
        (flag_walk h rows comes place name is) (flag_turn h rows comes place name absent.0 is)
        (parts_end names place parts (at_once h rows comes place name (built_flag name) []) (rows ++ given_row (name, codes "true")) operands taken.1
        (still_absent rows (name, codes "true") (values_from names parts) absent.1 distinct.0) distinct.1
        (at_once_comes h rows comes place name (built_flag name) [] (rows ++ given_row (name, codes "true")) (puts name (built_flag name) (codes "true" ∷ []) rows absent.0))))

    module _ (parts : List Part) (are : AreParts t parts) where
      ends : Ends (walk_at nothing_held 1) (words_of parts) (given_rows (values_in t parts))
      ends =
          parts_end (operand_names t) 1 parts nothing_held [] reads.operands are.taken (absent_at_first (values_in t parts)) are.different
          (record { come = refl; settle = refl })

      end_held : Held
      end_held = (fold (walked s.rules []) (walk_at nothing_held 1) (words_of parts)).held

      pub rows_end : rows_after s.rules [] (words_of parts) ≡ fold with_default (given_rows (values_in t parts)) s.rules
      unfolding Ends walk_at end_held
      rows_end = ap (λ (rows : List Row). fold with_default rows s.rules) ends.1.come

      pub parts_pass : level_passes s [] nothing_held (words_of parts) false ≡ true
      unfolding Ends walk_at end_held
      parts_pass =
          ap₂ (λ (walks settles : Bool). walks && (settles && (list_all default_passes s.rules && is_valid s (finished s.rules end_held) false))) ends.0 ends.1.settle
          ∙ ap₂ (λ (defaults : Bool) (rows : List Row). defaults && is_valid s (fold with_default rows s.rules) false) reads.defaults ends.1.come
          ∙ reads.valid (fold with_default (given_rows (values_in t parts)) s.rules) (are_given s.rules (values_in t parts) t.required are.whole)
