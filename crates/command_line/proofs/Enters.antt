-- A parse goes on in the command that the first word names.
use Rattle.std.proofs.Common.{◌≡◌, Bool, true, false, List, [], ◌∷◌, ◌++◌, ◌&&◌, Option, Some, None, is_some, option_map, if◌then◌else◌, refl, sym, ap, ap₂, ◌∙◌}
use Rattle.std.specs.Prelude.{find, fold}
use Rattle.std.specs.List.{list_all}
use Rattle.std.specs.Option.{option_map_or}
use Rattle.clap.specs.Simple.{App, Shape, built, entered, is_simple, label_of, names_of, rows_at, subcommand_of}
use Rattle.clap.specs.Takes.{built_takes, default_passes, entered_passes, is_valid, level_passes, settle_passes, takes, turn_passes, walk_passes}
use Rattle.clap.specs.Walk.{Names, Row, Text, Walk, answers_to, finished, nothing_held, rows_after, walk, walk_from, walked}
use Rattle.clap.proofs.WalkLemmas.{walk_stopped}

-- behind a word that names a command the words pass
stopped_passes : (s : Shape) (names : Names) (w : Walk) (name : Text) (seen words : List Text) → walk_passes s names (record w { stopped = Some (name, seen) }) words ≡ true
unfolding walk_passes walked
stopped_passes s names w name seen [] = refl
stopped_passes s names w name seen (x ∷ xs) = stopped_passes s names w name (seen ++ x ∷ []) xs

-- where a walk stands that met the name of a command, with these words behind it
abbrev pub stopped_at : Text → List Text → Walk
stopped_at word rest = record (walk_from nothing_held) { stopped = Some (word, rest) }

-- the word names this command of the program, which has nothing else to ask of a parse that meets it
pub record Enters (a : App) (word : Text) (s : Shape) : Type 0 where
  pub simple : is_simple a ≡ true
  pub named_first : a.top.no_binary_name ≡ false
  pub meets : walked (built a).top.rules (names_of (built a)) (walk_from nothing_held) word ≡ stopped_at word []
  pub passes : turn_passes (built a).top (names_of (built a)) (walk_from nothing_held) word ≡ true
  pub found : find (λ t. answers_to word (label_of t)) (built a).subs ≡ Some s
  pub named : s.name ≡ word
  pub defaults : list_all default_passes (built a).top.rules ≡ true
  pub valid : is_valid (built a).top (finished (built a).top.rules nothing_held) true ≡ true

and_true : (b : Bool) → (b && true) ≡ b
and_true true = refl
and_true false = refl

module _ (a : App) (word : Text) (s : Shape) (e : Enters a word s) (rest : List Text) where
  stands : walk (built a).top.rules (names_of (built a)) nothing_held (word ∷ rest) ≡ stopped_at word rest
  stands =
      ap (λ (w : Walk). fold (walked (built a).top.rules (names_of (built a))) w rest) e.meets
      ∙ sym (walk_stopped (built a).top.rules (names_of (built a)) (walk_from nothing_held) word [] rest)

  words_pass : walk_passes (built a).top (names_of (built a)) (walk_from nothing_held) (word ∷ rest) ≡ true
  unfolding walk_passes
  words_pass =
      ap₂ (λ (t : Bool) (w : Walk). t && walk_passes (built a).top (names_of (built a)) w rest) e.passes e.meets
      ∙ stopped_passes (built a).top (names_of (built a)) (walk_from nothing_held) word [] rest

  -- what the program's command makes of a walk that stands there, by whether its words pass
  takes_with : Walk → Bool → Bool
  takes_with w passes =
      entered_passes (built a) w.stopped
      && (passes && (settle_passes (built a).top.rules (built a).top.args_override_self w.held && (list_all default_passes (built a).top.rules && is_valid (built a).top (finished (built a).top.rules w.held) (is_some (entered (built a) w.stopped)))))

  -- and by the command that the word names, and whether the defaults pass
  takes_by : Option Shape → Bool → Bool
  takes_by found defaults =
      option_map_or (λ (t : Shape). level_passes t [] nothing_held rest false) found true
      && (defaults && is_valid (built a).top (finished (built a).top.rules nothing_held) (is_some (option_map (λ (t : Shape). rows_at t rest) found)))

  built_takes_is : built_takes (built a) nothing_held (word ∷ rest) ≡ level_passes s [] nothing_held rest false
  unfolding takes_with takes_by
  built_takes_is =
      ap₂ takes_with stands words_pass ∙ ap₂ takes_by e.found e.defaults ∙ ap (λ (b : Bool). level_passes s [] nothing_held rest false && b) e.valid
      ∙ and_true (level_passes s [] nothing_held rest false)

  -- the words are taken where the command takes those behind its name
  pub takes_is : (name : Text) → takes a (name ∷ word ∷ rest) ≡ level_passes s [] nothing_held rest false
  takes_is name =
      ap₂ (λ (simple none : Bool). simple && built_takes (built a) nothing_held (if none then name ∷ word ∷ rest else word ∷ rest)) e.simple e.named_first ∙ built_takes_is

  entered_is : entered (built a) (walk (built a).top.rules (names_of (built a)) nothing_held (word ∷ rest)).stopped ≡ Some (word, rows_after s.rules [] rest)
  entered_is =
      ap (λ (w : Walk). entered (built a) w.stopped) stands ∙ ap (option_map (λ (t : Shape). rows_at t rest)) e.found
      ∙ ap (λ (n : Text). Some (n, rows_after s.rules [] rest)) e.named

  -- and then these are its rows
  pub rows_are : (name : Text) → subcommand_of a (name ∷ word ∷ rest) ≡ Some (word, rows_after s.rules [] rest)
  rows_are name =
      ap (λ (none : Bool). entered (built a) (walk (built a).top.rules (names_of (built a)) nothing_held (if none then name ∷ word ∷ rest else word ∷ rest)).stopped) e.named_first
      ∙ entered_is
