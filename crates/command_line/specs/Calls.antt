-- Which words are a call of the program, and what each call asks for.
use Rattle.std.specs.Prelude.{◌≡◌, ◌≢◌, ◌⊎◌, true, false, List, [], ◌∷◌, ◌++◌, map, find, option_map, codes, Option, is_some}
use Rattle.std.specs.List.{AllByRecursion, list_all}
use Rattle.std.specs.Str.{bytes_eq}
use Rattle.clap.specs.Words.{Text}
use Rattle.command_line.specs.CommandLine.{Asked, Command, Takes, acceptor, asks, name_of, takes_of}

-- ---- the parts behind a command's word

-- an operand; an option with its value as the next word, or behind an equals sign in the same one; or an option without a value
pub data Part : Type 0 where
  operand : Text → Part
  valued : Text → Text → Part
  joined : Text → Text → Part
  flag : Text → Part

-- an option's word: two hyphens (45) and its name
abbrev pub option_word : Text → Text
option_word name = 45 ∷ 45 ∷ name

-- the words of a part, where an equals sign is 61 (The GNU C Library, "Program Argument Syntax Conventions", of long options)
abbrev pub part_words : Part → List Text
part_words (operand text) = text ∷ []
part_words (valued name value) = option_word name ∷ value ∷ []
part_words (joined name value) = (option_word name ++ 61 ∷ value) ∷ []
part_words (flag name) = option_word name ∷ []

abbrev pub words_of : List Part → List Text
words_of [] = []
words_of (part ∷ rest) = part_words part ++ words_of rest

-- the word is an operand and no option: it does not begin with a hyphen (45), or is a hyphen alone (POSIX, Utility Syntax
-- Guidelines 3, 9 and 13)
abbrev pub IsOperand : Text → Type 0
IsOperand [] = Unit {0}
IsOperand (only ∷ []) = Unit {0}
IsOperand (first ∷ second ∷ rest) = first ≢ 45

-- ---- what they give

abbrev pub IsAmong : Text → List Text → Type 0
IsAmong name [] = ⊥
IsAmong name (first ∷ rest) = (name ≡ first) ⊎ IsAmong name rest

-- each part is one that the command takes, with at most as many operands as names are left for
abbrev pub AreTaken : Takes → List Text → List Part → Type 0
AreTaken t names [] = Unit {0}
AreTaken t [] (operand text ∷ rest) = ⊥
AreTaken t (name ∷ names) (operand text ∷ rest) = IsOperand text × AreTaken t names rest
AreTaken t names (valued name value ∷ rest) = IsAmong name t.options × IsOperand value × AreTaken t names rest
AreTaken t names (joined name value ∷ rest) = IsAmong name t.options × AreTaken t names rest
AreTaken t names (flag name ∷ rest) = IsAmong name t.flags × AreTaken t names rest

-- each part's name and value: an operand's name is the next one, and the value of an option without one is `true`
abbrev pub values_from : List Text → List Part → List (Text × Text)
values_from names [] = []
values_from [] (operand text ∷ rest) = values_from [] rest
values_from (name ∷ names) (operand text ∷ rest) = (name, text) ∷ values_from names rest
values_from names (valued name value ∷ rest) = (name, value) ∷ values_from names rest
values_from names (joined name value ∷ rest) = (name, value) ∷ values_from names rest
values_from names (flag name ∷ rest) = (name, codes "true") ∷ values_from names rest

abbrev pub operand_names : Takes → List Text
operand_names t = t.required ++ t.optional

abbrev pub values_in : Takes → List Part → List (Text × Text)
values_in t parts = values_from (operand_names t) parts

-- the value under a name
abbrev pub under : List (Text × Text) → Text → Option Text
under values name = option_map (λ value. value.1) (find (λ value. bytes_eq value.0 name) values)

-- no name stands twice
abbrev pub AreDifferent : List (Text × Text) → Type 0
AreDifferent [] = Unit {0}
AreDifferent (value ∷ rest) = AllByRecursion (λ other. bytes_eq value.0 other.0 ≡ false) rest × AreDifferent rest

-- the parts are what the command takes: no option twice, and each operand that has to be there
pub record AreParts (t : Takes) (parts : List Part) : Type 0 where
  pub taken : AreTaken t (operand_names t) parts
  pub different : AreDifferent (values_in t parts)
  pub whole : list_all (λ name. is_some (under (values_in t parts) name)) t.required ≡ true

-- ---- calls

-- the words are the program's name, a command's word, and parts that it takes
abbrev pub Calls : List Text → Text → Command → List Part → Type 0
Calls words name command parts = AreParts (takes_of command) parts × (words ≡ name ∷ name_of command ∷ words_of parts)

-- the program's name alone; or the call of a command
abbrev pub IsCall : List Text → Type 0
IsCall words = (name : Text) × ((words ≡ name ∷ []) ⊎ ((command : Command) × (parts : List Part) × Calls words name command parts))

-- What a call asks for.
pub record AsksFor (words : List Text) (asked : Asked) : Type 0 where
  pub alone : (name : Text) → words ≡ name ∷ [] → asked ≡ acceptor
  pub called : (name : Text) (command : Command) (parts : List Part) → Calls words name command parts
      → asked ≡ asks command (under (values_in (takes_of command) parts))
