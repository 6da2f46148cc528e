use Rattle.std.proofs.Common.{◌≡◌, map, string_bytes, take}
use Rattle.header_types.specs.Views.{forest_of, tree_of}
use Rattle.schema_words.specs.Spelling.{forest_words}
use Rattle.schema_words.proofs.writing.+fields_words.Given as goal

-- the words of the fields so far
abbrev pub invariant-loop-index : goal.invariant-loop-index
invariant-loop-index l = string_bytes l.words ≡ forest_words (forest_of (map tree_of (take l.index l.fields)))
