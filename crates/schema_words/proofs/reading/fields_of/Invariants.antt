use Rattle.std.proofs.Common.{length}
use denote.Text.{Utf8}
use denote.Shadow.{shadow}
use Rattle.schema_words.proofs.Gathering.{ReadSoFar}
use Rattle.schema_words.proofs.reading.fields_of.Given as goal

-- the parts so far were read
abbrev pub invariant-loop-part : goal.invariant-loop-part
invariant-loop-part l = record {
  text : shadow (Utf8 l.rest);
  read : ReadSoFar l.words l.rest l.fields.items;
}

abbrev pub decreases-loop-part : goal.decreases-loop-part
decreases-loop-part l = length l.rest
