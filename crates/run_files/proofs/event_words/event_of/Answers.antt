use Rattle.std.proofs.Common.{map}
use Rattle.serde_json.specs.View.{view}
use Rattle.run_files.proofs.EventWords.{event_said}
use Rattle.run_files.proofs.event_words.event_of.Goals as goal

pub returns-in-Some-clause-refused : goal.returns-in-Some-clause-refused
returns-in-Some-clause-refused c = λ event told.
    c.event_of_parts.ensures.refused event
    (event_said c.args.uploads.now (view c.args.value.now) c.in-Some.said.word.now c.in-Some.said.node (map view c.in-Some.said.rest.now) event c.in-Some.ensures.read told)
