use Rattle.safe_histories.proofs.Standing.{named_is_placed, are_alike, schema_is_the_first}
use Rattle.safe_histories.proofs.laws.acknowledged_uploads_have_their_place.Goals as goal

pub returns-clause-place : goal.returns-clause-place
returns-clause-place c = λ history i j node other number version text y upload safe text_is first le second.
    let stands = safe.acknowledged_stands_once i j node other number version text y upload text_is first le second in
    let there = stands.1 in
    (there.version, there.bytes_are, there.whole, stands.0, there.placed, named_is_placed upload.table y version number upload there)

pub returns-clause-shape : goal.returns-clause-shape
returns-clause-shape c = λ history i j node other number version text y upload safe text_is first le second.
    let there = (safe.acknowledged_stands_once i j node other number version text y upload text_is first le second).1 in (
      there.version,
      there.bytes_are,
      λ one at. schema_is_the_first upload.table version there.uploads there.version one there.by_rules at,
      are_alike upload.table y version number upload there c.tables_have_one_shape.ensures.table c.tables_have_one_shape.ensures.shape,
    )
