-- Which uploads a list of agreed values holds: those of their bytes, in their order. A value for nothing is no bytes, and
-- it adds none; nor do bytes that are not the one encoding of an upload that is taken.
use Rattle.std.specs.Prelude.{List, map}
use Rattle.ballots.specs.declared.value.Value.{Value}
use Rattle.ballots.specs.Message.{value_bytes}
use Rattle.table_types.specs.Uploads.{Upload}
use Rattle.table_types.specs.Texts.{AreUploadsOf}

abbrev pub AreUploadsIn : List Value → List Upload → Type 0
AreUploadsIn values uploads = AreUploadsOf (map value_bytes values) uploads
