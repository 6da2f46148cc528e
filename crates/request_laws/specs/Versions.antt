-- The versions that tables have: what a client asks for by a ticket, and is given.
use Rattle.std.specs.Prelude.{◌≡◌, ℕ, List, Some}
use Rattle.std.specs.List.{AllByRecursion}
use Rattle.table_types.specs.Uploads.{Upload}
use Rattle.table_types.specs.Tables.{Version, version_of}
use Rattle.table_types.specs.Valid.{IsUpload}

-- it is a version of some table, as these uploads make it, each of them one that is taken
pub record IsMadeOf (version : Version) (uploads : List Upload) : Type 0 where
  pub table : List ℕ
  pub number : ℕ
  pub taken : AllByRecursion IsUpload uploads
  pub is : version_of table number uploads ≡ Some version
