-- A store of the tests that tells nothing of what it has.
use Rattle.std.specs.Prelude.{◌≡◌, Bool, true, false, IsTrue}

-- it tells nothing
pub untold : {P : Type 0} → IsTrue false → P
untold told = absurd (let no : false ≡ true = told in cc)
