-- What is left of a text that should begin with some bytes.
use Rattle.std.specs.Prelude.{◌≡◌, ◌↔◌, ℕ, List, ◌++◌, Option, Some}

-- What is left is the rest, exactly where the text is these bytes and the rest behind them: where it is not, nothing is left.
pub record Strips (written text : List ℕ) (left : Option (List ℕ)) : Type 0 where
  pub exact : (rest : List ℕ) → (text ≡ written ++ rest) ↔ (left ≡ Some rest)
