-- What stands behind a front.
use Rattle.std.proofs.Common.{◌≡◌, ◌++◌, drop, ap, ℕ, List, Option, Some, None, Bor}
use Rattle.std.specs.Prelude.{MatchOption, IfSome}
use Rattle.call_protocol.specs.Methods.{service_text}

pub some_is : (P : Type 0) (Q : Bor (List ℕ) → Type 0) (r : Option (Bor (List ℕ))) → MatchOption r P Q → IfSome r Q
some_is P Q None h = tt
some_is P Q (Some x) h = h

-- what stands behind the service's text is one
pub same_names : (x y : List ℕ) → service_text ++ x ≡ service_text ++ y → x ≡ y
same_names x y e = ap (λ (l : List ℕ). drop 37 l) e
