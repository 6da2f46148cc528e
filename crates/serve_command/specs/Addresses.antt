-- What a server says of its nodes: a line each, with the address and the decimal number of its port.
use Rattle.std.specs.Prelude.{ℕ, zero, suc, ◌+◌, List, [], ◌++◌, codes, decimal}

abbrev pub address_line : ℕ → ℕ → List ℕ
address_line first node =
    codes "node " ++ (decimal node ++ (codes " at 127.0.0.1:" ++ (decimal (first + node) ++ codes "\n")))

-- of so many nodes, in the order of their numbers
abbrev pub addresses_text : ℕ → ℕ → List ℕ
addresses_text first zero = []
addresses_text first (suc count) = addresses_text first count ++ address_line first count
