-- What is printed of a call: a line with its number and what was told. Numbers are decimal, frames are hexadecimal digits (RFC 4648,
-- section 8, in lower case).
use Rattle.std.specs.Prelude.{ℕ, List, ◌++◌, codes, decimal, string_bytes}
use Rattle.hex.specs.Hex.{encode_lower}
use Rattle.script_calls.specs.declared.told.Told.{Told}
use Rattle.script_calls.specs.declared.told.Told.TheVariants.{Put, Get, Info, Status}

abbrev pub frames_line : ℕ → List ℕ → List ℕ
frames_line number frames = decimal number ++ (codes " get " ++ (encode_lower frames ++ codes "\n"))

-- the line of the call of this number
abbrev pub line_of : ℕ → Told → List ℕ
line_of number (Put version) = decimal number ++ (codes " put " ++ (decimal version ++ codes "\n"))
line_of number (Get frames) = frames_line number frames.items
line_of number (Info version locations) =
    decimal number ++ (codes " info " ++ (decimal version ++ (codes " " ++ (decimal locations ++ codes "\n"))))
line_of number (Status code words) =
    decimal number ++ (codes " status " ++ (decimal code ++ (codes " " ++ (string_bytes words ++ codes "\n"))))
