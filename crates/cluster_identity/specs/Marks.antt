-- The mark of what a file begins with: how many bytes these are, and the SHA-256 digest (FIPS 180-4, section 6.2) of
-- the first of them and then the last. Of how many is this service's own choice.
use Rattle.std.specs.Prelude.{ℕ, ◌-◌, List, ◌++◌, length, take, drop}
use Rattle.sha2.specs.Sha256.{sha256}
use Rattle.cluster_identity.specs.declared.file_mark.FileMark.{FileMark}

-- the most bytes of each of the two parts
abbrev pub part_size : ℕ
part_size = 4096

-- the first bytes, or all of them where they are no more
abbrev pub first_part : List ℕ → List ℕ
first_part bytes = take part_size bytes

-- the last ones
abbrev pub last_part : List ℕ → List ℕ
last_part bytes = drop (length bytes - part_size) bytes

abbrev pub mark_of : List ℕ → FileMark
mark_of bytes = record { length = length bytes; digest = sha256 (first_part bytes ++ last_part bytes) }
