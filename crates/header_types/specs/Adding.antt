-- Sums that grow while fields, entries and texts are counted: a tool of contracts. The limits are those of `Limits`.
use Rattle.std.specs.Prelude.{◌≡◌, ℕ, ◌+◌}
use Rattle.header_types.specs.Limits.{SchemaTotals}

-- the sums grew by these
abbrev pub Adds : SchemaTotals → SchemaTotals → SchemaTotals → Type 0
Adds old more new =
    (new.fields ≡ old.fields + more.fields) × (new.entries ≡ old.entries + more.entries)
    × (new.bytes ≡ old.bytes + more.bytes)

-- one field, one entry, or the bytes of a text
abbrev pub one_field : SchemaTotals
one_field = record { fields = 1; entries = 0; bytes = 0 }

abbrev pub one_entry : SchemaTotals
one_entry = record { fields = 0; entries = 1; bytes = 0 }

abbrev pub text_bytes : ℕ → SchemaTotals
text_bytes n = record { fields = 0; entries = 0; bytes = n }
