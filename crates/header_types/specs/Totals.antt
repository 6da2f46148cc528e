-- What the program counts.
use Rattle.header_types.specs.declared.totals.SchemaTotals.{SchemaTotals as Counted}
use Rattle.header_types.specs.Limits.{SchemaTotals}

abbrev pub totals_of : Counted → SchemaTotals
totals_of x = record { fields = x.fields; entries = x.entries; bytes = x.bytes }
