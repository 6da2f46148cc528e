use Rattle.std.proofs.Common.{Some, ap, ◌∙◌, string_bytes}
use Rattle.std.specs.String.{string_eq}
use Rattle.std.specs.Str.{bytes_eq}
use Rattle.std.proofs.lemmas.Map.Text.{hash_map_updates_text}
use Rattle.indexmap.proofs.CallerLemmas.{insert_entry-new}
use Rattle.table_versions.specs.Ledger.{table_in, names_in}
use Rattle.table_versions.proofs.Adding.{names_append, not_here}
use Rattle.table_versions.proofs.steps.put_table.Goals as goal

pub returns-clause-puts : goal.returns-clause-puts
returns-clause-puts c = record {
  here = c.in-Ok.ensures.updates.1;
  others = λ other differs.
      not_here (Some c.args.table) (table_in c.args.tables.now.entries other) (bytes_eq (string_bytes c.args.name) other) (table_in c.insert.new.self.entries other)
      (hash_map_updates_text (string_bytes c.args.name) c.args.tables.now c.insert.new.self (Some c.args.table) c.in-Ok.ensures.updates other) differs;
}

pub returns-clause-names : goal.returns-clause-names
returns-clause-names c =
    ap names_in (c.in-Ok.ensures.entries ∙ insert_entry-new string_eq c.args.tables.now c.args.name c.args.table c.requires.none)
    ∙ names_append c.args.tables.now.entries c.args.name c.args.table
