use Rattle.std.proofs.Common.{◌≡◌, Some, subst, ◌∙◌, rules}
use Rattle.std.specs.Str.{bytes_eq}
use Rattle.std.proofs.lemmas.Map.Text.{hash_map_updates_text}
use Rattle.table_versions.specs.Ledger.{table_in}
use Rattle.table_versions.specs.Steps.{Grows}
use Rattle.table_versions.proofs.Adding.{not_here}
use Rattle.table_versions.proofs.Placed.{some_is}
use Rattle.table_versions.proofs.placing.grow_table.Goals as goal

pub returns-clause-grows : goal.returns-clause-grows
returns-clause-grows c = λ old there.
    let updates = (c.get_mut.follows.holds c.grow.new.table).3 (search rules) in
    let same : c.in-Some.table.now ≡ old = some_is c.in-Some.table.now old (c.in-Some.ensures.value ∙ there) in
    subst (λ o. Grows c.args.tables.now.entries (c.get_mut.follows.lender c.grow.new.table).entries c.args.name.now o c.args.records c.args.bytes c.grow.result) same
    (record {
      grown = c.grow.new.table;
      grows = record {
        here = updates.1;
        others = λ other differs.
            not_here (Some c.grow.new.table) (table_in c.args.tables.now.entries other) (bytes_eq c.args.name.now other)
            (table_in (c.get_mut.follows.lender c.grow.new.table).entries other)
            (hash_map_updates_text c.args.name.now c.args.tables.now (c.get_mut.follows.lender c.grow.new.table) (Some c.grow.new.table) updates other) differs;
      };
      is_grown = c.grow.ensures.grown;
      place_table = c.grow.ensures.table;
      place_version = c.grow.ensures.version;
    })
