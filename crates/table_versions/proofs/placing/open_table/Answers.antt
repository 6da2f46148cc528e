use Rattle.std.proofs.Common.{◌≡◌, refl, subst, ◌∙◌, length}
use Rattle.table_versions.specs.Ledger.{names_in}
use Rattle.table_versions.specs.Steps.{PutsFrames, IsOpened}
use Rattle.table_versions.proofs.Placed.{names_length}
use Rattle.table_versions.proofs.placing.open_table.Goals as goal

pub returns-clause-opens : goal.returns-clause-opens
returns-clause-opens c =
    let number_is : c.len-number.result ≡ length (names_in c.args.tables.now.entries) = c.len-number.ensures.len ∙ names_length c.args.tables.now.entries in
    record {
      table = c.opened-table.result.0;
      place = record { table = c.len-number.result; version = 1 };
      opens = c.put_table.ensures.puts;
      serves = subst (PutsFrames c.args.frames.now.entries c.put_frames.new.frames.entries (record { table = c.len-number.result; version = 1 })) c.opened-table.ensures.frames c.put_frames.ensures.puts;
      names = c.put_table.ensures.names;
      opened = subst (λ n. IsOpened c.opened-table.result.0 n c.args.part) number_is c.opened-table.ensures.table;
      place_table = number_is;
      place_version = refl;
    }
