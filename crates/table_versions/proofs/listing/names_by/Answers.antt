use Rattle.std.proofs.Common.{◌≡◌, ◌+◌, [], ◌∷◌, ◌++◌, suc, sym, ap, ◌∙◌, map, take, string_bytes, arith}
use Rattle.table_versions.specs.Ledger.{names_in}
use Rattle.table_versions.proofs.Listed.{take_next, map_push}
use Rattle.table_versions.proofs.listing.names_by.Goals as goal

pub loop-number-preserved : goal.loop-number-preserved
loop-number-preserved c =
    let more : suc c.loop-number.number ≡ c.loop-number.number + 1 = omega arith in
    ap (map string_bytes) c.in_ok-push.ensures.items
    ∙ map_push c.loop-number.names.items c.in_ok-name.name
    ∙ ap (λ l. l ++ string_bytes c.in_ok-name.name ∷ []) c.loop-number.invariant
    ∙ sym (take_next (names_in c.args.tables.now.entries) c.loop-number.number (string_bytes c.in_ok-name.name) c.in_ok-name.ensures)
    ∙ ap (λ n. take n (names_in c.args.tables.now.entries)) more
