use Rattle.std.proofs.Common.{◌≡◌, ◌∙◌, sym, rules, Ok, List, ℕ}
use Rattle.call_protocol.proofs.Ids.{id_reads, id_is_read, read_id}
use Rattle.call_protocol.specs.Names.{id_text}
use Rattle.call_protocol.proofs.names.id_in.Goals as goal

pub returns-clause-named : goal.returns-clause-named
returns-clause-named c = read_id c.args.text.now c.in-Ok.id (sym c.from_hex.ensures ∙ c.in-Ok.is)

pub returns-in_default-clause-none : goal.returns-in_default-clause-none
returns-in_default-clause-none c id named is =
    c.in_default.not-Ok id (c.from_hex.ensures ∙ id_reads c.args.text.now id named is)

pub returns-then-ne-clause-none : goal.returns-then-ne-clause-none
returns-then-ne-clause-none c id named is =
    let same : id_text c.in-Ok.id ≡ c.args.text.now = id_is_read c.args.text.now id c.in-Ok.id named is (sym c.from_hex.ensures ∙ c.in-Ok.is) in
    search rules
