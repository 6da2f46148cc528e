use Rattle.std.proofs.Common.{◌≡◌, nat_eq, true, false, sym, refl, ◌∙◌, rules}
use Rattle.std.specs.Option.{is_some}
use Rattle.std.specs.Map.{lookup}
use Rattle.decided_log.proofs.Lookups.{apart_is_false, had, had_none, on_ok}
use Rattle.decided_log.proofs.steps.keep_later.Goals as goal

pub returns-then-contains_key-clause-inserts : goal.returns-then-contains_key-clause-inserts
returns-then-contains_key-clause-inserts c =
    let some : true ≡ is_some (lookup (nat_eq c.args.slot) c.args.later.now.entries) = sym c.if-contains_key.true ∙ c.contains_key.ensures in
    record { kept = had _ _ some; others = λ other apart. refl }

pub returns-clause-inserts : goal.returns-clause-inserts
returns-clause-inserts c =
    let none : false ≡ is_some (lookup (nat_eq c.args.slot) c.args.later.now.entries) = sym c.if-contains_key.false ∙ c.contains_key.ensures in
    let updates = on_ok _ (c.insert.ensures.succeeds c.requires) c.insert.ensures.updates in
    record {
      kept = updates.1 ∙ had_none _ _ none;
      others = λ other apart. updates.2 other (apart_is_false c.args.slot other apart);
    }

pub returns-then-contains_key-clause-len : goal.returns-then-contains_key-clause-len
returns-then-contains_key-clause-len c = search rules steps 300000

pub returns-then-contains_key-clause-room : goal.returns-then-contains_key-clause-room
returns-then-contains_key-clause-room c = search rules steps 300000

pub returns-clause-len : goal.returns-clause-len
returns-clause-len c = search rules steps 300000

pub returns-clause-room : goal.returns-clause-room
returns-clause-room c = search rules steps 300000
