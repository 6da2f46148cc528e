use Rattle.std.proofs.Common.{rules}
use Rattle.run_breaches.proofs.Found.{lawful_where_none}
use Rattle.run_breaches.proofs.by_slot.are_lawful_by_slot.Goals as goal

pub returns-clause-lawful : goal.returns-clause-lawful
returns-clause-lawful c =
    let both = lawful_where_none c.args.members c.args.sent.now c.beginnings_are_lawful.ensures.beginnings c.in_ok-first_unlawful.field-0 c.in_ok-first_unlawful.ensures.place in (
      (λ e. both.0 (search rules)),
      (λ lawful. let none = both.1 lawful in search rules),
    )
