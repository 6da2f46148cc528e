use Rattle.std.proofs.Common.{◌≡◌, Option, subst}
use Rattle.std.specs.Option.{option_or}
use Rattle.ballots.specs.declared.value.Value.{Value}
use Rattle.decided_log.specs.LogState.{decided_at}
use Rattle.agreement.proofs.Parts as parts
use Rattle.agreement.proofs.handling.gain.Goals as goal

pub returns-in-Some-clause-grows : goal.returns-in-Some-clause-grows
returns-in-Some-clause-grows c =
    parts.map_ok _ _ c.gain.result
    (λ grown gains prefix after is here others. gains prefix is after (record {
      kept = subst (λ (o : Option Value). after c.args.slot ≡ option_or (decided_at c.args.log.now c.args.slot) o) c.in-Some.is here;
      others = others;
    }))
    c.gain.ensures.gain
