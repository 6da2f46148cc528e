use Rattle.std.proofs.Common.{refl, ap, decimal, arith}
use Rattle.std.proofs.lemmas.Result.{on_ok_weaker}
use Rattle.json.specs.Json as json
use Rattle.serde_json.specs.Data.{number, unsigned}
use Rattle.std.specs.Option.{option_map}
use Rattle.serde_json.proofs.Numbers.{number_of-decimal}
use Rattle.json_rows.proofs.Texts.{one_text}
use Rattle.json_rows.proofs.tokens.put_unsigned.Goals as goal

pub returns-clause-written : goal.returns-clause-written
returns-clause-written c =
    on_ok_weaker c.u64.result
    (λ e. one_text (json.number (decimal c.args.whole)) (number (unsigned c.args.whole)) c.args.out.now.tokens c.u64.new.self.tokens e
    (ap (option_map number) (number_of-decimal c.args.whole (omega arith))) refl) c.u64.ensures.ok
