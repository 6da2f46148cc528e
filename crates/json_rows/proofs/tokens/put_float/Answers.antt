use Rattle.std.proofs.Common.{refl, ap}
use Rattle.std.proofs.lemmas.Result.{on_ok_weaker}
use Rattle.json.specs.Json as json
use Rattle.serde_json.specs.Data.{number, float}
use Rattle.std.specs.Option.{option_map}
use Rattle.serde_json.proofs.Numbers.{number_of-plus}
use Rattle.json_rows.proofs.Texts.{one_text}
use Rattle.json_rows.proofs.tokens.put_float.Goals as goal

pub returns-clause-written : goal.returns-clause-written
returns-clause-written c =
    on_ok_weaker c.float_with_plus.result
    (λ w. one_text (json.number w.0) (number (float c.args.double)) c.args.out.now.tokens c.float_with_plus.new.self.tokens w.1
    (ap (option_map number) (number_of-plus 16 4 w.0 c.args.double w.2 w.3 c.requires)) refl) c.float_with_plus.ensures.layout
