use Rattle.std.proofs.Common.{refl}
use Rattle.std.proofs.lemmas.Result.{on_ok_weaker}
use Rattle.json.specs.Json as json
use Rattle.serde_json.specs.Data.{string}
use Rattle.json_rows.proofs.Texts.{one_text}
use Rattle.json_rows.proofs.tokens.put_text.Goals as goal

pub returns-clause-written : goal.returns-clause-written
returns-clause-written c =
    on_ok_weaker c.string.result (λ e. one_text (json.string c.args.text.now) (string c.args.text.now) c.args.out.now.tokens c.string.new.self.tokens e refl refl) c.string.ensures.ok
