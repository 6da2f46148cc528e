use Rattle.std.proofs.Common.{refl}
use Rattle.std.proofs.lemmas.Result.{on_ok_weaker}
use Rattle.json.specs.Json as json
use Rattle.serde_json.specs.Data.{null}
use Rattle.json_rows.proofs.Texts.{one_text}
use Rattle.json_rows.proofs.tokens.put_null.Goals as goal

pub returns-clause-written : goal.returns-clause-written
returns-clause-written c =
    on_ok_weaker c.token.result (λ e. one_text json.null null c.args.out.now.tokens c.token.new.self.tokens e refl refl) c.token.ensures.ok
