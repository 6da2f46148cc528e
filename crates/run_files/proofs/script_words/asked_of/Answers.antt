use Rattle.std.proofs.Common.{◌≡◌, ◌∷◌, List, [], IfOk, map, arith, sym, subst, ap}
use Rattle.serde_json.specs.Data.{Data}
use Rattle.serde_json.specs.View.{view}
use Rattle.run_files.specs.ScriptFile.{Asks}
use Rattle.run_files.proofs.Zipped.{is_one_list}
use Rattle.run_files.proofs.script_words.asked_of.Goals as goal

pub returns-in-len1-clause-read : goal.returns-in-len1-clause-read
returns-in-len1-clause-read c =
    let one : map view c.args.rest.now ≡ view c.value-item.result ∷ []
    = ap (map view) (is_one_list c.args.rest.now c.value-item.result (omega arith) c.value-item.is) in
    subst (λ (ds : List Data). IfOk c.asked_of_one.result (Asks c.args.word.now ds)) (sym one) c.asked_of_one.ensures.read
