use Rattle.std.proofs.Common.{◌≡◌, ◌∷◌, List, [], IfOk, map, arith, sym, subst, ap}
use Rattle.serde_json.specs.Data.{Data}
use Rattle.serde_json.specs.View.{view}
use Rattle.run_files.specs.ScheduleFile.{Says}
use Rattle.run_files.proofs.Zipped.{is_empty_list, is_two_list}
use Rattle.run_files.proofs.event_words.event_of_parts.Goals as goal

pub returns-in-empty-clause-read : goal.returns-in-empty-clause-read
returns-in-empty-clause-read c =
    let empty : map view c.args.rest.now ≡ [] = ap (map view) (is_empty_list c.args.rest.now (omega arith)) in
    subst (λ (ds : List Data). IfOk c.event_of_node.result (Says c.args.uploads.now c.args.word.now c.args.node ds)) (sym empty) (c.event_of_node.ensures.read c.args.uploads.now)

pub returns-in-empty-clause-refused : goal.returns-in-empty-clause-refused
returns-in-empty-clause-refused c = λ event says.
    let empty : map view c.args.rest.now ≡ [] = ap (map view) (is_empty_list c.args.rest.now (omega arith)) in
    c.event_of_node.ensures.refused c.args.uploads.now event (subst (λ (ds : List Data). Says c.args.uploads.now c.args.word.now c.args.node ds event) empty says)

pub returns-in-len2-clause-read : goal.returns-in-len2-clause-read
returns-in-len2-clause-read c =
    let two : map view c.args.rest.now ≡ view c.table-item.result ∷ view c.version-item.result ∷ []
    = ap (map view) (is_two_list c.args.rest.now c.table-item.result c.version-item.result (omega arith) c.table-item.is c.version-item.is) in
    subst (λ (ds : List Data). IfOk c.event_of_two.result (Says c.args.uploads.now c.args.word.now c.args.node ds)) (sym two) (c.event_of_two.ensures.read c.args.uploads.now)

pub returns-in-len2-clause-refused : goal.returns-in-len2-clause-refused
returns-in-len2-clause-refused c = λ event says.
    let two : map view c.args.rest.now ≡ view c.table-item.result ∷ view c.version-item.result ∷ []
    = ap (map view) (is_two_list c.args.rest.now c.table-item.result c.version-item.result (omega arith) c.table-item.is c.version-item.is) in
    c.event_of_two.ensures.refused c.args.uploads.now event (subst (λ (ds : List Data). Says c.args.uploads.now c.args.word.now c.args.node ds event) two says)
