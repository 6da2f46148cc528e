use Rattle.std.proofs.Common.{[], ◌∷◌, sym}
use Rattle.client_calls.proofs.Apart.{answer_ends, refusal_ends, ends_are_one, code_is, words_are}
use Rattle.client_calls.proofs.laws.answers_are_one.Goals as goal

pub returns-clause-answer : goal.returns-clause-answer
returns-clause-answer c text rest after messages others a b =
    let one = ends_are_one c.no_frame_begins_another.ensures text messages others (0 ∷ []) (0 ∷ []) rest after (answer_ends text messages rest a) (answer_ends text others after b) in
    (one.0, one.2)

pub returns-clause-refusal : goal.returns-clause-refusal
returns-clause-refusal c text words rest texts after code number r s =
    let one = ends_are_one c.no_frame_begins_another.ensures text r.messages s.messages (code ∷ words) (number ∷ texts) rest after
    (refusal_ends text code words rest r) (refusal_ends text number texts after s) in
    (code_is code number words texts one.1, words_are code number words texts one.1, one.2)

pub returns-clause-apart : goal.returns-clause-apart
returns-clause-apart c text words rest after messages code a r =
    let one = ends_are_one c.no_frame_begins_another.ensures text messages r.messages (0 ∷ []) (code ∷ words) rest after
    (answer_ends text messages rest a) (refusal_ends text code words after r) in
    r.not_ok (code_is code 0 words [] (sym one.1))
