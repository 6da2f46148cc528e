use Rattle.std.proofs.Common.{sym, subst, rules, arith}
use Rattle.std.proofs.lemmas.Grind.{common_steps}
use Rattle.flat_places.specs.declared.fault.PlaceFault.TheVariants.{NotUtf8}
use Rattle.flat_places.specs.Vector.{ShowsText}
use Rattle.flat_places.proofs.Vectors.{vector_not_cut, text_is_vector, text_shown, text_same, text_not_utf8}
use Rattle.flat_places.proofs.Vectors.{text_not_cut}
use Rattle.flat_places.proofs.elements.text.Goals as goal

pub returns-in_err-first-clause-only : goal.returns-in_err-first-clause-only
returns-in_err-first-clause-only c = λ bytes shown.
    absurd (vector_not_cut c.args.buf.now c.args.place 1 _ _ c.in_err-first.field-0.0 c.in_err-first.ensures.fault
    (text_is_vector c.args.buf.now c.args.place bytes shown))

pub returns-in-Ok-clause-only : goal.returns-in-Ok-clause-only
returns-in-Ok-clause-only c = λ bytes shown.
    let utf8 = c.in-Ok.ensures.cases in
    let read = text_shown c.args.buf.now c.args.place c.in_ok-first.first c.in_ok-first.count c.in_ok-bytes.bytes.now
    c.in_ok-first.ensures.read c.in_ok-bytes.ensures.read c.in_ok-bytes.ensures.len utf8.1 in
    text_same c.args.buf.now c.args.place c.in-Ok.text.now bytes
    (subst (ShowsText c.args.buf.now c.args.place) (sym utf8.0) read) shown

pub returns-in-Err-clause-only : goal.returns-in-Err-clause-only
returns-in-Err-clause-only c = λ bytes shown.
    let fault = text_not_utf8 c.args.buf.now c.args.place c.in_ok-first.first c.in_ok-first.count
    c.in_ok-bytes.bytes.now c.in_ok-first.ensures.read c.in_ok-bytes.ensures.read c.in_ok-bytes.ensures.len
    c.in-Err.ensures.cases.0 in
    text_not_cut c.args.buf.now c.args.place NotUtf8 bytes fault shown

pub returns-in_err-first-clause-read : goal.returns-in_err-first-clause-read
returns-in_err-first-clause-read c = search rules steps 300000

pub returns-in_err-first-clause-fault : goal.returns-in_err-first-clause-fault
returns-in_err-first-clause-fault c = search rules steps 300000

pub returns-in_err-bytes-clause-read : goal.returns-in_err-bytes-clause-read
returns-in_err-bytes-clause-read c = search rules steps 300000

pub returns-in_err-bytes-clause-only : goal.returns-in_err-bytes-clause-only
returns-in_err-bytes-clause-only c = grind (arith, common_steps) steps 600000

pub returns-in_err-bytes-clause-fault : goal.returns-in_err-bytes-clause-fault
returns-in_err-bytes-clause-fault c = search rules steps 300000

pub returns-in-Ok-clause-read : goal.returns-in-Ok-clause-read
returns-in-Ok-clause-read c = grind (arith, common_steps) steps 600000

pub returns-in-Ok-clause-fault : goal.returns-in-Ok-clause-fault
returns-in-Ok-clause-fault c = search rules steps 300000

pub returns-in-Err-clause-read : goal.returns-in-Err-clause-read
returns-in-Err-clause-read c = search rules steps 300000

pub returns-in-Err-clause-fault : goal.returns-in-Err-clause-fault
returns-in-Err-clause-fault c = search rules steps 300000
