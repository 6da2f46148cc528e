use Rattle.std.proofs.Common.{sym, ap, ◌∙◌, true≢false}
use Rattle.std.specs.Str.{bytes_eq}
use Rattle.table_versions.specs.Ledger.{first_in}
use Rattle.table_versions.proofs.Growing.{same_bytes, bytes_same}
use Rattle.table_versions.proofs.Answered.{told_same, told_other}
use Rattle.table_versions.proofs.answering.told_of.Goals as goal

pub returns-then-eq : goal.returns-then-eq
returns-then-eq c = λ tables frames uploads upload ledger valid id text.
    told_same c.uploads_have_one_encoding.ensures c.args.firsts.now.entries tables frames uploads ledger upload valid c.in-Some.first.now
    (ap (first_in c.args.firsts.now.entries) id ∙ sym c.in-Some.ensures.value)
    (sym c.as_slice.ensures ∙ bytes_same c.as_slice.result.now c.args.text.now (sym c.eq.ensures ∙ c.if-eq.true) ∙ sym text)

pub returns-else-eq : goal.returns-else-eq
returns-else-eq c = λ tables frames uploads upload ledger valid id text.
    told_other c.uploads_have_one_encoding.ensures c.args.firsts.now.entries tables frames uploads ledger upload valid c.in-Some.first.now
    (ap (first_in c.args.firsts.now.entries) id ∙ sym c.in-Some.ensures.value)
    (λ same. true≢false
    (sym (same_bytes c.args.text.now)
    ∙ ap (λ t. bytes_eq t c.args.text.now) (sym (c.as_slice.ensures ∙ same ∙ text))
    ∙ sym c.eq.ensures ∙ c.if-eq.false))
