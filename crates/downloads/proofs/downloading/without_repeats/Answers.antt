use Rattle.std.proofs.lemmas.Bool.{iff_false}
use Rattle.downloads.proofs.Come.{name_again}
use Rattle.downloads.proofs.downloading.without_repeats.Goals as goal

pub returns-else-branch : goal.returns-else-branch
returns-else-branch c = λ messages before.
    name_again c.args.download messages before c.messages_are_one.ensures.schema c.messages_are_one.ensures.upload
    (iff_false (rw c.as_slice.ensures.value at c.in_ok-ids_differ.ensures) c.if-branch.false)
