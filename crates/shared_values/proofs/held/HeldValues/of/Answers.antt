use Rattle.std.proofs.Common.{sym, ap, ◌∙◌, Option, List, ℕ, take}
use Rattle.std.specs.Option.{option_or}
use Rattle.ballots.specs.declared.record.Record.{Record}
use Rattle.shared_values.specs.Held.{upload_at, last_upload}
use Rattle.shared_values.proofs.LastUploads.{last_upload-more}
use Rattle.shared_values.proofs.held.HeldValues.of.Goals as goal

pub loop-record-preserved : goal.loop-record-preserved
loop-record-preserved c slot =
    let records = c.args.records.now in
    let index = c.loop-record.record-index in
    let told = c.record-item.result in
    c.in_ok-hold.ensures slot
    ∙ ap (λ (o : Option (List ℕ)). option_or (upload_at told slot) o) (c.loop-record.invariant slot)
    ∙ ap (λ (r : Record). option_or (upload_at r slot) (last_upload (take index records) slot)) c.record-item.is
    ∙ sym (last_upload-more records index told slot c.loop-record-test.true)
