use Rattle.std.proofs.Common.{◌∙◌}
use Rattle.record_batches.proofs.Adding.{on_put, on_refused, appended_buffer}
use Rattle.record_batches.proofs.body.append_buffer.Goals as goal

pub returns-clause-ok : goal.returns-clause-ok
returns-clause-ok c =
    on_put c.extend_from_slice-2.result _ _ _ c.extend_from_slice-2.ensures.items (λ more.
    appended_buffer c.args.text.now.items c.extend_from_slice.new.self.items c.extend_from_slice-2.new.self.items c.args.bytes.now c.padding.result
    c.in_ok-extend_from_slice.ensures.items more c.padding.ensures)

pub returns-clause-err : goal.returns-clause-err
returns-clause-err c =
    on_refused c.extend_from_slice-2.result _ _ _ c.extend_from_slice-2.ensures.items (λ same.
    (c.args.bytes.now, same ∙ c.in_ok-extend_from_slice.ensures.items))
