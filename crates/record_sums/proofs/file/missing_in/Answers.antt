use Rattle.std.proofs.Common.{List, ℕ, sym, subst, ap, ◌∙◌}
use Rattle.record_sums.specs.Sums.{Fits}
use Rattle.record_sums.specs.Entering.{entries_text}
use Rattle.record_sums.proofs.Files.{all_there, all_missing, there_reach, missing_reach}
use Rattle.record_sums.proofs.file.missing_in.Goals as goal

pub returns-then-begins_with-clause-compared : goal.returns-then-begins_with-clause-compared
returns-then-begins_with-clause-compared g c told =
    let read = c.in_ok-found.ensures.read told in
    let compared = c.in_ok-entries.ensures in
    all_there (g.D.Disk.content c.args.sums.now) (g.D.Disk.content c.all_bytes.new.sums) c.as_slice-3.result.now c.as_slice-4.result.now
    c.in_ok-entries.entries.items c.args.records.now (c.as_slice-3.ensures.value ∙ read.0) read.1 compared.0
    (subst (λ (l : List ℕ). Fits l c.args.records.now) (c.as_slice.ensures.value ∙ sym c.as_slice-3.ensures.value) compared.1)
    (c.as_slice-4.ensures.value ∙ c.in_ok-text.ensures ∙ ap entries_text c.as_slice-2.ensures.value) (c.begins_with.ensures c.if-begins_with.true)

pub returns-then-begins_with-clause-reaches : goal.returns-then-begins_with-clause-reaches
returns-then-begins_with-clause-reaches g c told =
    let read = c.in_ok-found.ensures.read told in
    let compared = c.in_ok-entries.ensures in
    there_reach (g.D.Disk.content c.args.sums.now) (g.D.Disk.content c.all_bytes.new.sums) c.as_slice-3.result.now c.as_slice-4.result.now
    c.in_ok-entries.entries.items c.args.records.now (c.as_slice-3.ensures.value ∙ read.0) read.1 compared.0
    (c.as_slice-4.ensures.value ∙ c.in_ok-text.ensures ∙ ap entries_text c.as_slice-2.ensures.value) (c.begins_with.ensures c.if-begins_with.true)

pub returns-clause-compared : goal.returns-clause-compared
returns-clause-compared g c told =
    let read = c.in_ok-found.ensures.read told in
    let compared = c.in_ok-entries.ensures in
    all_missing (g.D.Disk.content c.args.sums.now) (g.D.Disk.content c.all_bytes.new.sums) c.as_slice.result.now c.in_ok-text.text.items
    c.in_ok-entries.entries.items c.args.records.now (c.as_slice.ensures.value ∙ read.0) read.1 compared.0 compared.1
    (c.in_ok-text.ensures ∙ ap entries_text c.as_slice-2.ensures.value)

pub returns-clause-reaches : goal.returns-clause-reaches
returns-clause-reaches g c told =
    missing_reach (g.D.Disk.content c.all_bytes.new.sums) c.in_ok-text.text.items c.in_ok-entries.entries.items c.args.records.now
    c.in_ok-entries.ensures.0 (c.in_ok-text.ensures ∙ ap entries_text c.as_slice-2.ensures.value)
