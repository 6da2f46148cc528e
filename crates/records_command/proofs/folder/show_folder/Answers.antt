use Rattle.std.proofs.Common.{List, ℕ, Vec, Global, map, length, sym, subst, ap, ◌∙◌}
use Rattle.std.proofs.lemmas.List.{length-map}
use Rattle.ballots.specs.declared.record.Record.{Record}
use Rattle.folder_report.specs.Reporting.{Reports}
use Rattle.records_command.specs.Folders.{folder_text}
use Rattle.records_command.specs.FolderFaults.{WritesFolder}
use Rattle.records_command.proofs.FolderLines.{as_many, shows}
use Rattle.records_command.proofs.folder.show_folder.Goals as goal

pub report_of-requires : goal.report_of-requires
report_of-requires g c =
    let all = c.in_ok-all.all.items in
    ap length c.as_slice.ensures.value ∙ sym (length-map all (λ own. own.items))
    ∙ as_many c.args.nodes.now (map (λ own. own.items) all) c.in_ok-all.ensures.meant ∙ sym c.in_ok-members.ensures.members

pub returns-in-Ok : goal.returns-in-Ok
returns-in-Ok g c =
    let nodes = c.args.nodes.now in
    let all = map (λ own. own.items) c.in_ok-all.all.items in
    let old = g.W.Write.contents c.args.w.now in
    let new = g.W.Write.contents c.write_folder.new.w in
    shows nodes all c.in-Ok.report c.write_folder.result old new c.in_ok-all.ensures.meant
    (subst (λ (n : ℕ). Reports n all c.in-Ok.report) c.in_ok-members.ensures.members
    (subst (λ (l : List (Vec Record Global)). Reports c.in_ok-members.members (map (λ own. own.items) l) c.in-Ok.report) c.as_slice.ensures.value
    c.in-Ok.ensures.report))
    (subst (λ (l : List (Vec Record Global)). WritesFolder (folder_text (map (λ own. own.items) l) c.in-Ok.report) c.write_folder.result old new)
    c.as_slice-in-Ok.ensures.value c.write_folder.ensures)
