-- Nodes and their lines, one after the other.
use Rattle.std.proofs.Common.{◌≡◌, ℕ, ◌+◌, ◌<◌, List, [], ◌∷◌, ◌++◌, length, map, take, get_or, slice_get, Option, Some, None, Result, Ok, Err, IfErr, Vec, Global, inl, inr, refl, sym, ap, subst, ◌∙◌, append-nil, arith}
use Rattle.std.proofs.lemmas.List.{append_assoc, take_more, length-take-le, length-map, get_or-map}
use Rattle.std.specs.Io.KnownBytes.{Appends, Keeps}
use Rattle.grpc_frames.specs.FrameFaults.{IsBeginning}
use Rattle.ballots.specs.declared.record.Record.{Record}
use Rattle.record_sums.specs.declared.node_files.NodeFiles.{NodeFiles}
use Rattle.disk_records.specs.RecordFile.{FileMeans}
use Rattle.record_sums.specs.Sums.{Fits}
use Rattle.folder_report.specs.declared.fault.WriteFault.{WriteFault}
use Rattle.folder_report.specs.declared.fault.WriteFault.TheVariants.{Io as NoWriter}
use Rattle.folder_report.specs.Lines.{WritesText}
use Rattle.folder_report.specs.declared.report.FolderReport.{FolderReport}
use Rattle.folder_report.specs.Reporting.{Reports}
use Rattle.records_command.specs.declared.fault.ShowFolderFault.{ShowFolderFault}
use Rattle.records_command.specs.declared.fault.ShowFolderFault.TheVariants as fault
use Rattle.records_command.specs.Folders.{AreMeant, FolderShows, Means, folder_text, lines_from, node_line}
use Rattle.records_command.specs.FolderFaults.{IsFaultAt, IsMisfitFault, IsReadFault, WritesBeginning, WritesFolder}
use Rattle.records_command.proofs.Telling.{appends_both}

-- ---- one node more

lines_push : (node : ℕ) (all : List (List Record)) (own : List Record)
    → lines_from node (all ++ own ∷ []) ≡ lines_from node all ++ node_line (node + length all) own
lines_push node [] own =
    let same : node ≡ node + 0 = omega arith in
    append-nil (node_line node own) ∙ ap (λ (n : ℕ). node_line n own) same
lines_push node (first ∷ later) own =
    let same : node + 1 + length later ≡ node + length (first ∷ later) = omega arith in
    ap (λ (l : List ℕ). node_line node first ++ l) (lines_push (node + 1) later own ∙ ap (λ (n : ℕ). lines_from (node + 1) later ++ node_line n own) same)
    ∙ sym (append_assoc (node_line node first) (lines_from (node + 1) later) (node_line (node + length (first ∷ later)) own))

lines_more : (all : List (List Record)) (node : ℕ) (other : List Record) → node < length all
    → lines_from 0 (take (node + 1) all) ≡ lines_from 0 (take node all) ++ node_line node (get_or all node other)
lines_more all node other within =
    let count : 0 + length (take node all) ≡ node = omega (arith, length-take-le node all (omega (arith, within))) in
    ap (lines_from 0) (take_more all node other within)
    ∙ lines_push 0 (take node all) (get_or all node other)
    ∙ ap (λ (n : ℕ). lines_from 0 (take node all) ++ node_line n (get_or all node other)) count

-- the text of so many nodes, and the line of the next one
pub text_more : (all : List (Vec Record Global)) (node : ℕ) (own : Vec Record Global) (old new : List ℕ) → node < length all
    → old ≡ lines_from 0 (take node (map (λ own. own.items) all)) → new ≡ old ++ node_line node own.items → own ≡ get_or all node own
    → new ≡ lines_from 0 (take (node + 1) (map (λ own. own.items) all))
text_more all node own old new within so_far more is =
    let lists : List (List Record) = map (λ own. own.items) all in
    let inside : node < length lists = omega (arith, within, length-map all (λ own. own.items)) in
    let at : get_or lists node own.items ≡ own.items =
    get_or-map (λ own. own.items) all node own own.items within ∙ ap (λ (v : Vec Record Global). v.items) (sym is) in
    more ∙ ap (λ (l : List ℕ). l ++ node_line node own.items) so_far
    ∙ ap (λ (l : List Record). lines_from 0 (take node lists) ++ node_line node l) (sym at)
    ∙ sym (lines_more lists node own.items inside)

meant_push : (nodes : List NodeFiles) (files : NodeFiles) (all : List (List Record)) (own : List Record) → AreMeant nodes all → Means files own
    → AreMeant (nodes ++ files ∷ []) (all ++ own ∷ [])
meant_push [] files [] own are means = (means, tt)
meant_push [] files (other ∷ all) own are means = absurd are
meant_push (one ∷ nodes) files [] own are means = absurd are
meant_push (one ∷ nodes) files (other ∷ all) own are means = (are.0, meant_push nodes files all own are.1 means)

pub meant_more : (nodes : List NodeFiles) (node : ℕ) (files : NodeFiles) (all new : List (List Record)) (own : List Record) → node < length nodes
    → files ≡ get_or nodes node files → AreMeant (take node nodes) all → Means files own → new ≡ all ++ own ∷ []
    → AreMeant (take (node + 1) nodes) new
meant_more nodes node files all new own within is are means more =
    subst (AreMeant (take (node + 1) nodes)) (sym more)
    (subst (λ (l : List NodeFiles). AreMeant l (all ++ own ∷ [])) (sym (take_more nodes node files within))
    (meant_push (take node nodes) (get_or nodes node files) all own are (subst (λ (f : NodeFiles). Means f own) is means)))

pub as_many : (nodes : List NodeFiles) (all : List (List Record)) → AreMeant nodes all → length all ≡ length nodes
as_many [] [] are = refl
as_many [] (own ∷ all) are = absurd are
as_many (files ∷ nodes) [] are = absurd are
as_many (files ∷ nodes) (own ∷ all) are = omega (arith, as_many nodes all are.1)

-- ---- faults

abbrev pub MeansOne : Type 0
MeansOne = (file : List ℕ) (one other : List Record) → FileMeans file one → FileMeans file other → one ≡ other

misfit_at : MeansOne → (files : NodeFiles) (records : List Record) (node : ℕ) (told : ShowFolderFault) → FileMeans files.records.items records
    → IsMisfitFault files.sums.items records node told → IsFaultAt files node told
misfit_at one files records node (fault.Damaged named) means is =
    (is.0, λ whole. is.1 (subst (Fits files.sums.items) (one files.records.items whole.0 records whole.1 means) whole.2))
misfit_at one files records node (fault.Mixed slot) means is = absurd is
misfit_at one files records node fault.Members means is = absurd is
misfit_at one files records node fault.OutOfMemory means is = tt
misfit_at one files records node fault.Io means is = absurd is

pub misfit_of : {T : Type 0} → MeansOne → (files : NodeFiles) (records : List Record) (node : ℕ) (result : Result T ShowFolderFault)
    → FileMeans files.records.items records → IfErr result (IsMisfitFault files.sums.items records node) → IfErr result (IsFaultAt files node)
misfit_of one files records node (Ok own) means is = tt
misfit_of one files records node (Err told) means is = misfit_at one files records node told means is

-- a fault at one node is one of reading all
pub fault_of_all : (nodes : List NodeFiles) (node : ℕ) (files : NodeFiles) (told : ShowFolderFault) → slice_get nodes node ≡ Some files
    → IsFaultAt files node told → IsReadFault nodes told
fault_of_all nodes node files (fault.Damaged named) at is =
    (files, ap (slice_get nodes) is.0 ∙ at, is.1)
fault_of_all nodes node files (fault.Mixed slot) at is = absurd is
fault_of_all nodes node files fault.Members at is = absurd is
fault_of_all nodes node files fault.OutOfMemory at is = tt
fault_of_all nodes node files fault.Io at is = absurd is

-- ---- two texts, one behind the other

-- a beginning of the second is one of both, behind the first
behind_first : (first second written : List ℕ) → IsBeginning written second → IsBeginning (first ++ written) (first ++ second)
behind_first first second written begins =
    (begins.0, append_assoc first written begins.0 ∙ ap (λ (l : List ℕ). first ++ l) begins.1)

pub all_behind : (first second text : List ℕ) (old mid new : Option (List ℕ)) → text ≡ first → Appends old mid text → Appends mid new second
    → Appends old new (first ++ second)
all_behind first second text old mid new is one other =
    subst (λ (l : List ℕ). Appends old new (l ++ second)) is (appends_both old mid new text second one other)

-- the first text alone is a beginning of both, also of a part of itself
pub part_of_first : (first second text : List ℕ) (old new : Option (List ℕ)) → text ≡ first → WritesBeginning text old new
    → WritesBeginning (first ++ second) old new
part_of_first first second text old new is part = record {
  written = part.written;
  beginning = (
    part.beginning.0 ++ second,
    sym (append_assoc part.written part.beginning.0 second) ∙ ap (λ (l : List ℕ). l ++ second) (part.beginning.1 ∙ is),
  );
  out = part.out;
}

appends_none : (old new : Option (List ℕ)) → Keeps old new → Appends old new []
appends_none None new keeps = tt
appends_none (Some xs) None keeps = absurd keeps
appends_none (Some xs) (Some ys) keeps = keeps ∙ sym (append-nil xs)

kept_behind : (old mid new : Option (List ℕ)) (text : List ℕ) → Appends old mid text → Keeps mid new → Appends old new text
kept_behind old mid new text one keeps =
    subst (Appends old new) (append-nil text) (appends_both old mid new text [] one (appends_none mid new keeps))

pub whole_first : (first second text : List ℕ) (old mid new : Option (List ℕ)) → text ≡ first → Appends old mid text → Keeps mid new
    → WritesBeginning (first ++ second) old new
whole_first first second text old mid new is one keeps = record {
  written = text;
  beginning = (second, ap (λ (l : List ℕ). l ++ second) is);
  out = kept_behind old mid new text one keeps;
}

pub part_behind : (first second written : List ℕ) (old mid new : Option (List ℕ)) → Appends old mid first → IsBeginning written second
    → Appends mid new written → WritesBeginning (first ++ second) old new
part_behind first second written old mid new one begins other = record {
  written = first ++ written;
  beginning = behind_first first second written begins;
  out = appends_both old mid new first written one other;
}

pub io_behind : (first second text : List ℕ) (result : Result (Unit {0}) WriteFault) (old mid new : Option (List ℕ)) → text ≡ first
    → Appends old mid text → WritesText second result mid new → result ≡ Err NoWriter → WritesBeginning (first ++ second) old new
io_behind first second text result old mid new is one writes failed =
    let part = subst (λ (r : Result (Unit {0}) WriteFault). WritesText second r mid new) failed writes in
    subst (λ (l : List ℕ). WritesBeginning (l ++ second) old new) is (part_behind text second part.0 old mid new one part.1 part.2)

-- ---- what is written of what is reported

pub shows : (nodes : List NodeFiles) (all : List (List Record)) (report : FolderReport) (result : Result (Unit {0}) ShowFolderFault)
    (old new : Option (List ℕ)) → AreMeant nodes all → Reports (length nodes) all report
    → WritesFolder (folder_text all report) result old new → FolderShows nodes result old new
shows nodes all report (Ok done) old new are reports out = record {
  all = all;
  report = report;
  reported = record { meant = are; reports = reports };
  out = out;
}
shows nodes all report (Err (fault.Damaged node)) old new are reports out = absurd out
shows nodes all report (Err (fault.Mixed slot)) old new are reports out = absurd out
shows nodes all report (Err fault.Members) old new are reports out = absurd out
shows nodes all report (Err fault.OutOfMemory) old new are reports (inl keeps) = inl keeps
shows nodes all report (Err fault.OutOfMemory) old new are reports (inr part) = inr (record {
  all = all;
  report = report;
  reported = record { meant = are; reports = reports };
  written = part.written;
  beginning = part.beginning;
  out = part.out;
})
shows nodes all report (Err fault.Io) old new are reports part = record {
  all = all;
  report = report;
  reported = record { meant = are; reports = reports };
  written = part.written;
  beginning = part.beginning;
  out = part.out;
}
