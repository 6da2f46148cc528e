-- A line that was written, and a flush that failed.
use Rattle.std.proofs.Common.{◌≡◌, Bool, true, false, ℕ, List, [], ◌++◌, Option, Some, None, Result, Ok, Err, IsErrAnd, sym, ap, subst, ◌∙◌, append-nil}
use Rattle.std.specs.Result.{is_err}
use Rattle.std.proofs.lemmas.Result.{err_from_is_err_and}
use Rattle.std.specs.Io.KnownBytes.{Appends, Keeps}
use Rattle.grpc_frames.specs.FrameFaults.{WhereKnown, Writes, IsBeginning}
use Rattle.grpc_frames.specs.declared.fault.FrameFault.{FrameFault}
use Rattle.audit_command.specs.declared.judging.AuditFault.{AuditFault}
use Rattle.audit_command.specs.declared.judging.AuditFault.TheVariants.{Io}
use Rattle.audit_command.specs.TraceFile.{Judges, Tells, judgement_line}

-- the whole line went out
pub whole_line : (r : Result (Unit {0}) FrameFault) (old mid new : Option (List ℕ)) (bytes line : List ℕ) → is_err r ≡ false → bytes ≡ line → WhereKnown old mid (Writes r bytes) → Keeps mid new
    → (written : List ℕ) × IsBeginning written line × Appends old new written
whole_line (Err fault) old mid new bytes line e f h k = absurd (let wrong : true ≡ false = e in cc)
whole_line (Ok done) None mid new bytes line e f h k = (line, ([], append-nil line), tt)
whole_line (Ok done) (Some xs) None new bytes line e f h k = absurd h
whole_line (Ok done) (Some xs) (Some ys) None bytes line e f h k = absurd k
whole_line (Ok done) (Some xs) (Some ys) (Some zs) bytes line e f h k = (line, ([], append-nil line), k ∙ h ∙ ap (λ (l : List ℕ). xs ++ l) f)

-- part of the line of the file's own judgement went out
pub told_in_part : (lawful : Bool) (file : List ℕ) (old new : Option (List ℕ)) (r : Result Bool AuditFault) (fault : AuditFault) → Judges (Ok lawful) file
    → (written : List ℕ) × IsBeginning written (judgement_line lawful) × Appends old new written → fault ≡ Io → IsErrAnd r (λ e. e ≡ fault) → Tells file r old new
told_in_part lawful file old new r fault judges part is h =
    let told : Tells file (Err Io) old new = record { lawful = lawful; judges = judges; written = part.0; beginning = part.1; out = part.2 } in
    let p = err_from_is_err_and r h in
    subst (λ (x : Result Bool AuditFault). Tells file x old new) (sym (p.1 ∙ ap (λ (e : AuditFault). Err e) (p.2 ∙ is))) told
