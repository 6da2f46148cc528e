-- What an explained audit writes: the judgement of a run, and behind that of an unlawful one why it is.
use Rattle.std.specs.Prelude.{◌≡◌, ◌≢◌, ℕ, Bool, true, false, List, ◌++◌, Option, Result, Ok, Err, IsUtf8}
use Rattle.std.specs.Io.KnownBytes.{Keeps, Appends}
use Rattle.grpc_frames.specs.FrameFaults.{IsBeginning}
use Rattle.ballots.specs.declared.message.Message.{Message}
use Rattle.lawful_histories.specs.Lawful.{IsLawful}
use Rattle.run_breaches.specs.declared.breach.Breach.{Breach}
use Rattle.run_breaches.specs.FirstBreach.{IsFirstBreach}
use Rattle.breach_words.specs.Explanation.{explanation_of}
use Rattle.audit_command.specs.Flaws.{IsFlaw}
use Rattle.audit_command.specs.TraceFile.{MeansTrace, MeansNothing, judgement_line}
use Rattle.audit_command.specs.declared.explaining.ExplainFault.{ExplainFault}
use Rattle.audit_command.specs.declared.explaining.ExplainFault.TheVariants.{BadTrace, OutOfMemory, Io}

-- the text that judges a run, and explains the first breach of an unlawful one
abbrev pub IsVerdict : ℕ → List Message → Bool → List ℕ → Type 0
IsVerdict n sent true text = IsLawful n sent × (text ≡ judgement_line true)
IsVerdict n sent false text = (breach : Breach) × IsFirstBreach n sent breach × (text ≡ judgement_line false ++ explanation_of sent breach)

-- A run has one verdict at most, and one text.
abbrev pub VerdictsAreOne : Type 0
VerdictsAreOne = (n : ℕ) (sent : List Message) (x y : Bool) (s t : List ℕ) → IsVerdict n sent x s → IsVerdict n sent y t → (x ≡ y) × (s ≡ t)

-- so a run is told to a writer
abbrev pub RunTold : ℕ → List Message → Result Bool ExplainFault → Option (List ℕ) → Option (List ℕ) → Type 0
RunTold n sent (Ok lawful) old new = (text : List ℕ) × IsVerdict n sent lawful text × Appends old new text
RunTold n sent (Err (BadTrace flaw)) old new = ⊥
RunTold n sent (Err OutOfMemory) old new = Keeps old new
RunTold n sent (Err Io) old new =
    (lawful : Bool) × (text : List ℕ) × IsVerdict n sent lawful text × ((written : List ℕ) × IsBeginning written text × Appends old new written)

-- the run that a file means, so told
pub record FileTold (file : List ℕ) (outcome : Result Bool ExplainFault) (old new : Option (List ℕ)) : Type 0 where
  pub members : ℕ
  pub sent : List Message
  pub means : MeansTrace file members sent
  pub told : RunTold members sent outcome old new

-- and so a file is explained
abbrev pub ExplainedTo : List ℕ → Result Bool ExplainFault → Option (List ℕ) → Option (List ℕ) → Type 0
ExplainedTo file (Ok lawful) old new = FileTold file (Ok lawful) old new
ExplainedTo file (Err (BadTrace flaw)) old new = MeansNothing file × IsFlaw flaw file × Keeps old new
ExplainedTo file (Err OutOfMemory) old new = IsUtf8 file × Keeps old new
ExplainedTo file (Err Io) old new = FileTold file (Err Io) old new

-- a fault is said, and a judgement is not
abbrev pub IsSilentUnlessFault : Result Bool ExplainFault → Option (List ℕ) → Option (List ℕ) → Type 0
IsSilentUnlessFault (Ok lawful) old new = Keeps old new
IsSilentUnlessFault (Err fault) old new = Unit {0}

-- An explained audit that ends with status 1: the file's run is unlawful, or there is a fault.
pub record ExplainFails (file : List ℕ) (old new said_old said_new : Option (List ℕ)) : Type 0 where
  pub outcome : Result Bool ExplainFault
  pub not_lawful : outcome ≢ Ok true
  pub explained : ExplainedTo file outcome old new
  pub says : IsSilentUnlessFault outcome said_old said_new
