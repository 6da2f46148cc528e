-- What reading gives where memory is not refused: what is meant, or none where none is.
use Rattle.std.specs.Prelude.{◌≡◌, ℕ, List, Option, Some, None, IsUtf8}
use Rattle.std.specs.List.{AllZip}
use Rattle.serde_json.specs.Data.{Data}
use Rattle.serde_json.specs.Read.{read as read_text}
use Rattle.serde_json.specs.View.{view}
use Rattle.serde_json.specs.declared.value.Value.{Value}
use Rattle.std.specs.Prelude.{Vec}
use Rattle.std.specs.declared.alloc.Global.{Global}
use Rattle.cluster_identity.specs.declared.file_mark.FileMark.{FileMark}
use Rattle.cluster_identity.specs.declared.identity.Identity.{Identity}
use Rattle.cluster_identity.specs.Identities.{TellsMark, TellsIdentity}

-- a text, as the value that it is
abbrev pub ReadsText : List ℕ → Option Value → Type 0
ReadsText text (Some value) = IsUtf8 text × (read_text text ≡ Some (view value))
ReadsText text None = IsUtf8 text → read_text text ≡ None

-- values, as the marks that they tell
abbrev pub ReadsMarks : List Data → Option (Vec FileMark Global) → Type 0
ReadsMarks ds (Some marks) = AllZip TellsMark ds marks.items
ReadsMarks ds None = (marks : List FileMark) → AllZip TellsMark ds marks → ⊥

-- a value, as the identity that it tells
abbrev pub ReadsIdentity : Data → Option Identity → Type 0
ReadsIdentity d (Some identity) = TellsIdentity d identity.members identity.id identity.files.items
ReadsIdentity d None = (members : ℕ) (id : List ℕ) (files : List FileMark) → TellsIdentity d members id files → ⊥
