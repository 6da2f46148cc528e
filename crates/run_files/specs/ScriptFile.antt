-- What a file that tells a script means: JSON (RFC 8259) whose numbers are whole. A script, its words and its limits are this
-- service's own.
use Rattle.std.specs.Prelude.{◌≡◌, ℕ, ◌<◌, List, [], ◌∷◌, codes, Some, IsUtf8}
use Rattle.std.specs.List.{AllZip}
use Rattle.serde_json.specs.Data.{Data, string}
use Rattle.serde_json.specs.Read.{read as read_text}
use Rattle.serde_json.specs.Find.{as_array}
use Rattle.serde_json.specs.View.{items_of}
use Rattle.table_types.specs.Valid.{IsTableName}
use Rattle.table_types.specs.Ticket.{IsTableVersion}
use Rattle.run_files.specs.declared.script.ClusterSize.{ClusterSize}
use Rattle.run_files.specs.declared.script.ClusterSize.TheVariants.{Three, Five}
use Rattle.run_files.specs.declared.script.CallRequest.{CallRequest}
use Rattle.run_files.specs.declared.script.CallRequest.TheVariants.{Put, Get, Info}
use Rattle.run_files.specs.declared.script.ScriptCall.{ScriptCall}
use Rattle.run_files.specs.JsonValues.{whole, words, number_at, array_at}
use Rattle.run_files.specs.UploadValue.{MeansUpload}

-- how many nodes there are
abbrev pub node_count : ClusterSize → ℕ
node_count Three = 3
node_count Five = 5

-- The word says that this is asked, by the values that stand behind the node's number: an upload as a schedule has it, a version
-- of a table as a ticket has it, or a table's name.
abbrev pub Asks : List ℕ → List Data → CallRequest → Type 0
Asks word rest (Put upload) = (word ≡ codes "put") × (d : Data) × (rest ≡ d ∷ []) × MeansUpload d upload
Asks word rest (Get ticket) =
    (word ≡ codes "get") × (rest ≡ string ticket.table ∷ whole ticket.version ∷ []) × IsTableVersion ticket
Asks word rest (Info table) = (word ≡ codes "info") × (rest ≡ string table ∷ []) × IsTableName table

-- The value is an array that says what is asked, and which of the nodes.
pub record TellsCall (nodes : ClusterSize) (d : Data) (call : ScriptCall) : Type 0 where
  pub word : List ℕ
  pub rest : List Data
  pub items : as_array d ≡ Some (words word call.node rest)
  pub below : call.node < node_count nodes
  pub asks : Asks word rest call.asked

-- The file is an object with these; what else it has means nothing.
pub record MeansScript (file : List ℕ) (nodes : ClusterSize) (calls : List ScriptCall) : Type 0 where
  pub is_text : IsUtf8 file
  pub value : Data
  pub read : read_text file ≡ Some value
  pub counted : number_at (codes "nodes") value ≡ Some (node_count nodes)
  pub call_values : List Data
  pub calls_at : array_at (codes "calls") value ≡ Some (items_of call_values)
  pub calls_mean : AllZip (TellsCall nodes) call_values calls
