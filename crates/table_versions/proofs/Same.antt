-- What is told of one latest version.
use Rattle.std.proofs.Common.{◌≡◌, sym, ◌∙◌, ℕ, Option, Some, None, List, [], ◌∷◌}
use Rattle.table_types.specs.Uploads.{Upload}
use Rattle.table_versions.specs.declared.info.TableInfo.{TableInfo}
use Rattle.table_versions.specs.Info.{IsLatest, IsInfoOf, SaysSame, SaySame}

says_same : (one other : TableInfo) (name : List ℕ) (first : Upload) (counted : List Upload) → IsInfoOf one name first counted
    → IsInfoOf other name first counted → SaysSame one other
says_same one other name first counted x y = record {
  table = x.table ∙ sym y.table;
  version = x.version ∙ sym y.version;
  records = x.records ∙ sym y.records;
  total_bytes = x.total_bytes ∙ sym y.total_bytes;
  schema = x.schema ∙ sym y.schema;
}

no_rest : (first : Upload) (rest : List Upload) → first ∷ rest ≡ [] → ⊥
no_rest first rest e = cc

pub latest_say_same : (x y : Option TableInfo) (name : List ℕ) (counted : List Upload) → IsLatest x name counted → IsLatest y name counted
    → SaySame x y
latest_say_same None None name counted x y = tt
latest_say_same None (Some other) name [] x y = y
latest_say_same None (Some other) name (first ∷ rest) x y = no_rest first rest x
latest_say_same (Some one) None name [] x y = x
latest_say_same (Some one) None name (first ∷ rest) x y = no_rest first rest y
latest_say_same (Some one) (Some other) name [] x y = absurd x
latest_say_same (Some one) (Some other) name (first ∷ rest) x y = says_same one other name first (first ∷ rest) x y
