-- Texts of JSON with nothing inside them, and what reads as a value.
use Rattle.std.proofs.Common.{◌≡◌, ℕ, ◌≤◌, List, [], ◌++◌, Some, refl, sym, ap, ◌∙◌, append-nil, arith}
use Rattle.json.specs.Token.{Token}
use Rattle.json.specs.Json as json
use Rattle.json.specs.Tree.{json_tokens, depth}
use Rattle.serde_json.specs.Data.{Data}
use Rattle.std.specs.Prelude.{Option, option_and_then}
use Rattle.json.specs.Lex.{tokens}
use Rattle.json.proofs.Printed.Trees.{value-json_tokens}
use Rattle.serde_json.specs.Read.{of_json, read as read_text, max_depth}
use Rattle.json_rows.specs.Written.{WritesValue}

-- a text that reads as this value, which is all that is told
pub one_text : (text : json.Json) (d : Data) (old new : List Token) → new ≡ old ++ json_tokens text → of_json text ≡ Some d → depth text ≡ 0 → WritesValue (λ e. e ≡ d) 0 old new
one_text text d old new tokens reads flat = record {
  text = text;
  tokens = tokens;
  reads = record { value = d; reads = reads; shallow = omega (arith, flat); told = refl };
}

pub written_weaker : (P Q : Data → Type 0) (m n : ℕ) (old new : List Token) → ((d : Data) → P d → Q d) → m ≤ n → WritesValue P m old new → WritesValue Q n old new
written_weaker P Q m n old new then deeper w = record {
  text = w.text;
  tokens = w.tokens;
  reads = record { value = w.reads.value; reads = w.reads.reads; shallow = omega (arith, w.reads.shallow, deeper); told = then w.reads.value w.reads.told };
}

-- ---- the whole text

whole : Option (json.Json × List Token) → Option Data
whole found = option_and_then of_json (option_and_then (λ p. json.if_last p.0 p.1) found)

pub read_back : (Told : Data → Type 0) (n : ℕ) (ts : List Token) (text : List ℕ) → (w : WritesValue Told n [] ts) → tokens text ≡ ts → n ≤ 127 → read_text text ≡ Some w.reads.value
unfolding whole
read_back Told n ts text w same shallow =
    ap whole (ap (json.value max_depth) (same ∙ w.tokens ∙ sym (append-nil (json_tokens w.text))) ∙ value-json_tokens w.text max_depth [] (omega (arith, w.reads.shallow, shallow)))
    ∙ w.reads.reads
