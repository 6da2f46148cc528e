-- Digits spell one list of bytes, and are read as it.
use Rattle.std.proofs.Common.{◌≡◌, ℕ, List, Some, Ok, Result, sym, ap, subst, ◌∙◌}
use Rattle.std.proofs.lemmas.Option.{same_Some}
use Rattle.std.specs.Result.{result_ok}
use Rattle.serde_json.specs.Data.{Data}
use Rattle.hex.specs.Hex.{decode_sized, encode_lower}
use Rattle.hex.proofs.HexLemmas.{decode_sized-encode_lower}
use Rattle.hex.specs.declared.error.FromHexError.{FromHexError}
use Rattle.cluster_identity.specs.Identities.{HasBytes, Spells}

pub decoded : (digits : List ℕ) (count : ℕ) (bytes : List ℕ) → Spells digits count bytes → decode_sized digits count ≡ Ok bytes
decoded digits count bytes h =
    ap (λ (l : List ℕ). decode_sized l count) h.spelled ∙ decode_sized-encode_lower bytes count h.are_bytes.whole h.are_bytes.each

-- what is decoded of digits that spell bytes is spelled by them
pub spelled_again : (digits : List ℕ) (count : ℕ) (bytes found spelled : List ℕ) (r : Result (List ℕ) FromHexError) → Spells digits count bytes
    → r ≡ decode_sized digits count → Some found ≡ result_ok r → spelled ≡ encode_lower found → digits ≡ spelled
spelled_again digits count bytes found spelled r h read is again =
    let found_is : found ≡ bytes = same_Some found bytes (is ∙ ap result_ok (read ∙ decoded digits count bytes h)) in
    h.spelled ∙ ap encode_lower (sym found_is) ∙ sym again

pub bytes_are_one : (digits : List ℕ) (count : ℕ) (x y : List ℕ) → Spells digits count x → Spells digits count y → x ≡ y
bytes_are_one digits count x y p q = same_Some x y (ap result_ok (sym (decoded digits count x p) ∙ decoded digits count y q))

-- ---- and so does the text at a name

pub bytes_told : (d : Data) (name : List ℕ) (count : ℕ) (x y : List ℕ) → HasBytes d name count x → HasBytes d name count y → x ≡ y
bytes_told d name count x y p q =
    let same : p.digits ≡ q.digits = same_Some p.digits q.digits (sym p.digits_at ∙ q.digits_at) in
    bytes_are_one q.digits count x y (subst (λ (l : List ℕ). Spells l count x) same p.spells) q.spells
