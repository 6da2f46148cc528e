-- Values that are held, one record after the other.
use Rattle.std.proofs.Common.{◌≡◌, ℕ, suc, ◌+◌, ◌<◌, arith, List, [], ◌∷◌, ◌++◌, length, take, get_or, Option, Some, None, refl, ap, ◌∙◌}
use Rattle.std.proofs.Math.Seq.{take-suc}
use Rattle.std.specs.Option.{option_or}
use Rattle.ballots.specs.declared.record.Record.{Record}
use Rattle.shared_values.specs.Held.{upload_at, last_upload}

or_none : {X : Type 0} (o : Option X) → o ≡ option_or o None
or_none None = refl
or_none (Some x) = refl

or_assoc : {X : Type 0} (a b c : Option X) → option_or (option_or a b) c ≡ option_or a (option_or b c)
or_assoc None b c = refl
or_assoc (Some x) b c = refl

-- of the records with one more behind them, that one's upload comes first
pub last_upload-push : (records : List Record) (told : Record) (slot : ℕ)
    → last_upload (records ++ told ∷ []) slot ≡ option_or (upload_at told slot) (last_upload records slot)
last_upload-push [] told slot = or_none (upload_at told slot)
last_upload-push (first ∷ later) told slot =
    ap (λ (o : Option (List ℕ)). option_or o (upload_at first slot)) (last_upload-push later told slot)
    ∙ or_assoc (upload_at told slot) (last_upload later slot) (upload_at first slot)

-- the records up to one more
pub last_upload-more : (records : List Record) (index : ℕ) (d : Record) (slot : ℕ) → index < length records
    → last_upload (take (index + 1) records) slot ≡ option_or (upload_at (get_or records index d) slot) (last_upload (take index records) slot)
last_upload-more records index d slot within =
    let next : index + 1 ≡ suc index = omega arith in
    ap (λ (n : ℕ). last_upload (take n records) slot) next
    ∙ ap (λ (rs : List Record). last_upload rs slot) (take-suc records index d within)
    ∙ last_upload-push (take index records) (get_or records index d) slot
