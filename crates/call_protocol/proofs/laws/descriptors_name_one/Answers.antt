use Rattle.std.proofs.Common.{◌≡◌, ℕ, List, [], ◌∷◌, get_or, sym, ap, ◌∙◌}
use Rattle.call_protocol.specs.Names.{id_text}
use Rattle.call_protocol.proofs.Ids.{ids_are_one, id_digits}
use Rattle.call_protocol.proofs.laws.descriptors_name_one.Goals as goal

pub returns-clause-upload : goal.returns-clause-upload
returns-clause-upload c d t u x y h k =
    let paths : t ∷ id_text x ∷ [] ≡ u ∷ id_text y ∷ [] = sym h.is_path.path_is ∙ k.is_path.path_is in (
      ap (λ (l : List (List ℕ)). get_or l 0 []) paths,
      ids_are_one x y h.id_named k.id_named (ap (λ (l : List (List ℕ)). get_or l 1 []) paths),
    )

pub returns-clause-digits : goal.returns-clause-digits
returns-clause-digits c x h = id_digits x h
