-- What the look-ups of a step tell.
use Rattle.std.proofs.Common.{◌≡◌, refl, sym, ap, subst, ◌↔◌, suc, Bool, IsTrue, ℕ, Option, Some, None, List, [], ◌∷◌, length}
use Rattle.table_versions.specs.declared.table.Table.{Table}
use Rattle.table_versions.specs.declared.prepared.Part.{Part}
use Rattle.table_versions.specs.Ledger.{TableEntries, names_in}
use Rattle.table_versions.specs.Steps.{TellsShape, HasRoomToGrow}

pub some_is : {X : Type 0} (x y : X) → Some x ≡ Some y → x ≡ y
some_is x y same = cc

pub none_is_some : {X : Type 0} (x : X) → None ≡ Some x → ⊥
none_is_some x same = cc

pub names_length : (tables : TableEntries) → length tables ≡ length (names_in tables)
names_length [] = refl
names_length (entry ∷ tables) = ap suc (names_length tables)

pub tells_some : (found : Option Table) (shape : List ℕ) (like : Bool) → TellsShape found shape (Some like)
    → (old : Table) × (found ≡ Some old) × (IsTrue like ↔ (old.shape ≡ shape))
tells_some None shape like told = absurd (none_is_some like (sym told))
tells_some (Some old) shape like told = (old, refl, told)

pub room_some : (found : Option Table) (old : Table) (part : Part) → found ≡ Some old → HasRoomToGrow found part → HasRoomToGrow (Some old) part
room_some found old part is room = subst (λ o. HasRoomToGrow o part) is room
