-- A text tells one list of values at most, and values the rows of one batch.
use Rattle.std.proofs.Common.{◌≡◌, ℕ, List, [], ◌∷◌, refl, sym, ap₂, ◌∙◌}
use Rattle.serde_json.specs.Data.{Data}
use Rattle.header_types.specs.Fields.{Forest, no_more, more}
use Rattle.batch_types.specs.Cells.{Cell, Rows}
use Rattle.json_rows.specs.Cells.{TellsCell, name_of, told_at}
use Rattle.json_rows.specs.Lines.{TellsColumns, TellsLine, TellsRows, TellsValues, lines_of}
use Rattle.json_rows.proofs.Cut.{one_value}
use Rattle.json_rows.proofs.One.{one_cell}
use Rattle.json_rows.proofs.Zipped.{zipped_are_one}

pub values_one : (text : List ℕ) (a b : List Data) → TellsValues text a → TellsValues text b → a ≡ b
values_one text a b p q = zipped_are_one TellsLine one_value (lines_of text) a b p q

columns_one : (fields : Forest) (values : List Data) (a b : List (List Cell)) → TellsColumns fields values a → TellsColumns fields values b → a ≡ b
columns_one no_more values [] [] p q = refl
columns_one no_more values [] (y ∷ b) p q = absurd q
columns_one no_more values (x ∷ a) b p q = absurd p
columns_one (more t rest) values [] b p q = absurd p
columns_one (more t rest) values (x ∷ a) [] p q = absurd q
columns_one (more t rest) values (x ∷ a) (y ∷ b) p q =
    ap₂ (λ (c : List Cell) (cs : List (List Cell)). c ∷ cs)
    (zipped_are_one (λ d cell. TellsCell t (told_at (name_of t) d) cell) (λ d c e. one_cell t (told_at (name_of t) d) c e) values x y p.0 q.0)
    (columns_one rest values a b p.1 q.1)

pub rows_one : (fields : Forest) (values : List Data) (a b : Rows) → TellsRows fields values a → TellsRows fields values b → a ≡ b
rows_one fields values a b p q =
    ap₂ (λ (n : ℕ) (cs : List (List Cell)). record { count = n; columns = cs }) (p.count ∙ sym q.count) (columns_one fields values a.columns b.columns p.columns q.columns)
