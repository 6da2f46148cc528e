-- Batches that are read again one after the other, of bytes that are known to be written so.
use Rattle.std.proofs.Common.{◌≡◌, refl, sym, ap, subst, ◌∙◌, ℕ, ◌+◌, ◌<◌, ◌≤◌, List, [], ◌∷◌, ◌++◌, map, length, Some, None, Bor, arith, append_assoc}
use Rattle.std.specs.List.{AllByRecursion}
use Rattle.std.proofs.lemmas.List.{append-nil, map_push}
use Rattle.header_types.specs.Fields.{SchemaTree}
use Rattle.batch_types.specs.Cells.{Rows}
use Rattle.batch_types.specs.Written.{CanBeWritten}
use Rattle.batch_columns.specs.Batches.{rows_of, IsBatchOf}
use Rattle.batch_columns.specs.declared.batch.Batch.{Batch}
use Rattle.uploads.specs.Parts.{batch_parts, batch_text, batches_text, HasLeft, Gives}
use Rattle.uploads.proofs.CallerLemmas.{more_long, some_bytes}
use Rattle.uploads.specs.Read.{AreRowsText}
use Rattle.uploads.proofs.Batched.{body_short}

not_given : (x : Bor (List ℕ) × Bor (List ℕ)) → Some x ≡ None → ⊥
not_given x e = cc

-- rows that are read of what is left: with those of the batches that were made, they are all
pub record Left (schema : SchemaTree) (made : List Batch) (left : List ℕ) (all : List Rows) : Type 0 where
  pub later : List Rows
  pub can : AllByRecursion (CanBeWritten schema) later
  pub has : HasLeft left (map (batch_parts schema) later)
  pub whole : map rows_of made ++ later ≡ all

pub record StillMade (schema : SchemaTree) (old left : List ℕ) (made : List Batch) : Type 0 where
  pub short : length left ≤ 16777216
  pub all : List Rows
  pub rest : Left schema made left all
  pub each : AllByRecursion (IsBatchOf schema) made
  pub good : (rows : List Rows) → AllByRecursion (CanBeWritten schema) rows → HasLeft old (map (batch_parts schema) rows) → Left schema made left rows

pub none_made : (schema : SchemaTree) (old left : List ℕ) (made : List Batch) (rows : List Rows) → made ≡ []
    → ((list : List (List ℕ × List ℕ)) → HasLeft old list → HasLeft left list)
    → AllByRecursion (CanBeWritten schema) rows → HasLeft old (map (batch_parts schema) rows) → length old ≤ 16777216 → StillMade schema old left made
none_made schema old left made rows none same can has short = record {
  short = omega (arith, short, ap length has.is, ap length (same (map (batch_parts schema) rows) has).is);
  all = rows;
  rest = at rows can has;
  each = subst (AllByRecursion (IsBatchOf schema)) (sym none) tt;
  good = at;
}
  where
    at : (rows : List Rows) → AllByRecursion (CanBeWritten schema) rows → HasLeft old (map (batch_parts schema) rows) → Left schema made left rows
    at rows can has = record {
      later = rows;
      can = can;
      has = same (map (batch_parts schema) rows) has;
      whole = ap (λ l. map rows_of l ++ rows) none;
    }

push_each : (schema : SchemaTree) (made : List Batch) (x : Batch) → AllByRecursion (IsBatchOf schema) made → IsBatchOf schema x
    → AllByRecursion (IsBatchOf schema) (made ++ x ∷ [])
push_each schema [] x each is = (is, tt)
push_each schema (y ∷ made) x each is = (each.0, push_each schema made x each.1 is)

module _ (schema : SchemaTree) (made : List Batch) (left new header body : List ℕ) (given : Bor (List ℕ) × Bor (List ℕ))
    (same : (given.0.now ≡ header) × (given.1.now ≡ body)) where
  -- the rows of the header and the body that were given
  given_rows : (later : List Rows) → AllByRecursion (CanBeWritten schema) later → Gives (Some given) new (map (batch_parts schema) later)
      → (rows : Rows) × AreRowsText schema (header, body) rows
  given_rows [] can g = absurd (not_given given g.0)
  given_rows (r ∷ later) can g = (r, record { can = can.0; header_is = sym same.0 ∙ g.0; body_is = sym same.1 ∙ g.1 })

  given_body : (later : List Rows) → HasLeft left (map (batch_parts schema) later) → Gives (Some given) new (map (batch_parts schema) later)
      → length left ≤ 16777216 → length body ≤ 16777216
  given_body [] has g short = absurd (not_given given g.0)
  given_body (r ∷ later) has g short =
      subst (λ l. length l ≤ 16777216) (sym g.1 ∙ same.1) (body_short left (batch_parts schema r) (map (batch_parts schema) later) has short)

  given_left : (later : List Rows) → HasLeft left (map (batch_parts schema) later) → Gives (Some given) new (map (batch_parts schema) later)
      → length new < length left
  given_left [] has g = absurd (not_given given g.0)
  given_left (r ∷ later) has g =
      let text : List ℕ = batch_text (batch_parts schema r) in
      omega (arith, ap length has.is, ap length g.2.is, more_long 4 text (batches_text (map (batch_parts schema) later)), some_bytes 4 text)

  module _ (x : Batch) (same_rows : (rows : Rows) → AreRowsText schema (header, body) rows → rows_of x ≡ rows) where
    after : (all later : List Rows) → AllByRecursion (CanBeWritten schema) later → map rows_of made ++ later ≡ all
        → Gives (Some given) new (map (batch_parts schema) later) → Left schema (made ++ x ∷ []) new all
    after all [] can whole g = absurd (not_given given g.0)
    after all (r ∷ later) can whole g = record {
      later = later;
      can = can.1;
      has = g.2;
      whole =
          ap (λ l. l ++ later) (map_push rows_of made x) ∙ append_assoc (map rows_of made) (rows_of x ∷ []) later
          ∙ ap (λ y. map rows_of made ++ (y ∷ later)) (same_rows r (record { can = can.0; header_is = sym same.0 ∙ g.0; body_is = sym same.1 ∙ g.1 }))
          ∙ whole;
    }

module _ (schema : SchemaTree) (old : List ℕ) (made : List Batch) (left new header body : List ℕ) (given : Bor (List ℕ) × Bor (List ℕ))
    (same : (given.0.now ≡ header) × (given.1.now ≡ body))
    (gives : (list : List (List ℕ × List ℕ)) → HasLeft left list → Gives (Some given) new list) (still : StillMade schema old left made) where
  gives_rest : Gives (Some given) new (map (batch_parts schema) still.rest.later)
  gives_rest = gives (map (batch_parts schema) still.rest.later) still.rest.has

  pub next_rows : (rows : Rows) × AreRowsText schema (header, body) rows
  next_rows = given_rows schema made left new header body given same still.rest.later still.rest.can gives_rest

  pub next_body : length body ≤ 16777216
  next_body = given_body schema made left new header body given same still.rest.later still.rest.has gives_rest still.short

  pub next_smaller : length new < length left
  next_smaller = given_left schema made left new header body given same still.rest.later still.rest.has gives_rest

  left_after : (x : Batch) → ((rows : Rows) → AreRowsText schema (header, body) rows → rows_of x ≡ rows) → (all : List Rows) → Left schema made left all
      → Left schema (made ++ x ∷ []) new all
  left_after x rows all l =
      after schema made left new header body given same x rows all l.later l.can l.whole (gives (map (batch_parts schema) l.later) l.has)

  pub next_made : (x : Batch) (pushed : List Batch) → ((rows : Rows) → AreRowsText schema (header, body) rows → rows_of x ≡ rows) → IsBatchOf schema x
      → pushed ≡ made ++ x ∷ [] → StillMade schema old new pushed
  next_made x pushed rows is put =
      subst (StillMade schema old new) (sym put) (record {
        short = omega (arith, still.short, next_smaller);
        all = still.all;
        rest = left_after x rows still.all still.rest;
        each = push_each schema made x still.each is;
        good = λ all can has. left_after x rows all (still.good all can has);
      })

pub all_made : (schema : SchemaTree) (old left new : List ℕ) (made : List Batch) → StillMade schema old left made
    → ((list : List (List ℕ × List ℕ)) → HasLeft left list → Gives None new list)
    → (rows : List Rows) → AllByRecursion (CanBeWritten schema) rows → HasLeft old (map (batch_parts schema) rows) → map rows_of made ≡ rows
all_made schema old left new made still gives rows can has =
    let l = still.good rows can has in at_end rows l.later l.whole (gives (map (batch_parts schema) l.later) l.has)
  where
    at_end : (all later : List Rows) → map rows_of made ++ later ≡ all → Gives None new (map (batch_parts schema) later) → map rows_of made ≡ all
    at_end all [] whole g = sym (append-nil (map rows_of made)) ∙ whole
    at_end all (r ∷ later) whole g = absurd g
