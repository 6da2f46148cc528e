-- Batches that are read one after the other.
use Rattle.std.proofs.Common.{◌≡◌, refl, sym, ap, subst, ◌∙◌, ℕ, suc, ◌+◌, ◌<◌, ◌≤◌, List, [], ◌∷◌, ◌++◌, map, length, Option, Some, None, Bor, arith}
use Rattle.header_types.specs.Fields.{SchemaTree}
use Rattle.batch_types.specs.Cells.{Rows}
use Rattle.uploads.specs.Parts.{body_text, batch_text, batches_text, HasLeft, Gives}
use Rattle.uploads.specs.Read.{AreRowsText, AreBatchesText}
use Rattle.uploads.proofs.CallerLemmas.{more_long, part_long, some_bytes, body_some, batch_parts_text}

pub rows_given : (schema : SchemaTree) (header body : List ℕ) (parts : List ℕ × List ℕ) (rows : Rows) → header ≡ parts.0 → body ≡ parts.1
    → AreRowsText schema (header, body) rows → AreRowsText schema parts rows
rows_given schema header body parts rows first second are = record {
  can = are.can;
  header_is = sym first ∙ are.header_is;
  body_is = sym second ∙ are.body_is;
}

pub rows_taken : (schema : SchemaTree) (header body : List ℕ) (parts : List ℕ × List ℕ) (rows : Rows) → header ≡ parts.0 → body ≡ parts.1
    → AreRowsText schema parts rows → AreRowsText schema (header, body) rows
rows_taken schema header body parts rows first second are = record {
  can = are.can;
  header_is = first ∙ are.header_is;
  body_is = second ∙ are.body_is;
}

-- the batches that are read, if what is left is such
abbrev AllRead : SchemaTree → List ℕ → Type 0
AllRead schema text = (list : List (List ℕ × List ℕ)) → HasLeft text list → (rows : List Rows) × AreBatchesText schema list rows

pub record StillRows (schema : SchemaTree) (batches left : List ℕ) : Type 0 where
  pub short : length left ≤ 16777216
  pub list : List (List ℕ × List ℕ)
  pub has : HasLeft left list
  pub good : AllRead schema left → AllRead schema batches
  pub bad : (list : List (List ℕ × List ℕ)) (rows : List Rows) → HasLeft batches list → AreBatchesText schema list rows
      → (list : List (List ℕ × List ℕ)) × (rows : List Rows) × HasLeft left list × AreBatchesText schema list rows

pub none_read : (schema : SchemaTree) (batches left : List ℕ) → ((list : List (List ℕ × List ℕ)) → HasLeft batches list → HasLeft left list)
    → (list : List (List ℕ × List ℕ)) → HasLeft batches list → length batches ≤ 16777216 → StillRows schema batches left
none_read schema batches left same list has short = record {
  short = omega (arith, short, ap length has.is, ap length (same list has).is);
  list = list;
  has = same list has;
  good = λ all list has. all list (same list has);
  bad = λ list rows has are. (list, rows, same list has, are);
}

pub body_short : (old : List ℕ) (parts : List ℕ × List ℕ) (rest : List (List ℕ × List ℕ)) → HasLeft old (parts ∷ rest) → length old ≤ 16777216 → length parts.1 ≤ 16777216
body_short old (header, []) rest left short = omega arith
body_short old (header, b ∷ body) rest left short =
    omega (
      arith,
      short,
      ap length left.is,
      more_long 4 (batch_text (header, b ∷ body)) (batches_text rest),
      part_long 4 (batch_text (header, b ∷ body)),
      ap length (batch_parts_text (header, b ∷ body) left.each.0.headed),
      more_long 1 header (body_text (b ∷ body)),
      ap length (body_some (b ∷ body) (omega arith)),
      more_long 2 (b ∷ body) [],
      part_long 2 (b ∷ body),
    )

module _ (schema : SchemaTree) (batches old new header body : List ℕ) (given : Bor (List ℕ) × Bor (List ℕ)) (same : (given.0.now ≡ header) × (given.1.now ≡ body))
    (gives : (list : List (List ℕ × List ℕ)) → HasLeft old list → Gives (Some given) new list) where
  given_short : (list : List (List ℕ × List ℕ)) → HasLeft old list → Gives (Some given) new list → length old ≤ 16777216 → length body ≤ 16777216
  given_short [] left g short = absurd (not_none given g.0)
    where
      not_none : (x : Bor (List ℕ) × Bor (List ℕ)) → Some x ≡ None → ⊥
      not_none x e = cc
  given_short (parts ∷ rest) left g short =
      subst (λ l. length l ≤ 16777216) (sym g.1 ∙ same.1) (body_short old parts rest left short)

  pub next_short : StillRows schema batches old → length body ≤ 16777216
  next_short still = given_short still.list still.has (gives still.list still.has) still.short

  read_all : (rows : Rows) → AreRowsText schema (header, body) rows → AllRead schema new
      → (list : List (List ℕ × List ℕ)) → HasLeft old list → Gives (Some given) new list → (rows : List Rows) × AreBatchesText schema list rows
  read_all rows are all [] left g = absurd (not_none given g.0)
    where
      not_none : (x : Bor (List ℕ) × Bor (List ℕ)) → Some x ≡ None → ⊥
      not_none x e = cc
  read_all rows are all (parts ∷ rest) left g =
      let others = all rest g.2 in
      (rows ∷ others.0, (rows_given schema header body parts rows (sym same.0 ∙ g.0) (sym same.1 ∙ g.1) are, others.1))

  left_bad : (list : List (List ℕ × List ℕ)) (rows : List Rows) → HasLeft old list → AreBatchesText schema list rows → Gives (Some given) new list
      → (list : List (List ℕ × List ℕ)) × (rows : List Rows) × HasLeft new list × AreBatchesText schema list rows
  left_bad [] rows left are g = absurd (not_none given g.0)
    where
      not_none : (x : Bor (List ℕ) × Bor (List ℕ)) → Some x ≡ None → ⊥
      not_none x e = cc
  left_bad (parts ∷ rest) [] left are g = absurd are
  left_bad (parts ∷ rest) (r ∷ rows) left are g = (rest, rows, g.2, are.1)

  left_has : (list : List (List ℕ × List ℕ)) → HasLeft old list → Gives (Some given) new list → length old ≤ 16777216
      → (rest : List (List ℕ × List ℕ)) × HasLeft new rest × (length new < length old)
  left_has [] left g short = absurd (not_none given g.0)
    where
      not_none : (x : Bor (List ℕ) × Bor (List ℕ)) → Some x ≡ None → ⊥
      not_none x e = cc
  left_has (parts ∷ rest) left g short =
      (rest, g.2, omega (arith, ap length left.is, ap length g.2.is, more_long 4 (batch_text parts) (batches_text rest), some_bytes 4 (batch_text parts)))

  pub one_read : (rows : Rows) → AreRowsText schema (header, body) rows → StillRows schema batches old
      → StillRows schema batches new × (length new < length old)
  one_read rows are still =
      let rest = left_has still.list still.has (gives still.list still.has) still.short in (
        record {
          short = omega (arith, still.short, rest.2);
          list = rest.0;
          has = rest.1;
          good = λ all. still.good (λ list left. read_all rows are all list left (gives list left));
          bad = λ list rows left are.
              let all = still.bad list rows left are in left_bad all.0 all.1 all.2 all.3 (gives all.0 all.2);
        },
        rest.2,
      )

  not_rows : ((rows : Rows) → ¬ AreRowsText schema (header, body) rows)
      → (list : List (List ℕ × List ℕ)) (rows : List Rows) → HasLeft old list → AreBatchesText schema list rows → Gives (Some given) new list → ⊥
  not_rows none [] rows left are g = not_none given g.0
    where
      not_none : (x : Bor (List ℕ) × Bor (List ℕ)) → Some x ≡ None → ⊥
      not_none x e = cc
  not_rows none (parts ∷ rest) [] left are g = are
  not_rows none (parts ∷ rest) (r ∷ rows) left are g =
      none r (rows_taken schema header body parts r (sym same.0 ∙ g.0) (sym same.1 ∙ g.1) are.0)

  pub none_such : StillRows schema batches old → ((rows : Rows) → ¬ AreRowsText schema (header, body) rows)
      → (list : List (List ℕ × List ℕ)) (rows : List Rows) → HasLeft batches list → AreBatchesText schema list rows → ⊥
  none_such still none list rows left are =
      let all = still.bad list rows left are in not_rows none all.0 all.1 all.2 all.3 (gives all.0 all.2)

pub all_read : (schema : SchemaTree) (batches old new : List ℕ) → StillRows schema batches old
    → ((list : List (List ℕ × List ℕ)) → HasLeft old list → Gives None new list) → AllRead schema batches
all_read schema batches old new still gives = still.good (λ list left. none_left list left (gives list left))
  where
    none_left : (list : List (List ℕ × List ℕ)) → HasLeft old list → Gives None new list → (rows : List Rows) × AreBatchesText schema list rows
    none_left [] left g = ([], tt)
    none_left (parts ∷ rest) left g = absurd g
