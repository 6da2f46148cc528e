-- Versions of tables: what stands in one, and where.
use Rattle.std.proofs.Common.{◌≡◌, ◌≢◌, ◌&&◌, ℕ, ◌<◌, ◌≤◌, inl, inr, Bool, true, false, if◌then◌else◌, List, [], ◌∷◌, ◌++◌, length, take, get_or, Some, None, slice_get, refl, sym, ap, subst, ◌∙◌}
use Rattle.std.specs.Prelude.{nat_le}
use Rattle.std.proofs.lemmas.Bool.{leb-true}
use Rattle.std.proofs.lemmas.Option.{slice_get_within, get_or_from_slice_get}
use Rattle.table_types.specs.Uploads.{Upload}
use Rattle.table_types.specs.Tables.{is_to, counts_here, counted_behind, effective}
use Rattle.table_types.specs.Tables.{Version, first_of_all, version_of}
use Rattle.safe_histories.proofs.Lists.{In, some_same, none_is_some, in_take, at_taken}

-- ---- uploads that count are uploads of the list

in_one : (x : Upload) (xs with_it without : List Upload) (upload : Upload) (b : Bool) → (In with_it upload → In xs upload)
    → (In without upload → In xs upload) → In (if b then x ∷ with_it else without) upload → In (x ∷ xs) upload
in_one x xs with_it without upload true more others (inl same) = inl same
in_one x xs with_it without upload true more others (inr later) = inr (more later)
in_one x xs with_it without upload false more others there = inr (others there)

in_behind : (table : List ℕ) (before counted xs : List Upload) (upload : Upload) → In (counted_behind table before counted xs) upload → In xs upload
in_behind table before counted [] upload there = there
in_behind table before counted (x ∷ xs) upload there =
    in_one x xs (counted_behind table (before ++ x ∷ []) (counted ++ x ∷ []) xs) (counted_behind table (before ++ x ∷ []) counted xs) upload
    (is_to table x && counts_here before counted x) (in_behind table (before ++ x ∷ []) (counted ++ x ∷ []) xs upload)
    (in_behind table (before ++ x ∷ []) counted xs upload) there

pub in_effective : (table : List ℕ) (uploads : List Upload) (upload : Upload) → In (effective table uploads) upload → In uploads upload
in_effective table uploads upload there = in_behind table [] [] uploads upload there

-- ---- a version is the first so many of them

pub record IsFirstOf (number : ℕ) (counted : List Upload) (found : Version) : Type 0 where
  pub are : found.uploads ≡ take number counted
  pub enough : number ≤ length counted

first_of : (number : ℕ) (x : Upload) (rest : List Upload) (found : Version) (b : Bool) → nat_le number (length (x ∷ rest)) ≡ b
    → (if b then Some (record { schema = x.schema; uploads = take number (x ∷ rest) }) else None) ≡ Some found → IsFirstOf number (x ∷ rest) found
first_of number x rest found true is same =
    let version : Version = record { schema = x.schema; uploads = take number (x ∷ rest) } in
    record {
      are = sym (ap (λ (v : Version). v.uploads) (some_same version found same));
      enough = leb-true number (length (x ∷ rest)) is;
    }
first_of number x rest found false is same = absurd (none_is_some found same)

first_of_these : (number : ℕ) (counted : List Upload) (found : Version) → first_of_all number counted ≡ Some found → IsFirstOf number counted found
first_of_these number [] found is = absurd (none_is_some found is)
first_of_these number (x ∷ rest) found is = first_of number x rest found (nat_le number (length (x ∷ rest))) refl is

pub version_is : (table : List ℕ) (number : ℕ) (uploads : List Upload) (found : Version) → version_of table number uploads ≡ Some found
    → IsFirstOf number (effective table uploads) found
version_is table number uploads found is = first_of_these number (effective table uploads) found is

-- what stands in a version is an upload of the list
pub in_version : (table : List ℕ) (number : ℕ) (uploads : List Upload) (found : Version) (upload : Upload) → version_of table number uploads ≡ Some found
    → In found.uploads upload → In uploads upload
in_version table number uploads found upload is there =
    in_effective table uploads upload
    (in_take number (effective table uploads) upload (subst (λ l. In l upload) (version_is table number uploads found is).are there))

-- ---- its uploads have different names

abbrev pub Apart : Type 0
Apart = (table : List ℕ) (uploads : List Upload) (i j : ℕ) (none : Upload) → i < j → j < length (effective table uploads)
    → (get_or (effective table uploads) i none).id ≢ (get_or (effective table uploads) j none).id

-- the upload at a place of a version stands there among those that count
pub at_version : (number : ℕ) (counted : List Upload) (found : Version) (i : ℕ) (one : Upload) → IsFirstOf number counted found
    → slice_get found.uploads i ≡ Some one → slice_get counted i ≡ Some one
at_version number counted found i one is at = at_taken number i counted one (ap (λ l. slice_get l i) (sym is.are) ∙ at)

module _ (apart : Apart) where
  pub stand_apart : (table : List ℕ) (number : ℕ) (uploads : List Upload) (found : Version) → version_of table number uploads ≡ Some found
      → (i j : ℕ) (one other : Upload) → i < j → slice_get found.uploads i ≡ Some one → slice_get found.uploads j ≡ Some other → one.id ≢ other.id
  stand_apart table number uploads found is i j one other lt at there =
      let counted = effective table uploads in
      let first = version_is table number uploads found is in
      let here = at_version number counted found i one first at in
      let later = at_version number counted found j other first there in
      subst (λ (u : Upload). u.id ≢ other.id) (get_or_from_slice_get counted i one one here)
      (subst (λ (u : Upload). (get_or counted i one).id ≢ u.id) (get_or_from_slice_get counted j other one later)
      (apart table uploads i j one lt (slice_get_within counted j other later)))
