-- Uploads of which no two have one name.
use Rattle.std.proofs.Common.{◌≡◌, ◌≢◌, refl, sym, ap, subst, ◌∙◌, ℕ, List, [], ◌∷◌, ◌++◌, Bool, true, false, not, ◌||◌, cond, map, ◌<◌, ◌⊎◌, inl, inr, ⊎_elim, length, ◌+◌, take, drop, append_assoc}
use Rattle.std.specs.Prelude.{get_or}
use Rattle.std.specs.declared.cmp.Ordering.{Ordering}
use Rattle.std.specs.declared.cmp.Ordering.TheVariants.{Less, Equal, Greater}
use Rattle.std.specs.Cmp.Lexicographic.{slice_cmp}
use Rattle.std.specs.Ordering.{nat_cmp, is_eq}
use Rattle.std.specs.List.{AllByRecursion, list_any}
use Rattle.std.specs.BTreeSet.{BTreeSet, contains, Updates}
use Rattle.std.proofs.lemmas.List.{map_push, map-append, take-append-drop}
use Rattle.std.proofs.lemmas.List.Folds.{list_any-append}
use Rattle.std.proofs.lemmas.Grind.{take_at_read}
use Rattle.std.proofs.lemmas.Bool.{true≢false, not-true, not-false}
use Rattle.std.proofs.lemmas.Cmp.{eq_by_cmp_equiv, nat_list_cmp_total}
use Rattle.std.proofs.lemmas.Map.Lookups.{exact_bytes}
use Rattle.downloads.specs.declared.download.ServedUpload.{ServedUpload}
use Rattle.downloads.specs.Downloads.{ServedUpload as Served, IdsDiffer, IdsChange, IsDownload, IsGrouped, Downloaded}
use Rattle.downloads.specs.Taken.{served_in}

-- ---- a download is grouped

ids_change : (uploads : List Served) → IdsDiffer uploads → IdsChange uploads
ids_change [] differ = tt
ids_change (one ∷ []) differ = tt
ids_change (one ∷ next ∷ uploads) differ = (differ.0.0, ids_change (next ∷ uploads) differ.1)

pub is_grouped : (messages : List (List ℕ)) (downloaded : Downloaded) → IsDownload messages downloaded → IsGrouped messages downloaded
is_grouped messages downloaded is = record {
  messages_are = is.messages_are;
  profile = is.profile;
  schema_fits = is.schema_fits;
  each = is.each;
  ids_change = ids_change downloaded.uploads is.ids_differ;
}

-- ---- names

-- whether the two are one name
abbrev pub is_same : List ℕ → List ℕ → Bool
is_same id other = is_eq (slice_cmp nat_cmp id other)

-- whether this is the upload's id
abbrev pub is_name : List ℕ → Served → Bool
is_name id upload = is_same id upload.id

-- the names are those of the uploads, of which no two have one
pub record AreIds (names : BTreeSet (List ℕ)) (uploads : List Served) : Type 0 where
  pub held : (id : List ℕ) → contains (slice_cmp nat_cmp) names id ≡ list_any (is_name id) uploads
  pub differ : IdsDiffer uploads

both_ways : (id other : List ℕ) → is_same id other ≡ is_same other id
both_ways id other = (eq_by_cmp_equiv nat_list_cmp_total).symm id other

found : (id other : List ℕ) → id ≡ other → is_same id other ≡ true
found id other same = subst (λ (name : List ℕ). is_same id name ≡ true) same ((eq_by_cmp_equiv nat_list_cmp_total).refl id)

is_equal : (o : Ordering) → is_eq o ≡ true → o ≡ Equal
is_equal Less is = cc
is_equal Equal is = refl
is_equal Greater is = cc

one_name : (id other : List ℕ) → is_same id other ≡ true → id ≡ other
one_name id other is = exact_bytes id other (is_equal (slice_cmp nat_cmp id other) is)

-- ---- lists

neither : (b d : Bool) → (b || d) ≡ false → (b ≡ false) × (d ≡ false)
neither true d none = cc
neither false d none = (refl, none)

either : (b d : Bool) → (b || d) ≡ true → (b ≡ true) ⊎ (d ≡ true)
either true d some = inl refl
either false d some = inr some

not_both : (b : Bool) → b ≡ true → b ≡ false → ⊥
not_both b is is_not = true≢false (sym is ∙ is_not)

-- the last one has another name
last_differs : (one next : Served) (uploads rest : List Served) → AllByRecursion (λ (upload : Served). one.id ≢ upload.id) (uploads ++ next ∷ rest) → one.id ≢ next.id
last_differs one next [] rest all = all.0
last_differs one next (other ∷ uploads) rest all = last_differs one next uploads rest all.1

-- none has the name
others_differ : (id : List ℕ) (uploads : List Served) → list_any (is_name id) uploads ≡ false → AllByRecursion (λ (upload : Served). upload.id ≢ id) uploads
others_differ id [] none = tt
others_differ id (one ∷ uploads) none =
    let each = neither (is_name id one) (list_any (is_name id) uploads) none in
    (λ same. not_both (is_name id one) (found id one.id (sym same)) each.0, others_differ id uploads each.1)

-- one of them has it
repeated : (uploads rest : List Served) (next : Served) → list_any (is_name next.id) uploads ≡ true → IdsDiffer (uploads ++ next ∷ rest) → ⊥
repeated [] rest next held differ = not_both true refl (sym held)
repeated (one ∷ uploads) rest next held differ =
    ⊎_elim (λ is. last_differs one next uploads rest differ.0 (sym (one_name next.id one.id is))) (λ further. repeated uploads rest next further differ.1)
    (either (is_name next.id one) (list_any (is_name next.id) uploads) held)

-- ---- one more name

differs_more : (one next : Served) (uploads : List Served) → AllByRecursion (λ (upload : Served). one.id ≢ upload.id) uploads → one.id ≢ next.id
    → AllByRecursion (λ (upload : Served). one.id ≢ upload.id) (uploads ++ next ∷ [])
differs_more one next [] all apart = (apart, tt)
differs_more one next (other ∷ uploads) all apart = (all.0, differs_more one next uploads all.1 apart)

differ_more : (uploads : List Served) (next : Served) → AllByRecursion (λ (upload : Served). upload.id ≢ next.id) uploads → IdsDiffer uploads → IdsDiffer (uploads ++ next ∷ [])
differ_more [] next others differ = (tt, tt)
differ_more (one ∷ uploads) next others differ = (differs_more one next uploads differ.0 others.0, differ_more uploads next others.1 differ.1)

joined : (b d : Bool) → cond b true d ≡ (d || (b || false))
joined true true = refl
joined true false = refl
joined false true = refl
joined false false = refl

module _ (names : BTreeSet (List ℕ)) (uploads : List Served) (upload : Served) (before : AreIds names uploads) where
  with_name : (next : BTreeSet (List ℕ)) → contains (slice_cmp nat_cmp) names upload.id ≡ false → Updates (slice_cmp nat_cmp) names next upload.id true → AreIds next (uploads ++ upload ∷ [])
  with_name next new updates = record {
    held = λ id.
        updates.0 id ∙ ap (λ (d : Bool). cond (is_same upload.id id) true d) (before.held id) ∙ joined (is_same upload.id id) (list_any (is_name id) uploads)
        ∙ ap (λ (b : Bool). list_any (is_name id) uploads || (b || false)) (both_ways upload.id id) ∙ sym (list_any-append (is_name id) uploads (upload ∷ []));
    differ = differ_more uploads upload (others_differ upload.id uploads (sym (before.held upload.id) ∙ new)) before.differ;
  }

  comes_again : (rest : List Served) → contains (slice_cmp nat_cmp) names upload.id ≡ true → IdsDiffer (uploads ++ upload ∷ rest) → ⊥
  comes_again rest old differ = repeated uploads rest upload (sym (before.held upload.id) ∙ old) differ

-- ---- one place further

module _ (names : BTreeSet (List ℕ)) (uploads : List ServedUpload) (place : ℕ) (upload : ServedUpload) (is : upload ≡ get_or uploads place upload) (within : place < length uploads)
    (before : AreIds names (map served_in (take place uploads))) where
  next_are : map served_in (take (place + 1) uploads) ≡ map served_in (take place uploads) ++ served_in upload ∷ []
  next_are =
      ap (λ (l : List ServedUpload). map served_in l)
      ((take_at_read uploads place upload within).1 ∙ ap (λ (u : ServedUpload). take place uploads ++ u ∷ []) (sym is))
      ∙ map_push served_in (take place uploads) upload

  all_are : map served_in uploads ≡ map served_in (take place uploads) ++ served_in upload ∷ map served_in (drop (place + 1) uploads)
  all_are =
      ap (λ (l : List ServedUpload). map served_in l) (sym (take-append-drop (place + 1) uploads))
      ∙ map-append served_in (take (place + 1) uploads) (drop (place + 1) uploads)
      ∙ ap (λ (l : List Served). l ++ map served_in (drop (place + 1) uploads)) next_are
      ∙ append_assoc (map served_in (take place uploads)) (served_in upload ∷ []) (map served_in (drop (place + 1) uploads))

  pub one_more : (next : BTreeSet (List ℕ)) (added : Bool) → added ≡ not (contains (slice_cmp nat_cmp) names upload.id) → added ≡ true
      → Updates (slice_cmp nat_cmp) names next upload.id true → AreIds next (map served_in (take (place + 1) uploads))
  one_more next added told new updates =
      subst (λ (l : List Served). AreIds next l) (sym next_are)
      (with_name names (map served_in (take place uploads)) (served_in upload) before next
      (not-true (contains (slice_cmp nat_cmp) names upload.id) (sym told ∙ new)) updates)

  pub again : (added : Bool) → added ≡ not (contains (slice_cmp nat_cmp) names upload.id) → added ≡ false → ¬ IdsDiffer (map served_in uploads)
  again added told old differ =
      comes_again names (map served_in (take place uploads)) (served_in upload) before (map served_in (drop (place + 1) uploads))
      (not-false (contains (slice_cmp nat_cmp) names upload.id) (sym told ∙ old)) (subst (λ (l : List Served). IdsDiffer l) all_are differ)
