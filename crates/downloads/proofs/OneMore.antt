-- Uploads, and what one message more says of them.
use Rattle.std.proofs.Common.{◌≡◌, ◌≢◌, ◌≤◌, ◌⊎◌, inl, inr, refl, sym, ap, ap₂, subst, ◌∙◌, ℕ, List, [], ◌∷◌, ◌++◌, map, length, Bool, true, false, not, Option, Some, None, Result, Ok, IsSome, IfSome, append_assoc, append-nil, arith}
use Rattle.std.specs.Option.{option_map, option_to_list}
use Rattle.std.specs.declared.alloc.AllocError.{AllocError}
use Rattle.std.specs.List.{AllByRecursion, flat_map}
use Rattle.std.proofs.lemmas.List.{map_push, length-map}
use Rattle.std.proofs.lemmas.Grind.{flat_map-append}
use Rattle.header_types.specs.Fields.{SchemaTree}
use Rattle.batch_types.specs.Cells.{Rows}
use Rattle.batch_columns.specs.declared.batch.Batch.{Batch}
use Rattle.batch_columns.specs.Batches.{rows_of, IsBatchOf}
use Rattle.downloads.specs.declared.upload_message.UploadMessage.{UploadMessage}
use Rattle.downloads.specs.declared.download.ServedUpload.{ServedUpload}
use Rattle.downloads.specs.Downloads.{ServedUpload as Served, IdsChange}
use Rattle.downloads.specs.Parts.{Part, batch_part, parts_from, parts_of}
use Rattle.downloads.specs.Taken.{served_in, HasBatchesOf}
use Rattle.downloads.specs.Added.{part_in, IsBegun, Begins, IsLonger, Lengthens, parts_in, AreWith, IsAlone}

-- ---- what was told

pub told_apart : (b : Bool) → true ≡ not b → false ≡ b
told_apart true told = sym told
told_apart false told = refl

pub told_same : (b : Bool) → false ≡ not b → true ≡ b
told_same true told = refl
told_same false told = sym told

pub was_longer : (last longer : ServedUpload) (batch : Option Batch) (told : Result (Option ServedUpload) AllocError) (held : Option ServedUpload)
    → told ≡ Ok held → held ≡ Some longer → Lengthens last batch told → IsLonger last batch longer
was_longer last longer batch told held is some long =
    subst (λ (r : Result (Option ServedUpload) AllocError). Lengthens last batch r) (is ∙ ap (λ (o : Option ServedUpload). Ok o) some) long

pub was_not_longer : (last : ServedUpload) (batch : Option Batch) (told : Result (Option ServedUpload) AllocError) (held : Option ServedUpload)
    → told ≡ Ok held → held ≡ None → Lengthens last batch told → (last.batches.items ≡ []) ⊎ (batch ≡ None)
was_not_longer last batch told held is none long =
    subst (λ (r : Result (Option ServedUpload) AllocError). Lengthens last batch r) (is ∙ ap (λ (o : Option ServedUpload). Ok o) none) long

-- ---- names

-- one more of another name
names_more : (uploads : List Served) (last next : Served) → last.id ≢ next.id → IdsChange (uploads ++ last ∷ [])
    → IdsChange ((uploads ++ last ∷ []) ++ next ∷ [])
names_more [] last next apart change = (apart, tt)
names_more (one ∷ []) last next apart change = (change.0, (apart, tt))
names_more (one ∷ other ∷ uploads) last next apart change = (change.0, names_more (other ∷ uploads) last next apart change.1)

-- another last one of the same name
names_stay : (uploads : List Served) (last next : Served) → next.id ≡ last.id → IdsChange (uploads ++ last ∷ []) → IdsChange (uploads ++ next ∷ [])
names_stay [] last next same change = tt
names_stay (one ∷ []) last next same change = (subst (λ (id : List ℕ). one.id ≢ id) (sym same) change.0, tt)
names_stay (one ∷ other ∷ uploads) last next same change = (change.0, names_stay (other ∷ uploads) last next same change.1)

-- ---- what is said

parts_push : (uploads : List ServedUpload) (one : ServedUpload) → parts_in (uploads ++ one ∷ []) ≡ parts_in uploads ++ parts_of (served_in one)
parts_push uploads one =
    ap (λ (l : List Served). flat_map parts_of l) (map_push served_in uploads one)
    ∙ flat_map-append parts_of (map served_in uploads) (served_in one ∷ [])
    ∙ ap (λ (l : List Part). parts_in uploads ++ l) (append-nil (parts_of (served_in one)))

longer_parts : (id : List ℕ) (batches : List Rows) (rows : Rows) → 1 ≤ length batches → parts_from id (batches ++ rows ∷ []) ≡ parts_from id batches ++ batch_part id rows ∷ []
longer_parts id [] rows some = absurd (omega (arith, some))
longer_parts id (first ∷ batches) rows some = map_push (batch_part id) (first ∷ batches) rows

-- ---- columns

columns_push : (schema : SchemaTree) (uploads : List ServedUpload) (one : ServedUpload) → AllByRecursion (HasBatchesOf schema) uploads → HasBatchesOf schema one
    → AllByRecursion (HasBatchesOf schema) (uploads ++ one ∷ [])
columns_push schema [] one all has = (has, tt)
columns_push schema (first ∷ uploads) one all has = (all.0, columns_push schema uploads one all.1 has)

columns_split : (schema : SchemaTree) (uploads : List ServedUpload) (one : ServedUpload) → AllByRecursion (HasBatchesOf schema) (uploads ++ one ∷ [])
    → AllByRecursion (HasBatchesOf schema) uploads × HasBatchesOf schema one
columns_split schema [] one all = (tt, all.0)
columns_split schema (first ∷ uploads) one all =
    let rest = columns_split schema uploads one all.1 in
    ((all.0, rest.0), rest.1)

batches_push : (schema : SchemaTree) (batches : List Batch) (batch : Option Batch) → AllByRecursion (IsBatchOf schema) batches → IfSome batch (IsBatchOf schema)
    → AllByRecursion (IsBatchOf schema) (batches ++ option_to_list batch)
batches_push schema [] None all is = tt
batches_push schema [] (Some batch) all is = (is, tt)
batches_push schema (first ∷ batches) batch all is = (all.0, batches_push schema batches batch all.1 is)

-- ---- an upload begins

begun_says : (said : UploadMessage) (upload : ServedUpload) (batch : Option Batch) → said.batch ≡ batch → IsBegun said upload → parts_of (served_in upload) ≡ part_in said ∷ []
begun_says said upload None none begun =
    ap₂ (λ (id : List ℕ) (batches : List Batch). parts_from id (map rows_of batches)) begun.named (begun.batches ∙ ap (λ (b : Option Batch). option_to_list b) none)
    ∙ ap (λ (b : Option Batch). record { id = said.id; batch = option_map rows_of b } ∷ []) (sym none)
begun_says said upload (Some batch) some begun =
    ap₂ (λ (id : List ℕ) (batches : List Batch). parts_from id (map rows_of batches)) begun.named (begun.batches ∙ ap (λ (b : Option Batch). option_to_list b) some)
    ∙ ap (λ (b : Option Batch). record { id = said.id; batch = option_map rows_of b } ∷ []) (sym some)

module _ (uploads : List ServedUpload) (said : UploadMessage) (next : List ServedUpload) (begins : Begins uploads said next) where
  next_parts : parts_in next ≡ parts_in uploads ++ part_in said ∷ []
  next_parts =
      ap (λ (l : List ServedUpload). parts_in l) begins.are ∙ parts_push uploads begins.upload
      ∙ ap (λ (l : List Part). parts_in uploads ++ l) (begun_says said begins.upload said.batch refl begins.begun)

  next_columns : (schema : SchemaTree) → AllByRecursion (HasBatchesOf schema) uploads → IfSome said.batch (IsBatchOf schema) → AllByRecursion (HasBatchesOf schema) next
  next_columns schema all is =
      subst (λ (l : List ServedUpload). AllByRecursion (HasBatchesOf schema) l) (sym begins.are)
      (columns_push schema uploads begins.upload all
      (subst (λ (l : List Batch). AllByRecursion (IsBatchOf schema) l) (sym begins.begun.batches) (batches_push schema [] said.batch tt is)))

  next_are : map served_in next ≡ map served_in uploads ++ served_in begins.upload ∷ []
  next_are = ap (λ (l : List ServedUpload). map served_in l) begins.are ∙ map_push served_in uploads begins.upload

  -- the first of all
  pub begins_alone : uploads ≡ [] → AreWith uploads said next
  begins_alone none = record {
    parts = next_parts;
    names = λ change.
        subst (λ (l : List Served). IdsChange l) (sym (next_are ∙ ap (λ (l : List ServedUpload). map served_in l ++ served_in begins.upload ∷ []) none)) tt;
    columns = next_columns;
  }

  -- behind one of another name
  pub begins_behind : (front : List ServedUpload) (last : ServedUpload) → uploads ≡ front ++ last ∷ [] → (last.id ≡ said.id → ⊥) → AreWith uploads said next
  begins_behind front last are apart =
      let old : map served_in uploads ≡ map served_in front ++ served_in last ∷ [] =
      ap (λ (l : List ServedUpload). map served_in l) are ∙ map_push served_in front last in
      record {
        parts = next_parts;
        names = λ change.
            subst (λ (l : List Served). IdsChange l) (sym (next_are ∙ ap (λ (l : List Served). l ++ served_in begins.upload ∷ []) old))
            (names_more (map served_in front) (served_in last) (served_in begins.upload) (λ same. apart (same ∙ begins.begun.named))
            (subst (λ (l : List Served). IdsChange l) old change));
        columns = next_columns;
      }

-- the same, where the last one was taken and put back
pub begins_after : (uploads front back next : List ServedUpload) (last : ServedUpload) (said : UploadMessage) → uploads ≡ front ++ last ∷ [] → back ≡ front ++ last ∷ []
    → (last.id ≡ said.id → ⊥) → Begins back said next → AreWith uploads said next
begins_after uploads front back next last said taken put_back apart begins =
    subst (λ (l : List ServedUpload). AreWith l said next) (put_back ∙ sym taken) (begins_behind back said next begins front last put_back apart)

-- ---- an upload goes on

not_none : (first : Rows) (batches : List Rows) → first ∷ batches ≡ [] → ⊥
not_none first batches same =
    let lengths : length (first ∷ batches) ≡ 0 = ap (λ (l : List Rows). length l) same in
    omega (arith, lengths)

-- the last that is said of an upload
record EndsIn (id : List ℕ) (batches : List Rows) : Type 0 where
  front : List Part
  last : Part
  are : parts_from id batches ≡ front ++ last ∷ []
  named : last.id ≡ id
  alone : batches ≡ [] → last.batch ≡ None

further_ends : (id : List ℕ) (first : Rows) (batches : List Rows) → EndsIn id (first ∷ batches)
further_ends id first [] = record {
  front = [];
  last = batch_part id first;
  are = refl;
  named = refl;
  alone = λ none. absurd (not_none first [] none);
}
further_ends id first (next ∷ batches) =
    let end = further_ends id next batches in
    record {
      front = batch_part id first ∷ end.front;
      last = end.last;
      are = ap (λ (l : List Part). batch_part id first ∷ l) end.are;
      named = end.named;
      alone = λ none. absurd (not_none first (next ∷ batches) none);
    }

ends_in : (id : List ℕ) (batches : List Rows) → EndsIn id batches
ends_in id [] = record { front = []; last = record { id = id; batch = None }; are = refl; named = refl; alone = λ none. refl }
ends_in id (first ∷ batches) = further_ends id first batches

still_alone : (last : ServedUpload) (said : UploadMessage) (end : EndsIn last.id (map rows_of last.batches.items)) → (last.batches.items ≡ []) ⊎ (said.batch ≡ None)
    → (end.last.batch ≡ None) ⊎ (said.batch ≡ None)
still_alone last said end (inl none) = inl (end.alone (ap (λ (l : List Batch). map rows_of l) none))
still_alone last said end (inr none) = inr none

not_given : IsSome {T = Batch} None → ⊥
not_given given = cc

longer_says : (said : UploadMessage) (last longer : ServedUpload) (batch : Option Batch) → said.batch ≡ batch → last.id ≡ said.id → IsLonger last batch longer
    → parts_of (served_in longer) ≡ parts_of (served_in last) ++ part_in said ∷ []
longer_says said last longer None is named long = absurd (not_given long.given)
longer_says said last longer (Some batch) is named long =
    let some = long.some in
    let count : length (map rows_of last.batches.items) ≡ length last.batches.items = length-map last.batches.items rows_of in
    ap₂ (λ (id : List ℕ) (batches : List Batch). parts_from id (map rows_of batches)) long.named long.batches
    ∙ ap (λ (l : List Rows). parts_from last.id l) (map_push rows_of last.batches.items batch)
    ∙ longer_parts last.id (map rows_of last.batches.items) (rows_of batch) (omega (arith, some, count))
    ∙ ap₂ (λ (id : List ℕ) (b : Option Batch). parts_from last.id (map rows_of last.batches.items) ++ record { id = id; batch = option_map rows_of b } ∷ []) named (sym is)

module _ (uploads front : List ServedUpload) (last longer : ServedUpload) (said : UploadMessage) (are : uploads ≡ front ++ last ∷ []) (named : last.id ≡ said.id) where
  goes_on : IsLonger last said.batch longer → AreWith uploads said (front ++ longer ∷ [])
  goes_on long = record {
    parts =
        parts_push front longer
        ∙ ap (λ (l : List Part). parts_in front ++ l) (longer_says said last longer said.batch refl named long)
        ∙ sym (append_assoc (parts_in front) (parts_of (served_in last)) (part_in said ∷ []))
        ∙ ap (λ (l : List Part). l ++ part_in said ∷ []) (sym (parts_push front last) ∙ ap (λ (l : List ServedUpload). parts_in l) (sym are));
    names = λ change.
        subst (λ (l : List Served). IdsChange l) (sym (map_push served_in front longer))
        (names_stay (map served_in front) (served_in last) (served_in longer) long.named
        (subst (λ (l : List Served). IdsChange l) (ap (λ (l : List ServedUpload). map served_in l) are ∙ map_push served_in front last) change));
    columns = λ schema all is.
        let split = columns_split schema front last (subst (λ (l : List ServedUpload). AllByRecursion (HasBatchesOf schema) l) are all) in
        columns_push schema front longer split.0
        (subst (λ (l : List Batch). AllByRecursion (IsBatchOf schema) l) (sym long.batches) (batches_push schema last.batches.items said.batch split.1 is));
  }

  pub goes_on_as : (next : List ServedUpload) → next ≡ front ++ longer ∷ [] → IsLonger last said.batch longer → AreWith uploads said next
  goes_on_as next is long = subst (λ (l : List ServedUpload). AreWith uploads said l) (sym is) (goes_on long)

  -- ---- a name stands alone

  pub stands_alone : (last.batches.items ≡ []) ⊎ (said.batch ≡ None) → IsAlone uploads said
  stands_alone alone =
      let end = ends_in last.id (map rows_of last.batches.items) in
      record {
        front = parts_in front ++ end.front;
        last = end.last;
        parts =
            ap (λ (l : List ServedUpload). parts_in l) are ∙ parts_push front last
            ∙ ap (λ (l : List Part). parts_in front ++ l) end.are ∙ sym (append_assoc (parts_in front) end.front (end.last ∷ []));
        named = end.named ∙ named;
        alone = still_alone last said end alone;
      }
