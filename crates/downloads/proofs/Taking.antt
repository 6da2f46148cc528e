-- Messages that group into uploads, and one message more.
use Rattle.std.proofs.Common.{◌≡◌, ◌⊎◌, inl, inr, refl, sym, ap, ap₂, subst, ◌∙◌, ℕ, List, [], ◌∷◌, ◌++◌, map, Option, Some, None, append_assoc, arith}
use Rattle.std.specs.Prelude.{get_or}
use Rattle.std.specs.List.{AllByRecursion, flat_map}
use Rattle.std.proofs.lemmas.List.{map_push}
use Rattle.header_types.specs.Fields.{SchemaTree}
use Rattle.header_types.specs.Profile.{InProfile}
use Rattle.header_writing.specs.Written.{FitsSchema}
use Rattle.batch_types.specs.Cells.{Rows}
use Rattle.batch_types.specs.Written.{CanBeWritten}
use Rattle.table_types.specs.Served.{schema_message}
use Rattle.table_types.specs.Valid.{FitsFrame}
use Rattle.downloads.specs.Messages.{IsUploadMessage}
use Rattle.downloads.specs.Downloads.{ServedUpload as Served, Downloaded, IsServed, IsGrouped, IdsChange}
use Rattle.downloads.specs.Parts.{Part, batch_part, parts_from, parts_of, part_text}
use Rattle.downloads.specs.Taken.{HasDownload}
use Rattle.downloads.proofs.Differing.{is_grouped}
use Rattle.downloads.proofs.Grouping.{IsOther, others_follow, names_rest, all_texts}
use Rattle.downloads.proofs.OneDownload.{further, IsPart, SchemasAreOne, PartsAreOne, all_are_parts}

abbrev downloaded : SchemaTree → List Served → Downloaded
downloaded schema uploads = record { schema = schema; uploads = uploads }

-- ---- what is served is what is said

all_split : (schema : SchemaTree) (ps qs : List Part) → AllByRecursion (IsPart schema) (ps ++ qs) → AllByRecursion (IsPart schema) ps × AllByRecursion (IsPart schema) qs
all_split schema [] qs h = (tt, h)
all_split schema (p ∷ ps) qs h =
    let rest = all_split schema ps qs h.1 in
    ((h.0, rest.0), rest.1)

batches_written : (schema : SchemaTree) (id : List ℕ) (batches : List Rows) → AllByRecursion (IsPart schema) (map (batch_part id) batches) → AllByRecursion (CanBeWritten schema) batches
batches_written schema id [] h = tt
batches_written schema id (rows ∷ batches) h = (h.0.1, batches_written schema id batches h.1)

one_is_served : (schema : SchemaTree) (id : List ℕ) (batches : List Rows) → AllByRecursion (IsPart schema) (parts_from id batches) → IsServed schema (record { id = id; batches = batches })
one_is_served schema id [] h = record { named = h.0.0; batches_written = tt }
one_is_served schema id (rows ∷ batches) h = record { named = h.0.0; batches_written = batches_written schema id (rows ∷ batches) h }

are_served : (schema : SchemaTree) (uploads : List Served) → AllByRecursion (IsPart schema) (flat_map parts_of uploads) → AllByRecursion (IsServed schema) uploads
are_served schema [] h = tt
are_served schema (one ∷ uploads) h =
    let split = all_split schema (parts_of one) (flat_map parts_of uploads) h in
    (one_is_served schema one.id one.batches split.0, are_served schema uploads split.1)

all_push : (schema : SchemaTree) (ps : List Part) (p : Part) → AllByRecursion (IsPart schema) ps → IsPart schema p → AllByRecursion (IsPart schema) (ps ++ p ∷ [])
all_push schema [] p all is = (is, tt)
all_push schema (q ∷ ps) p all is = (all.0, all_push schema ps p all.1 is)

-- ---- names alone

abbrev IsThere : Option Rows → Type 0
IsThere None = ⊥
IsThere (Some rows) = Unit {0}

abbrev HasBatch : Part → Type 0
HasBatch part = IsThere part.batch

-- where two of one name stand side by side, each has a batch
abbrev NoneAlone : List Part → Type 0
NoneAlone [] = Unit {0}
NoneAlone (last ∷ []) = Unit {0}
NoneAlone (one ∷ next ∷ parts) = (one.id ≡ next.id → HasBatch one × HasBatch next) × NoneAlone (next ∷ parts)

alone_before : (id : List ℕ) (rest : List Part) → IsOther id rest → NoneAlone rest → NoneAlone (record { id = id; batch = None } ∷ rest)
alone_before id [] other none = tt
alone_before id (part ∷ rest) other none = (λ same. absurd (other same), none)

batches_before : (id : List ℕ) (batches : List Rows) (rest : List Part) → IsOther id rest → NoneAlone rest → NoneAlone (map (batch_part id) batches ++ rest)
batches_before id [] rest other none = none
batches_before id (rows ∷ []) [] other none = tt
batches_before id (rows ∷ []) (part ∷ rest) other none = (λ same. absurd (other same), none)
batches_before id (rows ∷ next ∷ batches) rest other none = (λ same. (tt, tt), batches_before id (next ∷ batches) rest other none)

parts_before : (id : List ℕ) (batches : List Rows) (rest : List Part) → IsOther id rest → NoneAlone rest → NoneAlone (parts_from id batches ++ rest)
parts_before id [] rest other none = alone_before id rest other none
parts_before id (rows ∷ batches) rest other none = batches_before id (rows ∷ batches) rest other none

none_alone : (uploads : List Served) → IdsChange uploads → NoneAlone (flat_map parts_of uploads)
none_alone [] change = tt
none_alone (one ∷ uploads) change =
    parts_before one.id one.batches (flat_map parts_of uploads) (others_follow one uploads change) (none_alone uploads (names_rest one uploads change))

beside : (front : List Part) (one next : Part) (parts : List Part) → NoneAlone (front ++ one ∷ next ∷ parts) → one.id ≡ next.id → HasBatch one × HasBatch next
beside [] one next parts none same = none.0 same
beside (first ∷ []) one next parts none same = beside [] one next parts none.1 same
beside (first ∷ other ∷ front) one next parts none same = beside (other ∷ front) one next parts none.1 same

no_batch : (part : Part) → part.batch ≡ None → HasBatch part → ⊥
no_batch part none has = subst (λ (batch : Option Rows). IsThere batch) none has

neither : (one next : Part) → (one.batch ≡ None) ⊎ (next.batch ≡ None) → HasBatch one → HasBatch next → ⊥
neither one next (inl none) has other = no_batch one none has
neither one next (inr none) has other = no_batch next none other

-- ---- messages that follow

-- what further messages say, where the first of them says this
record Follows (schema : SchemaTree) (before : List Part) (message : List ℕ) (all : List Part) : Type 0 where
  part : Part
  others : List Part
  are : all ≡ before ++ part ∷ others
  says : message ≡ part_text schema part
  is : IsPart schema part

first_are : (p q : List ℕ) (ps qs : List (List ℕ)) → p ∷ ps ≡ q ∷ qs → p ≡ q
first_are p q ps qs same = ap (λ (l : List (List ℕ)). get_or l 0 []) same

rest_are : (p q : List ℕ) (ps qs : List (List ℕ)) → p ∷ ps ≡ q ∷ qs → ps ≡ qs
rest_are p q ps qs same = ap (λ (l : List (List ℕ)). further l) same

abbrev count : List (List ℕ) → ℕ
count [] = 0
count (message ∷ messages) = 1

some_follow : (message : List ℕ) (before more : List (List ℕ)) → before ++ message ∷ more ≡ [] → ⊥
some_follow message [] more same =
    let none : 1 ≡ 0 = ap (λ (l : List (List ℕ)). count l) same in
    omega (arith, none)
some_follow message (first ∷ before) more same =
    let none : 1 ≡ 0 = ap (λ (l : List (List ℕ)). count l) same in
    omega (arith, none)

module _ (parts : PartsAreOne) (schema : SchemaTree) (profile : InProfile schema) (fits : FitsSchema schema) where
  follow : (before all : List Part) (message : List ℕ) (more : List (List ℕ)) → AllByRecursion (IsPart schema) before → AllByRecursion (IsPart schema) all
      → AllByRecursion FitsFrame (map (part_text schema) before) → map (part_text schema) before ++ message ∷ more ≡ map (part_text schema) all → Follows schema before message all
  follow before [] message more h g short same = absurd (some_follow message (map (part_text schema) before) more same)
  follow [] (q ∷ all) message more h g short same = record {
    part = q;
    others = all;
    are = refl;
    says = first_are message (part_text schema q) more (map (part_text schema) all) same;
    is = g.0;
  }
  follow (p ∷ before) (q ∷ all) message more h g short same =
      let rest : List (List ℕ) = map (part_text schema) before ++ message ∷ more in
      let one : p ≡ q = parts schema profile fits p q h.0 g.0 short.0 (first_are (part_text schema p) (part_text schema q) rest (map (part_text schema) all) same) in
      let behind = follow before all message more h.1 g.1 short.1 (rest_are (part_text schema p) (part_text schema q) rest (map (part_text schema) all) same) in
      record {
        part = behind.part;
        others = behind.others;
        are = ap₂ (λ (r : Part) (rs : List Part). r ∷ rs) (sym one) behind.are;
        says = behind.says;
        is = behind.is;
      }

-- ---- grouped messages, and one message more

module _ (schemas : SchemasAreOne) (parts : PartsAreOne) (messages : List (List ℕ)) (d : Downloaded) (fit : AllByRecursion FitsFrame messages) (is : IsGrouped messages d) where
  texts_are : messages ≡ schema_message d.schema ∷ map (part_text d.schema) (flat_map parts_of d.uploads)
  texts_are = is.messages_are ∙ ap (λ (l : List (List ℕ)). schema_message d.schema ∷ l) (all_texts d.schema d.uploads)

  texts_fit : AllByRecursion FitsFrame (schema_message d.schema ∷ map (part_text d.schema) (flat_map parts_of d.uploads))
  texts_fit = subst (λ (l : List (List ℕ)). AllByRecursion FitsFrame l) texts_are fit

  -- what the message says is put behind what is said
  pub goes_further : (message : List ℕ) (part : Part) (uploads : List Served) → IsUploadMessage d.schema message part.id part.batch
      → flat_map parts_of uploads ≡ flat_map parts_of d.uploads ++ part ∷ [] → IdsChange uploads → IsGrouped (messages ++ message ∷ []) (downloaded d.schema uploads)
  goes_further message part uploads told are change = record {
    messages_are =
        ap₂ (λ (ms : List (List ℕ)) (m : List ℕ). ms ++ m ∷ []) texts_are told.is
        ∙ ap (λ (l : List (List ℕ)). schema_message d.schema ∷ l)
        (sym (map_push (part_text d.schema) (flat_map parts_of d.uploads) part) ∙ ap (λ (l : List Part). map (part_text d.schema) l) (sym are) ∙ sym (all_texts d.schema uploads));
    profile = is.profile;
    schema_fits = is.schema_fits;
    each =
        are_served d.schema uploads
        (subst (λ (l : List Part). AllByRecursion (IsPart d.schema) l) (sym are)
        (all_push d.schema (flat_map parts_of d.uploads) part (all_are_parts d.schema d.uploads is.each) (told.named, told.served)));
    ids_change = change;
  }

  -- what begins with these messages says what they say, and something more
  behind : (message : List ℕ) (more : List (List ℕ)) (other : Downloaded) → IsGrouped (messages ++ message ∷ more) other
      → Follows d.schema (flat_map parts_of d.uploads) message (flat_map parts_of other.uploads)
  behind message more other h =
      let texts : schema_message d.schema ∷ (map (part_text d.schema) (flat_map parts_of d.uploads) ++ message ∷ more)
      ≡ schema_message other.schema ∷ map (part_text other.schema) (flat_map parts_of other.uploads) =
      ap (λ (l : List (List ℕ)). l ++ message ∷ more) (sym texts_are) ∙ h.messages_are
      ∙ ap (λ (l : List (List ℕ)). schema_message other.schema ∷ l) (all_texts other.schema other.uploads) in
      let ours : List (List ℕ) = map (part_text d.schema) (flat_map parts_of d.uploads) ++ message ∷ more in
      let theirs : List (List ℕ) = map (part_text other.schema) (flat_map parts_of other.uploads) in
      let schema : d.schema ≡ other.schema =
      schemas d.schema other.schema is.profile is.schema_fits h.profile h.schema_fits texts_fit.0
      (first_are (schema_message d.schema) (schema_message other.schema) ours theirs texts) in
      follow parts d.schema is.profile is.schema_fits (flat_map parts_of d.uploads) (flat_map parts_of other.uploads) message more
      (all_are_parts d.schema d.uploads is.each)
      (subst (λ (s : SchemaTree). AllByRecursion (IsPart s) (flat_map parts_of other.uploads)) (sym schema) (all_are_parts other.schema other.uploads h.each))
      texts_fit.1
      (rest_are (schema_message d.schema) (schema_message other.schema) ours theirs texts
      ∙ ap (λ (s : SchemaTree). map (part_text s) (flat_map parts_of other.uploads)) (sym schema))

  grouped_of : (message : List ℕ) (more : List (List ℕ)) (has : HasDownload ((messages ++ message ∷ []) ++ more)) → IsGrouped ((messages ++ message ∷ []) ++ more) has.0
  grouped_of message more has = is_grouped ((messages ++ message ∷ []) ++ more) has.0 has.1

  -- the message says nothing of an upload
  pub says_nothing : (message : List ℕ) → ((id : List ℕ) (rows : Option Rows) → ¬ IsUploadMessage d.schema message id rows)
      → (more : List (List ℕ)) → ¬ HasDownload ((messages ++ message ∷ []) ++ more)
  says_nothing message none more has =
      let next = behind message more has.0 (subst (λ (l : List (List ℕ)). IsGrouped l has.0) (append_assoc messages (message ∷ []) more) (grouped_of message more has)) in
      none next.part.id next.part.batch (record { is = next.says; named = next.is.0; served = next.is.1 })

  -- a name stands alone beside the same name
  pub says_alone : (message : List ℕ) (part last : Part) (front : List Part) → FitsFrame message → IsUploadMessage d.schema message part.id part.batch
      → flat_map parts_of d.uploads ≡ front ++ last ∷ [] → last.id ≡ part.id → (last.batch ≡ None) ⊎ (part.batch ≡ None)
      → (more : List (List ℕ)) → ¬ HasDownload ((messages ++ message ∷ []) ++ more)
  says_alone message part last front short told are named alone more has =
      let next = behind message more has.0 (subst (λ (l : List (List ℕ)). IsGrouped l has.0) (append_assoc messages (message ∷ []) more) (grouped_of message more has)) in
      let one : part ≡ next.part =
      parts d.schema is.profile is.schema_fits part next.part (told.named, told.served) next.is
      (subst (λ (l : List ℕ). FitsFrame l) told.is short) (sym told.is ∙ next.says) in
      let all : flat_map parts_of has.0.uploads ≡ front ++ last ∷ part ∷ next.others =
      next.are ∙ ap₂ (λ (l : List Part) (p : Part). l ++ p ∷ next.others) are (sym one) ∙ append_assoc front (last ∷ []) (part ∷ next.others) in
      let each = beside front last part next.others (subst (λ (l : List Part). NoneAlone l) all (none_alone has.0.uploads (grouped_of message more has).ids_change)) named in
      neither last part alone each.0 each.1
