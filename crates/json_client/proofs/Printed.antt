-- Lines of batches that are written one behind the other.
use Rattle.std.proofs.Common.{◌≡◌, ℕ, ◌+◌, ◌<◌, List, [], ◌∷◌, ◌++◌, map, take, drop, length, get_or, Option, Some, None, Result, Ok, Err, refl, sym, ap, subst, ◌∙◌, append_assoc, append-nil}
use Rattle.std.specs.List.{AllZip, flat_map}
use Rattle.std.proofs.lemmas.Grind.{flat_map-append, take_at_read}
use Rattle.std.proofs.lemmas.List.{take-append-drop}
use Rattle.serde_json.specs.Data.{Data}
use Rattle.grpc_frames.specs.declared.fault.FrameFault.{FrameFault}
use Rattle.grpc_frames.specs.FrameFaults.{WhereKnown, Writes}
use Rattle.header_types.specs.Fields.{Forest}
use Rattle.batch_types.specs.Cells.{Rows}
use Rattle.batch_columns.specs.declared.batch.Batch.{Batch}
use Rattle.batch_columns.specs.Batches.{rows_of}
use Rattle.downloads.specs.declared.download.ServedUpload.{ServedUpload as Served}
use Rattle.downloads.specs.Downloads.{ServedUpload}
use Rattle.downloads.specs.Taken.{served_in}
use Rattle.json_rows.specs.Lines.{TellsBatches, TellsLine, TellsRows, TellsValues, EndsLines, lines_of}
use Rattle.json_client.specs.declared.fault.RowCallFault.{RowCallFault}
use Rattle.json_client.specs.Prints.{BeginsTextOf, IsTextOf, Prints, rows_alone, rows_served}

-- ---- lines and rows, one behind the other

zip_joined : {A B : Type 0} (R : A → B → Type 0) (xs ys : List A) (us vs : List B) → AllZip R xs us → AllZip R ys vs → AllZip R (xs ++ ys) (us ++ vs)
zip_joined R [] ys [] vs a b = b
zip_joined R [] ys (u ∷ us) vs a b = absurd a
zip_joined R (x ∷ xs) ys [] vs a b = absurd a
zip_joined R (x ∷ xs) ys (u ∷ us) vs a b = (a.0, zip_joined R xs ys us vs a.1 b)

batches_joined : (fields : Forest) (us vs : List Data) (xs ys : List Rows) → TellsBatches fields us xs → TellsBatches fields vs ys → TellsBatches fields (us ++ vs) (xs ++ ys)
batches_joined fields us vs [] ys p q = subst (λ (l : List Data). TellsBatches fields (l ++ vs) ys) (sym p) q
batches_joined fields us vs (x ∷ xs) ys p q =
    (p.0, p.1 ++ vs, ap (λ (l : List Data). l ++ vs) p.2 ∙ append_assoc p.0 p.1 vs, p.3, batches_joined fields p.1 vs xs ys p.4 q)

batches_parted : (fields : Forest) (values : List Data) (xs ys : List Rows) → TellsBatches fields values (xs ++ ys)
    → (us : List Data) × (vs : List Data) × TellsBatches fields us xs × TellsBatches fields vs ys
batches_parted fields values [] ys told = ([], values, refl, told)
batches_parted fields values (x ∷ xs) ys told =
    let rest = batches_parted fields told.1 xs ys told.4 in (told.0 ++ rest.0, rest.1, (told.0, rest.0, refl, told.3, rest.2), rest.3)

no_text : (fields : Forest) → IsTextOf fields [] []
no_text fields = record { values = []; told = tt; rows = refl; ends = λ behind. refl }

text_joined : (fields : Forest) (xs ys : List Rows) (t u : List ℕ) → IsTextOf fields xs t → IsTextOf fields ys u → IsTextOf fields (xs ++ ys) (t ++ u)
text_joined fields xs ys t u p q = record {
  values = p.values ++ q.values;
  told = subst (λ (l : List (List ℕ)). AllZip TellsLine l (p.values ++ q.values)) (sym (p.ends u)) (zip_joined TellsLine (lines_of t) (lines_of u) p.values q.values p.told q.told);
  rows = batches_joined fields p.values q.values xs ys p.rows q.rows;
  ends = λ behind.
      ap lines_of (append_assoc t u behind) ∙ p.ends (u ++ behind) ∙ ap (λ (l : List (List ℕ)). lines_of t ++ l) (q.ends behind)
      ∙ sym (append_assoc (lines_of t) (lines_of u) (lines_of behind)) ∙ ap (λ (l : List (List ℕ)). l ++ lines_of behind) (sym (p.ends u));
}

begins_joined : (fields : Forest) (xs ys : List Rows) (t w : List ℕ) → IsTextOf fields xs t → BeginsTextOf fields ys w → BeginsTextOf fields (xs ++ ys) (t ++ w)
begins_joined fields xs ys t w p q = record {
  first = xs ++ q.first;
  others = q.others;
  parts = ap (λ (l : List Rows). xs ++ l) q.parts ∙ sym (append_assoc xs q.first q.others);
  text = t ++ q.text;
  is_text = text_joined fields xs q.first t q.text p q.is_text;
  beginning = (q.beginning.0, append_assoc t w q.beginning.0 ∙ ap (λ (l : List ℕ). t ++ l) q.beginning.1);
}

begins_more : (fields : Forest) (xs ys : List Rows) (w : List ℕ) → BeginsTextOf fields xs w → BeginsTextOf fields (xs ++ ys) w
begins_more fields xs ys w p = record {
  first = p.first;
  others = p.others ++ ys;
  parts = ap (λ (l : List Rows). l ++ ys) p.parts ∙ append_assoc p.first p.others ys;
  text = p.text;
  is_text = p.is_text;
  beginning = p.beginning;
}

-- ---- what was written

follows : (fields : Forest) (r : Result (Unit {0}) RowCallFault) (xs ys : List Rows) (old mid new : List ℕ) → Prints fields xs (Ok tt) old mid → Prints fields ys r mid new → Prints fields (xs ++ ys) r old new
follows fields (Ok done) xs ys old mid new p q =
    (p.0 ++ q.0, text_joined fields xs ys p.0 q.0 p.1 q.1, q.2 ∙ ap (λ (l : List ℕ). l ++ q.0) p.2 ∙ append_assoc old p.0 q.0)
follows fields (Err fault) xs ys old mid new p q =
    (p.0 ++ q.0, begins_joined fields xs ys p.0 q.0 p.1 q.1, q.2 ∙ ap (λ (l : List ℕ). l ++ q.0) p.2 ∙ append_assoc old p.0 q.0)

pub print_follows : (fields : Forest) (r : Result (Unit {0}) RowCallFault) (xs ys : List Rows) (old mid new : Option (List ℕ)) → WhereKnown old mid (Prints fields xs (Ok tt))
    → WhereKnown mid new (Prints fields ys r) → WhereKnown old new (Prints fields (xs ++ ys) r)
print_follows fields r xs ys None mid new p q = tt
print_follows fields r xs ys (Some old) None new p q = absurd p
print_follows fields r xs ys (Some old) (Some mid) None p q = absurd q
print_follows fields r xs ys (Some old) (Some mid) (Some new) p q = follows fields r xs ys old mid new p q

-- it failed before the batches that were to follow
pub print_fails : (fields : Forest) (fault : RowCallFault) (xs ys : List Rows) (old new : Option (List ℕ)) → WhereKnown old new (Prints fields xs (Err fault))
    → WhereKnown old new (Prints fields (xs ++ ys) (Err fault))
print_fails fields fault xs ys None new p = tt
print_fails fields fault xs ys (Some old) None p = absurd p
print_fails fields fault xs ys (Some old) (Some new) p = (p.0, begins_more fields xs ys p.0 p.1, p.2)

pub none_printed : (fields : Forest) (held : Option (List ℕ)) → WhereKnown held held (Prints fields [] (Ok tt))
none_printed fields None = tt
none_printed fields (Some held) = ([], no_text fields, sym (append-nil held))

pub nothing_printed : (fields : Forest) (fault : RowCallFault) (xs : List Rows) (held : Option (List ℕ)) → WhereKnown held held (Prints fields xs (Err fault))
nothing_printed fields fault xs None = tt
nothing_printed fields fault xs (Some held) =
    ([], record { first = []; others = xs; parts = refl; text = []; is_text = no_text fields; beginning = ([], refl) }, sym (append-nil held))

-- ---- one batch

pub text_of_batch : (fields : Forest) (batch : Batch) (text : List ℕ) → (values : List Data) × TellsValues text values × TellsRows fields values (rows_of batch) → EndsLines text
    → IsTextOf fields (rows_alone batch) text
text_of_batch fields batch text told ends =
    record { values = told.0; told = told.1; rows = (told.0, [], sym (append-nil told.0), told.2, refl); ends = ends }

pub batch_printed : (fields : Forest) (batch : Batch) (text : List ℕ) (old new : Option (List ℕ)) → IsTextOf fields (rows_alone batch) text → WhereKnown old new (Writes (Ok tt) text)
    → WhereKnown old new (Prints fields (rows_alone batch) (Ok tt))
batch_printed fields batch text None new is w = tt
batch_printed fields batch text (Some old) None is w = absurd w
batch_printed fields batch text (Some old) (Some new) is w = (text, is, w)

pub batch_cut : (fields : Forest) (batch : Batch) (text : List ℕ) (why : FrameFault) (fault : RowCallFault) (old new : Option (List ℕ)) → IsTextOf fields (rows_alone batch) text
    → WhereKnown old new (Writes (Err why) text) → WhereKnown old new (Prints fields (rows_alone batch) (Err fault))
batch_cut fields batch text why fault None new is w = tt
batch_cut fields batch text why fault (Some old) None is w = absurd w
batch_cut fields batch text why fault (Some old) (Some new) is w = (
  w.0,
  record { first = rows_alone batch; others = []; parts = sym (append-nil (rows_alone batch)); text = text; is_text = is; beginning = w.2 },
  w.1,
)

-- ---- one part after the other

module _ {X : Type 0} (f : X → List Rows) (xs : List X) (i : ℕ) (x : X) (lt : i < length xs) (is : x ≡ get_or xs i x) where
  next_part : flat_map f (take (i + 1) xs) ≡ flat_map f (take i xs) ++ f x
  next_part =
      ap (flat_map f) ((take_at_read xs i x lt).1) ∙ flat_map-append f (take i xs) (get_or xs i x ∷ [])
      ∙ ap (λ (y : X). flat_map f (take i xs) ++ flat_map f (y ∷ [])) (sym is)
      ∙ ap (λ (l : List Rows). flat_map f (take i xs) ++ l) (append-nil (f x))

  whole_parts : (flat_map f (take i xs) ++ f x) ++ flat_map f (drop (i + 1) xs) ≡ flat_map f xs
  whole_parts =
      ap (λ (l : List Rows). l ++ flat_map f (drop (i + 1) xs)) (sym next_part) ∙ sym (flat_map-append f (take (i + 1) xs) (drop (i + 1) xs))
      ∙ ap (flat_map f) (take-append-drop (i + 1) xs)

  pub printed_next : (fields : Forest) (old mid new : Option (List ℕ)) → WhereKnown old mid (Prints fields (flat_map f (take i xs)) (Ok tt)) → WhereKnown mid new (Prints fields (f x) (Ok tt))
      → WhereKnown old new (Prints fields (flat_map f (take (i + 1) xs)) (Ok tt))
  printed_next fields old mid new p q =
      subst (λ (l : List Rows). WhereKnown old new (Prints fields l (Ok tt))) (sym next_part) (print_follows fields (Ok tt) (flat_map f (take i xs)) (f x) old mid new p q)

  pub printing_fails : (fields : Forest) (fault : RowCallFault) (old mid new : Option (List ℕ)) → WhereKnown old mid (Prints fields (flat_map f (take i xs)) (Ok tt))
      → WhereKnown mid new (Prints fields (f x) (Err fault)) → WhereKnown old new (Prints fields (flat_map f xs) (Err fault))
  printing_fails fields fault old mid new p q =
      subst (λ (l : List Rows). WhereKnown old new (Prints fields l (Err fault))) whole_parts
      (print_fails fields fault (flat_map f (take i xs) ++ f x) (flat_map f (drop (i + 1) xs)) old new
      (print_follows fields (Err fault) (flat_map f (take i xs)) (f x) old mid new p q))

  -- what is told of the whole is told of the part
  pub part_told : (fields : Forest) (values : List Data) → TellsBatches fields values (flat_map f xs) → (here : List Data) × TellsBatches fields here (f x)
  part_told fields values told =
      let behind = batches_parted fields values (flat_map f (take i xs) ++ f x) (flat_map f (drop (i + 1) xs)) (subst (TellsBatches fields values) (sym whole_parts) told) in
      let part = batches_parted fields behind.0 (flat_map f (take i xs)) (f x) behind.2 in
      (part.1, part.3)

-- ---- the batches of a download

alone_are : (batches : List Batch) → flat_map rows_alone batches ≡ map rows_of batches
alone_are [] = refl
alone_are (batch ∷ batches) = ap (λ (l : List Rows). rows_of batch ∷ l) (alone_are batches)

pub served_are : (uploads : List Served) → flat_map rows_served uploads ≡ flat_map (λ (served : ServedUpload). served.batches) (map served_in uploads)
served_are [] = refl
served_are (upload ∷ uploads) =
    ap (λ (l : List Rows). l ++ flat_map rows_served uploads) (alone_are upload.batches.items) ∙ ap (λ (l : List Rows). map rows_of upload.batches.items ++ l) (served_are uploads)
