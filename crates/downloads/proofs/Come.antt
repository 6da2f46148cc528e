-- Messages that came, as the program has them.
use Rattle.std.proofs.Common.{◌≡◌, ◌⊎◌, inl, inr, sym, ap, subst, ◌∙◌, ℕ, List, [], ◌∷◌, ◌++◌, map, Vec, Option, None, append-nil, append_assoc, arith}
use Rattle.std.specs.Prelude.{get_or, IfSome}
use Rattle.std.specs.Option.{option_map}
use Rattle.std.specs.List.{AllByRecursion}
use Rattle.std.specs.declared.alloc.Global.{Global}
use Rattle.header_types.specs.Views.{schema_of}
use Rattle.batch_types.specs.Cells.{Rows}
use Rattle.batch_columns.specs.declared.batch.Batch.{Batch}
use Rattle.batch_columns.specs.Batches.{rows_of, IsBatchOf}
use Rattle.header_types.specs.Fields.{SchemaTree}
use Rattle.table_types.specs.Valid.{FitsFrame}
use Rattle.downloads.specs.Messages.{IsSchemaMessage, IsUploadMessage}
use Rattle.downloads.specs.declared.upload_message.UploadMessage.{UploadMessage}
use Rattle.downloads.specs.declared.download.ServedUpload.{ServedUpload}
use Rattle.downloads.specs.declared.download.Download.{Download}
use Rattle.downloads.specs.declared.downloading.Downloading.{Downloading}
use Rattle.downloads.specs.declared.downloading.Downloading.TheVariants as come
use Rattle.downloads.specs.Downloads.{Downloaded, IsGrouped, IdsDiffer}
use Rattle.downloads.specs.Taken.{served_in, downloaded_in, HasBatchesOf, HasDownload, HasTaken}
use Rattle.downloads.specs.Added.{part_in, AreWith, IsAlone}
use Rattle.downloads.proofs.Differing.{is_grouped}
use Rattle.downloads.proofs.OneDownload.{SchemaIsOne, UploadIsOne, schemas_are_one, parts_are_one, one_grouping}
use Rattle.downloads.proofs.Taking.{goes_further, says_nothing, says_alone}

fits_more : (messages : List (List ℕ)) (message : List ℕ) → AllByRecursion FitsFrame messages → FitsFrame message → AllByRecursion FitsFrame (messages ++ message ∷ [])
fits_more [] message all fits = (fits, tt)
fits_more (first ∷ messages) message all fits = (all.0, fits_more messages message all.1 fits)

-- ---- the first message

pub schema_came : (message : List ℕ) (download : Download) → IsSchemaMessage message (schema_of download.schema) → download.uploads.items ≡ [] → FitsFrame message
    → HasTaken (come.Reached download) (message ∷ [])
schema_came message download is none fits = record {
  fit = (fits, tt);
  taken = record {
    is = subst (λ (l : List ServedUpload). IsGrouped (message ∷ []) (record { schema = schema_of download.schema; uploads = map served_in l })) (sym none)
        (record {
          messages_are = ap (λ (m : List ℕ). m ∷ []) is.is;
          profile = is.profile;
          schema_fits = is.fits;
          each = tt;
          ids_change = tt;
        });
    columns = subst (λ (l : List ServedUpload). AllByRecursion (HasBatchesOf (schema_of download.schema)) l) (sym none) tt;
  };
}

pub no_schema_came : (message : List ℕ) → ((schema : SchemaTree) → ¬ IsSchemaMessage message schema) → FitsFrame message → HasTaken come.Spoiled (message ∷ [])
no_schema_came message none fits = record {
  fit = (fits, tt);
  taken = λ further has.
      none has.0.schema
      (record { is = ap (λ (l : List (List ℕ)). get_or l 0 []) has.1.messages_are; profile = has.1.profile; fits = has.1.schema_fits });
}

-- behind no message
pub first_came : (next : Downloading) (messages : List (List ℕ)) (message : List ℕ) → HasTaken come.Begun messages → HasTaken next (message ∷ [])
    → HasTaken next (messages ++ message ∷ [])
first_came next messages message before h =
    subst (λ (l : List (List ℕ)). HasTaken next (l ++ message ∷ [])) (sym before.taken) h

-- behind messages of no download
pub still_spoiled : (messages : List (List ℕ)) (message : List ℕ) → HasTaken come.Spoiled messages → FitsFrame message → HasTaken come.Spoiled (messages ++ message ∷ [])
still_spoiled messages message before fits = record {
  fit = fits_more messages message before.fit fits;
  taken = λ further has.
      before.taken (message ∷ further) (subst (λ (l : List (List ℕ)). HasDownload l) (append_assoc messages (message ∷ []) further) has);
}

-- ---- a further message

batch_alone : (said : UploadMessage) (last : Option Rows) → (last ≡ None) ⊎ (said.batch ≡ None) → (last ≡ None) ⊎ (option_map rows_of said.batch ≡ None)
batch_alone said last (inl none) = inl none
batch_alone said last (inr none) = inr (ap (λ (b : Option Batch). option_map rows_of b) none)

module _ (schemas : SchemaIsOne) (uploads : UploadIsOne) (download : Download) (messages : List (List ℕ)) (message : List ℕ)
    (before : HasTaken (come.Reached download) messages) (fits : FitsFrame message) where
  pub nothing_came : ((id : List ℕ) (rows : Option Rows) → ¬ IsUploadMessage (schema_of download.schema) message id rows) → HasTaken come.Spoiled (messages ++ message ∷ [])
  nothing_came none = record {
    fit = fits_more messages message before.fit fits;
    taken =
        says_nothing (schemas_are_one schemas) (parts_are_one uploads) messages (downloaded_in download) before.fit before.taken.is message none;
  }

  module _ (said : UploadMessage) (told : IsUploadMessage (schema_of download.schema) message said.id (option_map rows_of said.batch)) where
    pub part_came : (next : Vec ServedUpload Global) → IfSome said.batch (IsBatchOf (schema_of download.schema)) → AreWith download.uploads.items said next.items
        → HasTaken (come.Reached (record { schema = download.schema; uploads = next })) (messages ++ message ∷ [])
    part_came next columns with_it = record {
      fit = fits_more messages message before.fit fits;
      taken = record {
        is =
            goes_further (schemas_are_one schemas) (parts_are_one uploads) messages (downloaded_in download) before.fit before.taken.is message (part_in said)
            (map served_in next.items) told with_it.parts (with_it.names before.taken.is.ids_change);
        columns = with_it.columns (schema_of download.schema) before.taken.columns columns;
      };
    }

    pub alone_came : IsAlone download.uploads.items said → HasTaken come.Spoiled (messages ++ message ∷ [])
    alone_came alone = record {
      fit = fits_more messages message before.fit fits;
      taken =
          says_alone (schemas_are_one schemas) (parts_are_one uploads) messages (downloaded_in download) before.fit before.taken.is message (part_in said)
          alone.last alone.front fits told alone.parts alone.named (batch_alone said alone.last.batch alone.alone);
    }

-- ---- the end

abbrev count : List (List ℕ) → ℕ
count [] = 0
count (message ∷ messages) = 1

none_came : (messages : List (List ℕ)) → HasTaken come.Begun messages → ¬ HasDownload messages
none_came messages before has =
    let same = sym before.taken ∙ has.1.messages_are in
    let none : 0 ≡ 1 = ap (λ (l : List (List ℕ)). count l) same in
    omega (arith, none)

none_is_it : (messages : List (List ℕ)) → HasTaken come.Spoiled messages → ¬ HasDownload messages
none_is_it messages before has = before.taken [] (subst (λ (l : List (List ℕ)). HasDownload l) (sym (append-nil messages)) has)

pub nothing_reached : (downloading : Downloading) (messages : List (List ℕ)) → (downloading ≡ come.Begun) ⊎ (downloading ≡ come.Spoiled) → HasTaken downloading messages → ¬ HasDownload messages
nothing_reached downloading messages (inl is) before = none_came messages (subst (λ (d : Downloading). HasTaken d messages) is before)
nothing_reached downloading messages (inr is) before = none_is_it messages (subst (λ (d : Downloading). HasTaken d messages) is before)

-- a name comes again: a download would be of these uploads
pub name_again : (download : Download) (messages : List (List ℕ)) → HasTaken (come.Reached download) messages → SchemaIsOne → UploadIsOne
    → (IdsDiffer (map served_in download.uploads.items) → ⊥) → ¬ HasDownload messages
name_again download messages before schemas uploads repeats has =
    let one = one_grouping schemas uploads messages has.0 (downloaded_in download) before.fit (is_grouped messages has.0 has.1) before.taken.is in
    repeats (subst (λ (d : Downloaded). IdsDiffer d.uploads) one has.1.ids_differ)
