-- What is given of the answer that is of a version.
use Rattle.std.proofs.Common.{◌≡◌, sym, subst, ℕ, List, Result, Ok, Err, string_bytes}
use Rattle.std.specs.List.{AllByRecursion}
use Rattle.table_types.specs.Tables.{Version}
use Rattle.table_types.specs.Answers.{answer_messages}
use Rattle.table_types.specs.Valid.{FitsFrame}
use Rattle.downloads.specs.declared.download.Download.{Download}
use Rattle.downloads.specs.Downloads.{Downloaded, IsDownload, downloaded_of}
use Rattle.downloads.specs.Taken.{downloaded_in, GivesDownload, HasDownload}
use Rattle.client_calls.specs.declared.client_fault.ClientFault.{ClientFault}
use Rattle.client_calls.specs.declared.client_fault.ClientFault.TheVariants as faults
use Rattle.client_calls.specs.Answers.{IsAnswer, IsRefused, Receives}
use Rattle.client_calls.specs.Results.{GivesServed}

module _ (one : (text rest after : List ℕ) (messages others : List (List ℕ)) → IsAnswer text messages rest → IsAnswer text others after → (others ≡ messages) × (rest ≡ after))
    (apart : (text words rest after : List ℕ) (messages : List (List ℕ)) (code : ℕ) → IsAnswer text messages rest → ¬ IsRefused text code words after)
    (downloads : (messages : List (List ℕ)) (x y : Downloaded) → AllByRecursion FitsFrame messages → IsDownload messages x → IsDownload messages y → x ≡ y)
    (version : Version) (is : IsDownload (answer_messages version) (downloaded_of version)) (text rest : List ℕ) (answer : IsAnswer text (answer_messages version) rest) where
  pub is_given : (result : Result Download ClientFault) (left : List ℕ) → Receives GivesDownload HasDownload result text left → GivesServed version rest result left
  is_given (Ok download) left got =
      let same = one text rest left (answer_messages version) got.0 answer got.1 in (
        downloads (answer_messages version) (downloaded_in download) (downloaded_of version) answer.fit
            (subst (λ (l : List (List ℕ)). IsDownload l (downloaded_in download)) same.0 got.2.is) is,
        sym same.1,
      )
  is_given (Err (faults.Status code words)) left got = apart text (string_bytes words) rest left (answer_messages version) code answer got
  is_given (Err faults.BadAnswer) left got = got.no_result (answer_messages version) rest answer (downloaded_of version, is)
  is_given (Err (faults.Call fault)) left got = tt
