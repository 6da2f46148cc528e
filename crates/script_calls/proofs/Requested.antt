-- What a call of a script asks.
use Rattle.std.proofs.Common.{◌≡◌, ℕ, List, sym, subst}
use Rattle.table_types.specs.Uploads.{Upload, upload_text}
use Rattle.table_types.specs.Valid.{IsUpload}
use Rattle.table_types.specs.Ticket.{TableVersion}
use Rattle.run_files.specs.declared.script.CallRequest.TheVariants as asked
use Rattle.script_calls.specs.Asking.{RequestMeaning, puts, gets, informs, IsAsked}

module _ (P : RequestMeaning → Type 0) where
  pub put_asked : (text : List ℕ) → ((u : Upload) → IsUpload u → upload_text u ≡ text → P (puts u)) → (q : RequestMeaning) → IsAsked (asked.Put text) q → P q
  put_asked text h (puts upload) is = h upload is.0 is.1
  put_asked text h (gets version) is = absurd is
  put_asked text h (informs table) is = absurd is

  pub get_asked : (ticket : TableVersion) → P (gets ticket) → (q : RequestMeaning) → IsAsked (asked.Get ticket) q → P q
  get_asked ticket h (gets version) is = subst (λ (v : TableVersion). P (gets v)) (sym is) h
  get_asked ticket h (puts upload) is = absurd is
  get_asked ticket h (informs table) is = absurd is

  pub info_asked : (text : List ℕ) → P (informs text) → (q : RequestMeaning) → IsAsked (asked.Info text) q → P q
  info_asked text h (informs table) is = subst (λ (t : List ℕ). P (informs t)) (sym is) h
  info_asked text h (puts upload) is = absurd is
  info_asked text h (gets version) is = absurd is
