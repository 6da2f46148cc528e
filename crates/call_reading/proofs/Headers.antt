-- What headers show, or why they show nothing.
use Rattle.std.proofs.Common.{◌≡◌, ◌⊎◌, ℕ, List, Result, Err, refl, ap, ◌∙◌, inl, inr}
use Rattle.header_types.specs.Header.{Header, ShowsHeader}
use Rattle.header_types.specs.declared.fault.MetaFault.{MetaFault}
use Rattle.header_types.specs.declared.fault.MetaFault.TheVariants as metas
use Rattle.header_reading.specs.Faults.{HeaderFault}
use Rattle.call_protocol.specs.declared.refusal.CallRefusal.TheVariants as refusals
use Rattle.call_reading.specs.Faults.{IsNoHeader}

-- what could not be read is no header, or memory was refused
pub no_header : {T : Type 0} (header : List ℕ) (r : Result T MetaFault) (fault : MetaFault) → r ≡ Err fault → (fault ≡ metas.OutOfMemory) ⊎ HeaderFault header fault
    → (r ≡ Err metas.OutOfMemory → (shown : Header) × ShowsHeader header shown) → IsNoHeader header (refusals.Meta fault)
no_header header r fault is stands memory =
    record {
      fault = fault;
      is = refl;
      stands =
          elim stands [
            | inl e ↦ inr (e, memory (is ∙ ap (λ (f : MetaFault). Err f) e))
            | inr h ↦ inl h
          ];
    }
