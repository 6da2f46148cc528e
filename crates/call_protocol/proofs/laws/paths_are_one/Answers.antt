use Rattle.std.proofs.Common.{inl, inr, refl, sym}
use Rattle.call_protocol.specs.Methods.{method_name}
use Rattle.call_protocol.proofs.Paths.{same_names}
use Rattle.call_protocol.proofs.laws.paths_are_one.Goals as goal

pub returns-clause-apart : goal.returns-clause-apart
returns-clause-apart c x refusal fault =
    elim fault [
      | inl h ↦ h.0 (method_name x) refl
      | inr h ↦ h.2 x (sym (same_names (method_name x) h.0 h.1))
    ]
