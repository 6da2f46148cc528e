use Rattle.std.proofs.Common.{◌≡◌, ◌++◌, codes, refl, lit<}
use Rattle.client_connections.proofs.Named.{loopback_text}
use Rattle.client_connections.proofs.laws.localhost_is_127_0_0_1.Goals as goal

pub returns : goal.returns
returns c = λ digits address local.
    let same : digits ≡ local.0 = cc in
    let behind : codes ":" ++ digits ≡ codes ":" ++ local.0 = cc in (
      codes "127.0.0.1",
      codes ":" ++ digits,
      refl,
      record { a = 127; b = 0; c = 0; d = 1; fit = (lit< tt, lit< tt, lit< tt, lit< tt); value = local.3; spelled = loopback_text },
      (local.0, behind, (local.2.0, local.2.1), local.2.2),
    )
