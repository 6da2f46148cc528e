-- Texts that name servers.
use Rattle.std.proofs.Common.{◌≡◌, ℕ, List, ◌++◌, codes, Option, Some, None, inl, inr, drop, MatchOption, subst, sym, refl}
use Rattle.std.specs.declared.net.socket_addr.SocketAddrV4.{SocketAddrV4}
use Rattle.std.specs.Fmt.{digits}
use Rattle.std.specs.Net.Grammar.{IsSocketV4Text}
use Rattle.std.specs.Net.Text.{dotted_text}
use Rattle.client_connections.specs.Addresses.{IsLocal, WritesAddress, NamesNone, NamesServer, IsLocation, IsNoLocation}

pub local_alone : (text : List ℕ) (found : Option SocketAddrV4) → ((a : SocketAddrV4) → ¬ IsSocketV4Text text a)
    → MatchOption found ((a : SocketAddrV4) → ¬ IsLocal text a) (IsLocal text)
    → MatchOption found ((a : SocketAddrV4) → ¬ WritesAddress text a) (WritesAddress text)
local_alone text None dotted local = λ a w. elim w [ inl d ↦ dotted a d | inr l ↦ local a l ]
local_alone text (Some a) dotted local = inr local

pub located : (text named : List ℕ) (n : ℕ) (found : Option SocketAddrV4) → text ≡ codes "plain+tcp://" ++ drop n text → named ≡ drop n text
    → MatchOption found (NamesNone named) (NamesServer named) → MatchOption found (IsNoLocation text) (IsLocation text)
located text named n None is rest none =
    λ other e. let same : other ≡ named = cc in subst NamesNone (sym same) none
located text named n (Some a) is rest some = (named, cc, some)

-- 127.0.0.1 in its dotted form
pub loopback_text : codes "127.0.0.1" ≡ dotted_text 127 0 0 1
unfolding digits
loopback_text = refl
