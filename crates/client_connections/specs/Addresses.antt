-- Addresses of servers: RFC 791, section 2.3, for those of IPv4, whose dotted form is that of RFC 6943, section 3.1.1,
-- and RFC 9293, section 3.1, for ports. Which texts name a server is this program's own.
use Rattle.std.specs.Prelude.{◌≡◌, ◌⊎◌, ◌<◌, ◌≤◌, ◌^◌, ℕ, List, [], ◌∷◌, ◌++◌, codes}
use Rattle.std.specs.Str.Parse.{IsNumeral, digits_value}
use Rattle.std.specs.declared.net.socket_addr.SocketAddrV4.{SocketAddrV4}
use Rattle.std.specs.Net.Addr.{ipv4_octets}
use Rattle.std.specs.Net.Socket.{v4_ip, v4_port}
use Rattle.std.specs.Net.Grammar.{IsSocketV4Text}

-- decimal digits, one or more, that write a number of 16 bits
abbrev pub WritesPort : List ℕ → ℕ → Type 0
WritesPort digits n = IsNumeral 10 digits × (digits_value 10 digits ≡ n) × (n < 2 ^ 16)

-- `localhost` for the host, which is 127.0.0.1, a colon, and the port
abbrev pub IsLocal : List ℕ → SocketAddrV4 → Type 0
IsLocal text address =
    (digits : List ℕ) × (text ≡ codes "localhost:" ++ digits) × WritesPort digits (v4_port address)
    × (ipv4_octets (v4_ip address) ≡ 127 ∷ 0 ∷ 0 ∷ 1 ∷ [])

-- the host in its dotted form, or as `localhost`, and the port
abbrev pub WritesAddress : List ℕ → SocketAddrV4 → Type 0
WritesAddress text address = IsSocketV4Text text address ⊎ IsLocal text address

-- a server has a port from 1 on
abbrev pub NamesServer : List ℕ → SocketAddrV4 → Type 0
NamesServer text address = WritesAddress text address × (1 ≤ v4_port address)

-- the text writes no address, or the address of no server
abbrev pub NamesNone : List ℕ → Type 0
NamesNone text =
    ((address : SocketAddrV4) → ¬ WritesAddress text address)
    ⊎ ((address : SocketAddrV4) × WritesAddress text address × (v4_port address ≡ 0))

-- the location of a server: `plain+tcp://` and its address
abbrev pub IsLocation : List ℕ → SocketAddrV4 → Type 0
IsLocation text address = (named : List ℕ) × (text ≡ codes "plain+tcp://" ++ named) × NamesServer named address

abbrev pub IsNoLocation : List ℕ → Type 0
IsNoLocation text = (named : List ℕ) → text ≡ codes "plain+tcp://" ++ named → NamesNone named
