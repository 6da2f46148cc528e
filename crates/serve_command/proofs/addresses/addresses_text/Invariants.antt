use Rattle.std.proofs.Common.{◌≡◌, string_bytes}
use Rattle.serve_command.specs.Addresses.{addresses_text}
use Rattle.serve_command.proofs.addresses.addresses_text.Given as goal

abbrev pub invariant-loop-node : goal.invariant-loop-node
invariant-loop-node l = string_bytes l.text ≡ addresses_text l.first_port l.node
