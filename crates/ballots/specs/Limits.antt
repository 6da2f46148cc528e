-- The limits of this service, as numbers. The program has constants of the same names; `limits_are_these` says that they
-- are equal.
use Rattle.std.specs.Prelude.{ℕ}

-- the greatest round of a ballot
abbrev pub max_round : ℕ
max_round = 4000000000

-- the greatest number of a node
abbrev pub max_node : ℕ
max_node = 6

-- the most nodes that a cluster has
abbrev pub max_members : ℕ
max_members = 7

-- the greatest number of a slot
abbrev pub max_slot : ℕ
max_slot = 999999

-- the most bytes of an upload's value
abbrev pub max_upload_bytes : ℕ
max_upload_bytes = 16777216

-- The most bytes of a message's encoding, of a Promise that reports: two of the kind, two of the sender, four of the slot,
-- eight of each ballot, and the value behind five.
abbrev pub max_message_bytes : ℕ
max_message_bytes = 16777245

-- The most bytes of a record's: two of the kind, four of the slot, eight of the ballot, and the value behind five.
abbrev pub max_record_bytes : ℕ
max_record_bytes = 16777235
