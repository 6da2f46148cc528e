-- The calls of a store that fails once: this service's own, so that whoever stands on a store can be tried with it.
use Rattle.std.specs.Prelude.{ℕ, ◌-◌, ◌==◌, if◌then◌else◌, Option, Some, None}

-- how many calls are left before the one that fails, after one call more: none is to fail after that one
abbrev pub calls_after : Option ℕ → Option ℕ
calls_after None = None
calls_after (Some calls) = if calls == 0 then None else Some (calls - 1)
