-- What the fields of one number mean for a message: Protocol Buffers, "Encoding", "Last One Wins". A field that is absent
-- means its default, and one of another wire type than the message gives it means nothing.
use Rattle.std.specs.Prelude.{ℕ, Bool, true, false, not, ◌||◌, ◌==◌, if◌then◌else◌, List, [], ◌∷◌, Option, Some, None}
use Rattle.std.specs.List.{list_all, filter_map}
use Rattle.proto_fields.specs.Field.{Held, Varint, Eight, Bytes, Four, Field}

-- the last of a list, or what is given
abbrev pub last_or : {A : Type 0} → A → List A → A
last_or d [] = d
last_or d (x ∷ xs) = last_or x xs

-- a number, or bytes, where that is what a field holds
abbrev pub number_in : Held → Option ℕ
number_in (Varint n) = Some n
number_in (Eight bytes) = None
number_in (Bytes bytes) = None
number_in (Four bytes) = None

abbrev pub bytes_in : Held → Option (List ℕ)
bytes_in (Varint n) = None
bytes_in (Eight bytes) = None
bytes_in (Bytes bytes) = Some bytes
bytes_in (Four bytes) = None

abbrev pub is_there : {A : Type 0} → Option A → Bool
is_there None = false
is_there (Some x) = true

-- each field of this number holds such a thing
abbrev pub all_hold : {A : Type 0} → (Held → Option A) → ℕ → List Field → Bool
all_hold thing number fields = list_all (λ f. not (f.number == number) || is_there (thing f.held)) fields

-- the things that the fields of this number hold, in order
abbrev pub things_of : {A : Type 0} → (Held → Option A) → ℕ → List Field → List A
things_of thing number fields = filter_map (λ f. if f.number == number then thing f.held else None) fields

-- the last of them, or the default where there is none; nothing where a field of this number holds something else
abbrev pub meant : {A : Type 0} → (Held → Option A) → A → ℕ → List Field → Option A
meant thing default number fields = if all_hold thing number fields then Some (last_or default (things_of thing number fields)) else None

-- what the fields of this number mean as a number, and as bytes
unfoldable pub number_meant : ℕ → List Field → Option ℕ
number_meant number fields = meant number_in 0 number fields

unfoldable pub bytes_meant : ℕ → List Field → Option (List ℕ)
bytes_meant number fields = meant bytes_in [] number fields

-- what was meant so far, after one more field of the number
abbrev pub after : {A : Type 0} → Option A → Option A → Option A
after None more = None
after (Some x) more = more
