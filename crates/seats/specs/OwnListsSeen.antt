-- What contracts see of either list of what a node did itself.
use Rattle.std.specs.Prelude.{◌-◌, true, false, vec_len, vec_capacity}
use Rattle.seats.specs.declared.own_entries.Either.{Either}
use Rattle.seats.specs.declared.own_entries.Either.TheVariants.{Held, Counted}
use Rattle.seats.specs.OwnLists.{OwnList}

abbrev pub own_list : Either → OwnList
own_list (Held entries) = record { entries = entries.items; keeps = true; room = vec_capacity entries - vec_len entries }
own_list (Counted counted) = record { entries = counted.entries; keeps = false; room = counted.room }
