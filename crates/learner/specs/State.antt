-- What a learner holds, and the look-ups by which contracts see it.
use Rattle.std.specs.Prelude.{◌≡◌, refl, ℕ, ◌<◌, Bool, false, nat_eq, Option, Some, None}
use Rattle.std.specs.Option.{option_map, option_map_or, option_and_then}
use Rattle.std.specs.Coded.{Coded, code_by, coded×, coded_ℕ}
use Rattle.std.specs.declared.hash.FoldHasher.{FoldHasher}
use Rattle.std.specs.declared.hash.BuildHasherDefault.{BuildHasherDefault}
use Rattle.indexmap.specs.IndexMap.{IndexMap, get, spare}
use Rattle.indexmap.specs.Layout.{hash_map_code}
use Rattle.ballots.specs.Ballot.{Ballot, is_same_ballot}
use Rattle.ballots.specs.Majority.{contains}
use Rattle.ballots.specs.declared.value.Value.{Value}
use Rattle.learner.specs.declared.tally.Tally.{Tally}

abbrev pub Hashing : Type 0
Hashing = BuildHasherDefault FoldHasher

-- the tallies of one slot, by ballot
abbrev pub Tallies : Type 0
Tallies = IndexMap Ballot Tally Hashing

-- the number of members, the values that were learned, and the tallies of the slots that were not
pub record LearnerState : Type 0 where
  pub members : ℕ
  pub learned : IndexMap ℕ Value Hashing
  pub tallies : IndexMap ℕ Tallies Hashing

-- a state is stored as its fields
abbrev pub state_code : Coded Value → Coded Ballot → Coded Tally → Coded Hashing → Coded LearnerState
state_code value ballot tally hashing =
    let learned = hash_map_code coded_ℕ value hashing in
    let tallies = hash_map_code coded_ℕ (hash_map_code ballot tally hashing) hashing in
    code_by (ℕ × (IndexMap ℕ Value Hashing × IndexMap ℕ Tallies Hashing)) (coded× coded_ℕ (coded× learned tallies))
    (λ h. (h.members, (h.learned, h.tallies)))
    (λ p. record { members = p.0; learned = p.1.0; tallies = p.1.1 }) (λ _. refl)

-- the value that the slot learned
abbrev pub decided_at : LearnerState → ℕ → Option Value
decided_at state slot = get nat_eq state.learned slot

abbrev pub tally_in : Tallies → Ballot → Option Tally
tally_in tallies ballot = get is_same_ballot tallies ballot

abbrev pub tally_at : LearnerState → ℕ → Ballot → Option Tally
tally_at state slot ballot = option_and_then (λ tallies. tally_in tallies ballot) (get nat_eq state.tallies slot)

abbrev pub has_vote : Tally → ℕ → Bool
has_vote tally member = contains tally.voted member

-- whether the member was counted at the slot and ballot
abbrev pub voted_at : LearnerState → ℕ → Ballot → ℕ → Bool
voted_at state slot ballot member = option_map_or (λ tally. has_vote tally member) (tally_at state slot ballot) false

-- the value of the first counted at the slot and ballot
abbrev pub first_at : LearnerState → ℕ → Ballot → Option Value
first_at state slot ballot = option_map (λ tally. tally.value) (tally_at state slot ballot)

-- a value can be put at the slot, where it has none, and no memory is taken
abbrev pub HasRoomToLearn : LearnerState → ℕ → Type 0
HasRoomToLearn state slot = decided_at state slot ≡ None → 0 < spare state.learned

-- likewise a tally at the ballot
abbrev pub HasRoomForTally : Tallies → Ballot → Type 0
HasRoomForTally tallies ballot = tally_in tallies ballot ≡ None → 0 < spare tallies

-- the slot has its tallies, and room there
pub record HasRoomToCount (state : LearnerState) (slot : ℕ) (ballot : Ballot) : Type 0 where
  pub tallies : Tallies
  pub here : get nat_eq state.tallies slot ≡ Some tallies
  pub room : HasRoomForTally tallies ballot

-- an acceptor's vote can be counted, and the slot learned, and no memory is taken
abbrev pub HasRoomForVote : LearnerState → ℕ → ℕ → Ballot → Type 0
HasRoomForVote state acceptor slot ballot =
    acceptor < state.members → decided_at state slot ≡ None
    → (0 < spare state.learned) × HasRoomToCount state slot ballot
