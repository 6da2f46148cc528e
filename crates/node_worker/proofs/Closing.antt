-- An attempt that is over stays over.
use Rattle.std.proofs.Common.{◌≡◌, ℕ, ◌*◌, ◌==◌, ◌||◌, ◌&&◌, Bool, true, false, not, Option, Some, None, refl, arith}
use Rattle.std.proofs.lemmas.Bool.{ltb-true, lt-ltb}
use Rattle.std.specs.List.{list_any}
use Rattle.std.specs.Option.{option_map, option_map_or}
use Rattle.ballots.specs.Majority.{tally}
use Rattle.ballots.proofs.CallerLemmas.{tally_more}
use Rattle.ballots.specs.declared.message.Message.{Message}
use Rattle.node_worker.specs.Paces.{WatchedAttempt, is_open, is_accepted, has_accepted, is_lost, refuses, decides, accepts, with_message, AreAttempts}

or_true : (b : Bool) → (b || true) ≡ true
or_true true = refl
or_true false = refl

not_true : (a : Bool) → a ≡ true → not a ≡ false
not_true true e = refl
not_true false e = absurd cc

false_and : (a : Bool) → (a && false) ≡ false
false_and true = refl
false_and false = refl

over : (r R d D A a : Bool) → (A ≡ true → a ≡ true) → (not R && (not D && not A)) ≡ false → (not (r || R) && (not (d || D) && not a)) ≡ false
over r true d D A a more e = rw (or_true r) refl
over r false d true A a more e = rw (or_true d, false_and (not (r || false))) refl
over r false d false true a more e = rw (not_true a (more refl), false_and (not (d || false)), false_and (not (r || false))) refl
over r false d false false a more e = absurd cc

accepted_stays : (members : ℕ) (message : Message) (begun : WatchedAttempt) → is_accepted members begun ≡ true → is_accepted members (with_message message begun) ≡ true
accepted_stays members message begun e =
    let more = tally_more members (has_accepted begun) (has_accepted (with_message message begun))
    (λ node _ is. rw (is, or_true (message.sender == node && accepts begun.slot begun.ballot message)) refl) in
    let enough = ltb-true members (2 * tally members (has_accepted begun)) e in
    lt-ltb members (2 * tally members (has_accepted (with_message message begun))) (omega (arith, more, enough))

over_stays : (members : ℕ) (message : Message) (begun : WatchedAttempt) → is_open members begun ≡ false → is_open members (with_message message begun) ≡ false
over_stays members message begun e =
    over (refuses begun.slot begun.ballot message) (list_any (refuses begun.slot begun.ballot) begun.since)
    (decides begun.slot message) (list_any (decides begun.slot) begun.since)
    (is_accepted members begun) (is_accepted members (with_message message begun)) (accepted_stays members message begun) e

pub closed_stays : (members : ℕ) (message : Message) (begun : Option WatchedAttempt) → AreAttempts members begun None → AreAttempts members (option_map (with_message message) begun) None
closed_stays members message None e = e
closed_stays members message (Some begun) e = over_stays members message begun e

or_false : (b : Bool) → (b || false) ≡ b
or_false true = refl
or_false false = refl

pub lost_stays : (members : ℕ) (message : Message) (begun : Option WatchedAttempt) → AreAttempts members begun None
    → option_map_or (is_lost members) (option_map (with_message message) begun) false ≡ option_map_or (is_lost members) begun false
lost_stays members message None e = refl
lost_stays members message (Some begun) e = rw (e, or_false (is_lost members begun)) refl
