-- What majorities of recorders tell, and that they meet.
use Rattle.std.proofs.Common.{◌≡◌, ◌≢◌, ℕ, List, ap, subst}
use Rattle.std.specs.List.{All, Contains}
use Rattle.std.proofs.lemmas.List.Elements.{All-contains}
use Rattle.ballots.specs.Acceptance.{acceptance}
use Rattle.ballots.specs.Ballot.{Ballot}
use Rattle.ballots.specs.declared.acceptance.Acceptance.{Acceptance}
use Rattle.ballots.specs.declared.message.Message.{Message}
use Rattle.ballots.specs.declared.message.Body.TheVariants.{Accepted}
use Rattle.ballots.specs.declared.record.Record.{Record}
use Rattle.ballots.specs.declared.value.Value.{Value}
use Rattle.ballots.proofs.CallerLemmas.{majorities_meet}
use Rattle.chosen_records.specs.Chosen.{Records, Differ, IsChosenAt, IsRecorded, IsToldChosen, told_of}

recorded_told : (all : List (List Record)) (told : List Message) (node slot : ℕ) (accepted : Acceptance) → All (IsRecorded all) told → Contains told (told_of node slot accepted)
    → Records all node slot accepted
recorded_told all told node slot accepted each has =
    let it : IsRecorded all (told_of node slot accepted) = All-contains (IsRecorded all) told (told_of node slot accepted) each has in
    subst (Records all node slot) (same it.0 it.1) it.2
  where
    same : (other : Acceptance) → told_of node slot accepted ≡ told_of node slot other → other ≡ accepted
    same other e =
        let bodies : Accepted accepted ≡ Accepted other = ap (λ (m : Message). m.body) e in
        cc

pub chosen_of_told : (members : ℕ) (all : List (List Record)) (told : List Message) (slot : ℕ) → All (IsRecorded all) told → IsToldChosen members told slot
    → (ballot : Ballot) × (value : Value) × IsChosenAt members all slot ballot value
chosen_of_told members all told slot each is = (
  is.0,
  is.1,
  record {
    is_in = is.2.is_in;
    majority = is.2.majority;
    each = λ node lt in'. recorded_told all told node slot (acceptance is.0 is.1) each (is.2.each node lt in');
  },
)

pub two_chosen_differ : (members : ℕ) (all : List (List Record)) (slot : ℕ) (ballot : Ballot) (one other : Value) → IsChosenAt members all slot ballot one
    → IsChosenAt members all slot ballot other → one ≢ other → Differ all slot
two_chosen_differ members all slot ballot one other first second apart =
    let shared = majorities_meet members first.is_in second.is_in first.majority second.majority in
    record {
      ballot = ballot;
      one = shared.member;
      other = shared.member;
      value = one;
      another = other;
      has_one = first.each shared.member shared.within shared.in_first;
      has_other = second.each shared.member shared.within shared.in_second;
      differ = apart;
    }
