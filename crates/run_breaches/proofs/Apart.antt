-- A message keeps the rules after all messages exactly where it does after those of its slot.
use Rattle.std.proofs.Common.{◌≡◌, ◌≢◌, ℕ, ◌+◌, ◌<◌, ◌↔◌, false, nat_eq, unwrap_or, length, take, get_or, arith, List, Option, [], ◌∷◌, ◌++◌, Some, None, inl, inr, refl, sym, subst, ◌∙◌, ap}
use Rattle.std.specs.List.{Any}
use Rattle.std.proofs.lemmas.Bool.Decides.{eqb_tells}
use Rattle.ballots.specs.Ballot.{Ballot}
use Rattle.ballots.specs.declared.value.Value.{Value}
use Rattle.ballots.specs.declared.message.Message.{Message}
use Rattle.ballots.specs.declared.message.Body.{Body}
use Rattle.ballots.specs.declared.message.Body.TheVariants as body
use Rattle.lawful_histories.specs.Saying.{Report}
use Rattle.lawful_histories.specs.Lawful.{IsLawful}
use Rattle.run_breaches.specs.FirstBreach.{IsFirstUnlawful}
use Rattle.run_breaches.specs.Earlier.{LetsPropose, LetsAccept, LetsPromise, LetsReport, Proposes, Accepts, Promises, MostPromised, IsWithin, ShowsSafe, MayBeProposed, WasChosen}
use Rattle.run_breaches.specs.Rules.{IsReportProposed, BodyKeeps, Keeps}
use Rattle.run_breaches.specs.BreachLaws.{KeepingIsLawful}
use Rattle.run_breaches.specs.Slots.{of_slot, messages_at, Indexes, IsLawfulBySlot, Joins}
use Rattle.run_breaches.proofs.Majorities.{most_weaker}
use Rattle.run_breaches.proofs.Reported.{reports_more}
use Rattle.run_breaches.proofs.Sets.{one_more}
use Rattle.run_breaches.proofs.Found.{next_is_lawful}
use Rattle.run_breaches.proofs.Filters.{any_there, any_of, all_of, all_there, slot_more, slot_same}

module _ (n s : ℕ) (before : List Message) where
  abbrev own : List Message
  own = of_slot s before

  promised_there : (b : Ballot) (P : Report → Type 0) → MostPromised n s own b P → MostPromised n s before b P
  promised_there b P most = most_weaker n (λ a. Any (Promises s b P a) own) (λ a. Any (Promises s b P a) before) (λ a lt h. any_there s before (Promises s b P a) h) most

  promised_own : (b : Ballot) (P : Report → Type 0) → MostPromised n s before b P → MostPromised n s own b P
  promised_own b P most =
      most_weaker n (λ a. Any (Promises s b P a) before) (λ a. Any (Promises s b P a) own) (λ a lt h. any_of s before (Promises s b P a) (λ e p. p.0) h) most

  safe_there : (b : Ballot) (v : Value) → MayBeProposed n s own b v → MayBeProposed n s before b v
  safe_there b v (inl free) = inl (promised_there b (IsWithin None) free)
  safe_there b v (inr found) =
      let more = any_there s before (ShowsSafe n s own b v) found in
      inr (
        more.0,
        more.1,
        more.2,
        more.3,
        reports_more n s b (λ q. (q.value ≡ v) × MostPromised n s own b (IsWithin (Some q.ballot))) (λ q. (q.value ≡ v) × MostPromised n s before b (IsWithin (Some q.ballot)))
            (λ q h. (h.0, promised_there b (IsWithin (Some q.ballot)) h.1)) more.1 more.4,
      )

  safe_own : (b : Ballot) (v : Value) → MayBeProposed n s before b v → MayBeProposed n s own b v
  safe_own b v (inl free) = inl (promised_own b (IsWithin None) free)
  safe_own b v (inr found) =
      let more = any_of s before (ShowsSafe n s before b v) (λ e p. p.0) found in
      inr (
        more.0,
        more.1,
        more.2,
        more.3,
        reports_more n s b (λ q. (q.value ≡ v) × MostPromised n s before b (IsWithin (Some q.ballot))) (λ q. (q.value ≡ v) × MostPromised n s own b (IsWithin (Some q.ballot)))
            (λ q h. (h.0, promised_own b (IsWithin (Some q.ballot)) h.1)) more.1 more.4,
      )

  chosen_there : (v : Value) → WasChosen n s own v → WasChosen n s before v
  chosen_there v (b, most) = (b, most_weaker n (λ a. Any (Accepts s b v a) own) (λ a. Any (Accepts s b v a) before) (λ a lt h. any_there s before (Accepts s b v a) h) most)

  chosen_own : (v : Value) → WasChosen n s before v → WasChosen n s own v
  chosen_own v (b, most) =
      (b, most_weaker n (λ a. Any (Accepts s b v a) before) (λ a. Any (Accepts s b v a) own) (λ a lt h. any_of s before (Accepts s b v a) (λ e p. p.0) h) most)

  proposed_there : (r : Report) → IsReportProposed s own r → IsReportProposed s before r
  proposed_there None h = tt
  proposed_there (Some q) h = any_there s before (Proposes s q.ballot q.value) h

  proposed_own : (r : Report) → IsReportProposed s before r → IsReportProposed s own r
  proposed_own None h = tt
  proposed_own (Some q) h = any_of s before (Proposes s q.ballot q.value) (λ e p. p.0) h

  keeps_there : (a : ℕ) (x : Body) → BodyKeeps n s own a x → BodyKeeps n s before a x
  keeps_there a (body.Prepare b) h = tt
  keeps_there a (body.Promise b r) h = record {
    above = all_there s before (LetsPromise s a b) (λ e apart same. absurd (apart same)) h.above;
    highest = all_there s before (LetsReport s a r) (λ e apart same. absurd (apart same)) h.highest;
    below = h.below;
    proposed = proposed_there r h.proposed;
  }
  keeps_there a (body.Nack b c) h = tt
  keeps_there a (body.Accept p) h = record {
    only = all_there s before (LetsPropose s p.ballot p.value) (λ e apart same. absurd (apart same)) h.only;
    safe = safe_there p.ballot p.value h.safe;
  }
  keeps_there a (body.Accepted p) h = record {
    proposed = any_there s before (Proposes s p.ballot p.value) h.proposed;
    least = all_there s before (LetsAccept s a p.ballot) (λ e apart same. absurd (apart same)) h.least;
  }
  keeps_there a body.Ask h = tt
  keeps_there a (body.Decided v) h = chosen_there v h

  keeps_own : (a : ℕ) (x : Body) → BodyKeeps n s before a x → BodyKeeps n s own a x
  keeps_own a (body.Prepare b) h = tt
  keeps_own a (body.Promise b r) h = record {
    above = all_of s before (LetsPromise s a b) h.above;
    highest = all_of s before (LetsReport s a r) h.highest;
    below = h.below;
    proposed = proposed_own r h.proposed;
  }
  keeps_own a (body.Nack b c) h = tt
  keeps_own a (body.Accept p) h = record { only = all_of s before (LetsPropose s p.ballot p.value) h.only; safe = safe_own p.ballot p.value h.safe }
  keeps_own a (body.Accepted p) h = record {
    proposed = any_of s before (Proposes s p.ballot p.value) (λ e p. p.0) h.proposed;
    least = all_of s before (LetsAccept s a p.ballot) h.least;
  }
  keeps_own a body.Ask h = tt
  keeps_own a (body.Decided v) h = chosen_own v h

pub slots_apart : (n : ℕ) (before : List Message) (m : Message) → (Keeps n (of_slot m.slot before) m ↔ Keeps n before m)
slots_apart n before m = ((λ h. keeps_there n m.slot before m.sender m.body h), (λ h. keeps_own n m.slot before m.sender m.body h))

-- ---- one message more in the index

module _ (n : ℕ) (before : List Message) (m : Message) (old new : List (ℕ × List Message)) (joins : Joins old new m) where
  pub indexes_more : Indexes old before → Indexes new (before ++ m ∷ [])
  indexes_more had s = elim (eqb_tells m.slot s) as (λ _. messages_at new s ≡ of_slot s (before ++ m ∷ [])) [
    | inl same ↦
        subst (λ (i : ℕ). messages_at new i ≡ of_slot i (before ++ m ∷ [])) same.1 (joins.here ∙ ap (λ (l : List Message). l ++ m ∷ []) (had m.slot) ∙ sym (slot_more m.slot before m refl))
    | inr apart ↦ joins.others s (λ same. absurd (apart.1 (sym same))) ∙ had s ∙ sym (slot_same s before m apart.0)
  ]

  pub lawful_more : KeepingIsLawful → IsLawfulBySlot n before → Keeps n (of_slot m.slot before) m → IsLawfulBySlot n (before ++ m ∷ [])
  lawful_more law lawful keeps s = elim (eqb_tells m.slot s) as (λ _. IsLawful n (of_slot s (before ++ m ∷ []))) [
    | inl same ↦
        subst (λ (i : ℕ). IsLawful n (of_slot i (before ++ m ∷ []))) same.1 (subst (IsLawful n) (sym (slot_more m.slot before m refl)) ((law n (of_slot m.slot before) m (lawful m.slot)).1 keeps))
    | inr apart ↦ subst (IsLawful n) (sym (slot_same s before m apart.0)) (lawful s)
  ]

-- ---- the message in a place, after those of its slot

module _ (n : ℕ) (sent : List Message) (place : ℕ) (m : Message) (within : place < length sent) (is : m ≡ get_or sent place m) where
  pub refused : KeepingIsLawful → IsLawful n (take place sent) → (Keeps n (of_slot m.slot (take place sent)) m → ⊥) → IsFirstUnlawful n sent place
  refused law before not_kept = record {
    within = within;
    before = before;
    breaks = λ lawful. not_kept ((slots_apart n (take place sent) m).1 ((law n (take place sent) m before).0 (subst (IsLawful n) (sym (one_more sent place m within is)) lawful)));
  }

  pub joined : KeepingIsLawful → (old new : List (ℕ × List Message)) → Joins old new m → Keeps n (messages_at old m.slot) m
      → IsLawful n (take place sent) × Indexes old (take place sent) × IsLawfulBySlot n (take place sent)
      → IsLawful n (take (place + 1) sent) × Indexes new (take (place + 1) sent) × IsLawfulBySlot n (take (place + 1) sent)
  joined law old new joins kept so_far =
      let before : List Message = take place sent in
      let own_kept : Keeps n (of_slot m.slot before) m = subst (λ (l : List Message). Keeps n l m) (so_far.1 m.slot) kept in
      let next = one_more sent place m within is in (
        next_is_lawful n sent place m within is so_far.0 law ((slots_apart n before m).0 own_kept),
        subst (Indexes new) next (indexes_more n before m old new joins so_far.1),
        subst (IsLawfulBySlot n) next (lawful_more n before m old new joins law so_far.2 own_kept),
      )

-- ---- look-ups

-- the test by which another slot is found does not pass
pub apart_is_false : (slot other : ℕ) → other ≢ slot → nat_eq slot other ≡ false
apart_is_false slot other apart = elim (eqb_tells slot other) [ inl same ↦ absurd (apart (sym same.1)) | inr differs ↦ differs.0 ]

pub same_messages : (old new : Option (List Message)) → new ≡ old → unwrap_or new [] ≡ unwrap_or old []
same_messages old new same = ap (λ (o : Option (List Message)). unwrap_or o []) same
