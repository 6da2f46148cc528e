-- What was told as decided, or shows a majority, was chosen.
use Rattle.std.proofs.Common.{◌≡◌, ℕ, IsSomeAnd, List, sym, subst}
use Rattle.std.specs.List.{Any}
use Rattle.ballots.specs.Ballot.{Ballot}
use Rattle.ballots.specs.declared.value.Value.{Value}
use Rattle.ballots.specs.declared.message.Message.{Message}
use Rattle.ballots.specs.declared.message.Body.{Body}
use Rattle.ballots.specs.declared.message.Body.TheVariants as body
use Rattle.lawful_histories.specs.Saying.{Accepted, Decided}
use Rattle.lawful_histories.specs.Messages.{SaysBefore, KeepsTheRules}
use Rattle.run_breaches.specs.Earlier.{acceptance_in, Accepts, Decides, MostAccepted, WasChosen, ShowsChosen}
use Rattle.run_breaches.proofs.Majorities.{most_weaker, some_of}
use Rattle.run_breaches.proofs.Places.{found_says}
use Rattle.run_breaches.proofs.Following.{as_accepted}
use Rattle.run_breaches.proofs.Sendings.{decision_is}

module _ (n s : ℕ) (before : List Message) (v : Value) where
  pub chosen_where_decided : KeepsTheRules n before → Any (Decides s v) before → WasChosen n s before v
  chosen_where_decided rules h =
      let e : Message = h.1 in
      let it = rules.decided_was_chosen h.0 s v (found_says before (Decides s v) h s (Decided v) (e.sender, decision_is s v e h.4)) in (
        it.0,
        most_weaker n (λ a. SaysBefore before h.0 s (Accepted a it.0 v)) (λ a. Any (Accepts s it.0 v a) before) (λ a lt was.
            as_accepted n s before it.0 v a was.0 was.2) it.1,
      )

  chosen_body : (x : Body) → IsSomeAnd (acceptance_in x) (λ p. (p.value ≡ v) × MostAccepted n s before p.ballot v) → WasChosen n s before v
  chosen_body (body.Accepted q) h = (q.ballot, h.1)
  chosen_body other h = absurd h

  pub chosen_where_shown : Any (ShowsChosen n s before v) before → WasChosen n s before v
  chosen_where_shown h = chosen_body h.1.body h.4.1

  shown_body : (b : Ballot) (most : MostAccepted n s before b v) (x : Body) → IsSomeAnd (acceptance_in x) (λ p. (p.ballot ≡ b) × (p.value ≡ v))
      → IsSomeAnd (acceptance_in x) (λ p. (p.value ≡ v) × MostAccepted n s before p.ballot v)
  shown_body b most (body.Accepted q) h = (h.1, subst (λ (c : Ballot). MostAccepted n s before c v) (sym h.0) most)
  shown_body b most other h = absurd h

  pub shown_where_chosen : WasChosen n s before v → Any (ShowsChosen n s before v) before
  shown_where_chosen chosen =
      let b : Ballot = chosen.0 in
      let voter = some_of n (λ a. Any (Accepts s b v a) before) chosen.1 in
      let vote = (chosen.1).each voter.member voter.within voter.is_in in
      (vote.0, vote.1, vote.2, vote.3, (vote.4.0, shown_body b chosen.1 vote.1.body vote.4.2))
