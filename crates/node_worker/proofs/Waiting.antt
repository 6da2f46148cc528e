-- A wait that is doubled, and an attempt that begins.
use Rattle.std.proofs.Common.{◌≡◌, ◌==◌, ℕ, zero, suc, ◌*◌, ◌^◌, ◌<◌, ◌≤◌, inl, inr, Bool, true, false, nat_lt, not, ◌&&◌, [], refl, ap, sym, ◌∙◌, arith, min}
use Rattle.std.proofs.Math.Nat.{pow-suc, min-eq_left, min-eq_right}
use Rattle.std.proofs.lemmas.Bool.{cases_lt, ltb-true, ne_eqb}
use Rattle.std.proofs.lemmas.Nat.{pow_pos}
use Rattle.ballots.specs.Majority.{tally}
use Rattle.ballots.specs.Ballot.{Ballot}
use Rattle.ballots.proofs.CallerLemmas.{tally_none}
use Rattle.node_worker.specs.Paces.{is_open}

-- at half of the longest wait or more it is the longest
pub longest : (asked wait : ℕ) → wait ≡ min (50 * 2 ^ asked) 51200 → 25600 ≤ wait → 51200 ≡ min (50 * 2 ^ suc asked) 51200
longest asked wait is enough =
    let grown : 50 * 2 ^ suc asked ≡ (50 * 2 ^ asked) * 2 = ap (λ (n : ℕ). 50 * n) (pow-suc 2 asked) ∙ omega arith in
    elim (cases_lt (50 * 2 ^ asked) 51200) as (λ _. 51200 ≡ min (50 * 2 ^ suc asked) 51200) [
      | inl below ↦
          let least : 25600 ≤ 50 * 2 ^ asked = rw (sym (is ∙ min-eq_left {n = 50 * 2 ^ asked} {m = 51200} (omega (arith, below)))) enough in
          sym (min-eq_right {n = 51200} {m = 50 * 2 ^ suc asked} (omega (arith, grown, least)))
      | inr above ↦ sym (min-eq_right {n = 51200} {m = 50 * 2 ^ suc asked} (omega (arith, grown, above)))
    ]

-- and below that twice as long
pub doubled : (asked wait : ℕ) → wait ≡ min (50 * 2 ^ asked) 51200 → wait < 25600 → wait * 2 ≡ min (50 * 2 ^ suc asked) 51200
doubled asked wait is short =
    let grown : 50 * 2 ^ suc asked ≡ (50 * 2 ^ asked) * 2 = ap (λ (n : ℕ). 50 * n) (pow-suc 2 asked) ∙ omega arith in
    elim (cases_lt (50 * 2 ^ asked) 51200) as (λ _. wait * 2 ≡ min (50 * 2 ^ suc asked) 51200) [
      | inl below ↦
          let same : wait ≡ 50 * 2 ^ asked = is ∙ min-eq_left {n = 50 * 2 ^ asked} {m = 51200} (omega (arith, below)) in
          ap (λ (n : ℕ). n * 2) same ∙ (sym grown ∙ sym (min-eq_left {n = 50 * 2 ^ suc asked} {m = 51200} (omega (arith, grown, same, short))))
      | inr above ↦
          let whole : wait ≡ 51200 = is ∙ min-eq_right {n = 51200} {m = 50 * 2 ^ asked} (omega (arith, above)) in
          absurd (omega (arith, whole, short))
    ]

never : (b : Bool) → (b ≡ true → ⊥) → (true && (true && not b)) ≡ true
never true isnt = absurd (isnt refl)
never false isnt = refl

-- who has tried nothing waits 50 ms, and who has tried something longer
pub fresh : (tries wait : ℕ) → wait ≡ min (50 * 2 ^ tries) 51200 → (wait == 50) ≡ (tries == 0)
fresh zero wait is = rw is refl
fresh (suc tries) wait is =
    let grown : 50 * 2 ^ suc tries ≡ (50 * 2 ^ tries) * 2 = ap (λ (n : ℕ). 50 * n) (pow-suc 2 tries) ∙ omega arith in
    let least = pow_pos tries in
    let longer : wait ≡ 50 → ⊥ =
    elim (cases_lt (50 * 2 ^ suc tries) 51200) as (λ _. wait ≡ 50 → ⊥) [
      | inl below ↦ λ e. omega (arith, e, is ∙ min-eq_left {n = 50 * 2 ^ suc tries} {m = 51200} (omega (arith, below)), grown, least)
      | inr above ↦ λ e. omega (arith, e, is ∙ min-eq_right {n = 51200} {m = 50 * 2 ^ suc tries} (omega (arith, above)))
    ] in
    ne_eqb wait 50 longer ∙ sym (ne_eqb (suc tries) 0 (λ e. omega (arith, e)))

-- an attempt that nothing has answered is open
pub opens : (members slot : ℕ) (ballot : Ballot) → is_open members (record { slot = slot; ballot = ballot; since = [] }) ≡ true
opens members slot ballot =
    never (nat_lt members (2 * tally members (λ node. false)))
    (λ e. let less = ltb-true members (2 * tally members (λ node. false)) e in omega (arith, less, tally_none members))
