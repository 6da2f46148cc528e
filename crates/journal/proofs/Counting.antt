-- How many entries each node has, with one more.
use Rattle.std.proofs.Common.{◌≡◌, ◌≢◌, ℕ, suc, ◌+◌, ◌<◌, ◌≤◌, ◌==◌, Bool, true, false, if◌then◌else◌, List, [], ◌∷◌, ◌++◌, length, length-append, slice_set, slice_index_or, refl, sym, ap, subst, arith, ◌∙◌}
use Rattle.std.proofs.lemmas.List.{append-nil, get_or-set_same, get_or-set_other}
use Rattle.std.proofs.lemmas.List.Elements.{filter-append}
use Rattle.std.proofs.lemmas.Bool.{eq-eqb, ne_eqb, eqb-true}
use Rattle.node_parts.specs.ballots.specs.Limits.{max_members}
use Rattle.node_parts.specs.histories.specs.Event.{node_of}
use Rattle.node_parts.specs.histories.specs.Owning.{OwnEntry}
use Rattle.journal.specs.Logged.{own_of, AreCounted}

one_or_none : (here : Bool) (entry : OwnEntry) (others : List OwnEntry) → length (if here then entry ∷ others else others) ≤ suc (length others)
one_or_none true entry others = omega arith
one_or_none false entry others = omega arith

-- no node has more than all
pub fewer : (node : ℕ) (log : List OwnEntry) → length (own_of node log) ≤ length log
fewer node [] = omega arith
fewer node (entry ∷ log) = omega (arith, fewer node log, one_or_none (node_of entry.step.event == node) entry (own_of node log))

own_more : (node : ℕ) (log : List OwnEntry) (entry : OwnEntry) → own_of node (log ++ entry ∷ []) ≡ own_of node log ++ (if node_of entry.step.event == node then entry ∷ [] else [])
own_more node log entry = filter-append (λ (e : OwnEntry). node_of e.step.event == node) log (entry ∷ [])

-- the node of the entry has one more
own_one_more : (node : ℕ) (log : List OwnEntry) (entry : OwnEntry) → node_of entry.step.event ≡ node → length (own_of node (log ++ entry ∷ [])) ≡ length (own_of node log) + 1
own_one_more node log entry is =
    ap length (own_more node log entry ∙ ap (λ (b : Bool). own_of node log ++ (if b then entry ∷ [] else [])) (eq-eqb (node_of entry.step.event) node is))
    ∙ length-append (own_of node log) (entry ∷ [])

-- another has as many as before
own_as_many : (node : ℕ) (log : List OwnEntry) (entry : OwnEntry) → node_of entry.step.event ≢ node → length (own_of node (log ++ entry ∷ [])) ≡ length (own_of node log)
own_as_many node log entry differs =
    ap length (own_more node log entry
    ∙ (ap (λ (b : Bool). own_of node log ++ (if b then entry ∷ [] else [])) (ne_eqb (node_of entry.step.event) node differs) ∙ append-nil (own_of node log)))

false_is_true : false ≡ true → ⊥
false_is_true is = cc

-- the entry counts at its node, and nowhere else
counted_at : (counts : List ℕ) (log : List OwnEntry) (entry : OwnEntry) (node place : ℕ) (here : Bool) → (place == node) ≡ here → place ≡ node_of entry.step.event → place < length counts
    → node < max_members → AreCounted counts log → slice_index_or (slice_set counts place (slice_index_or counts place 0 + 1)) node 0 ≡ length (own_of node (log ++ entry ∷ []))
counted_at counts log entry node place true is of within member counted =
    let same = eqb-true place node is in
    subst (λ (n : ℕ). slice_index_or (slice_set counts place (slice_index_or counts place 0 + 1)) n 0 ≡ length (own_of n (log ++ entry ∷ []))) same
    (get_or-set_same counts place (slice_index_or counts place 0 + 1) 0 within
    ∙ (ap (λ (n : ℕ). n + 1) (counted place (subst (λ (n : ℕ). n < max_members) (sym same) member))
    ∙ sym (own_one_more place log entry (sym of))))
counted_at counts log entry node place false is of within member counted =
    let differs : place ≢ node = λ same. false_is_true (sym is ∙ eq-eqb place node same) in
    get_or-set_other counts place node (slice_index_or counts place 0 + 1) 0 (λ same. differs (sym same))
    ∙ (counted node member ∙ sym (own_as_many node log entry (λ same. differs (of ∙ same))))

pub counted_more : (counts : List ℕ) (log : List OwnEntry) (entry : OwnEntry) (place : ℕ) → place ≡ node_of entry.step.event → place < length counts → AreCounted counts log
    → AreCounted (slice_set counts place (slice_index_or counts place 0 + 1)) (log ++ entry ∷ [])
counted_more counts log entry place of within counted node member = counted_at counts log entry node place (place == node) refl of within member counted

-- an entry of none of them counts nowhere
pub counted_still : (counts : List ℕ) (log : List OwnEntry) (entry : OwnEntry) → max_members ≤ node_of entry.step.event → AreCounted counts log → AreCounted counts (log ++ entry ∷ [])
counted_still counts log entry beyond counted node member =
    counted node member ∙ sym (own_as_many node log entry (λ same. absurd (omega (arith, same, beyond, member))))
