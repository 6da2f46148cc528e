use Rattle.std.proofs.Common.{◌≡◌, ℕ, ◌+◌, ◌<◌, List, [], ◌∷◌, ◌++◌, length, take, get_or, ap, sym, ◌∙◌, subst, arith, append_assoc, Ok}
use Rattle.std.proofs.lemmas.List.{take_more}
use Rattle.ballots.specs.declared.record.Record.{Record}
use Rattle.stable_records.specs.Found.{FindsOnly, IsCutShort}
use Rattle.stable_records.specs.Moments.{AnyCrashLeaves}
use Rattle.stable_conformance.proofs.through_the_bound.keep_all.Goals as goal

-- the first of the list, with the next behind them
one_more : (told : List Record) (i : ℕ) (next : Record) → i < length told → next ≡ get_or told i next
    → take (i + 1) told ≡ take i told ++ next ∷ []
one_more told i next lt is = take_more told i next lt ∙ ap (λ r. take i told ++ r ∷ []) (sym is)

behind_all : (records told : List Record) (i : ℕ) (next : Record) → i < length told → next ≡ get_or told i next
    → (records ++ take i told) ++ next ∷ [] ≡ records ++ take (i + 1) told
behind_all records told i next lt is =
    append_assoc records (take i told) (next ∷ []) ∙ ap (λ l. records ++ l) (sym (one_more told i next lt is))

pub loop-next-preserved : goal.loop-next-preserved
loop-next-preserved g c =
    let told = c.args.told.now in
    let i = c.loop-next.next-index in
    let next = c.next-item.result in
    let lt : c.loop-next.next-index < length c.args.told.now = omega arith in
    record {
      counted = c.in_ok-keep.ensures.counted ∙ c.loop-next.invariant.counted;
      kept = λ tells records only.
          let P : List Record → Type 0 = λ l. FindsOnly (g.S.Stable.finds c.keep.new.self) l in
          subst P (behind_all records told i next lt c.next-item.is)
          (c.one_list_stays_one.ensures.one c.loop-next.store c.keep.new.self (records ++ take i told) next
          (c.loop-next.invariant.kept tells records only) (c.in_ok-keep.ensures.kept tells));
      crash = λ tells records only.
          let P : List Record → Type 0 = λ l.
          AnyCrashLeaves g.S.Stable.moment g.S.Stable.finds_since c.args.store.now c.keep.new.self (IsCutShort records l) in
          subst P (sym (one_more told i next lt c.next-item.is))
          (c.crashes_cut_keeps_short.ensures.goes_on c.args.store.now c.loop-next.store c.keep.new.self records (take i told) next
          (Ok c.in_ok-keep.field-0) (c.loop-next.invariant.kept tells records only)
          (c.loop-next.invariant.crash tells records only) (c.in_ok-keep.ensures.crash tells));
    }
