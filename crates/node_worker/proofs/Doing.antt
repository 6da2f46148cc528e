-- What was done, one thing after the other.
use Rattle.std.proofs.Common.{ℕ, ◌+◌, add-one, List, [], ◌∷◌, ◌++◌, refl, sym, subst}
use Rattle.node_worker.specs.Deeds.{Did, ForEach}

module _ {S D : Type 0} (does : S → D → S → Type 0) where
  pub one : (old new : S) (deed : D) → does old deed new → Did does old (deed ∷ []) new
  one old new deed done = (new, done, refl)

  pub first : (old between new : S) (deed : D) (deeds : List D) → does old deed between → Did does between deeds new → Did does old (deed ∷ deeds) new
  first old between new deed deeds done rest = (between, done, rest)

  pub two : (old between new : S) (deed next : D) → does old deed between → does between next new → Did does old (deed ∷ next ∷ []) new
  two old between new deed next done then = (between, done, one between new next then)

  pub joined : (deeds more : List D) (old between new : S) → Did does old deeds between → Did does between more new → Did does old (deeds ++ more) new
  joined [] more old between new same rest = subst (λ (s : S). Did does s more new) (sym same) rest
  joined (deed ∷ deeds) more old between new (after, done, then) rest = (after, done, joined deeds more after between new then rest)

  -- with what is done next, it is done for one number more
  pub grown : (part : ℕ → List D → Type 0) (n : ℕ) (old between new : S)
      → (deeds : List D) × Did does old deeds between × ForEach part n deeds
      → (deeds : List D) × Did does between deeds new × part n deeds
      → (deeds : List D) × Did does old deeds new × ForEach part (n + 1) deeds
  grown part n old between new (deeds, done, each) (more, then, own) =
      (deeds ++ more, joined deeds more old between new done then, rw add-one (deeds, more, refl, each, own))
