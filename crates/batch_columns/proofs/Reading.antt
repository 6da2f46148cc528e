-- What is read of a column is what the header and the body have.
use Rattle.std.proofs.Common.{◌≡◌, sym, ap, ◌∙◌, subst, ℕ, zero, suc, ◌+◌, ◌<◌, ◌≤◌, pos, List, length, take, drop, get_or, arith, length-drop, length-take, Option, None, IsSome, is_some, true≢false}
use Rattle.batch_types.specs.Layouts.{Layout, null_layout, bits_layout, bytes_layout, binary_layout, utf8_layout}
use Rattle.batch_types.specs.Layouts.{list_layout, fixed_size_list_layout, struct_layout, buffers_in_layout}
use Rattle.batch_types.specs.Laid.{Range}
use Rattle.batch_types.specs.Rules.{IsInside}

few_buffers : (layout : Layout) → buffers_in_layout layout ≤ 3
few_buffers null_layout = omega arith
few_buffers bits_layout = omega arith
few_buffers (bytes_layout size) = omega arith
few_buffers (binary_layout offset) = omega arith
few_buffers (utf8_layout offset) = omega arith
few_buffers (list_layout offset) = omega arith
few_buffers (fixed_size_list_layout size) = omega arith
few_buffers struct_layout = omega arith

-- so many ranges from one of a list on
abbrev part : List Range → ℕ → ℕ → List Range
part ranges first count = take count (drop first ranges)

abbrev AllInside : List ℕ → List Range → Type 0
AllInside body ranges = (n : ℕ) → n < length ranges → IsInside (length body) (get_or ranges n (pos 0, pos 0))

module _ (body : List ℕ) (ranges : List Range) (first count : ℕ) (layout : Layout) (counted : count ≡ buffers_in_layout layout)
    (there : first + buffers_in_layout layout ≤ length ranges) where
  long : length (part ranges first (buffers_in_layout layout)) ≡ buffers_in_layout layout
  long = omega (arith, length-take (buffers_in_layout layout) (drop first ranges), length-drop first ranges)

  pub none_inside : {X : Type 0} (o : Option X) (n : ℕ) → o ≡ None
      → (n < count) × (IsInside (length body) (get_or (part ranges first count) n (pos 0, pos 0)) → ⊥)
      → (IsSome o → AllInside body (part ranges first (buffers_in_layout layout)))
      × (AllInside body (part ranges first (buffers_in_layout layout)) → IsSome o)
  none_inside o n none broken = (
    λ some. absurd (true≢false (sym some ∙ ap is_some none)),
    λ all. absurd (broken.1 (subst (λ k. IsInside (length body) (get_or (part ranges first k) n (pos 0, pos 0))) (sym counted)
        (all n (omega (arith, long, broken.0))))),
  )

  abbrev InsideIf : ℕ → Type 0
  InsideIf n = n < count → IsInside (length body) (get_or (part ranges first count) n (pos 0, pos 0))

  pub all_inside : InsideIf 0 → InsideIf 1 → InsideIf 2 → AllInside body (part ranges first (buffers_in_layout layout))
  all_inside one two three n below =
      subst (λ k. IsInside (length body) (get_or (part ranges first k) n (pos 0, pos 0))) counted
      (each n (omega (arith, long, counted, below)) (omega (arith, long, few_buffers layout, below)))
    where
      each : (m : ℕ) → m < count → m < 3 → IsInside (length body) (get_or (part ranges first count) m (pos 0, pos 0))
      each zero below few = one below
      each (suc zero) below few = two below
      each (suc (suc zero)) below few = three below
      each (suc (suc (suc m))) below few = absurd (omega arith)
