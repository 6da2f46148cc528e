-- Values of one size of which some are not taken.
use Rattle.std.proofs.Common.{◌≡◌, refl, sym, ap, ap₂, subst, ◌∙◌, ℕ, suc, ◌+◌, ◌-◌, ◌*◌, ◌<◌, ◌≤◌, Bool, true, false, if◌then◌else◌, Some, List, [], ◌∷◌, ◌++◌, length, get_or, take, drop, replicate, arith, append_assoc, length-append, length-take, length-drop, mul-le-mul_left}
use Rattle.std.proofs.lemmas.List.{take_more, take-append-drop, length-replicate}
use Rattle.std.proofs.Math.Seq.{take-append-add, drop-append-add, take-append_seam, drop-append_seam}
use native.Mathlib.Nat.{mul-suc}
use Rattle.std.specs.List.{flat_map, zip}
use Rattle.batch_types.specs.Placed.{bytes_from}
use Rattle.batch_reading.specs.declared.selection.Selection.{Selection}
use Rattle.batch_reading.specs.Spots.{places_of, marks_of, spots_at, spots_of, IsSelection}
use Rattle.batch_reading.specs.Cleared.{without_block, cleared}
use Rattle.batch_reading.specs.Taken.{block_taken}
use Rattle.batch_reading.proofs.Running.{marks_long, places_rise, DoRise, rise_end}

-- ---- one value more

front_long : (size : ℕ) (mark : Bool) (blocks : List ℕ) → size ≤ length blocks → length (if mark then take size blocks else replicate size 0) ≡ size
front_long size true blocks fits = omega (arith, length-take size blocks, fits)
front_long size false blocks fits = length-replicate size 0

some_fit : (size n bytes : ℕ) → size * suc n ≤ bytes → (size ≤ bytes) × (size * n ≤ bytes - size)
some_fit size n bytes fits = (omega (arith, mul-suc size n, fits), omega (arith, mul-suc size n, fits))

pub cleared_long : (size : ℕ) (marks : List Bool) (blocks : List ℕ) → size * length marks ≤ length blocks → length (cleared size marks blocks) ≡ length blocks
cleared_long size [] blocks fits = refl
cleared_long size (mark ∷ marks) blocks fits =
    let both = some_fit size (length marks) (length blocks) fits in
    let less : size * length marks ≤ length (drop size blocks) = omega (arith, both.1, length-drop size blocks) in
    omega (
      arith,
      both.0,
      length-append (if mark then take size blocks else replicate size 0) (cleared size marks (drop size blocks)),
      front_long size mark blocks both.0,
      cleared_long size marks (drop size blocks) less,
      length-drop size blocks,
    )

behind : (size n : ℕ) (front inner : List ℕ) → length front ≡ size
    → front ++ without_block size n inner ≡ without_block size (suc n) (front ++ inner)
behind size n front inner long =
    let first : length front + size * n ≡ size * suc n = omega (arith, long, mul-suc size n) in
    let last : length front + (size * n + size) ≡ size * suc n + size = omega (arith, long, mul-suc size n) in
    sym (append_assoc front (take (size * n) inner) (replicate size 0 ++ drop (size * n + size) inner))
    ∙ ap₂ (λ xs ys. xs ++ (replicate size 0 ++ ys))
    (sym (take-append-add front inner (size * n)) ∙ ap (λ k. take k (front ++ inner)) first)
    (sym (drop-append-add front inner (size * n + size)) ∙ ap (λ k. drop k (front ++ inner)) last)

more : (size : ℕ) (marks : List Bool) (mark : Bool) (blocks : List ℕ) → size * suc (length marks) ≤ length blocks
    → cleared size (marks ++ mark ∷ []) blocks ≡ (if mark then cleared size marks blocks else without_block size (length marks) (cleared size marks blocks))
more size [] true blocks fits = take-append-drop size blocks
more size [] false blocks fits =
    let none : 0 ≡ size * 0 = omega arith in
    let whole : size ≡ size * 0 + size = omega arith in
    ap₂ (λ j k. take j blocks ++ (replicate size 0 ++ drop k blocks)) none whole
more size (first ∷ marks) mark blocks fits =
    let both = some_fit size (suc (length marks)) (length blocks) fits in
    let less : size * suc (length marks) ≤ length (drop size blocks) = omega (arith, both.1, length-drop size blocks) in
    let front : List ℕ = if first then take size blocks else replicate size 0 in
    ap (λ l. front ++ l) (more size marks mark (drop size blocks) less) ∙ by_mark mark front (front_long size first blocks both.0)
  where
    by_mark : (mark : Bool) (front : List ℕ) → length front ≡ size
        → front ++ (if mark then cleared size marks (drop size blocks) else without_block size (length marks) (cleared size marks (drop size blocks)))
        ≡ (if mark then front ++ cleared size marks (drop size blocks) else without_block size (suc (length marks)) (front ++ cleared size marks (drop size blocks)))
    by_mark true front long = refl
    by_mark false front long = behind size (length marks) front (cleared size marks (drop size blocks)) long

module _ (size : ℕ) (marks : List Bool) (blocks : List ℕ) (n : ℕ) (there : n < length marks) (fits : size * length marks ≤ length blocks) where
  long_enough : size * suc n ≤ length blocks
  long_enough =
      let up : size * suc n ≤ size * length marks = mul-le-mul_left size (omega (arith, there)) in omega (arith, up, fits)

  taken_long : length (take n marks) ≡ n
  taken_long = omega (arith, length-take n marks, there)

  pub clear_within : size * n + size ≤ length (cleared size (take n marks) blocks)
  clear_within =
      let fewer : size * n ≤ length blocks = omega (arith, long_enough, mul-suc size n) in
      omega (arith, long_enough, mul-suc size n, cleared_long size (take n marks) blocks (subst (λ k. size * k ≤ length blocks) (sym taken_long) fewer))

  pub clear_more : cleared size (take (n + 1) marks) blocks
      ≡ (if get_or marks n false then cleared size (take n marks) blocks else without_block size n (cleared size (take n marks) blocks))
  clear_more =
      ap (λ l. cleared size l blocks) (take_more marks n false there)
      ∙ more size (take n marks) (get_or marks n false) blocks (subst (λ k. size * suc k ≤ length blocks) (sym taken_long) long_enough)
      ∙ ap (λ k. if get_or marks n false then cleared size (take n marks) blocks else without_block size k (cleared size (take n marks) blocks)) taken_long

  pub clear_kept : get_or marks n false ≡ true → cleared size (take (n + 1) marks) blocks ≡ cleared size (take n marks) blocks
  clear_kept is =
      clear_more ∙ ap (λ mark. if mark then cleared size (take n marks) blocks else without_block size n (cleared size (take n marks) blocks)) is

  pub clear_put : get_or marks n false ≡ false → cleared size (take (n + 1) marks) blocks ≡ without_block size n (cleared size (take n marks) blocks)
  clear_put is =
      clear_more ∙ ap (λ mark. if mark then cleared size (take n marks) blocks else without_block size n (cleared size (take n marks) blocks)) is

-- ---- all of them

blocks_cleared : (size : ℕ) (bytes : List ℕ) (from limit : ℕ) (places : List ℕ) (marks : List Bool) → DoRise from limit places → size * limit ≤ length bytes
    → length marks ≡ length places
    → cleared size marks (flat_map (λ place. bytes_from bytes (size * place) size) places) ≡ flat_map (block_taken size bytes) (zip places marks)
blocks_cleared size bytes from limit [] [] rise fits same = refl
blocks_cleared size bytes from limit [] (mark ∷ marks) rise fits same = absurd (omega (arith, same))
blocks_cleared size bytes from limit (p ∷ ps) [] rise fits same = absurd (omega (arith, same))
blocks_cleared size bytes from limit (p ∷ ps) (mark ∷ marks) rise fits same =
    let block : List ℕ = bytes_from bytes (size * p) size in
    let rest : List ℕ = flat_map (λ place. bytes_from bytes (size * place) size) ps in
    let up : size * suc p ≤ size * limit = mul-le-mul_left size (omega (arith, rise_end (p + 1) limit ps rise.1)) in
    let long : length block ≡ size =
    omega (arith, length-take size (drop (size * p) bytes), length-drop (size * p) bytes, up, mul-suc size p, fits) in
    ap₂ (λ x y. x ++ y)
    (ap (λ l. if mark then l else replicate size 0) (ap (λ k. take k (block ++ rest)) (sym long) ∙ take-append_seam block rest))
    (ap (cleared size marks) (ap (λ k. drop k (block ++ rest)) (sym long) ∙ drop-append_seam block rest)
    ∙ blocks_cleared size bytes (p + 1) limit ps marks rise.1 fits (omega (arith, same)))

module _ (limit : ℕ) (selection : Selection) (is : IsSelection limit selection) (marks : List Bool) (there : selection.there.now ≡ Some marks) where
  pub marks_counted : length marks ≡ length (places_of selection.runs.now)
  marks_counted =
      ap (λ there. length (marks_of selection.count there)) (sym there) ∙ marks_long selection.count selection.there.now is.marked ∙ is.counted

  pub wanted_cleared : (size : ℕ) (bytes : List ℕ) → size * limit ≤ length bytes
      → cleared size marks (flat_map (λ place. bytes_from bytes (size * place) size) (places_of selection.runs.now))
      ≡ flat_map (block_taken size bytes) (spots_of selection)
  wanted_cleared size bytes fits =
      blocks_cleared size bytes 0 limit (places_of selection.runs.now) marks (places_rise 0 limit selection.runs.now is.rising) fits marks_counted
      ∙ ap (λ there. flat_map (block_taken size bytes) (spots_at selection.runs.now selection.count there)) (sym there)

  -- as many bytes as the marks ask for
  pub cleared_fits : (size : ℕ) (bytes : List ℕ) → size * limit ≤ length bytes
      → length (flat_map (λ place. bytes_from bytes (size * place) size) (places_of selection.runs.now)) ≡ size * length marks
  cleared_fits size bytes fits =
      long 0 (places_of selection.runs.now) (places_rise 0 limit selection.runs.now is.rising) ∙ ap (λ k. size * k) (sym marks_counted)
    where
      long : (from : ℕ) (places : List ℕ) → DoRise from limit places → length (flat_map (λ place. bytes_from bytes (size * place) size) places) ≡ size * length places
      long from [] rise = let none : 0 ≡ size * 0 = omega arith in none
      long from (p ∷ ps) rise =
          let up : size * suc p ≤ size * limit = mul-le-mul_left size (omega (arith, rise_end (p + 1) limit ps rise.1)) in
          omega (
            arith,
            length-append (bytes_from bytes (size * p) size) (flat_map (λ place. bytes_from bytes (size * place) size) ps),
            length-take size (drop (size * p) bytes),
            length-drop (size * p) bytes,
            up,
            mul-suc size p,
            mul-suc size (length ps),
            fits,
            long (p + 1) ps rise.1,
          )
