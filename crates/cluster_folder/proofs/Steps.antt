-- From gate to gate of a file of records.
use Rattle.std.proofs.Common.{◌≡◌, ◌≢◌, ◌⊎◌, inl, inr, ℕ, ◌+◌, ◌*◌, ◌^◌, ◌<◌, List, [], ◌∷◌, ◌++◌, length, take, drop, refl, sym, ap, subst, ◌∙◌, arith, append_assoc, length-append, length-drop}
use Rattle.std.specs.Prelude.{slice_index_or}
use Rattle.std.proofs.lemmas.List.{drop_at, drop-drop}
use Rattle.std.proofs.lemmas.Nat.{from_le_bytes-to_le_bytes_4}
use Rattle.std.specs.Int.{w32, to_le_bytes}
use Rattle.disk_records.specs.RecordFile.{IsBlock, IsClosedAt}
use Rattle.cluster_folder.specs.Gates.{IsClosedGate, LeadsTo}

-- ---- at one gate

-- these bytes begin with the closed gate
record IsHere (bytes : List ℕ) (gate : ℕ) : Type 0 where
  pub closing : ℕ
  pub behind : List ℕ
  pub parts : bytes ≡ closing ∷ behind
  pub closed : closing ≢ 1
  pub place : gate ≡ 0

-- they begin with an open one and its record, behind which is the rest of the way
record IsFurther (bytes : List ℕ) (gate : ℕ) : Type 0 where
  pub text : List ℕ
  pub fits : length text < 2 ^ 32
  pub rest : List ℕ
  pub parts : bytes ≡ 1 ∷ (to_le_bytes w32 (length text) ++ (text ++ rest))
  pub left : ℕ
  pub far : gate ≡ 5 + length text + left
  pub closed : IsClosedGate rest left

block_length : (block : List ℕ) (told : _) (b : IsBlock block told) → length block ≡ 5 + length b.text
block_length block told b = let e = ap length b.spelled in omega (arith, e)

block_parts : (block rest : List ℕ) (told : _) (b : IsBlock block told)
    → block ++ rest ≡ 1 ∷ (to_le_bytes w32 (length b.text) ++ (b.text ++ rest))
block_parts block rest told b = ap (λ l. l ++ rest) b.spelled

cases_gate : (bytes : List ℕ) (records : _) (gate : ℕ) → IsClosedAt bytes records gate
    → IsHere bytes gate ⊎ IsFurther bytes gate
cases_gate bytes [] gate c = inl (record {
  closing = c.closing;
  behind = c.behind;
  parts = c.parts ∙ ap (λ l. l ++ c.closing ∷ c.behind) c.blocks;
  closed = c.closed;
  place = sym c.place ∙ ap length c.blocks;
})
cases_gate bytes (told ∷ later) gate c =
    let block = c.blocks.0 in
    let more = c.blocks.1 in
    let b = c.blocks.2 in
    let rest = more ++ c.closing ∷ c.behind in
    let long = block_length block told b in
    let front = ap length c.blocks.4 in
    let place = c.place in
    inr (record {
      text = b.text;
      fits = b.fits;
      rest = rest;
      parts = c.parts ∙ ap (λ l. l ++ c.closing ∷ c.behind) c.blocks.4 ∙ append_assoc block more (c.closing ∷ c.behind)
          ∙ block_parts block rest told b;
      left = length more;
      far = omega (arith, place, front, long, length-append block more);
      closed = (
        later,
        record {
          front = more;
          closing = c.closing;
          behind = c.behind;
          parts = refl;
          place = refl;
          blocks = c.blocks.3;
          closed = c.closed;
        },
      );
    })

goes_on : (rest : List ℕ) (gate : ℕ) → IsClosedGate rest gate → 0 < length rest
goes_on rest gate closed =
    let c = closed.1 in
    let long = ap length c.parts in
    omega (arith, long, length-append c.front (c.closing ∷ c.behind))

-- what stands behind an open gate and its record
behind_block : (bytes text rest : List ℕ) (size : ℕ) → bytes ≡ 1 ∷ (to_le_bytes w32 (length text) ++ (text ++ rest))
    → size ≡ 5 + length text → drop size bytes ≡ rest
behind_block bytes text rest size e is =
    let head = 1 ∷ (to_le_bytes w32 (length text) ++ text) in
    let parts : bytes ≡ head ++ rest = e ∙ ap (λ l. 1 ∷ l) (sym (append_assoc (to_le_bytes w32 (length text)) text rest)) in
    let five : length head ≡ 5 + length text = omega arith in
    ap (drop size) parts ∙ drop_at head rest size (omega (arith, is, five))

-- ---- where no other gate is found

-- too few bytes stand there for an open gate
pub too_short : (file : List ℕ) (place gate : ℕ) → length file < place + 5 → LeadsTo file place gate → gate ≡ place
too_short file place gate short l =
    let far = l.far in
    elim (cases_gate (drop place file) l.closed.0 l.left l.closed.1) as (λ _. gate ≡ place) [
      | inl here ↦ let none = here.place in omega (arith, far, none)
      | inr on ↦
          let long = ap length on.parts in
          let more = goes_on on.rest on.left on.closed in
          absurd (omega (arith, short, long, more, length-drop place file, length-append on.text on.rest))
    ]

-- the byte that stands there is that of a closed gate
pub closed_here : (file : List ℕ) (place gate : ℕ) (head : List ℕ) → head ≡ take 5 (drop place file)
    → (slice_index_or head 0 0 ≡ 1 → ⊥) → LeadsTo file place gate → gate ≡ place
closed_here file place gate head e shut l =
    let far = l.far in
    elim (cases_gate (drop place file) l.closed.0 l.left l.closed.1) as (λ _. gate ≡ place) [
      | inl here ↦ let none = here.place in omega (arith, far, none)
      | inr on ↦ absurd (shut (ap (λ l. slice_index_or l 0 0) (e ∙ ap (take 5) on.parts)))
    ]

-- ---- behind an open gate

-- the number that four bytes spell behind the first one, the lowest byte first
abbrev number_in : List ℕ → ℕ
number_in head = slice_index_or head 1 0 + slice_index_or head 2 0 * 256 + slice_index_or head 3 0 * 65536
    + slice_index_or head 4 0 * 16777216

number_spelled : (head : List ℕ) (n : ℕ) → n < 2 ^ 32 → head ≡ 1 ∷ to_le_bytes w32 n → number_in head ≡ n
number_spelled head n fits e = ap number_in e ∙ from_le_bytes-to_le_bytes_4 n fits

-- the closed gate is no nearer than the next gate
pub record IsPassed (file : List ℕ) (next gate : ℕ) : Type 0 where
  pub within : next < length file
  pub leads : LeadsTo file next gate

pub passed : (file : List ℕ) (place gate size : ℕ) (head : List ℕ) → head ≡ take 5 (drop place file)
    → slice_index_or head 0 0 ≡ 1 → size ≡ number_in head → LeadsTo file place gate
    → IsPassed file (place + (5 + size)) gate
passed file place gate size head e is_open sized l =
    let far = l.far in
    elim (cases_gate (drop place file) l.closed.0 l.left l.closed.1) as (λ _. IsPassed file (place + (5 + size)) gate) [
      | inl here ↦
          absurd (here.closed (sym (ap (λ l. slice_index_or l 0 0) (e ∙ ap (take 5) here.parts)) ∙ is_open))
      | inr on ↦
          let spelled = number_spelled head (length on.text) on.fits (e ∙ ap (take 5) on.parts) in
          let is : size ≡ length on.text = sized ∙ spelled in
          let behind = behind_block (drop place file) on.text on.rest (5 + size) on.parts (omega (arith, is)) in
          let stands : drop (place + (5 + size)) file ≡ on.rest = sym (drop-drop (5 + size) place file) ∙ behind in
          let long = ap length on.parts in
          let further = on.far in
          let more = goes_on on.rest on.left on.closed in
          let P : List ℕ → Type 0 = λ l. IsClosedGate l on.left in
          record {
            within = omega (arith, is, long, more, length-drop place file, length-append on.text on.rest);
            leads = record {
              left = on.left;
              far = omega (arith, far, further, is);
              closed = subst P (sym stands) on.closed;
            };
          }
    ]
