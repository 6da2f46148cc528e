-- A varint that is read is encoded so, what is encoded so is read, and each fault stands where it is told.
use Rattle.std.proofs.Common.{◌≡◌, ℕ, ◌+◌, ◌-◌, ◌*◌, ◌^◌, ◌<◌, ◌≤◌, true, false, cond, ltb, eqb, List, [], ◌∷◌, ◌++◌, length, Result, Ok, Err, refl, sym, ap, subst, ◌∙◌, arith, ◌⊎◌, inl, inr}
use Rattle.std.specs.Prelude.{IfOk, IfErr, IsOkAnd}
use Rattle.std.proofs.lemmas.Bool.{ltb-true, ltb-false, le-ltb, lt-ltb, eqb-true, eqb-false, ne_eqb}
use Rattle.proto_fields.specs.declared.fault.WireFault.{WireFault}
use Rattle.proto_fields.specs.declared.fault.WireFault.TheVariants.{BadVarint, BadKey, BadWireType, CutShort, NotUtf8, OutOfMemory}
use Rattle.proto_fields.specs.Varint.{EncodesNumber, IsVarint, AllGoOn, IsCutVarint, IsBadVarint, VarintFault, VarintThen}
use Rattle.proto_fields.specs.Reading.{IsBytes, Gives, joined, number_at, varint_at}
use Rattle.proto_fields.proofs.Steps.{IsBytes-rest, bind_ok, bind_err, chosen, ok_is, err_is, not_ok, not_err}

-- what a text begins with when this number was read and this is left
pub record Takes (most : ℕ) (text : List ℕ) (n : ℕ) (rest : List ℕ) : Type 0 where
  pub bytes : List ℕ
  pub parts : text ≡ bytes ++ rest
  pub encodes : EncodesNumber bytes n
  pub short : length bytes ≤ most
  pub fits : n < 2 ^ 64

takes_more : (most b : ℕ) (text : List ℕ) (high : ℕ) (rest : List ℕ) → (most ≡ 0 → ⊥) → 128 ≤ b → b < 256 → high < 2 ^ 57
    → Takes (most - 1) text high rest → Takes most (b ∷ text) (high * 128 + (b - 128)) rest
takes_more most b text high rest some le lt below t = record {
  bytes = b ∷ t.bytes;
  parts = ap (λ (l : List ℕ). b ∷ l) t.parts;
  encodes = inr (le, lt, (high, omega arith, t.encodes));
  short = omega (arith, t.short);
  fits = omega arith;
}

pub number_takes : (most : ℕ) (text : List ℕ) (n : ℕ) (rest : List ℕ) → IsBytes text → number_at most text ≡ Ok (n, rest) → Takes most text n rest
unfolding number_at joined
number_takes most [] n rest fits e =
    elim (chosen (eqb most 0) (Err BadVarint) (Err CutShort) (Ok (n, rest)) e) [ inl h ↦ not_err _ _ h.1 | inr h ↦ not_err _ _ h.1 ]
number_takes most (b ∷ text) n rest fits e =
    elim (chosen (eqb most 0) (Err BadVarint) (cond (ltb b 128) (Ok (b, text)) (joined b (number_at (most - 1) text))) (Ok (n, rest)) e) [
      | inl h ↦ not_err _ _ h.1
      | inr h ↦
          elim (chosen (ltb b 128) (Ok (b, text)) (joined b (number_at (most - 1) text)) (Ok (n, rest)) h.1) [
            | inl k ↦
                let same = ok_is (b, text) (n, rest) k.1 in
                let low : b < 128 = ltb-true _ _ k.0 in
                let some : most ≡ 0 → ⊥ = eqb-false _ _ h.0 in
                subst (λ (x : ℕ × List ℕ). Takes most (b ∷ text) x.0 x.1) same
                (record { bytes = b ∷ []; parts = refl; encodes = inl (low, refl, refl); short = omega arith; fits = omega arith })
            | inr k ↦
                let p = bind_ok (number_at (most - 1) text) (λ high. cond (ltb high.0 (2 ^ 57)) (Ok (high.0 * 128 + (b - 128), high.1)) (Err BadVarint)) (n, rest) k.1 in
                elim (chosen (ltb p.0.0 (2 ^ 57)) (Ok (p.0.0 * 128 + (b - 128), p.0.1)) (Err BadVarint) (Ok (n, rest)) p.2) [
                  | inl q ↦
                      let t = number_takes (most - 1) text p.0.0 p.0.1 (IsBytes-rest b text fits) p.1 in
                      let same = ok_is (p.0.0 * 128 + (b - 128), p.0.1) (n, rest) q.1 in
                      subst (λ (x : ℕ × List ℕ). Takes most (b ∷ text) x.0 x.1) same
                      (takes_more most b text p.0.0 p.0.1 (eqb-false _ _ h.0) (ltb-false _ _ k.0) (fits 0) (ltb-true _ _ q.0) t)
                  | inr q ↦ not_err _ _ q.1
                ]
          ]
    ]

-- what encodes a number that fits is read as it, whatever follows
pub number_again : (bytes : List ℕ) (most n : ℕ) (rest : List ℕ) → EncodesNumber bytes n → length bytes ≤ most → n < 2 ^ 64
    → number_at most (bytes ++ rest) ≡ Ok (n, rest)
unfolding number_at joined
number_again [] most n rest encodes short fits = absurd encodes
number_again (b ∷ bytes) most n rest encodes short fits =
    let some : eqb most 0 ≡ false = ne_eqb most 0 (omega (arith, short)) in
    elim encodes [
      | inl h ↦
          let low : ltb b 128 ≡ true = lt-ltb b 128 h.0 in
          rw (some, low, h.1, h.2) refl
      | inr h ↦
          let high : ltb b 128 ≡ false = le-ltb b 128 h.0 in
          let m = h.2.0 in
          let below : ltb m (2 ^ 57) ≡ true = lt-ltb m (2 ^ 57) (omega (arith, h.2.1, h.1, h.0)) in
          let same : m * 128 + (b - 128) ≡ n = omega (arith, h.2.1, h.0) in
          rw (some, high, number_again bytes (most - 1) m rest h.2.2 (omega (arith, short)) (omega (arith, h.2.1, h.1, h.0)), below, same) refl
    ]

-- what is wrong with a text that begins with no number of at most so many bytes
abbrev pub NumberFault : ℕ → WireFault → List ℕ → Type 0
NumberFault most CutShort text = AllGoOn text × (length text < most)
NumberFault most BadVarint text =
    (bytes rest : List ℕ) × (text ≡ bytes ++ rest) × (length bytes ≤ most)
    × ((AllGoOn bytes × (length bytes ≡ most)) ⊎ ((n : ℕ) × EncodesNumber bytes n × (2 ^ 64 ≤ n)))
NumberFault most BadKey text = ⊥
NumberFault most BadWireType text = ⊥
NumberFault most NotUtf8 text = ⊥
NumberFault most OutOfMemory text = ⊥

fault_after : (most b : ℕ) (text : List ℕ) (fault : WireFault) → (most ≡ 0 → ⊥) → 128 ≤ b → b < 256
    → NumberFault (most - 1) fault text → NumberFault most fault (b ∷ text)
fault_after most b text CutShort some le lt h = ((le, h.0), omega (arith, h.1))
fault_after most b text BadVarint some le lt h = (
  b ∷ h.0,
  h.1,
  ap (λ (l : List ℕ). b ∷ l) h.2,
  omega (arith, h.3),
  elim h.4 [
    | inl k ↦ inl ((le, k.0), omega (arith, k.1))
    | inr k ↦ inr (k.0 * 128 + (b - 128), inr (le, lt, (k.0, omega arith, k.1)), omega (arith, k.2))
  ],
)
fault_after most b text BadKey some le lt h = absurd h
fault_after most b text BadWireType some le lt h = absurd h
fault_after most b text NotUtf8 some le lt h = absurd h
fault_after most b text OutOfMemory some le lt h = absurd h

pub number_faults : (most : ℕ) (text : List ℕ) (fault : WireFault) → IsBytes text → number_at most text ≡ Err fault → NumberFault most fault text
unfolding number_at joined
number_faults most [] fault fits e =
    elim (chosen (eqb most 0) (Err BadVarint) (Err CutShort) (Err fault) e) [
      | inl h ↦
          let none : most ≡ 0 = eqb-true _ _ h.0 in
          let same : BadVarint ≡ fault = err_is _ _ h.1 in
          subst (λ (f : WireFault). NumberFault most f []) same ([], [], refl, omega arith, inl (tt, sym none))
      | inr h ↦
          let some : most ≡ 0 → ⊥ = eqb-false _ _ h.0 in
          let same : CutShort ≡ fault = err_is _ _ h.1 in
          subst (λ (f : WireFault). NumberFault most f []) same (tt, omega arith)
    ]
number_faults most (b ∷ text) fault fits e =
    elim (chosen (eqb most 0) (Err BadVarint) (cond (ltb b 128) (Ok (b, text)) (joined b (number_at (most - 1) text))) (Err fault) e) [
      | inl h ↦
          let none : most ≡ 0 = eqb-true _ _ h.0 in
          let same : BadVarint ≡ fault = err_is _ _ h.1 in
          subst (λ (f : WireFault). NumberFault most f (b ∷ text)) same ([], b ∷ text, refl, omega arith, inl (tt, sym none))
      | inr h ↦
          elim (chosen (ltb b 128) (Ok (b, text)) (joined b (number_at (most - 1) text)) (Err fault) h.1) [
            | inl k ↦ not_ok _ _ k.1
            | inr k ↦
                let some : most ≡ 0 → ⊥ = eqb-false _ _ h.0 in
                let le : 128 ≤ b = ltb-false _ _ k.0 in
                elim (bind_err (number_at (most - 1) text) (λ high. cond (ltb high.0 (2 ^ 57)) (Ok (high.0 * 128 + (b - 128), high.1)) (Err BadVarint)) fault k.1) [
                  | inl p ↦ fault_after most b text fault some le (fits 0) (number_faults (most - 1) text fault (IsBytes-rest b text fits) p)
                  | inr p ↦
                      elim (chosen (ltb p.0.0 (2 ^ 57)) (Ok (p.0.0 * 128 + (b - 128), p.0.1)) (Err BadVarint) (Err fault) p.2) [
                        | inl q ↦ not_ok _ _ q.1
                        | inr q ↦
                            let t = number_takes (most - 1) text p.0.0 p.0.1 (IsBytes-rest b text fits) p.1 in
                            let above : 2 ^ 57 ≤ p.0.0 = ltb-false _ _ q.0 in
                            let same : BadVarint ≡ fault = err_is _ _ q.1 in
                            subst (λ (f : WireFault). NumberFault most f (b ∷ text)) same (
                              b ∷ t.bytes,
                              p.0.1,
                              ap (λ (l : List ℕ). b ∷ l) t.parts,
                              omega (arith, t.short),
                              inr (p.0.0 * 128 + (b - 128), inr (le, fits 0, (p.0.0, omega arith, t.encodes)), omega arith),
                            )
                      ]
                ]
          ]
    ]

-- ---- varints

pub varint_takes : (text : List ℕ) (n : ℕ) (rest : List ℕ) → IsBytes text → varint_at text ≡ Ok (n, rest)
    → (bytes : List ℕ) × IsVarint bytes n × (text ≡ bytes ++ rest)
unfolding varint_at
varint_takes text n rest fits e =
    let t = number_takes 10 text n rest fits e in
    (t.bytes, record { encodes = t.encodes; short = t.short; fits = t.fits }, t.parts)

pub varint_again : (bytes : List ℕ) (n : ℕ) (rest : List ℕ) → IsVarint bytes n → varint_at (bytes ++ rest) ≡ Ok (n, rest)
unfolding varint_at
varint_again bytes n rest is = number_again bytes 10 n rest is.encodes is.short is.fits

pub varint_faults : (text : List ℕ) (fault : WireFault) → IsBytes text → varint_at text ≡ Err fault → VarintFault fault text
unfolding varint_at
varint_faults text CutShort fits e = number_faults 10 text CutShort fits e
varint_faults text BadVarint fits e = number_faults 10 text BadVarint fits e
varint_faults text BadKey fits e = number_faults 10 text BadKey fits e
varint_faults text BadWireType fits e = number_faults 10 text BadWireType fits e
varint_faults text NotUtf8 fits e = number_faults 10 text NotUtf8 fits e
varint_faults text OutOfMemory fits e = number_faults 10 text OutOfMemory fits e

-- ---- the clauses of reading one varint

module _ {X : Type 0} (view : X → ℕ × List ℕ) (text : List ℕ) (fits : IsBytes text) where
  pub is_number : (r : Result X WireFault) → Gives view r (varint_at text) → IfOk r (λ x. VarintThen text (view x).0 (view x).1)
  is_number (Ok x) e = varint_takes text (view x).0 (view x).1 fits e
  is_number (Err fault) e = tt

  pub is_only_number : (r : Result X WireFault) → Gives view r (varint_at text) → (n : ℕ) (rest : List ℕ) → VarintThen text n rest
      → IsOkAnd r (λ x. ((view x).0 ≡ n) × ((view x).1 ≡ rest))
  is_only_number (Ok x) e n rest h =
      let same : view x ≡ (n, rest) = ok_is (view x) (n, rest) (sym e ∙ ap varint_at h.2 ∙ varint_again h.0 n rest h.1) in
      (ap (λ (p : ℕ × List ℕ). p.0) same, ap (λ (p : ℕ × List ℕ). p.1) same)
  is_only_number (Err fault) e n rest h = not_ok (n, rest) fault (sym (ap varint_at h.2 ∙ varint_again h.0 n rest h.1) ∙ e)

  pub is_number_fault : (r : Result X WireFault) → Gives view r (varint_at text) → IfErr r (λ fault. VarintFault fault text)
  is_number_fault (Ok x) e = tt
  is_number_fault (Err fault) e = varint_faults text fault fits e
