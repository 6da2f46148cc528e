use Rattle.std.proofs.Common.{refl, sym, ap, subst, ◌≡◌, inl, inr, arith, pos, negsuc, ◌-◌, ◌*◌, ◌-ℤ◌, ℤ, Bool, Some}
use Rattle.std.proofs.lemmas.Int.{ints}
use Rattle.serde_json.specs.Data.{number, unsigned, negative}
use Rattle.json_rows.specs.Numbers.{StandsAs, whole_told}
use Rattle.json_rows.proofs.Texts.{written_weaker}
use Rattle.json_rows.proofs.flat_writing.put_whole.Goals as goal
use Rattle.json_rows.proofs.flat_writing.put_whole.Goals.{else-is_signed-via-then-is_signed+else-half-number, else-is_signed-via-else-is_signed}

pub returns-in_ok-put_negative-clause-written : goal.returns-in_ok-put_negative-clause-written
returns-in_ok-put_negative-clause-written c =
    let n = c.args.number in
    let half = c.args.half in
    let below = 2 * (half - 1) - (n - 1) in
    let value : negsuc below ≡ pos n -ℤ pos (2 * half) = omega (arith, ints, c.if-half-number.true, c.requires.within, c.requires.half) in
    let stands : StandsAs half c.args.is_signed (negsuc below) n =
    subst (λ (b : Bool). StandsAs half b (negsuc below) n) (sym c.if-is_signed.true) (inr (value, c.if-half-number.true, c.requires.within)) in
    written_weaker (λ d. d ≡ number (negative (negsuc below))) (λ d. (z : ℤ) × (whole_told d ≡ Some z) × StandsAs half c.args.is_signed z n) 0 0 c.args.out.now.tokens
    c.put_negative.new.out.tokens (λ d is. (negsuc below, ap whole_told is, stands)) (omega arith) c.in_ok-put_negative.ensures.written

pub returns-in_ok-put_unsigned-clause-written : goal.returns-in_ok-put_unsigned-clause-written
returns-in_ok-put_unsigned-clause-written c =
    let n = c.args.number in
    let half = c.args.half in
    let stands : StandsAs half c.args.is_signed (pos n) n = elim c.else-is_signed.branch [
      | else-is_signed-via-then-is_signed+else-half-number w ↦
          subst (λ (b : Bool). StandsAs half b (pos n) n) (sym w.if-is_signed.true) (inl (refl, omega (arith, w.if-half-number.false)))
      | else-is_signed-via-else-is_signed w ↦ subst (λ (b : Bool). StandsAs half b (pos n) n) (sym w.if-is_signed.false) (refl, c.requires.within)
    ] in
    written_weaker (λ d. d ≡ number (unsigned n)) (λ d. (z : ℤ) × (whole_told d ≡ Some z) × StandsAs half c.args.is_signed z n) 0 0 c.args.out.now.tokens
    c.put_unsigned.new.out.tokens (λ d is. (pos n, ap whole_told is, stands)) (omega arith) c.in_ok-put_unsigned.ensures.written
