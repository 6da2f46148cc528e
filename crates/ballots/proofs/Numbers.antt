-- The numbers, ballots and values of a message: what is read is meant, what is meant is read, and each fault stands.
use Rattle.std.proofs.Common.{◌≡◌, ◌≢◌, ℕ, ◌≤◌, false, cond, ltb, eqb, List, length, Option, Some, None, Result, Ok, Err, refl, sym, ap, subst, ◌∙◌, arith, ◌⊎◌, inl, inr}
use Rattle.std.proofs.lemmas.Bool.{ltb-true, ltb-false, le-ltb, eqb-true, eqb-false, ne_eqb}
use Rattle.std.proofs.lemmas.List.{nil_from_length}
use Rattle.proto_fields.specs.declared.fault.WireFault.TheVariants.{BadVarint, BadKey, BadWireType, CutShort, NotUtf8, OutOfMemory as WireMemory}
use Rattle.proto_fields.specs.Reading.{◌>>=◌}
use Rattle.proto_fields.proofs.Steps.{bind_ok, bind_err, chosen, ok_is, err_is, not_ok, not_err}
use Rattle.ballots.specs.declared.node.TheConstants.{MAX_NODE}
use Rattle.ballots.specs.declared.ballot.TheConstants.{MAX_ROUND}
use Rattle.ballots.specs.declared.value.TheConstants.{MAX_UPLOAD_BYTES}
use Rattle.ballots.specs.declared.value.Value.{Value}
use Rattle.ballots.specs.declared.value.Value.TheVariants.{Noop, Upload}
use Rattle.ballots.specs.declared.acceptance.Acceptance.{Acceptance}
use Rattle.ballots.specs.declared.fault.MessageFault.{MessageFault}
use Rattle.ballots.specs.declared.fault.MessageFault.TheVariants.{Wire, BadKind, OutOfRange, OutOfMemory}
use Rattle.ballots.specs.Ballot.{Ballot}
use Rattle.ballots.specs.Message.{Parts, MeansBallot, MeansValue, MeansAcceptance, MeansReport, Misfit, IsAbove, BallotFault, ValueFault}
use Rattle.ballots.specs.MessageReading.{known, within, ballot_at, value_at, acceptance_at, report_at}

-- a fault of a part is one of the whole
pub misfit_of : {A B C D : Type 0} (fault : MessageFault) → (A → C) → (B → D) → Misfit A B fault → Misfit C D fault
misfit_of (Wire BadWireType) p q h = p h
misfit_of (Wire BadVarint) p q h = absurd h
misfit_of (Wire BadKey) p q h = absurd h
misfit_of (Wire CutShort) p q h = absurd h
misfit_of (Wire NotUtf8) p q h = absurd h
misfit_of (Wire WireMemory) p q h = absurd h
misfit_of BadKind p q h = absurd h
misfit_of OutOfRange p q h = q h
misfit_of OutOfMemory p q h = absurd h

-- ---- a number

pub known_takes : {A : Type 0} (o : Option A) (x : A) → known o ≡ Ok x → o ≡ Some x
unfolding known
known_takes None x e = not_err _ _ e
known_takes (Some y) x e = ap Some (ok_is y x e)

pub known_faults : {A : Type 0} (o : Option A) (fault : MessageFault) → known o ≡ Err fault → (Wire BadWireType ≡ fault) × (o ≡ None)
unfolding known
known_faults None fault e = (err_is _ _ e, refl)
known_faults (Some y) fault e = not_ok _ _ e

pub within_takes : (limit : ℕ) (o : Option ℕ) (n : ℕ) → within limit o ≡ Ok n → (o ≡ Some n) × (n ≤ limit)
unfolding within
within_takes limit o n e =
    let a = bind_ok (known o) (λ m. cond (ltb limit m) (Err OutOfRange) (Ok m)) n e in
    elim (chosen (ltb limit a.0) (Err OutOfRange) (Ok a.0) (Ok n) a.2) [
      | inl h ↦ not_err _ _ h.1
      | inr h ↦
          let same : a.0 ≡ n = ok_is _ _ h.1 in
          (known_takes o a.0 a.1 ∙ ap Some same, subst (λ (m : ℕ). m ≤ limit) same (ltb-false _ _ h.0))
    ]

pub within_again : (limit n : ℕ) → n ≤ limit → within limit (Some n) ≡ Ok n
unfolding within known
within_again limit n le = rw (le-ltb limit n le) refl

pub within_faults : (limit : ℕ) (o : Option ℕ) (fault : MessageFault) → within limit o ≡ Err fault → Misfit (o ≡ None) (IsAbove o limit) fault
unfolding within
within_faults limit o fault e =
    elim (bind_err (known o) (λ m. cond (ltb limit m) (Err OutOfRange) (Ok m)) fault e) [
      | inl h ↦ let k = known_faults o fault h in subst (Misfit (o ≡ None) (IsAbove o limit)) k.0 k.1
      | inr h ↦
          elim (chosen (ltb limit h.0) (Err OutOfRange) (Ok h.0) (Err fault) h.2) [
            | inl k ↦ subst (Misfit (o ≡ None) (IsAbove o limit)) (err_is _ _ k.1) (h.0, known_takes o h.0 h.1, ltb-true _ _ k.0)
            | inr k ↦ not_ok _ _ k.1
          ]
    ]

-- ---- a ballot

pub ballot_takes : (round node : Option ℕ) (b : Ballot) → ballot_at round node ≡ Ok b → MeansBallot round node b
unfolding ballot_at
ballot_takes round node b e =
    let x = bind_ok (within MAX_ROUND round) (λ r. within MAX_NODE node >>= λ k. cond (eqb r 0) (Err OutOfRange) (Ok (record { round = r; node = k }))) b e in
    let y = bind_ok (within MAX_NODE node) (λ k. cond (eqb x.0 0) (Err OutOfRange) (Ok (record { round = x.0; node = k }))) b x.2 in
    let r = within_takes MAX_ROUND round x.0 x.1 in
    let k = within_takes MAX_NODE node y.0 y.1 in
    elim (chosen (eqb x.0 0) (Err OutOfRange) (Ok (record { round = x.0; node = y.0 })) (Ok b) y.2) [
      | inl h ↦ not_err _ _ h.1
      | inr h ↦
          let some : x.0 ≡ 0 → ⊥ = eqb-false _ _ h.0 in
          subst (MeansBallot round node) (ok_is (record { round = x.0; node = y.0 }) b h.1)
          (record { round_is = r.0; node_is = k.0; within = record { above_zero = omega arith; round = r.1; node = k.1 } })
    ]

pub ballot_again : (round node : Option ℕ) (b : Ballot) → MeansBallot round node b → ballot_at round node ≡ Ok b
unfolding ballot_at
ballot_again round node b h =
    let w = h.within in
    let some : eqb b.round 0 ≡ false = ne_eqb b.round 0 (omega (arith, w.above_zero)) in
    rw (h.round_is, h.node_is, within_again MAX_ROUND b.round w.round, within_again MAX_NODE b.node w.node, some) refl

pub ballot_faults : (round node : Option ℕ) (fault : MessageFault) → ballot_at round node ≡ Err fault → BallotFault round node fault
unfolding ballot_at
ballot_faults round node fault e =
    elim (bind_err {B = Ballot} (within MAX_ROUND round) (λ r. within MAX_NODE node >>= λ k. cond (eqb r 0) (Err OutOfRange) (Ok (record { round = r; node = k }))) fault e) [
      | inl h ↦ misfit_of fault (λ a. inl a) (λ b. inr (inl b)) (within_faults MAX_ROUND round fault h)
      | inr x ↦
          elim (bind_err {B = Ballot} (within MAX_NODE node) (λ k. cond (eqb x.0 0) (Err OutOfRange) (Ok (record { round = x.0; node = k }))) fault x.2) [
            | inl h ↦ misfit_of fault (λ a. inr a) (λ b. inr (inr b)) (within_faults MAX_NODE node fault h)
            | inr y ↦
                let b : Ballot = record { round = x.0; node = y.0 } in
                elim (chosen (eqb x.0 0) (Err OutOfRange) (Ok b) (Err fault) y.2) [
                  | inl h ↦
                      let r = within_takes MAX_ROUND round x.0 x.1 in
                      subst (BallotFault round node) (err_is _ _ h.1) (inl (r.0 ∙ ap Some (eqb-true _ _ h.0)))
                  | inr h ↦ not_ok b fault h.1
                ]
          ]
    ]

-- ---- a value

pub value_takes : (bytes : Option (List ℕ)) (v : Value) → value_at bytes ≡ Ok v → MeansValue bytes v
unfolding value_at
value_takes bytes v e =
    let x = bind_ok (known bytes) (λ b. cond (eqb (length b) 0) (Ok Noop) (cond (ltb MAX_UPLOAD_BYTES (length b)) (Err OutOfRange) (Ok (Upload b)))) v e in
    let there = known_takes bytes x.0 x.1 in
    elim (chosen (eqb (length x.0) 0) (Ok Noop) (cond (ltb MAX_UPLOAD_BYTES (length x.0)) (Err OutOfRange) (Ok (Upload x.0))) (Ok v) x.2) [
      | inl h ↦
          subst (MeansValue bytes) (ok_is Noop v h.1) (record { bytes_are = there ∙ ap Some (nil_from_length x.0 (eqb-true _ _ h.0)); within = tt })
      | inr h ↦
          elim (chosen (ltb MAX_UPLOAD_BYTES (length x.0)) (Err OutOfRange) (Ok (Upload x.0)) (Ok v) h.1) [
            | inl k ↦ not_err _ _ k.1
            | inr k ↦
                let some : length x.0 ≡ 0 → ⊥ = eqb-false _ _ h.0 in
                subst (MeansValue bytes) (ok_is (Upload x.0) v k.1) (record { bytes_are = there; within = record { some = omega arith; within = ltb-false _ _ k.0 } })
          ]
    ]

pub value_again : (bytes : Option (List ℕ)) (v : Value) → MeansValue bytes v → value_at bytes ≡ Ok v
unfolding value_at known
value_again bytes Noop h = rw h.bytes_are refl
value_again bytes (Upload b) h =
    let w = h.within in
    let some : eqb (length b) 0 ≡ false = ne_eqb (length b) 0 (omega (arith, w.some)) in
    rw (h.bytes_are, some, le-ltb MAX_UPLOAD_BYTES (length b) w.within) refl

pub value_faults : (bytes : Option (List ℕ)) (fault : MessageFault) → value_at bytes ≡ Err fault → ValueFault bytes fault
unfolding value_at
value_faults bytes fault e =
    elim (bind_err {B = Value} (known bytes) (λ b. cond (eqb (length b) 0) (Ok Noop) (cond (ltb MAX_UPLOAD_BYTES (length b)) (Err OutOfRange) (Ok (Upload b)))) fault e) [
      | inl h ↦ let k = known_faults bytes fault h in subst (ValueFault bytes) k.0 k.1
      | inr x ↦
          elim (chosen (eqb (length x.0) 0) (Ok Noop) (cond (ltb MAX_UPLOAD_BYTES (length x.0)) (Err OutOfRange) (Ok (Upload x.0))) (Err fault) x.2) [
            | inl h ↦ not_ok _ _ h.1
            | inr h ↦
                elim (chosen (ltb MAX_UPLOAD_BYTES (length x.0)) (Err OutOfRange) (Ok (Upload x.0)) (Err fault) h.1) [
                  | inl k ↦ subst (ValueFault bytes) (err_is _ _ k.1) (x.0, known_takes bytes x.0 x.1, ltb-true _ _ k.0)
                  | inr k ↦ not_ok _ _ k.1
                ]
          ]
    ]

-- ---- a ballot and a value

pub acceptance_takes : (round node : Option ℕ) (bytes : Option (List ℕ)) (a : Acceptance) → acceptance_at round node bytes ≡ Ok a
    → MeansAcceptance round node bytes a
unfolding acceptance_at
acceptance_takes round node bytes a e =
    let b = bind_ok (ballot_at round node) (λ b. value_at bytes >>= λ v. Ok (record { ballot = b; value = v })) a e in
    let v = bind_ok (value_at bytes) (λ v. Ok (record { ballot = b.0; value = v })) a b.2 in
    subst (MeansAcceptance round node bytes) (ok_is (record { ballot = b.0; value = v.0 }) a v.2)
    (ballot_takes _ _ b.0 b.1, value_takes _ v.0 v.1)

pub acceptance_again : (round node : Option ℕ) (bytes : Option (List ℕ)) (a : Acceptance) → MeansAcceptance round node bytes a
    → acceptance_at round node bytes ≡ Ok a
unfolding acceptance_at
acceptance_again round node bytes a h = rw (ballot_again round node a.ballot h.0, value_again bytes a.value h.1) refl

pub acceptance_faults : (round node : Option ℕ) (bytes : Option (List ℕ)) (fault : MessageFault) → acceptance_at round node bytes ≡ Err fault
    → BallotFault round node fault ⊎ ValueFault bytes fault
unfolding acceptance_at
acceptance_faults round node bytes fault e =
    elim (bind_err {B = Acceptance} (ballot_at round node) (λ b. value_at bytes >>= λ v. Ok (record { ballot = b; value = v })) fault e) [
      | inl h ↦ inl (ballot_faults _ _ fault h)
      | inr b ↦
          elim (bind_err {B = Acceptance} (value_at bytes) (λ v. Ok (record { ballot = b.0; value = v })) fault b.2) [
            | inl h ↦ inr (value_faults _ fault h)
            | inr v ↦ not_ok _ _ v.2
          ]
    ]

-- ---- a report

abbrev later : Parts → Result (Option Acceptance) MessageFault
later p = acceptance_at p.second_round p.second_node p.value >>= λ a. Ok (Some a)

pub report_takes : (p : Parts) (o : Option Acceptance) → report_at p ≡ Ok o → MeansReport p o
unfolding report_at
report_takes p o e =
    let x = bind_ok (known p.second_round) (λ round. cond (eqb round 0) (Ok None) (later p)) o e in
    elim (chosen (eqb x.0 0) (Ok None) (later p) (Ok o) x.2) [
      | inl h ↦ subst (MeansReport p) (ok_is None o h.1) (known_takes p.second_round x.0 x.1 ∙ ap Some (eqb-true _ _ h.0))
      | inr h ↦
          let a = bind_ok (acceptance_at p.second_round p.second_node p.value) (λ a. Ok (Some a)) o h.1 in
          subst (MeansReport p) (ok_is (Some a.0) o a.2) (acceptance_takes _ _ _ a.0 a.1)
    ]

pub report_again : (p : Parts) (o : Option Acceptance) → MeansReport p o → report_at p ≡ Ok o
unfolding report_at known
report_again p None h = rw h refl
report_again p (Some r) h =
    let w = h.0.within in
    let some : eqb r.ballot.round 0 ≡ false = ne_eqb r.ballot.round 0 (omega (arith, w.above_zero)) in
    let acceptance = rw h.0.round_is at (acceptance_again p.second_round p.second_node p.value r h) in
    rw (h.0.round_is, some, acceptance) refl

abbrev pub ReportFault : Parts → MessageFault → Type 0
ReportFault p fault = (p.second_round ≢ Some 0) × (BallotFault p.second_round p.second_node fault ⊎ ValueFault p.value fault)

pub report_faults : (p : Parts) (fault : MessageFault) → report_at p ≡ Err fault → ReportFault p fault
unfolding report_at
report_faults p fault e =
    elim (bind_err {B = Option Acceptance} (known p.second_round) (λ round. cond (eqb round 0) (Ok None) (later p)) fault e) [
      | inl h ↦
          let k = known_faults p.second_round fault h in
          (λ is. absurd (let no : None ≡ Some 0 = sym k.1 ∙ is in cc), inl (subst (BallotFault p.second_round p.second_node) k.0 (inl k.1)))
      | inr x ↦
          let there = known_takes p.second_round x.0 x.1 in
          elim (chosen (eqb x.0 0) (Ok None) (later p) (Err fault) x.2) [
            | inl h ↦ not_ok _ _ h.1
            | inr h ↦
                let some : p.second_round ≢ Some 0 = λ is. eqb-false x.0 0 h.0 (some_is x.0 0 (sym there ∙ is)) in (
                  some,
                  elim (bind_err {B = Option Acceptance} (acceptance_at p.second_round p.second_node p.value) (λ a. Ok (Some a)) fault h.1) [
                    | inl k ↦ acceptance_faults _ _ _ fault k
                    | inr a ↦ not_ok _ _ a.2
                  ],
                )
          ]
    ]
  where
    some_is : (a b : ℕ) → ◌≡◌ {A = Option ℕ} (Some a) (Some b) → a ≡ b
    some_is a b e = cc
