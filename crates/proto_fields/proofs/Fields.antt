-- A field that is read is encoded so, what is encoded so is read, and each fault stands where it is told.
use Rattle.std.proofs.Common.{◌≡◌, ◌≢◌, ℕ, ◌+◌, ◌*◌, ◌/◌, ◌%◌, ◌<◌, ◌≤◌, Bool, true, false, cond, ltb, eqb, List, ◌++◌, length, take, drop, Result, Ok, Err, refl, sym, ap, subst, ◌∙◌, arith, ◌⊎◌, inl, inr, append_assoc}
use Rattle.std.specs.Prelude.{◌&&◌, nat_lt, nat_le}
use Rattle.std.proofs.lemmas.Bool.{ltb-true, ltb-false, le-ltb, lt-ltb, eqb-true, eqb-false, leb-true, le-leb, cases_eq}
use Rattle.std.proofs.lemmas.List.{take_at, drop_at, take-append-drop, length-take, length-append}
use Rattle.proto_fields.specs.declared.fault.WireFault.{WireFault}
use Rattle.proto_fields.specs.declared.fault.WireFault.TheVariants.{BadVarint, BadKey, BadWireType, CutShort, NotUtf8, OutOfMemory}
use Rattle.proto_fields.specs.Varint.{IsVarint, IsCutVarint, IsBadVarint, VarintFault}
use Rattle.proto_fields.specs.Field.{Held, Varint, Eight, Bytes, Four, Field, wire_type, IsFieldNumber, EncodesHeld, EncodesField, KeyThen, IsCutBytes, FieldFault, max_field_number}
use Rattle.proto_fields.specs.Reading.{IsBytes, ◌>>=◌, varint_at, bytes_at, held_read, number_of_key, field_read}
use Rattle.proto_fields.proofs.Steps.{IsBytes-right, bind_ok, bind_err, chosen, ok_is, err_is, not_ok, not_err}
use Rattle.proto_fields.proofs.Numbers.{varint_takes, varint_again, varint_faults}

-- ---- a number of bytes

bytes_takes : (n : ℕ) (text bytes rest : List ℕ) → bytes_at n text ≡ Ok (bytes, rest) → (text ≡ bytes ++ rest) × (length bytes ≡ n)
unfolding bytes_at
bytes_takes n text bytes rest e =
    elim (chosen (ltb (length text) n) (Err CutShort) (Ok (take n text, drop n text)) (Ok (bytes, rest)) e) [
      | inl h ↦ not_err _ _ h.1
      | inr h ↦
          let same = ok_is (take n text, drop n text) (bytes, rest) h.1 in
          let long : n ≤ length text = ltb-false _ _ h.0 in
          subst (λ (x : List ℕ × List ℕ). (text ≡ x.0 ++ x.1) × (length x.0 ≡ n)) same
          (sym (take-append-drop n text), omega (arith, length-take n text))
    ]

bytes_again : (bytes rest : List ℕ) (n : ℕ) → length bytes ≡ n → bytes_at n (bytes ++ rest) ≡ Ok (bytes, rest)
unfolding bytes_at
bytes_again bytes rest n len =
    let long : ltb (length (bytes ++ rest)) n ≡ false = le-ltb _ _ (omega (arith, length-append bytes rest)) in
    rw (long, take_at bytes rest n len, drop_at bytes rest n len) refl

bytes_faults : (n : ℕ) (text : List ℕ) (fault : WireFault) → bytes_at n text ≡ Err fault → (CutShort ≡ fault) × (length text < n)
unfolding bytes_at
bytes_faults n text fault e =
    elim (chosen (ltb (length text) n) (Err CutShort) (Ok (take n text, drop n text)) (Err fault) e) [
      | inl h ↦ (err_is _ _ h.1, ltb-true _ _ h.0)
      | inr h ↦ not_ok _ _ h.1
    ]

-- ---- what a field holds

-- what a text begins with when this was read as the content of a field of that wire type
pub record TakesHeld (kind : ℕ) (text : List ℕ) (held : Held) (rest : List ℕ) : Type 0 where
  pub content : List ℕ
  pub parts : text ≡ content ++ rest
  pub encodes : EncodesHeld held content
  pub kind_is : wire_type held ≡ kind

abbrev TakesHeldAt : ℕ → List ℕ → Held × List ℕ → Type 0
TakesHeldAt kind text x = TakesHeld kind text x.0 x.1

takes_varint : (text : List ℕ) (x : Held × List ℕ) → IsBytes text → (varint_at text >>= λ n. Ok (Varint n.0, n.1)) ≡ Ok x → TakesHeldAt 0 text x
takes_varint text x fits e =
    let p = bind_ok (varint_at text) (λ n. Ok (Varint n.0, n.1)) x e in
    let t = varint_takes text p.0.0 p.0.1 fits p.1 in
    subst (TakesHeldAt 0 text) (ok_is (Varint p.0.0, p.0.1) x p.2) (record { content = t.0; parts = t.2; encodes = t.1; kind_is = refl })

takes_eight : (text : List ℕ) (x : Held × List ℕ) → (bytes_at 8 text >>= λ b. Ok (Eight b.0, b.1)) ≡ Ok x → TakesHeldAt 1 text x
takes_eight text x e =
    let p = bind_ok (bytes_at 8 text) (λ b. Ok (Eight b.0, b.1)) x e in
    let t = bytes_takes 8 text p.0.0 p.0.1 p.1 in
    subst (TakesHeldAt 1 text) (ok_is (Eight p.0.0, p.0.1) x p.2) (record { content = p.0.0; parts = t.0; encodes = (t.1, refl); kind_is = refl })

takes_four : (text : List ℕ) (x : Held × List ℕ) → (bytes_at 4 text >>= λ b. Ok (Four b.0, b.1)) ≡ Ok x → TakesHeldAt 5 text x
takes_four text x e =
    let p = bind_ok (bytes_at 4 text) (λ b. Ok (Four b.0, b.1)) x e in
    let t = bytes_takes 4 text p.0.0 p.0.1 p.1 in
    subst (TakesHeldAt 5 text) (ok_is (Four p.0.0, p.0.1) x p.2) (record { content = p.0.0; parts = t.0; encodes = (t.1, refl); kind_is = refl })

takes_bytes : (text : List ℕ) (x : Held × List ℕ) → IsBytes text → (varint_at text >>= λ n. bytes_at n.0 n.1 >>= λ b. Ok (Bytes b.0, b.1)) ≡ Ok x → TakesHeldAt 2 text x
takes_bytes text x fits e =
    let p = bind_ok (varint_at text) (λ n. bytes_at n.0 n.1 >>= λ b. Ok (Bytes b.0, b.1)) x e in
    let t = varint_takes text p.0.0 p.0.1 fits p.1 in
    let q = bind_ok (bytes_at p.0.0 p.0.1) (λ b. Ok (Bytes b.0, b.1)) x p.2 in
    let u = bytes_takes p.0.0 p.0.1 q.0.0 q.0.1 q.1 in
    let count : IsVarint t.0 (length q.0.0) = rw u.1 t.1 in
    subst (TakesHeldAt 2 text) (ok_is (Bytes q.0.0, q.0.1) x q.2)
    (record {
      content = t.0 ++ q.0.0;
      parts = t.2 ∙ ap (λ (l : List ℕ). t.0 ++ l) u.0 ∙ sym (append_assoc t.0 q.0.0 q.0.1);
      encodes = (t.0, count, refl);
      kind_is = refl;
    })

pub held_takes : (kind : ℕ) (text : List ℕ) (x : Held × List ℕ) → IsBytes text → held_read kind text ≡ Ok x → TakesHeldAt kind text x
unfolding held_read
held_takes kind text x fits e =
    let r0 : Result (Held × List ℕ) WireFault = varint_at text >>= λ n. Ok (Varint n.0, n.1) in
    let r1 : Result (Held × List ℕ) WireFault = bytes_at 8 text >>= λ b. Ok (Eight b.0, b.1) in
    let r2 : Result (Held × List ℕ) WireFault = varint_at text >>= λ n. bytes_at n.0 n.1 >>= λ b. Ok (Bytes b.0, b.1) in
    let r5 : Result (Held × List ℕ) WireFault = bytes_at 4 text >>= λ b. Ok (Four b.0, b.1) in
    elim (chosen (eqb kind 0) r0 (cond (eqb kind 1) r1 (cond (eqb kind 2) r2 (cond (eqb kind 5) r5 (Err BadWireType)))) (Ok x) e) [
      | inl h ↦ rw (eqb-true _ _ h.0) (takes_varint text x fits h.1)
      | inr h ↦
          elim (chosen (eqb kind 1) r1 (cond (eqb kind 2) r2 (cond (eqb kind 5) r5 (Err BadWireType))) (Ok x) h.1) [
            | inl k ↦ rw (eqb-true _ _ k.0) (takes_eight text x k.1)
            | inr k ↦
                elim (chosen (eqb kind 2) r2 (cond (eqb kind 5) r5 (Err BadWireType)) (Ok x) k.1) [
                  | inl l ↦ rw (eqb-true _ _ l.0) (takes_bytes text x fits l.1)
                  | inr l ↦
                      elim (chosen (eqb kind 5) r5 (Err BadWireType) (Ok x) l.1) [
                        | inl m ↦ rw (eqb-true _ _ m.0) (takes_four text x m.1)
                        | inr m ↦ not_err _ _ m.1
                      ]
                ]
          ]
    ]

pub held_again : (held : Held) (content rest : List ℕ) → EncodesHeld held content → held_read (wire_type held) (content ++ rest) ≡ Ok (held, rest)
unfolding held_read
held_again (Varint n) content rest h = rw (varint_again content n rest h) refl
held_again (Eight bytes) content rest h = rw (h.1, bytes_again bytes rest 8 h.0) refl
held_again (Four bytes) content rest h = rw (h.1, bytes_again bytes rest 4 h.0) refl
held_again (Bytes bytes) content rest h =
    let regrouped : content ++ rest ≡ h.0 ++ (bytes ++ rest) = ap (λ (l : List ℕ). l ++ rest) h.2 ∙ append_assoc h.0 bytes rest in
    rw (regrouped, varint_again h.0 (length bytes) (bytes ++ rest) h.1, bytes_again bytes rest (length bytes) refl) refl

abbrev read_varint : List ℕ → Result (Held × List ℕ) WireFault
read_varint text = varint_at text >>= λ n. Ok (Varint n.0, n.1)

abbrev read_eight : List ℕ → Result (Held × List ℕ) WireFault
read_eight text = bytes_at 8 text >>= λ b. Ok (Eight b.0, b.1)

abbrev read_bytes : List ℕ → Result (Held × List ℕ) WireFault
read_bytes text = varint_at text >>= λ n. bytes_at n.0 n.1 >>= λ b. Ok (Bytes b.0, b.1)

abbrev read_four : List ℕ → Result (Held × List ℕ) WireFault
read_four text = bytes_at 4 text >>= λ b. Ok (Four b.0, b.1)

-- what is wrong with a text that begins with no content of that wire type
abbrev pub HeldFault : ℕ → WireFault → List ℕ → Type 0
HeldFault kind CutShort text =
    ((kind ≡ 0) × IsCutVarint text) ⊎ ((kind ≡ 2) × IsCutVarint text) ⊎ ((kind ≡ 2) × IsCutBytes text)
    ⊎ ((kind ≡ 1) × (length text < 8)) ⊎ ((kind ≡ 5) × (length text < 4))
HeldFault kind BadVarint text = ((kind ≡ 0) × IsBadVarint text) ⊎ ((kind ≡ 2) × IsBadVarint text)
HeldFault kind BadWireType text = (kind ≢ 0) × (kind ≢ 1) × (kind ≢ 2) × (kind ≢ 5)
HeldFault kind BadKey text = ⊥
HeldFault kind NotUtf8 text = ⊥
HeldFault kind OutOfMemory text = ⊥

faults_at_0 : (text : List ℕ) (fault : WireFault) → VarintFault fault text → HeldFault 0 fault text
faults_at_0 text CutShort h = inl (refl, h)
faults_at_0 text BadVarint h = inl (refl, h)
faults_at_0 text BadWireType h = absurd h
faults_at_0 text BadKey h = absurd h
faults_at_0 text NotUtf8 h = absurd h
faults_at_0 text OutOfMemory h = absurd h

faults_at_2 : (text : List ℕ) (fault : WireFault) → VarintFault fault text → HeldFault 2 fault text
faults_at_2 text CutShort h = inr (inl (refl, h))
faults_at_2 text BadVarint h = inr (refl, h)
faults_at_2 text BadWireType h = absurd h
faults_at_2 text BadKey h = absurd h
faults_at_2 text NotUtf8 h = absurd h
faults_at_2 text OutOfMemory h = absurd h

faults_varint : (text : List ℕ) (fault : WireFault) → IsBytes text → read_varint text ≡ Err fault → HeldFault 0 fault text
faults_varint text fault fits e =
    elim (bind_err {B = Held × List ℕ} (varint_at text) (λ n. Ok (Varint n.0, n.1)) fault e) [
      | inl h ↦ faults_at_0 text fault (varint_faults text fault fits h)
      | inr h ↦ not_ok _ _ h.2
    ]

faults_eight : (text : List ℕ) (fault : WireFault) → read_eight text ≡ Err fault → HeldFault 1 fault text
faults_eight text fault e =
    elim (bind_err {B = Held × List ℕ} (bytes_at 8 text) (λ b. Ok (Eight b.0, b.1)) fault e) [
      | inl h ↦ let p = bytes_faults 8 text fault h in subst (λ (f : WireFault). HeldFault 1 f text) p.0 (inr (inr (inr (inl (refl, p.1)))))
      | inr h ↦ not_ok _ _ h.2
    ]

faults_four : (text : List ℕ) (fault : WireFault) → read_four text ≡ Err fault → HeldFault 5 fault text
faults_four text fault e =
    elim (bind_err {B = Held × List ℕ} (bytes_at 4 text) (λ b. Ok (Four b.0, b.1)) fault e) [
      | inl h ↦ let p = bytes_faults 4 text fault h in subst (λ (f : WireFault). HeldFault 5 f text) p.0 (inr (inr (inr (inr (refl, p.1)))))
      | inr h ↦ not_ok _ _ h.2
    ]

faults_bytes : (text : List ℕ) (fault : WireFault) → IsBytes text → read_bytes text ≡ Err fault → HeldFault 2 fault text
faults_bytes text fault fits e =
    elim (bind_err {B = Held × List ℕ} (varint_at text) (λ n. bytes_at n.0 n.1 >>= λ b. Ok (Bytes b.0, b.1)) fault e) [
      | inl h ↦ faults_at_2 text fault (varint_faults text fault fits h)
      | inr h ↦
          let t = varint_takes text h.0.0 h.0.1 fits h.1 in
          elim (bind_err {B = Held × List ℕ} (bytes_at h.0.0 h.0.1) (λ b. Ok (Bytes b.0, b.1)) fault h.2) [
            | inl k ↦
                let p = bytes_faults h.0.0 h.0.1 fault k in
                subst (λ (f : WireFault). HeldFault 2 f text) p.0 (inr (inr (inl (refl, (t.0, h.0.1, h.0.0, t.1, t.2, p.1)))))
            | inr k ↦ not_ok _ _ k.2
          ]
    ]

pub held_faults : (kind : ℕ) (text : List ℕ) (fault : WireFault) → IsBytes text → held_read kind text ≡ Err fault → HeldFault kind fault text
unfolding held_read
held_faults kind text fault fits e =
    let r0 : Result (Held × List ℕ) WireFault = varint_at text >>= λ n. Ok (Varint n.0, n.1) in
    let r1 : Result (Held × List ℕ) WireFault = bytes_at 8 text >>= λ b. Ok (Eight b.0, b.1) in
    let r2 : Result (Held × List ℕ) WireFault = varint_at text >>= λ n. bytes_at n.0 n.1 >>= λ b. Ok (Bytes b.0, b.1) in
    let r5 : Result (Held × List ℕ) WireFault = bytes_at 4 text >>= λ b. Ok (Four b.0, b.1) in
    elim (chosen (eqb kind 0) r0 (cond (eqb kind 1) r1 (cond (eqb kind 2) r2 (cond (eqb kind 5) r5 (Err BadWireType)))) (Err fault) e) [
      | inl h ↦ rw (eqb-true _ _ h.0) (faults_varint text fault fits h.1)
      | inr h ↦
          elim (chosen (eqb kind 1) r1 (cond (eqb kind 2) r2 (cond (eqb kind 5) r5 (Err BadWireType))) (Err fault) h.1) [
            | inl k ↦ rw (eqb-true _ _ k.0) (faults_eight text fault k.1)
            | inr k ↦
                elim (chosen (eqb kind 2) r2 (cond (eqb kind 5) r5 (Err BadWireType)) (Err fault) k.1) [
                  | inl l ↦ rw (eqb-true _ _ l.0) (faults_bytes text fault fits l.1)
                  | inr l ↦
                      elim (chosen (eqb kind 5) r5 (Err BadWireType) (Err fault) l.1) [
                        | inl m ↦ rw (eqb-true _ _ m.0) (faults_four text fault m.1)
                        | inr m ↦
                            subst (λ (f : WireFault). HeldFault kind f text) (err_is _ _ m.1)
                            (eqb-false _ _ h.0, eqb-false _ _ k.0, eqb-false _ _ l.0, eqb-false _ _ m.0)
                      ]
                ]
          ]
    ]

-- ---- keys

and_true : (a b : Bool) → (a && b) ≡ true → (a ≡ true) × (b ≡ true)
and_true true true e = (refl, refl)
and_true true false e = absurd cc
and_true false b e = absurd cc

key_takes : (key number : ℕ) → number_of_key key ≡ Ok number → IsFieldNumber number × (number ≡ key / 8)
unfolding number_of_key
key_takes key number e =
    elim (chosen (nat_lt 0 (key / 8) && nat_le (key / 8) max_field_number) (Ok (key / 8)) (Err BadKey) (Ok number) e) [
      | inl h ↦
          let same : key / 8 ≡ number = ok_is _ _ h.1 in
          let both = and_true (nat_lt 0 (key / 8)) (nat_le (key / 8) max_field_number) h.0 in
          subst (λ (n : ℕ). IsFieldNumber n × (n ≡ key / 8)) same ((ltb-true _ _ both.0, leb-true _ _ both.1), refl)
      | inr h ↦ not_err _ _ h.1
    ]

key_again : (number kind : ℕ) → IsFieldNumber number → kind < 8 → number_of_key (8 * number + kind) ≡ Ok number
unfolding number_of_key
key_again number kind is lt =
    let same : (8 * number + kind) / 8 ≡ number = omega arith in
    let some : nat_lt 0 number ≡ true = lt-ltb _ _ is.0 in
    let within : nat_le number max_field_number ≡ true = le-leb _ _ is.1 in
    rw (same, some, within) refl

key_faults : (key : ℕ) (fault : WireFault) → number_of_key key ≡ Err fault → (BadKey ≡ fault) × (¬ IsFieldNumber (key / 8))
unfolding number_of_key
key_faults key fault e =
    elim (chosen (nat_lt 0 (key / 8) && nat_le (key / 8) max_field_number) (Ok (key / 8)) (Err BadKey) (Err fault) e) [
      | inl h ↦ not_ok _ _ h.1
      | inr h ↦ (
        err_is _ _ h.1,
        λ is.
            let some : nat_lt 0 (key / 8) ≡ true = lt-ltb _ _ is.0 in
            let within : nat_le (key / 8) max_field_number ≡ true = le-leb _ _ is.1 in
            let yes : (nat_lt 0 (key / 8) && nat_le (key / 8) max_field_number) ≡ true = rw (some, within) refl in
            absurd cc,
      )
    ]

kind_below : (held : Held) → wire_type held < 8
kind_below (Varint n) = omega arith
kind_below (Eight bytes) = omega arith
kind_below (Bytes bytes) = omega arith
kind_below (Four bytes) = omega arith

-- ---- fields

-- what a text begins with when this field was read
pub field_takes : (text : List ℕ) (x : Field × List ℕ) → IsBytes text → field_read text ≡ Ok x → (first : List ℕ) × (text ≡ first ++ x.1) × EncodesField x.0 first
unfolding field_read
field_takes text x fits e =
    let a = bind_ok (varint_at text) (λ key. number_of_key key.0 >>= λ number. held_read (key.0 % 8) key.1 >>= λ held. Ok (record { number = number; held = held.0 }, held.1)) x e in
    let b = bind_ok (number_of_key a.0.0) (λ number. held_read (a.0.0 % 8) a.0.1 >>= λ held. Ok (record { number = number; held = held.0 }, held.1)) x a.2 in
    let c = bind_ok (held_read (a.0.0 % 8) a.0.1) (λ held. Ok (record { number = b.0; held = held.0 }, held.1)) x b.2 in
    let key = varint_takes text a.0.0 a.0.1 fits a.1 in
    let number = key_takes a.0.0 b.0 b.1 in
    let later : IsBytes a.0.1 = IsBytes-right key.0 a.0.1 (subst IsBytes key.2 fits) in
    let held = held_takes (a.0.0 % 8) a.0.1 c.0 later c.1 in
    let whole : 8 * b.0 + wire_type c.0.0 ≡ a.0.0 = omega (arith, number.1, held.kind_is) in
    let made : Field × List ℕ = (record { number = b.0; held = c.0.0 }, c.0.1) in
    subst (λ (y : Field × List ℕ). (first : List ℕ) × (text ≡ first ++ y.1) × EncodesField y.0 first) (ok_is made x c.2) (
      key.0 ++ held.content,
      key.2 ∙ ap (λ (l : List ℕ). key.0 ++ l) held.parts ∙ sym (append_assoc key.0 held.content c.0.1),
      record {
        key = key.0;
        content = held.content;
        parts = refl;
        number = number.0;
        encodes_key = rw whole key.1;
        encodes_held = held.encodes;
      },
    )

pub field_again : (f : Field) (first rest : List ℕ) → EncodesField f first → field_read (first ++ rest) ≡ Ok (f, rest)
unfolding field_read
field_again f first rest encodes =
    let regrouped : first ++ rest ≡ encodes.key ++ (encodes.content ++ rest) = ap (λ (l : List ℕ). l ++ rest) encodes.parts ∙ append_assoc encodes.key encodes.content rest in
    let kind = kind_below f.held in
    let low : (8 * f.number + wire_type f.held) % 8 ≡ wire_type f.held = omega arith in
    rw (regrouped, varint_again encodes.key (8 * f.number + wire_type f.held) (encodes.content ++ rest) encodes.encodes_key, key_again f.number (wire_type f.held) encodes.number kind, low, held_again f.held encodes.content rest encodes.encodes_held) refl

kind_is_unknown : (kind : ℕ) → kind < 8 → kind ≢ 0 → kind ≢ 1 → kind ≢ 2 → kind ≢ 5 → (kind ≡ 3) ⊎ (kind ≡ 4) ⊎ (kind ≡ 6) ⊎ (kind ≡ 7)
kind_is_unknown kind lt a b c d =
    elim (cases_eq kind 3) [
      | inl e ↦ inl e
      | inr x ↦
          elim (cases_eq kind 4) [
            | inl e ↦ inr (inl e)
            | inr y ↦ elim (cases_eq kind 6) [ inl e ↦ inr (inr (inl e)) | inr z ↦ inr (inr (inr (omega arith))) ]
          ]
    ]

-- a fault of the text after a whole key
fault_after_key : (text : List ℕ) (number kind : ℕ) (rest : List ℕ) (fault : WireFault) → KeyThen text number kind rest → HeldFault kind fault rest → FieldFault fault text
fault_after_key text number kind rest CutShort key h =
    elim h [
      | inl a ↦ inr (inl (number, rest, subst (λ (k : ℕ). KeyThen text number k rest) a.0 key, a.1))
      | inr b ↦
          elim b [
            | inl a ↦ inr (inr (inl (number, rest, subst (λ (k : ℕ). KeyThen text number k rest) a.0 key, a.1)))
            | inr c ↦
                elim c [
                  | inl a ↦ inr (inr (inr (inl (number, rest, subst (λ (k : ℕ). KeyThen text number k rest) a.0 key, a.1))))
                  | inr d ↦
                      elim d [
                        | inl a ↦ inr (inr (inr (inr (inl (number, rest, subst (λ (k : ℕ). KeyThen text number k rest) a.0 key, a.1)))))
                        | inr a ↦ inr (inr (inr (inr (inr (number, rest, subst (λ (k : ℕ). KeyThen text number k rest) a.0 key, a.1)))))
                      ]
                ]
          ]
    ]
fault_after_key text number kind rest BadVarint key h =
    elim h [
      | inl a ↦ inr (inl (number, rest, subst (λ (k : ℕ). KeyThen text number k rest) a.0 key, a.1))
      | inr a ↦ inr (inr (number, rest, subst (λ (k : ℕ). KeyThen text number k rest) a.0 key, a.1))
    ]
fault_after_key text number kind rest BadWireType key h =
    (kind, (number, rest, key, tt), kind_is_unknown kind key.2 h.0 h.1 h.2 h.3)
fault_after_key text number kind rest BadKey key h = absurd h
fault_after_key text number kind rest NotUtf8 key h = absurd h
fault_after_key text number kind rest OutOfMemory key h = absurd h

fault_of_key : (text : List ℕ) (fault : WireFault) → VarintFault fault text → FieldFault fault text
fault_of_key text CutShort h = inl h
fault_of_key text BadVarint h = inl h
fault_of_key text BadWireType h = absurd h
fault_of_key text BadKey h = absurd h
fault_of_key text NotUtf8 h = absurd h
fault_of_key text OutOfMemory h = absurd h

pub field_faults : (text : List ℕ) (fault : WireFault) → IsBytes text → field_read text ≡ Err fault → FieldFault fault text
unfolding field_read
field_faults text fault fits e =
    let after : ℕ → List ℕ → ℕ → Result (Field × List ℕ) WireFault = λ key rest number. held_read (key % 8) rest >>= λ held. Ok (record { number = number; held = held.0 }, held.1) in
    elim (bind_err (varint_at text) (λ key. number_of_key key.0 >>= after key.0 key.1) fault e) [
      | inl h ↦ fault_of_key text fault (varint_faults text fault fits h)
      | inr a ↦
          let key = varint_takes text a.0.0 a.0.1 fits a.1 in
          let later : IsBytes a.0.1 = IsBytes-right key.0 a.0.1 (subst IsBytes key.2 fits) in
          let split : 8 * (a.0.0 / 8) + a.0.0 % 8 ≡ a.0.0 = omega arith in
          let begins : KeyThen text (a.0.0 / 8) (a.0.0 % 8) a.0.1 = (key.0, rw split key.1, omega arith, key.2) in
          elim (bind_err (number_of_key a.0.0) (after a.0.0 a.0.1) fault a.2) [
            | inl h ↦
                let k = key_faults a.0.0 fault h in
                subst (λ (f : WireFault). FieldFault f text) k.0 (a.0.0 / 8, a.0.0 % 8, a.0.1, begins, k.1)
            | inr b ↦
                elim (bind_err {B = Field × List ℕ} (held_read (a.0.0 % 8) a.0.1) (λ held. Ok (record { number = b.0; held = held.0 }, held.1)) fault b.2) [
                  | inl h ↦ fault_after_key text (a.0.0 / 8) (a.0.0 % 8) a.0.1 fault begins (held_faults (a.0.0 % 8) a.0.1 fault later h)
                  | inr h ↦ not_ok _ _ h.2
                ]
          ]
    ]
