-- Fields of a table.
use Rattle.std.proofs.Common.{◌≡◌, ℕ, ℤ, pos, ◌+◌, ◌*◌, ◌-ℤ◌, ◌<ℤ◌, ◌≤◌, ◌<◌, inl, inr, List, length, Option, Some}
use Rattle.std.proofs.Common.{None, Result, Ok, Err, IfErr, arith, refl, sym, ap, ◌∙◌, subst}
use Rattle.std.proofs.lemmas.Int.{ints}
use Rattle.flat_places.specs.declared.fault.PlaceFault.{PlaceFault}
use Rattle.flat_places.specs.declared.fault.PlaceFault.TheVariants.{OutOfBounds, NotUtf8, SmallVtable}
use Rattle.flat_places.specs.Number.{ShowsUint}
use Rattle.flat_places.specs.declared.table.Table.TheInside.{Inside}
use Rattle.flat_places.specs.Table.{ShowsVtable, ShowsTable, HasTable, ShowsField, SlotSays, Seen, slot_place}
use Rattle.flat_places.specs.TableView.{seen_of, KnowsItsVtable}
use Rattle.flat_places.specs.Fault.{NumberFault, VtableFault, TableFault, CutSlotFault, SlotFault}
use Rattle.flat_places.proofs.Numbers.{uint_same, uint_within, int_same}

pub vtable_same : (text : List ℕ) (table v w : ℕ) → ShowsVtable text table v → ShowsVtable text table w → v ≡ w
vtable_same text table v w p q =
    let same : p.offset ≡ q.offset = int_same text table 4 p.offset q.offset p.shown q.shown in
    let places : pos v ≡ pos w = p.subtracted ∙ ap (λ z. pos table -ℤ z) same ∙ sym q.subtracted in
    cc

pub table_same : (text : List ℕ) (table v w m n : ℕ) → ShowsTable text table v m → ShowsTable text table w n
    → (v ≡ w) × (m ≡ n)
table_same text table v w m n p q =
    let places : v ≡ w = vtable_same text table v w p.leads q.leads in
    let there : ShowsUint text w 2 m = subst (λ k. ShowsUint text k 2 m) places p.size in
    (places, uint_same text w 2 m n there q.size)

-- one vtable says one thing of a field
says_same : (text : List ℕ) (table v m n : ℕ) (x y : Option ℕ) → SlotSays text table v m n x
    → SlotSays text table v m n y → x ≡ y
says_same text table v m n None None p q = refl
says_same text table v m n None (Some y) (inl few) (offset, has, above, shown, at) = absurd (omega arith)
says_same text table v m n None (Some y) (inr zero) (offset, has, above, shown, at) =
    let same : 0 ≡ offset = uint_same text (slot_place v n) 2 0 offset zero shown in absurd (omega arith)
says_same text table v m n (Some x) None (offset, has, above, shown, at) (inl few) = absurd (omega arith)
says_same text table v m n (Some x) None (offset, has, above, shown, at) (inr zero) =
    let same : 0 ≡ offset = uint_same text (slot_place v n) 2 0 offset zero shown in absurd (omega arith)
says_same text table v m n (Some x) (Some y) (offset, has, above, shown, at) (offset', has', above', shown', at') =
    let same : offset ≡ offset' = uint_same text (slot_place v n) 2 offset offset' shown shown' in
    ap Some (at ∙ ap (λ k. table + k) same ∙ sym at')

pub field_same : (text : List ℕ) (table n : ℕ) (x y : Option ℕ) → ShowsField text table n x → ShowsField text table n y
    → x ≡ y
field_same text table n x y p q =
    let same = table_same text table p.vtable q.vtable p.own_size q.own_size p.shown q.shown in
    let moved : SlotSays text table q.vtable p.own_size n x =
    subst (λ v. SlotSays text table v p.own_size n x) same.0 p.says in
    let sized : SlotSays text table q.vtable q.own_size n x =
    subst (λ m. SlotSays text table q.vtable m n x) same.1 moved in
    says_same text table q.vtable q.own_size n x y sized q.says

-- where the way to a vtable is cut, there is none
vtable_not_cut : (text : List ℕ) (table : ℕ) (v : ℕ) → VtableFault text table OutOfBounds → ShowsVtable text table v → ⊥
vtable_not_cut text table v (inl cut) shown =
    let within : table + 4 ≤ length text = uint_within text table 4 shown.shown.bits shown.shown.shown in omega arith
vtable_not_cut text table v (inr (z, read, past)) shown =
    let same : z ≡ shown.offset = int_same text table 4 z shown.offset read shown.shown in
    let beyond : pos table <ℤ shown.offset = subst (λ (y : ℤ). pos table <ℤ y) same past in
    omega (arith, ints, shown.subtracted)

-- where something is wrong with a table, there is none
pub no_table : (text : List ℕ) (table : ℕ) (e : PlaceFault) → TableFault text table e → HasTable text table → ⊥
no_table text table OutOfBounds (inl cut) (v, m, shown, whole) = vtable_not_cut text table v cut shown.leads
no_table text table OutOfBounds (inr (w, read, cut)) (v, m, shown, whole) =
    let same : w ≡ v = vtable_same text table w v read shown.leads in
    let within : v + 2 ≤ length text = uint_within text v 2 m shown.size in
    omega arith
no_table text table NotUtf8 fault has = fault
no_table text table SmallVtable (w, k, read, few) (v, m, shown, whole) =
    let same = table_same text table w v k m read shown in
    omega (arith, same.1)

pub field_table : (text : List ℕ) (table n : ℕ) (x : Option ℕ) → ShowsField text table n x → HasTable text table
field_table text table n x h = (h.vtable, h.own_size, h.shown, h.whole)

-- where something is wrong with a table, it shows no field
pub table_not_cut : (text : List ℕ) (table n : ℕ) (e : PlaceFault) (x : Option ℕ) → TableFault text table e
    → ShowsField text table n x → ⊥
table_not_cut text table n e x fault shown = no_table text table e fault (field_table text table n x shown)

-- a vtable that is long enough for a slot says something of it only where the slot lies in the text
says_within : (text : List ℕ) (table v m n : ℕ) (x : Option ℕ) → SlotSays text table v m n x → 6 + 2 * n ≤ m
    → slot_place v n + 2 ≤ length text
says_within text table v m n None (inl few) has = absurd (omega arith)
says_within text table v m n None (inr zero) has = uint_within text (slot_place v n) 2 0 zero
says_within text table v m n (Some x) (offset, has', above, shown, at) has =
    uint_within text (slot_place v n) 2 offset shown

pub field_not_cut : (text : List ℕ) (table n : ℕ) (e : PlaceFault) (x : Option ℕ) → SlotFault text table n e
    → ShowsField text table n x → ⊥
field_not_cut text table n OutOfBounds x (inl fault) shown = table_not_cut text table n OutOfBounds x fault shown
field_not_cut text table n OutOfBounds x (inr (v, m, read, has, cut)) shown =
    let same = table_same text table v shown.vtable m shown.own_size read shown.shown in
    let enough : 6 + 2 * n ≤ shown.own_size = omega (arith, same.1) in
    let within : slot_place shown.vtable n + 2 ≤ length text =
    says_within text table shown.vtable shown.own_size n x shown.says enough in
    omega (arith, same.0)
field_not_cut text table n NotUtf8 x fault shown = fault
field_not_cut text table n SmallVtable x fault shown = table_not_cut text table n SmallVtable x fault shown

-- the ways to a field
pub field_short : (text : List ℕ) (table n v m : ℕ) → ShowsTable text table v m → 4 ≤ m → m < 6 + 2 * n
    → ShowsField text table n None
field_short text table n v m shown whole few =
    record { vtable = v; own_size = m; shown = shown; whole = whole; says = inl few }

pub field_zero : (text : List ℕ) (table n v m x : ℕ) → ShowsTable text table v m → 4 ≤ m
    → ShowsUint text (slot_place v n) 2 x → x ≡ 0
    → ShowsField text table n None
field_zero text table n v m x shown whole read is =
    record {
      vtable = v;
      own_size = m;
      shown = shown;
      whole = whole;
      says =
          inr (subst (ShowsUint text (slot_place v n) 2) is read);
    }

pub field_there : (text : List ℕ) (table n v m x : ℕ) → ShowsTable text table v m → 4 ≤ m → 6 + 2 * n ≤ m
    → ShowsUint text (slot_place v n) 2 x
    → 0 < x → ShowsField text table n (Some (table + x))
field_there text table n v m x shown whole has read above =
    record { vtable = v; own_size = m; shown = shown; whole = whole; says = (x, has, above, read, refl) }

-- a number that is cut on the way to a field
pub size_cut : (text : List ℕ) (table v : ℕ) (e : PlaceFault) → ShowsVtable text table v → NumberFault text v 2 e
    → TableFault text table e
size_cut text table v OutOfBounds shown cut = inr (v, shown, cut)
size_cut text table v NotUtf8 shown cut = absurd cut
size_cut text table v SmallVtable shown cut = absurd cut

pub slot_cut : (text : List ℕ) (table n v m : ℕ) (e : PlaceFault) → ShowsTable text table v m → 6 + 2 * n ≤ m
    → NumberFault text (slot_place v n) 2 e → CutSlotFault text table n e
slot_cut text table n v m OutOfBounds shown has cut = (v, m, shown, has, cut)
slot_cut text table n v m NotUtf8 shown has cut = absurd cut
slot_cut text table n v m SmallVtable shown has cut = absurd cut

-- a slot that is cut, or the table that has it
pub cut_slot_fault : (text : List ℕ) (table n : ℕ) (e : PlaceFault) → CutSlotFault text table n e
    → SlotFault text table n e
cut_slot_fault text table n OutOfBounds cut = inr cut
cut_slot_fault text table n NotUtf8 cut = absurd cut
cut_slot_fault text table n SmallVtable cut = absurd cut

pub table_slot_fault : (text : List ℕ) (table n : ℕ) (e : PlaceFault) → TableFault text table e
    → SlotFault text table n e
table_slot_fault text table n OutOfBounds fault = inl fault
table_slot_fault text table n NotUtf8 fault = absurd fault
table_slot_fault text table n SmallVtable fault = fault

-- the view of a table
pub seen_shows : (t : Inside) (s : Seen) → seen_of t ≡ s → KnowsItsVtable t
    → ShowsTable s.buf s.place t.vtable t.own_size
seen_shows t s is knows = subst (λ (k : Seen). ShowsTable k.buf k.place t.vtable t.own_size) is knows.shown

-- the way to the vtable is cut
pub vtable_fault : (text : List ℕ) (table : ℕ) (e : PlaceFault) → VtableFault text table e → TableFault text table e
vtable_fault text table OutOfBounds fault = inl fault
vtable_fault text table NotUtf8 fault = absurd fault
vtable_fault text table SmallVtable fault = absurd fault

pub seen_cut : (t : Inside) (s : Seen) (n : ℕ) (e : PlaceFault) → seen_of t ≡ s → KnowsItsVtable t
    → 6 + 2 * n ≤ t.own_size
    → NumberFault t.buf.now (slot_place t.vtable n) 2 e → CutSlotFault s.buf s.place n e
seen_cut t s n e is knows has cut =
    subst (λ (k : Seen). CutSlotFault k.buf k.place n e) is
    (slot_cut t.buf.now t.place n t.vtable t.own_size e knows.shown has cut)

pub seen_zero : (t : Inside) (s : Seen) (n x : ℕ) → seen_of t ≡ s → KnowsItsVtable t
    → ShowsUint t.buf.now (slot_place t.vtable n) 2 x → x ≡ 0
    → ShowsField s.buf s.place n None
seen_zero t s n x is knows read zero =
    subst (λ (k : Seen). ShowsField k.buf k.place n None) is
    (field_zero t.buf.now t.place n t.vtable t.own_size x knows.shown knows.whole read zero)

pub seen_there : (t : Inside) (s : Seen) (n x : ℕ) → seen_of t ≡ s → KnowsItsVtable t → 6 + 2 * n ≤ t.own_size
    → ShowsUint t.buf.now (slot_place t.vtable n) 2 x → 0 < x → ShowsField s.buf s.place n (Some (t.place + x))
seen_there t s n x is knows has read above =
    subst (λ (k : Seen). ShowsField k.buf k.place n (Some (t.place + x))) is
    (field_there t.buf.now t.place n t.vtable t.own_size x knows.shown knows.whole has read above)

pub slot_faults : {A : Type 0} (r : Result A PlaceFault) (s : Seen) (text : List ℕ) (table n : ℕ)
    → s ≡ record { buf = text; place = table }
    → IfErr r (CutSlotFault s.buf s.place n) → IfErr r (SlotFault text table n)
slot_faults (Ok x) s text table n is cut = tt
slot_faults (Err e) s text table n is cut =
    cut_slot_fault text table n e (subst (λ (k : Seen). CutSlotFault k.buf k.place n e) is cut)

pub table_within : (text : List ℕ) (table v m : ℕ) → ShowsTable text table v m
    → (table + 4 ≤ length text) × (v + 2 ≤ length text)
table_within text table v m h =
    (uint_within text table 4 h.leads.shown.bits h.leads.shown.shown, uint_within text v 2 m h.size)
