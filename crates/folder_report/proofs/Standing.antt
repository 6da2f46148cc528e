-- What marked slots say of the records.
use Rattle.std.proofs.Common.{◌≡◌, ◌<◌, ℕ, Bool, true, false, List, length, get_or, Some, None, refl, sym, ap, subst, ◌∙◌, eqb, eq-eqb}
use Rattle.std.specs.List.{Any, Contains, list_any}
use Rattle.std.proofs.lemmas.Bool.{eqb-true}
use Rattle.std.proofs.lemmas.List.Elements.{All-contains, Contains-get_or}
use Rattle.std.proofs.lemmas.List.Folds.{Any-from_list_any, list_any-from_Any}
use Rattle.std.proofs.lemmas.Option.{get_or_from_slice_get, same_Some, slice_get_read, slice_get_within}
use Rattle.ballots.specs.Acceptance.{acceptance}
use Rattle.ballots.specs.declared.acceptance.Acceptance.{Acceptance}
use Rattle.ballots.specs.declared.message.Message.{Message}
use Rattle.ballots.specs.declared.record.Record.{Record}
use Rattle.ballots.specs.declared.record.Record.TheVariants.{Accepted, Began, Promised, PromisedFrom}
use Rattle.ballots.specs.declared.value.Value.{Value}
use Rattle.ballots.proofs.CallerLemmas.{majorities_meet}
use Rattle.chosen_records.specs.Chosen.{IsChosenAt, IsRecorded, IsToldChosen, Records, TellsChosen, told_of}
use Rattle.folder_report.specs.Marks.{ListsMarked, MarkAll, Marks, accept, accepts, are_of, mark_at, stand}
use Rattle.folder_report.specs.Reporting.{AreServed, IsAccepted, IsChosenByRecords, StandsAs, TellsSlots}
use Rattle.folder_report.specs.Values.{FillSlots, TellsAgain, slots_limit}
use Rattle.folder_report.specs.declared.report.SlotReport.{SlotReport}
use Rattle.folder_report.specs.declared.report.SlotState.{SlotState}
use Rattle.folder_report.specs.declared.report.SlotState.TheVariants.{Undecided, Waiting}
use Rattle.folder_report.proofs.Listed.{marked_within}

-- ---- acceptances that a test finds

-- the record is an acceptance for the slot
is_acceptance : (slot : ℕ) (kept : Record) → accepts slot kept ≡ true → (accepted : Acceptance) × (kept ≡ Accepted slot accepted)
is_acceptance slot (Accepted other accepted) e = (accepted, ap (λ (s : ℕ). Accepted s accepted) (eqb-true other slot e))
is_acceptance slot (Began ballot) e = absurd (let no : false ≡ true = e in cc)
is_acceptance slot (Promised other ballot) e = absurd (let no : false ≡ true = e in cc)
is_acceptance slot (PromisedFrom first ballot) e = absurd (let no : false ≡ true = e in cc)

one_there : (slot : ℕ) (own : List Record) → accept slot own ≡ true → (accepted : Acceptance) × Contains own (Accepted slot accepted)
one_there slot own e =
    let found : Any (λ (kept : Record). accepts slot kept ≡ true) own = Any-from_list_any (accepts slot) own e in
    let it = is_acceptance slot found.1 found.4 in
    (it.0, subst (Contains own) it.1 (found.0, found.2, found.3))

accepted_there : (slot : ℕ) (all : List (List Record)) → list_any (accept slot) all ≡ true → IsAccepted all slot
accepted_there slot all e =
    let found : Any (λ (own : List Record). accept slot own ≡ true) all = Any-from_list_any (accept slot) all e in
    let it = one_there slot found.1 found.4 in
    (found.0, it.0, (found.1, slice_get_read all (length all) found.0 found.1 refl found.2 (sym found.3), it.1))

accepted_back : (slot : ℕ) (all : List (List Record)) (node : ℕ) (accepted : Acceptance) → Records all node slot accepted → list_any (accept slot) all ≡ true
accepted_back slot all node accepted has =
    list_any-from_Any (accept slot) all (
      node,
      has.0,
      slice_get_within all node has.0 has.1,
      get_or_from_slice_get all node has.0 has.0 has.1,
      list_any-from_Any (accepts slot) has.0 (has.2.0, Accepted slot accepted, has.2.1, has.2.2, eq-eqb slot slot refl),
    )

-- ---- messages of a slot that a test finds

told_there : (slot : ℕ) (told : List Message) → are_of slot told ≡ true → (m : Message) × Contains told m × (m.slot ≡ slot)
told_there slot told e =
    let found : Any (λ (m : Message). eqb m.slot slot ≡ true) told = Any-from_list_any (λ (m : Message). eqb m.slot slot) told e in
    (found.1, (found.0, found.2, found.3), eqb-true found.1.slot slot found.4)

told_back : (slot : ℕ) (told : List Message) (m : Message) → Contains told m → m.slot ≡ slot → are_of slot told ≡ true
told_back slot told m has same = list_any-from_Any (λ (x : Message). eqb x.slot slot) told (has.0, m, has.1, has.2, eq-eqb m.slot slot same)

module _ (members : ℕ) (all : List (List Record)) (told : List Message) (tells : TellsAgain members all told) where
  chosen_told : (slot : ℕ) (value : Value) → IsChosenByRecords members all slot value → are_of slot told ≡ true
  chosen_told slot value chosen =
      let is : IsToldChosen members told slot = tells.whole slot chosen.0 value chosen.1 in
      let shared = majorities_meet members is.2.is_in is.2.is_in is.2.majority is.2.majority in
      told_back slot told (told_of shared.member slot (acceptance is.0 is.1)) (is.2.each shared.member shared.within shared.in_first) refl

  told_chosen : (slot : ℕ) → are_of slot told ≡ true → (value : Value) × IsChosenByRecords members all slot value
  told_chosen slot e =
      let it = told_there slot told e in
      let is : TellsChosen members all it.0 = All-contains (TellsChosen members all) told it.0 tells.only it.1 in
      (is.1, (is.0, subst (λ (s : ℕ). IsChosenAt members all s is.0 is.1) it.2 is.3))

  told_accepted : (slot : ℕ) → are_of slot told ≡ true → IsAccepted all slot
  told_accepted slot e =
      let it = told_there slot told e in
      let is : IsRecorded all it.0 = All-contains (IsRecorded all) told it.0 tells.recorded it.1 in
      (it.0.sender, is.0, subst (λ (s : ℕ). Records all it.0.sender s is.0) it.2 is.2)

  -- the values that fill the slots are those that are served
  pub served : (values : List Value) → FillSlots members all told values → AreServed members all values
  served values fill = record {
    chosen = fill.chosen;
    ends = λ value chosen.
        let it = told_there (length values) told (chosen_told (length values) value chosen) in
        All-contains (λ (m : Message). m.slot ≡ length values → ⊥) told it.0 fill.ends it.1 it.2;
  }

  -- ---- marks

  module _ (marks : Marks) (is_marked : MarkAll all told marks) where
    abbrev Stands : ℕ → SlotState → Type 0
    Stands slot state = IsAccepted all slot × StandsAs members all slot state

    by_tests : (slot : ℕ) (is_told accepted : Bool) (state : SlotState) → are_of slot told ≡ is_told → list_any (accept slot) all ≡ accepted → stand is_told accepted ≡ Some state → Stands slot state
    by_tests slot true accepted state e f is = subst (Stands slot) (same_Some Waiting state is) (told_accepted slot e, told_chosen slot e)
    by_tests slot false true state e f is =
        subst (Stands slot) (same_Some Undecided state is) (accepted_there slot all f, λ value chosen. (let no : true ≡ false = sym (chosen_told slot value chosen) ∙ e in cc))
    by_tests slot false false state e f is = absurd (let no : None ≡ Some state = is in cc)

    stands : (slot : ℕ) (state : SlotState) → mark_at marks slot ≡ Some state → Stands slot state
    stands slot state is = by_tests slot (are_of slot told) (list_any (accept slot) all) state refl refl (sym (is_marked.each slot) ∙ is)

    any_stand : (is_told : Bool) → (state : SlotState) × (stand is_told true ≡ Some state)
    any_stand true = (Waiting, refl)
    any_stand false = (Undecided, refl)

    marked : (slot : ℕ) → IsAccepted all slot → (state : SlotState) × (mark_at marks slot ≡ Some state)
    marked slot is =
        let it = any_stand (are_of slot told) in
        (it.0, is_marked.each slot ∙ ap (stand (are_of slot told)) (accepted_back slot all is.0 is.1 is.2) ∙ it.1)

    -- the slots that are marked are those that are told
    pub slots_told : (first : ℕ) (slots : List SlotReport) → ListsMarked marks first slots_limit slots → TellsSlots members all first slots
    slots_told first slots lists = record {
      rising = lists.rising;
      only = λ k d lt.
          let told : SlotReport = get_or slots k d in
          let it = lists.only told (Contains-get_or slots k d lt) in
          let is = stands told.slot told.state it.2 in
          record { behind = it.0; accepted = is.0; stands = is.1 };
      whole = λ slot le is.
          let it = marked slot is in
          (it.0, lists.whole slot it.0 le (subst (λ (n : ℕ). slot < n) is_marked.size (marked_within marks slot it.0 it.1)) it.1);
    }
