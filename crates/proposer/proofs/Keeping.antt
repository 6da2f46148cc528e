-- What is kept of the reports of slots behind an attempt's first: the loops over it, and one promise more.
use Rattle.std.proofs.Common.{◌≡◌, ℕ, zero, suc, ◌<◌, inl, inr, true, List, [], ◌∷◌, ◌++◌, map, take, set, length, option_to_list, Option, Some, None, refl, sym, ap, subst, ◌∙◌, arith, get_or, append_assoc, length-set, ◌+◌}
use Rattle.std.proofs.lemmas.List.{length-map, get_or-map}
use Rattle.std.specs.List.{cons_option}
use Rattle.ballots.specs.declared.acceptance.Acceptance.{Acceptance}
use Rattle.ballots.specs.declared.value.Value.{Value}
use Rattle.proposer.specs.declared.choice.Choice.{Choice}
use Rattle.proposer.specs.declared.reports.Reports.{Reports as Left}
use Rattle.proposer.specs.Choosing.{PromiseReport, Chooses}
use Rattle.proposer.specs.Reporting.{report_of, rises_from}
use Rattle.proposer.specs.Kept.{from_slot, reports_in, reported_at, RiseFrom, HasSome}
use Rattle.proposer.specs.Counting.{IsBest, IsTop}
use Rattle.proposer.proofs.Highest.{best_is_chosen}

abbrev Reports : Type 0
Reports = List (ℕ × Acceptance)

-- ---- the first so many of them

-- without the reports of slots below this one, for the first so many
abbrev pub gone : ℕ → ℕ → List Reports → List Reports
gone slot zero kept = kept
gone slot (suc n) [] = []
gone slot (suc n) (reports ∷ kept) = from_slot slot reports ∷ gone slot n kept

gone_all : (slot : ℕ) (kept : List Reports) → gone slot (length kept) kept ≡ map (from_slot slot) kept
gone_all slot [] = refl
gone_all slot (reports ∷ kept) = ap (λ (l : List Reports). from_slot slot reports ∷ l) (gone_all slot kept)

gone_at : (slot n : ℕ) (kept : List Reports) (d : Reports) → get_or (gone slot n kept) n d ≡ get_or kept n d
gone_at slot zero kept d = refl
gone_at slot (suc n) [] d = refl
gone_at slot (suc n) (reports ∷ kept) d = gone_at slot n kept d

gone_more : (slot n : ℕ) (kept : List Reports) (d left : Reports) → n < length kept → left ≡ from_slot slot (get_or kept n d) → set (gone slot n kept) n left ≡ gone slot (suc n) kept
gone_more slot n [] d left lt is = absurd (omega (arith, lt))
gone_more slot zero (reports ∷ kept) d left lt is = ap (λ (l : Reports). l ∷ kept) is
gone_more slot (suc n) (reports ∷ kept) d left lt is = ap (λ (l : List Reports). from_slot slot reports ∷ l) (gone_more slot n kept d left (omega (arith, lt)) is)

gone_long : (slot n : ℕ) (kept : List Reports) → length (gone slot n kept) ≡ length kept
gone_long slot zero kept = refl
gone_long slot (suc n) [] = refl
gone_long slot (suc n) (reports ∷ kept) = ap suc (gone_long slot n kept)

pub rise_at : (slot n : ℕ) (kept : List Reports) (d : Reports) → n < length kept → RiseFrom slot kept → rises_from slot (get_or kept n d) ≡ true
rise_at slot n [] d lt rise = absurd (omega (arith, lt))
rise_at slot zero (reports ∷ kept) d lt rise = rise.0
rise_at slot (suc n) (reports ∷ kept) d lt rise = rise_at slot n kept d (omega (arith, lt)) rise.1

pub reported_more : (slot n : ℕ) (kept : List Reports) (d : Reports) → n < length kept → reported_at slot (take (suc n) kept) ≡ reported_at slot (take n kept) ++ option_to_list (report_of slot (get_or kept n d))
reported_more slot n [] d lt = absurd (omega (arith, lt))
reported_more slot zero (reports ∷ kept) d lt = elim (report_of slot reports) as (λ o. cons_option o [] ≡ option_to_list o) [ None ↦ refl | Some report ↦ refl ]
reported_more slot (suc n) (reports ∷ kept) d lt =
    ap (cons_option (report_of slot reports)) (reported_more slot n kept d (omega (arith, lt))) ∙ front (report_of slot reports) (reported_at slot (take n kept)) _
  where
    front : (o : Option PromiseReport) (xs ys : List PromiseReport) → cons_option o (xs ++ ys) ≡ cons_option o xs ++ ys
    front None xs ys = refl
    front (Some x) xs ys = refl

pub take_whole : (kept : List Reports) → take (length kept) kept ≡ kept
take_whole [] = refl
take_whole (reports ∷ kept) = ap (λ (l : List Reports). reports ∷ l) (take_whole kept)

-- ---- the loop that takes them

pub record Taken (slot : ℕ) (first : Choice) (whole : List Reports) (n : ℕ) (choice : Choice) (kept : List Reports) : Type 0 where
  pub best : RiseFrom slot whole → (candidate : Value) (reports : List PromiseReport) → IsBest candidate reports first.reported_at first.value
      → IsBest candidate (reports ++ reported_at slot (take n whole)) choice.reported_at choice.value
  pub left : RiseFrom slot whole → kept ≡ gone (suc slot) n whole
  pub long : length kept ≡ length whole

next_of : (n : ℕ) → n + 1 ≡ suc n
next_of n = omega arith

module _ (slot : ℕ) (first : Choice) (whole kept : List Reports) (n : ℕ) (choice new : Choice) (reports left : Reports) (report : Option PromiseReport)
    (was : Taken slot first whole n choice kept) (lt : n < length kept) (is : reports ≡ get_or kept n reports)
    (takes : rises_from slot reports ≡ true → report ≡ report_of slot reports) (leaves : rises_from slot reports ≡ true → left ≡ from_slot (suc slot) reports)
    (higher : (candidate : Value) (others : List PromiseReport) → IsBest candidate others choice.reported_at choice.value → IsBest candidate (others ++ option_to_list report) new.reported_at new.value) where
  within : n < length whole
  within = omega (arith, lt, was.long)

  at : RiseFrom slot whole → reports ≡ get_or whole n reports
  at rise = is ∙ ap (λ (l : List Reports). get_or l n reports) (was.left rise) ∙ gone_at (suc slot) n whole reports

  rises : RiseFrom slot whole → rises_from slot reports ≡ true
  rises rise = subst (λ (l : Reports). rises_from slot l ≡ true) (sym (at rise)) (rise_at slot n whole reports within rise)

  reported : RiseFrom slot whole → reported_at slot (take (n + 1) whole) ≡ reported_at slot (take n whole) ++ option_to_list report
  reported rise =
      ap (λ (m : ℕ). reported_at slot (take m whole)) (next_of n) ∙ reported_more slot n whole reports within
      ∙ ap (λ (l : Reports). reported_at slot (take n whole) ++ option_to_list (report_of slot l)) (sym (at rise))
      ∙ ap (λ (o : Option PromiseReport). reported_at slot (take n whole) ++ option_to_list o) (sym (takes (rises rise)))

  pub taken_more : Taken slot first whole (n + 1) new (set kept n left)
  taken_more = record {
    best = λ rise candidate others is_best.
        subst (λ (l : List PromiseReport). IsBest candidate l new.reported_at new.value)
        (append_assoc others (reported_at slot (take n whole)) (option_to_list report) ∙ ap (λ (l : List PromiseReport). others ++ l) (sym (reported rise)))
        (higher candidate (others ++ reported_at slot (take n whole)) (was.best rise candidate others is_best));
    left = λ rise.
        ap (λ (l : List Reports). set l n left) (was.left rise)
        ∙ gone_more (suc slot) n whole reports left within (leaves (rises rise) ∙ ap (from_slot (suc slot)) (at rise))
        ∙ ap (λ (m : ℕ). gone (suc slot) m whole) (sym (next_of n));
    long = length-set kept n left ∙ was.long;
  }

module _ (slot : ℕ) (first : Choice) (whole kept : List Reports) (n : ℕ) (choice : Choice) (was : Taken slot first whole n choice kept) (end : n ≡ length whole) where
  pub taken_best : RiseFrom slot whole → (candidate : Value) (others : List PromiseReport) → IsBest candidate others first.reported_at first.value
      → IsBest candidate (others ++ reported_at slot whole) choice.reported_at choice.value
  taken_best rise candidate others is_best =
      subst (λ (l : List Reports). IsBest candidate (others ++ reported_at slot l) choice.reported_at choice.value)
      (ap (λ (m : ℕ). take m whole) end ∙ take_whole whole) (was.best rise candidate others is_best)

  pub taken_left : RiseFrom slot whole → kept ≡ map (from_slot (suc slot)) whole
  taken_left rise = was.left rise ∙ ap (λ (m : ℕ). gone (suc slot) m whole) end ∙ gone_all (suc slot) whole

-- what it began with is the candidate
pub chosen_next : (candidate : Value) (slot : ℕ) (kept : List Reports) (first choice : Choice) → IsBest candidate [] first.reported_at first.value
    → (RiseFrom slot kept → (c : Value) (others : List PromiseReport) → IsBest c others first.reported_at first.value → IsBest c (others ++ reported_at slot kept) choice.reported_at choice.value)
    → RiseFrom slot kept → Chooses candidate (reported_at slot kept) choice.value
chosen_next candidate slot kept first choice own best rise = best_is_chosen candidate (reported_at slot kept) choice.reported_at choice.value (best rise candidate [] own)

-- ---- the loop that sees them

abbrev pub Seen : ℕ → List Reports → ℕ → Option PromiseReport → Type 0
Seen slot kept n highest = RiseFrom slot kept → IsTop (reported_at slot (take n kept)) highest

pub seen_more : (slot : ℕ) (kept : List Reports) (n : ℕ) (reports : Reports) (highest new report : Option PromiseReport) → Seen slot kept n highest → n < length kept → reports ≡ get_or kept n reports
    → (rises_from slot reports ≡ true → report ≡ report_of slot reports)
    → ((others : List PromiseReport) → IsTop others highest → IsTop (others ++ option_to_list report) new)
    → Seen slot kept (n + 1) new
seen_more slot kept n reports highest new report was lt is sees higher rise =
    let rises : rises_from slot reports ≡ true = subst (λ (l : Reports). rises_from slot l ≡ true) (sym is) (rise_at slot n kept reports lt rise) in
    let reported : reported_at slot (take (n + 1) kept) ≡ reported_at slot (take n kept) ++ option_to_list report =
    ap (λ (m : ℕ). reported_at slot (take m kept)) (next_of n) ∙ reported_more slot n kept reports lt
    ∙ ap (λ (l : Reports). reported_at slot (take n kept) ++ option_to_list (report_of slot l)) (sym is)
    ∙ ap (λ (o : Option PromiseReport). reported_at slot (take n kept) ++ option_to_list o) (sym (sees rises)) in
    subst (λ (l : List PromiseReport). IsTop l new) (sym reported) (higher (reported_at slot (take n kept)) (was rise))

pub seen_all : (slot : ℕ) (kept : List Reports) (n : ℕ) (highest : Option PromiseReport) → Seen slot kept n highest → n ≡ length kept → RiseFrom slot kept → IsTop (reported_at slot kept) highest
seen_all slot kept n highest was end rise =
    subst (λ (l : List Reports). IsTop (reported_at slot l) highest) (ap (λ (m : ℕ). take m kept) end ∙ take_whole kept) (was rise)

-- ---- whether there are some

-- none of the first so many has one
abbrev pub SomeLeft : ℕ → List Reports → Type 0
SomeLeft n kept = HasSome (take n kept) → ⊥

pub some_at : (n : ℕ) (kept : List Reports) (reports : Reports) → n < length kept → reports ≡ get_or kept n reports → (reports ≡ [] → ⊥) → HasSome kept
some_at n [] reports lt is some = absurd (omega (arith, lt))
some_at zero (first ∷ kept) reports lt is some = inl (λ none. some (is ∙ none))
some_at (suc n) (first ∷ kept) reports lt is some = inr (some_at n kept reports (omega (arith, lt)) is some)

none_more_step : (n : ℕ) (kept : List Reports) (reports : Reports) → n < length kept → reports ≡ get_or kept n reports → reports ≡ [] → SomeLeft n kept → SomeLeft (suc n) kept
none_more_step n [] reports lt is none was some = absurd (omega (arith, lt))
none_more_step zero (first ∷ kept) reports lt is none was (inl some) = some (sym is ∙ none)
none_more_step zero (first ∷ kept) reports lt is none was (inr some) = some
none_more_step (suc n) (first ∷ kept) reports lt is none was (inl some) = was (inl some)
none_more_step (suc n) (first ∷ kept) reports lt is none was (inr some) = none_more_step n kept reports (omega (arith, lt)) is none (λ s. was (inr s)) some

pub none_more : (n : ℕ) (kept : List Reports) (reports : Reports) → n < length kept → reports ≡ get_or kept n reports → reports ≡ [] → SomeLeft n kept → SomeLeft (n + 1) kept
none_more n kept reports lt is none was = subst (λ (m : ℕ). SomeLeft m kept) (sym (next_of n)) (none_more_step n kept reports lt is none was)

pub none_at_all : (n : ℕ) (kept : List Reports) → SomeLeft n kept → n ≡ length kept → HasSome kept → ⊥
none_at_all n kept was end some = was (subst HasSome (sym (ap (λ (m : ℕ). take m kept) end ∙ take_whole kept)) some)

-- ---- one of the lists

pub item_in : (xs : List Left) (n : ℕ) (x : Left) → n < length xs → x ≡ get_or xs n x → reports_in x ≡ get_or (map reports_in xs) n (reports_in x)
item_in xs n x lt is = ap reports_in is ∙ sym (get_or-map reports_in xs n x (reports_in x) lt)

pub as_many : (xs : List Left) → length (map reports_in xs) ≡ length xs
as_many xs = length-map xs reports_in
