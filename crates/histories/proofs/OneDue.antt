-- What is due to one input is one thing.
use Rattle.std.proofs.Common.{◌≡◌, ℕ, ◌⊎◌, inl, inr, List, [], ◌∷◌, ◌++◌, length, map, sym, ap, subst, ◌∙◌, arith}
use Rattle.ballots.specs.declared.value.Value.{Value}
use Rattle.ballots.specs.declared.message.Message.{Message}
use Rattle.ballots.specs.declared.message.Body.{Body}
use Rattle.ballots.specs.declared.message.Body.TheVariants as body
use Rattle.ballots.specs.Message.{value_bytes}
use Rattle.learner.specs.Calls.{LearnerCall}
use Rattle.table_types.specs.Uploads.{Upload, upload_text}
use Rattle.table_types.specs.Valid.{IsUpload}
use Rattle.table_types.specs.Tables.{outcome_of, unknown}
use Rattle.agreement_rules.specs.Views.{AgreementConfig, Views, with_waiting, HasPrefix}
use Rattle.agreement_rules.specs.Due.{Plan, Due, Refuses, Plans, SlotsSpent, OutOfRange, quietly, also_learns, IsMessageOf, has_seen, TickIsDue, PartIsDue}
use Rattle.agreement_rules.specs.Due as due
use Rattle.histories.specs.Texts.{IsTextOf, AreUploadsIn, AreUploadsOf, HasUploads}
use Rattle.histories.specs.Due.{Input, Put, Tick, Deliver, Waits, IsKnown, IsUnknown, AreSpent, AreLeft, waits_too, PutIsDue, AreStillWaiting, LearnsOf, BodyIsDue, MessageIsDue, IsDue}

-- the laws of lower crates that are used
pub record OneDueLaws : Type 0 where
  pub prefix : (members : ℕ) (calls : List LearnerCall) (xs ys : List Value) → HasPrefix members calls xs → HasPrefix members calls ys → xs ≡ ys
  pub tick : (config : AgreementConfig) (me : ℕ) (views : Views) (left : ℕ) (a b : Due) → TickIsDue config me views left a → TickIsDue config me views left b → a ≡ b
  pub part : (config : AgreementConfig) (me : ℕ) (views : Views) (sender slot : ℕ) (said : Body) (a b : Plan) → PartIsDue config me views sender slot said a
      → PartIsDue config me views sender slot said b → a ≡ b
  pub uploads : (texts : List (List ℕ)) (xs ys : List Upload) → AreUploadsOf texts xs → AreUploadsOf texts ys → xs ≡ ys
  pub encoding : (x y : Upload) → IsUpload x → IsUpload y → upload_text x ≡ upload_text y → x ≡ y

module _ (laws : OneDueLaws) where
  pub one_upload : (text : List ℕ) (x y : Upload) → IsTextOf text x → IsTextOf text y → x ≡ y
  one_upload text x y is also = laws.encoding x y is.0 also.0 (is.1 ∙ sym also.1)

  pub one_list : (members : ℕ) (calls : List LearnerCall) (xs ys : List Upload) → HasUploads members calls xs → HasUploads members calls ys → xs ≡ ys
  one_list members calls xs ys has also =
      laws.uploads (map value_bytes has.values) xs ys has.are
      (subst (λ (vs : List Value). AreUploadsIn vs ys) (sym (laws.prefix members calls has.values also.values has.prefix also.prefix)) also.are)

  -- ---- a put

  known_apart : (config : AgreementConfig) (calls : List LearnerCall) (text : List ℕ) → IsKnown config calls text → IsUnknown config calls text → ⊥
  known_apart config calls text (x, xs, is, has, known) (y, ys, also, have, nothing) =
      known (subst (λ (u : Upload). outcome_of xs u ≡ unknown) (one_upload text y x also is)
      (subst (λ (us : List Upload). outcome_of us y ≡ unknown) (one_list config.members calls ys xs have has) nothing))

  spent_apart : (config : AgreementConfig) (calls : List LearnerCall) → AreSpent config calls → AreLeft config calls → ⊥
  spent_apart config calls (xs, has, full) (ys, have, less) =
      let same : length xs ≡ length ys = ap (λ (vs : List Value). length vs) (laws.prefix config.members calls xs ys has have) in
      absurd (omega (arith, full, less, same))

  waiting_apart : (config : AgreementConfig) (views : Views) (text : List ℕ) → (Waits views text ⊎ IsKnown config views.learner_calls text) → (Waits views text → ⊥)
      → IsUnknown config views.learner_calls text → ⊥
  waiting_apart config views text (inl waits) not nothing = not waits
  waiting_apart config views text (inr known) not nothing = known_apart config views.learner_calls text known nothing

  refuses_alike : (r s : due.Refusal) → r ≡ SlotsSpent → s ≡ SlotsSpent → (let d : Due = Refuses r in d) ≡ Refuses s
  refuses_alike r s is also = cc

  plans_alike : (p q x : Plan) → p ≡ x → q ≡ x → (let d : Due = Plans p in d) ≡ Plans q
  plans_alike p q x is also = cc

  one_of_put : (config : AgreementConfig) (views : Views) (text : List ℕ) (a b : Due) → PutIsDue config views text a → PutIsDue config views text b → a ≡ b
  one_of_put config views text (Refuses r) (Refuses s) (is, not, nothing, spent) (also, not', nothing', spent') = refuses_alike r s is also
  one_of_put config views text (Refuses r) (Plans q) (is, not, nothing, spent) (inl (known, also)) = absurd (waiting_apart config views text known not nothing)
  one_of_put config views text (Refuses r) (Plans q) (is, not, nothing, spent) (inr (not', nothing', left, also)) = absurd (spent_apart config views.learner_calls spent left)
  one_of_put config views text (Plans p) (Refuses s) (inl (known, is)) (also, not, nothing, spent) = absurd (waiting_apart config views text known not nothing)
  one_of_put config views text (Plans p) (Refuses s) (inr (not, nothing, left, is)) (also, not', nothing', spent) = absurd (spent_apart config views.learner_calls spent left)
  one_of_put config views text (Plans p) (Plans q) (inl (known, is)) (inl (known', also)) = plans_alike p q (quietly views) is also
  one_of_put config views text (Plans p) (Plans q) (inl (known, is)) (inr (not, nothing, left, also)) = absurd (waiting_apart config views text known not nothing)
  one_of_put config views text (Plans p) (Plans q) (inr (not, nothing, left, is)) (inl (known, also)) = absurd (waiting_apart config views text known not nothing)
  one_of_put config views text (Plans p) (Plans q) (inr (not, nothing, left, is)) (inr (not', nothing', left', also)) =
      plans_alike p q (quietly (waits_too views text)) is also

  -- ---- a message

  one_waits : (uploads : List Upload) (texts l r : List (List ℕ)) → AreStillWaiting uploads texts l → AreStillWaiting uploads texts r → l ≡ r
  one_waits uploads [] l r is also = is ∙ sym also
  one_waits uploads (text ∷ texts) l r (inl (x, xs, is, nothing, same, rest)) (inl (y, ys, also, nothing', same', rest')) =
      same ∙ ap (λ (ts : List (List ℕ)). text ∷ ts) (one_waits uploads texts xs ys rest rest') ∙ sym same'
  one_waits uploads (text ∷ texts) l r (inl (x, xs, is, nothing, same, rest)) (inr (y, also, known, rest')) =
      absurd (known (subst (λ (u : Upload). outcome_of uploads u ≡ unknown) (one_upload text x y is also) nothing))
  one_waits uploads (text ∷ texts) l r (inr (x, is, known, rest)) (inl (y, ys, also, nothing, same, rest')) =
      absurd (known (subst (λ (u : Upload). outcome_of uploads u ≡ unknown) (one_upload text y x also is) nothing))
  one_waits uploads (text ∷ texts) l r (inr (x, is, known, rest)) (inr (y, also, known', rest')) = one_waits uploads texts l r rest rest'

  one_learning : (config : AgreementConfig) (views : Views) (call : LearnerCall) (p q : Plan) → LearnsOf config views call p → LearnsOf config views call q → p ≡ q
  one_learning config views call p q (xs, l, has, waits, is) (ys, r, have, wait, also) =
      let same : ys ≡ xs = one_list config.members (views.learner_calls ++ call ∷ []) ys xs have has in
      let left : l ≡ r = one_waits xs views.waiting l r waits (subst (λ (us : List Upload). AreStillWaiting us views.waiting r) same wait) in
      is ∙ ap (λ (ts : List (List ℕ)). quietly (with_waiting (also_learns views call) ts)) left ∙ sym also

  one_of_body : (config : AgreementConfig) (me : ℕ) (views : Views) (sender slot : ℕ) (said : Body) (p q : Plan) → BodyIsDue config me views sender slot said p
      → BodyIsDue config me views sender slot said q → p ≡ q
  one_of_body config me views sender slot (body.Accepted acceptance) p q is also = one_learning config views _ p q is also
  one_of_body config me views sender slot (body.Decided value) p q is also = one_learning config views _ p q is also
  one_of_body config me views sender slot (body.Prepare ballot) p q is also = laws.part config me views sender slot (body.Prepare ballot) p q is also
  one_of_body config me views sender slot (body.Promise ballot report) p q is also = laws.part config me views sender slot (body.Promise ballot report) p q is also
  one_of_body config me views sender slot (body.Nack ballot promised) p q is also = laws.part config me views sender slot (body.Nack ballot promised) p q is also
  one_of_body config me views sender slot (body.Accept proposal) p q is also = laws.part config me views sender slot (body.Accept proposal) p q is also
  one_of_body config me views sender slot body.Ask p q is also = laws.part config me views sender slot body.Ask p q is also

  one_of_message : (config : AgreementConfig) (me : ℕ) (views : Views) (m : Message) (a b : Due) → MessageIsDue config me views m a → MessageIsDue config me views m b → a ≡ b
  one_of_message config me views m (Refuses r) (Refuses s) (is, not) (also, not') = refuses_range r s is also
    where
      refuses_range : (r s : due.Refusal) → r ≡ OutOfRange → s ≡ OutOfRange → (let d : Due = Refuses r in d) ≡ Refuses s
      refuses_range r s is also = cc
  one_of_message config me views m (Refuses r) (Plans q) (is, not) (is_of, also) = absurd (not is_of)
  one_of_message config me views m (Plans p) (Refuses s) (is_of, is) (also, not) = absurd (not is_of)
  one_of_message config me views m (Plans p) (Plans q) (is_of, is) (of, also) =
      ap (λ (x : Plan). Plans x) (one_of_body config me (has_seen views m) m.sender m.slot m.body p q is also)

  -- ---- any input

  pub one_due : (config : AgreementConfig) (me : ℕ) (views : Views) (asked : Input) (a b : Due) → IsDue config me views asked a → IsDue config me views asked b → a ≡ b
  one_due config me views (Put text) a b is also = one_of_put config views text a b is also
  one_due config me views (Tick left) a b is also = laws.tick config me views left a b is also
  one_due config me views (Deliver m) a b is also = one_of_message config me views m a b is also
