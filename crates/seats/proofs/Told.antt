-- What a node answers and refuses, as what its seat does.
use Rattle.std.proofs.Common.{◌≡◌, inl, inr, ℕ, Option, None, Some, List, refl, sym, ap, subst, ◌∙◌}
use Rattle.std.specs.Option.{option_map}
use Rattle.journal.specs.parts.agreement.specs.declared.refusal.Refusal.{Refusal}
use Rattle.journal.specs.parts.agreement.specs.declared.refusal.Refusal.TheVariants as refusal
use Rattle.journal.specs.parts.agreement_rules.specs.Views.{AgreementConfig, Views}
use Rattle.journal.specs.parts.agreement_rules.specs.Due as due
use Rattle.journal.specs.parts.table_types.specs.Uploads.{Upload}
use Rattle.journal.specs.parts.table_types.specs.Tables.{Version, version_of}
use Rattle.journal.specs.parts.table_types.specs.Answers.{answer_of}
use Rattle.journal.specs.parts.histories.specs.Texts.{HasUploads}
use Rattle.journal.specs.parts.histories.specs.Due as owed
use Rattle.journal.specs.parts.histories.specs.EventResult as results
use Rattle.journal.specs.parts.histories.specs.Following.{GetGives}
use Rattle.node_core.specs.State.{NodeState, NodeHas}
use Rattle.node_core.specs.Plans.{IsRefused, JudgesPut}
use Rattle.stored_nodes.specs.State.{StandsUp}
use Rattle.seats.specs.State.{RunningSeat}
use Rattle.seats.specs.Steps.{IsDown, OfItsTables}

none_is_some : {X : Type 0} (x : X) → None ≡ Some x → ⊥
none_is_some x is = cc

some_same : {X : Type 0} (x y : X) → Some x ≡ Some y → x ≡ y
some_same x y is = cc

-- ---- a refusal of a put

spent_is_not : due.OutOfMemory ≡ due.SlotsSpent → ⊥
spent_is_not is = cc

-- the refusal that is due to a put; want of memory is none
pub judged_refused : (node : NodeState) (views : Views) (text : List ℕ) (why : Refusal) → JudgesPut node views text (Some why) → IsRefused node views (owed.Put text) why
judged_refused node views text refusal.OutOfRange judged = judged
judged_refused node views text refusal.SlotsSpent judged = judged
judged_refused node views text refusal.RoundsSpent judged = judged
judged_refused node views text refusal.OutOfMemory judged = absurd (spent_is_not judged.0)

-- ---- answers

-- a version has the answer of these bytes, or there is none
found_of : (bytes : List ℕ) (found : Option Version) → Some bytes ≡ option_map answer_of found → (version : Version) × (found ≡ Some version) × (bytes ≡ answer_of version)
found_of bytes None is = absurd (none_is_some bytes (sym is))
found_of bytes (Some version) is = (version, refl, some_same bytes (answer_of version) is)

none_of : (found : Option Version) → None ≡ option_map answer_of found → found ≡ None
none_of None is = refl
none_of (Some version) is = absurd (none_is_some (answer_of version) is)

pub an_answer : (uploads : List Upload) (table : List ℕ) (version : ℕ) (bytes : List ℕ) → Some bytes ≡ option_map answer_of (version_of table version uploads)
    → GetGives uploads table version (results.Answer bytes)
an_answer uploads table version bytes is =
    let found = found_of bytes (version_of table version uploads) is in
    inl (found.0, found.1, ap (λ (bs : List ℕ). results.Answer bs) found.2)

pub no_answer : (uploads : List Upload) (table : List ℕ) (version : ℕ) → None ≡ option_map answer_of (version_of table version uploads)
    → GetGives uploads table version results.Unavailable
no_answer uploads table version is = inr (none_of (version_of table version uploads) is, refl)

-- ---- a node of a seat

-- the seat's node is this one, so it is up
pub is_up : {S : Type 0} (seat : RunningSeat S) (node : NodeState) → Some node ≡ seat.node.node → IsDown seat → ⊥
is_up seat node is down = none_is_some node (sym down ∙ sym is)

-- and stands by what the seat does
pub node_has : {S : Type 0} (seat : RunningSeat S) (node : NodeState) (views : Views) → Some node ≡ seat.node.node → StandsUp seat.node views
    → NodeHas node views × (seat.node.config ≡ node.agreement.config)
node_has seat node views is up =
    let same : up.node ≡ node = some_same up.node node (sym up.up ∙ sym is) in (
      subst (λ (n : NodeState). NodeHas n views) same up.has,
      sym up.config_is ∙ ap (λ (n : NodeState). n.agreement.config) same,
    )

-- what holds of the node's tables holds of the seat's
pub of_its_tables : {S : Type 0} (seat : RunningSeat S) (node : NodeState) (Have : List Upload → Type 0) → Some node ≡ seat.node.node
    → ((views : Views) (uploads : List Upload) → NodeHas node views → HasUploads node.agreement.config.members views.learner_calls uploads → Have uploads) → OfItsTables seat Have
of_its_tables seat node Have is have views uploads up of =
    let has = node_has seat node views is up in
    have views uploads has.0 (subst (λ (c : AgreementConfig). HasUploads c.members views.learner_calls uploads) has.1 of)
