-- For which reasons a node that is up refuses: for those of what is due, and a delivery where nothing of its number was sent.
use Rattle.std.proofs.Common.{◌≡◌, ℕ, ◌≤◌, ◌⊎◌, inl, inr, Bool, List, length, Some, refl, sym, ◌∙◌}
use Rattle.ballots.specs.declared.message.Message.{Message}
use Rattle.table_types.specs.Uploads.{Upload}
use Rattle.agreement_rules.specs.Views.{AgreementConfig, Views}
use Rattle.agreement_rules.specs.Due.{Refusal, Refuses, Plans}
use Rattle.agreement_rules.specs.Due as due
use Rattle.histories.specs.Due.{Input}
use Rattle.histories.specs.Due as input
use Rattle.histories.specs.Event.{Event}
use Rattle.histories.specs.Event as event
use Rattle.histories.specs.EventResult.{EventResult, Reason}
use Rattle.histories.specs.EventResult as results
use Rattle.histories.specs.Owning.{number_in}
use Rattle.histories.specs.Following.{UpOrDown, IsUp, reason_of, PutGives, SendsGives, InputGives, CutGives, Delivers, GetGives, InfoGives, GetGivesIfAble, InfoGivesIfAble, OutcomeGives, RestartGives, UpGives}

reason_same : (a b : Reason) → results.Refused a ≡ results.Refused b → a ≡ b
reason_same a b same = cc

-- for a reason that is none of those of what is due
module _ (reason : Reason) (apart : (r : Refusal) → reason_of r ≡ reason → ⊥) where
  -- it is not refused for it
  abbrev pub IsOther : EventResult → Type 0
  IsOther given = given ≡ results.Refused reason → ⊥

  pub other : (given was : EventResult) → given ≡ was → IsOther was → IsOther given
  other given was same is refused = is (sym same ∙ refused)

  done_other : IsOther results.Done
  done_other refused = cc refused

  refusal_other : (r : Refusal) → IsOther (results.Refused (reason_of r))
  refusal_other r refused = apart r (reason_same (reason_of r) reason refused)

  memory_other : IsOther (results.Refused results.OutOfMemory)
  memory_other refused = refusal_other due.OutOfMemory refused

  pub restart_other : (recovered : Bool) (old : UpOrDown) (given : EventResult) (seat : UpOrDown) → RestartGives recovered old given seat → IsOther given
  restart_other recovered old given seat (inl (gives, stays)) = other given results.Done gives done_other
  restart_other recovered old given seat (inr (gives, stays)) = other given (results.Refused results.OutOfMemory) gives memory_other

  module _ (config : AgreementConfig) (sent : List Message) (next : ℕ) (recovered : Bool) (views : Views) where
    put_other : (node : ℕ) (i : Input) (given : EventResult) (seat : UpOrDown) → InputGives config node views i (PutGives views) given seat → IsOther given
    put_other node i given seat (inl (Refuses r, is, (gives, stays))) = other given (results.Refused (reason_of r)) gives (refusal_other r)
    put_other node i given seat (inl (Plans plan, is, (gives, stays))) = other given results.Done gives done_other
    put_other node i given seat (inr (allowed, (gives, stays))) = other given (results.Refused results.OutOfMemory) gives memory_other

    step_other : (node : ℕ) (i : Input) (given : EventResult) (seat : UpOrDown) → InputGives config node views i (SendsGives sent next views) given seat → IsOther given
    step_other node i given seat (inl (Refuses r, is, (gives, stays))) = other given (results.Refused (reason_of r)) gives (refusal_other r)
    step_other node i given seat (inl (Plans plan, is, (gives, goes, stays))) =
        other given (results.Sent next (length plan.sends)) gives (λ refused. cc refused)
    step_other node i given seat (inr (allowed, (gives, stays))) = other given (results.Refused results.OutOfMemory) gives memory_other

    cut_other : (node : ℕ) (i : Input) (given : EventResult) (seat : UpOrDown) → CutGives config node views i given seat → IsOther given
    cut_other node i given seat cut = other given results.Done cut.0 done_other

    get_other : (uploads : List Upload) (table : List ℕ) (version : ℕ) (given : EventResult) → GetGives uploads table version given → IsOther given
    get_other uploads table version given (inl (x, is, gives)) refused = cc (sym gives ∙ refused)
    get_other uploads table version given (inr (none, gives)) refused = cc (sym gives ∙ refused)

    info_other : (uploads : List Upload) (table : List ℕ) (given : EventResult) → InfoGives uploads table given → IsOther given
    info_other uploads table given (inl (some, gives)) refused = cc (sym gives ∙ refused)
    info_other uploads table given (inr (none, gives)) refused = cc (sym gives ∙ refused)

    able_to_get_other : (uploads : List Upload) (table : List ℕ) (version : ℕ) (given : EventResult) → GetGivesIfAble uploads table version given → IsOther given
    able_to_get_other uploads table version given (inl gives) = get_other uploads table version given gives
    able_to_get_other uploads table version given (inr (some, gives)) = other given (results.Refused results.OutOfMemory) gives memory_other

    able_to_tell_other : (uploads : List Upload) (table : List ℕ) (given : EventResult) → InfoGivesIfAble uploads table given → IsOther given
    able_to_tell_other uploads table given (inl gives) = info_other uploads table given gives
    able_to_tell_other uploads table given (inr (some, gives)) = other given (results.Refused results.OutOfMemory) gives memory_other

    outcome_other : (uploads : List Upload) (text : List ℕ) (given : EventResult) → OutcomeGives uploads text given → IsOther given
    outcome_other uploads text given (upload, is, gives) refused = cc (sym gives ∙ refused)

    -- it is a delivery or its cut, and nothing of its number was sent
    abbrev pub IsUnsent : Event → EventResult → Type 0
    IsUnsent e given = (number : ℕ) × (number_in e ≡ Some number) × (next ≤ number) × (given ≡ results.Refused results.NotSent)

    delivers_other : (e : Event) (number : ℕ) (Gives : Message → EventResult → UpOrDown → Type 0) (given : EventResult) (seat : UpOrDown) → number_in e ≡ Some number
        → ((m : Message) → Gives m given seat → IsOther given) → Delivers sent next number Gives views given seat → IsOther given ⊎ IsUnsent e given
    delivers_other e number Gives given seat is others (inl (m, before, there, gives)) = inl (others m gives)
    delivers_other e number Gives given seat is others (inr (past, gives, stays)) = inr (number, is, past, gives)

    pub up_other : (e : Event) (given : EventResult) (seat : UpOrDown) → UpGives config sent next recovered views e given seat → IsOther given ⊎ IsUnsent e given
    up_other (event.Put node text) given seat gives = inl (put_other node (input.Put text) given seat gives)
    up_other (event.Tick node left) given seat gives = inl (step_other node (input.Tick left) given seat gives)
    up_other (event.Deliver node number) given seat gives =
        delivers_other (event.Deliver node number) number (λ m. InputGives config node views (input.Deliver m) (SendsGives sent next views)) given seat refl
        (λ m. step_other node (input.Deliver m) given seat) gives
    up_other (event.TickCut node left) given seat gives = inl (cut_other node (input.Tick left) given seat gives)
    up_other (event.DeliverCut node number) given seat gives =
        delivers_other (event.DeliverCut node number) number (λ m. CutGives config node views (input.Deliver m)) given seat refl
        (λ m. cut_other node (input.Deliver m) given seat) gives
    up_other (event.Restart node) given seat gives = inl (restart_other recovered (IsUp views) given seat gives)
    up_other (event.Get node table version) given seat (uploads, has, gives, stays) = inl (able_to_get_other uploads table version given gives)
    up_other (event.Info node table) given seat (uploads, has, gives, stays) = inl (able_to_tell_other uploads table given gives)
    up_other (event.Outcome node text) given seat (uploads, has, gives, stays) = inl (outcome_other uploads text given gives)
