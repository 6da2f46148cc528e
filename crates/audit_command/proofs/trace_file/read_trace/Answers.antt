use Rattle.std.proofs.Common.{ℕ, sym, subst, ◌∙◌, map, ◌≡◌, List, IfErr, MatchResult, rules, arith}
use Rattle.std.proofs.lemmas.Grind.{common_steps}
use Rattle.std.proofs.lemmas.Option.{same_Some}
use Rattle.std.specs.List.{AllZip}
use Rattle.serde_json.specs.View.{view}
use Rattle.serde_json.specs.declared.value.Value.{Value}
use Rattle.lawful_histories.specs.Recorded.{members_of, sent_of}
use Rattle.ballots.specs.declared.message.Message.{Message}
use Rattle.audit_command.specs.TraceFile.{MeansTrace, SpellsMessage}
use Rattle.audit_command.specs.declared.trace_file.TraceFault.TheVariants.{OutOfMemory}
use Rattle.audit_command.specs.Flaws.{IsItemsFault, TellsFlaw}
use Rattle.audit_command.proofs.Flawed.{file_fault}
use Rattle.audit_command.proofs.TraceReading.{means_at, at_means, handed_on}
use Rattle.audit_command.proofs.trace_file.read_trace.Goals as goal

pub returns-in_err-sent-clause-only : goal.returns-in_err-sent-clause-only
returns-in_err-sent-clause-only c = λ members sent h.
    let means = means_at _ (view c.in_ok-value.value) (map view c.in-Some.items.now.items) members sent c.in_ok-value.ensures.read.1 c.in-Some.ensures h in
    let fault = c.in_err-sent.field-0.0 in
    subst (λ r. MatchResult r (λ trace. (members_of trace ≡ members) × (sent_of trace ≡ sent)) (λ e. e ≡ OutOfMemory)) (sym (handed_on c.from_residual-in_err-sent.result fault c.from_residual-in_err-sent.ensures.1))
    (c.in_err-sent.ensures.only sent (subst (λ (vs : List Value). AllZip SpellsMessage (map view vs) sent) (sym c.deref.ensures.value) means.messages))

pub returns-in_err-sent-clause-flaw : goal.returns-in_err-sent-clause-flaw
returns-in_err-sent-clause-flaw c =
    let fault = c.in_err-sent.field-0.0 in
    subst (λ r. IfErr r (λ e. TellsFlaw e c.args.file.now)) (sym (handed_on c.from_residual-in_err-sent.result fault c.from_residual-in_err-sent.ensures.1))
    (file_fault _ (view c.in_ok-value.value) (map view c.in-Some.items.now.items) fault c.in_ok-value.ensures.read.1 c.in-Some.ensures
    (subst (λ (vs : List Value). IsItemsFault fault (map view vs)) c.deref.ensures.value c.in_err-sent.ensures.flaw))

pub returns-clause-read : goal.returns-clause-read
returns-clause-read c =
    let file = c.args.file.now in
    let count = c.in_ok-members.members in
    let means : MeansTrace file count c.in_ok-sent.sent.items =
    at_means _ (view c.in_ok-value.value) (map view c.in-Some.items.now.items) count c.in_ok-sent.sent.items c.in_ok-value.ensures.read.0 c.in_ok-value.ensures.read.1
    c.in-Some.ensures c.in_ok-members.ensures.read.0 c.in_ok-members.ensures.read.1
    (subst (λ (vs : List Value). AllZip SpellsMessage (map view vs) c.in_ok-sent.sent.items) c.deref.ensures.value c.in_ok-sent.ensures.read) in
    subst (λ (n : ℕ). MeansTrace file n (sent_of c.new.result)) (sym c.new.ensures.members) (subst (λ (l : List Message). MeansTrace file count l) (sym c.new.ensures.sent) means)

pub returns-clause-only : goal.returns-clause-only
returns-clause-only c = λ members sent h.
    let means = means_at _ (view c.in_ok-value.value) (map view c.in-Some.items.now.items) members sent c.in_ok-value.ensures.read.1 c.in-Some.ensures h in (
      c.new.ensures.members ∙ same_Some c.in_ok-members.members members (sym c.in_ok-members.ensures.read.0 ∙ means.count),
      c.new.ensures.sent ∙ c.in_ok-sent.ensures.only sent (subst (λ (vs : List Value). AllZip SpellsMessage (map view vs) sent) (sym c.deref.ensures.value) means.messages),
    )

pub returns-in_err-value-clause-read : goal.returns-in_err-value-clause-read
returns-in_err-value-clause-read c = search rules steps 300000

pub returns-in_err-value-clause-only : goal.returns-in_err-value-clause-only
returns-in_err-value-clause-only c = search rules steps 300000

pub returns-in_err-members-clause-read : goal.returns-in_err-members-clause-read
returns-in_err-members-clause-read c = search rules steps 300000

pub returns-in_err-members-clause-only : goal.returns-in_err-members-clause-only
returns-in_err-members-clause-only c = search rules steps 300000

pub returns-in_default-clause-read : goal.returns-in_default-clause-read
returns-in_default-clause-read c = search rules steps 300000

pub returns-in_default-clause-only : goal.returns-in_default-clause-only
returns-in_default-clause-only c = search rules steps 300000

pub returns-in_err-sent-clause-read : goal.returns-in_err-sent-clause-read
returns-in_err-sent-clause-read c = grind (arith, common_steps) steps 600000
