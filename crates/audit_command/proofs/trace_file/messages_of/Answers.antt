use Rattle.std.proofs.Common.{rules, sym, subst, map, IfErr, MatchResult, List, ◌∷◌, [], ◌++◌, ◌+◌, ◌≡◌}
use Rattle.std.specs.List.{AllZip}
use Rattle.std.proofs.lemmas.List.{take_all}
use Rattle.serde_json.specs.View.{view}
use Rattle.serde_json.specs.declared.value.Value.{Value}
use Rattle.ballots.specs.declared.message.Message.{Message}
use Rattle.audit_command.specs.TraceFile.{SpellsMessage}
use Rattle.audit_command.specs.Flaws.{IsItemsFault}
use Rattle.audit_command.proofs.Flawed.{items_fault}
use Rattle.audit_command.proofs.TraceReading.{ReadSoFar, reading_goes_on, item_is_read, handed_on}
use Rattle.audit_command.specs.declared.trace_file.TraceFault.TheVariants.{OutOfMemory}
use Rattle.audit_command.proofs.trace_file.messages_of.Goals as goal

pub returns-in_err-message-clause-only : goal.returns-in_err-message-clause-only
returns-in_err-message-clause-only c = λ ms all.
    subst (λ r. MatchResult r (λ read. read.items ≡ ms) (λ fault. fault ≡ OutOfMemory)) (sym (handed_on c.from_residual.result c.in_err-message.field-0.0 c.from_residual.ensures.1))
    (item_is_read c.args.items.now c.loop-place.place c.index-items-place.result c.in_err-message.field-0.0 ms c.loop-place-test.true c.index-items-place.is all c.in_err-message.ensures.only)

pub returns-in_err-message-clause-flaw : goal.returns-in_err-message-clause-flaw
returns-in_err-message-clause-flaw c =
    let vs : List Value = c.args.items.now in
    subst (λ r. IfErr r (λ fault. IsItemsFault fault (map view vs))) (sym (handed_on c.from_residual.result c.in_err-message.field-0.0 c.from_residual.ensures.1))
    (items_fault vs c.loop-place.place c.index-items-place.result c.loop-place.sent.items c.loop-place-test.true c.index-items-place.is c.loop-place.invariant.spelled
    c.in_err-message.field-0.0 c.in_err-message.ensures.flaw)

pub loop-place-preserved : goal.loop-place-preserved
loop-place-preserved c =
    let pushed : c.push.new.self.items ≡ c.loop-place.sent.items ++ c.in_ok-message.message ∷ [] = search rules in
    subst (λ (l : List Message). ReadSoFar c.args.items.now (c.loop-place.place + 1) l) (sym pushed)
    (reading_goes_on c.args.items.now c.loop-place.place c.index-items-place.result c.loop-place.sent.items c.in_ok-message.message c.loop-place-test.true c.index-items-place.is c.loop-place.invariant
    c.in_ok-message.ensures.read c.in_ok-message.ensures.only)

pub returns-then-is_err-clause-read : goal.returns-then-is_err-clause-read
returns-then-is_err-clause-read c = search rules steps 300000

pub returns-then-is_err-clause-only : goal.returns-then-is_err-clause-only
returns-then-is_err-clause-only c = search rules steps 300000

pub returns-clause-read : goal.returns-clause-read
returns-clause-read c =
    subst (λ (vs : List Value). AllZip SpellsMessage (map view vs) c.loop-place.sent.items) (take_all c.loop-place.place c.args.items.now c.loop-place-test.false) c.loop-place.invariant.spelled

pub returns-clause-only : goal.returns-clause-only
returns-clause-only c = λ ms all.
    c.loop-place.invariant.only ms (subst (λ (vs : List Value). AllZip SpellsMessage (map view vs) ms) (sym (take_all c.loop-place.place c.args.items.now c.loop-place-test.false)) all)
