use Rattle.agreement.specs.declared.refusal.Refusal.{Refusal}
use Rattle.std.proofs.Common.{Some, Ok, Err, Result, ℕ, length, arith, refl, sym, ap, subst, ◌∙◌}
use Rattle.histories.specs.EventResult as results
use Rattle.node_core.specs.Inputs.{input_of}
use Rattle.stored_nodes.specs.declared.fault.StoredNodeFault.{StoredNodeFault}
use Rattle.stored_nodes.specs.declared.fault.StoredNodeFault.TheVariants.{OutOfMemory, Store}
use Rattle.stored_nodes.specs.State.{StoredNodeState}
use Rattle.stored_nodes.specs.Steps.{StepApplies, StepAnswers, TakeGives}
use Rattle.node_events.specs.Told.{reason_of}
use Rattle.stored_nodes.proofs.Leaving.{step_sent, step_refused, step_wants, step_breaks}
use Rattle.stored_nodes.specs.contracts.stored_node.StoredNode.{the_view}
use Rattle.stored_nodes.proofs.stored_node.StoredNode.step.Goals as goal

pub returns-in-Ok-Ok-clause-gives : goal.returns-in-Ok-Ok-clause-gives
returns-in-Ok-Ok-clause-gives g c =
    let before = c.args.sent.now.items in
    let after = c.take.new.sent.items in
    let input = input_of c.args.input in
    let mid : StoredNodeState g.row.S.Denot = the_view g.row.S g.S.Stable (record {
      alloc = c.self.inside.alloc;
      hashing = c.self.inside.hashing;
      me = c.self.inside.me;
      config = c.self.inside.config;
      kept = c.take.new.kept;
      node = Some c.take.new.node;
    }) in
    let wrap : Result ℕ Refusal → Result (Result ℕ Refusal) StoredNodeFault = λ r. Ok r in
    let failed : StoredNodeFault → Result (Result ℕ Refusal) StoredNodeFault = λ f. Err f in
    subst (λ (s : StoredNodeState g.row.S.Denot). StepApplies s mid before after input (results.Sent c.len-first.result c.in-Ok-Ok.count)) c.self.view_is
    (λ views placed up. step_sent c.what_is_taken_is_allowed.ensures (the_view g.row.S g.S.Stable c.self.inside) mid views input before after placed up c.in-Some.node c.take.new.node c.in-Some.is refl
    c.take.ensures.me c.take.ensures.config refl refl c.in-Ok-Ok.count (results.Sent c.len-first.result c.in-Ok-Ok.count)
    (λ has. subst (λ r. TakeGives c.in-Some.node c.take.new.node views input c.self.inside.kept.records.items c.take.new.kept.records.items c.take.new.kept.doubted before after (wrap r)) c.in-Ok-Ok.field-0-is (c.in-Ok-Ok.ensures.gives views has)) (ap (λ n. results.Sent n c.in-Ok-Ok.count) (omega (arith, c.len-first.ensures, c.args.sent.now.ok.0))))

pub returns-in-Ok-Err-clause-gives : goal.returns-in-Ok-Err-clause-gives
returns-in-Ok-Err-clause-gives g c =
    let before = c.args.sent.now.items in
    let after = c.take.new.sent.items in
    let input = input_of c.args.input in
    let mid : StoredNodeState g.row.S.Denot = the_view g.row.S g.S.Stable (record {
      alloc = c.self.inside.alloc;
      hashing = c.self.inside.hashing;
      me = c.self.inside.me;
      config = c.self.inside.config;
      kept = c.take.new.kept;
      node = Some c.take.new.node;
    }) in
    let wrap : Result ℕ Refusal → Result (Result ℕ Refusal) StoredNodeFault = λ r. Ok r in
    let failed : StoredNodeFault → Result (Result ℕ Refusal) StoredNodeFault = λ f. Err f in
    subst (λ (s : StoredNodeState g.row.S.Denot). StepApplies s mid before after input (results.Refused (reason_of c.reason_for.result))) c.self.view_is
    (λ views placed up. step_refused c.what_is_taken_is_allowed.ensures (the_view g.row.S g.S.Stable c.self.inside) mid views input before after placed up c.in-Some.node c.take.new.node c.in-Some.is refl
    c.take.ensures.me c.take.ensures.config refl refl c.in-Ok-Err.refusal (results.Refused (reason_of c.reason_for.result))
    (λ has. subst (λ r. TakeGives c.in-Some.node c.take.new.node views input c.self.inside.kept.records.items c.take.new.kept.records.items c.take.new.kept.doubted before after (wrap r)) c.in-Ok-Err.field-0-is (c.in-Ok-Err.ensures.gives views has)) (ap (λ r. results.Refused r) c.reason_for.ensures.due))

pub returns-in-Err-OutOfMemory-clause-gives : goal.returns-in-Err-OutOfMemory-clause-gives
returns-in-Err-OutOfMemory-clause-gives g c =
    let before = c.args.sent.now.items in
    let after = c.take.new.sent.items in
    let input = input_of c.args.input in
    let mid : StoredNodeState g.row.S.Denot = the_view g.row.S g.S.Stable (record {
      alloc = c.self.inside.alloc;
      hashing = c.self.inside.hashing;
      me = c.self.inside.me;
      config = c.self.inside.config;
      kept = c.take.new.kept;
      node = Some c.take.new.node;
    }) in
    let wrap : Result ℕ Refusal → Result (Result ℕ Refusal) StoredNodeFault = λ r. Ok r in
    let failed : StoredNodeFault → Result (Result ℕ Refusal) StoredNodeFault = λ f. Err f in
    subst (λ (s : StoredNodeState g.row.S.Denot). StepAnswers s mid before after input (Err OutOfMemory)) c.self.view_is
    (λ views placed up. step_wants c.what_is_taken_is_allowed.ensures (the_view g.row.S g.S.Stable c.self.inside) mid views input before after placed up c.in-Some.node c.take.new.node c.in-Some.is refl
    c.take.ensures.me c.take.ensures.config refl refl
    (λ has. subst (λ r. TakeGives c.in-Some.node c.take.new.node views input c.self.inside.kept.records.items c.take.new.kept.records.items c.take.new.kept.doubted before after (failed r)) c.in-Err-OutOfMemory.field-0-is (c.in-Err-OutOfMemory.ensures.gives views has)))

pub returns-in-Err-Store-clause-gives : goal.returns-in-Err-Store-clause-gives
returns-in-Err-Store-clause-gives g c =
    let before = c.args.sent.now.items in
    let after = c.take.new.sent.items in
    let input = input_of c.args.input in
    let left : StoredNodeState g.row.S.Denot = the_view g.row.S g.S.Stable (record {
      alloc = c.self.inside.alloc;
      hashing = c.self.inside.hashing;
      me = c.self.inside.me;
      config = c.self.inside.config;
      kept = c.take.new.kept;
      node = c.replace.new.dest;
    }) in
    let failed : StoredNodeFault → Result (Result ℕ Refusal) StoredNodeFault = λ f. Err f in
    subst (λ (s : StoredNodeState g.row.S.Denot). StepAnswers s left before after input (Err (Store c.in-Err-Store.fault))) c.self.view_is
    (λ views placed up. step_breaks (the_view g.row.S g.S.Stable c.self.inside) left views input before after c.in-Some.node placed up c.in-Some.is
    (λ has. subst (λ r. TakeGives c.in-Some.node c.take.new.node views input c.self.inside.kept.records.items c.take.new.kept.records.items c.take.new.kept.doubted before after (failed r)) c.in-Err-Store.field-0-is (c.in-Err-Store.ensures.gives views has)) c.replace.ensures.after refl refl)
