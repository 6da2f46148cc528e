use Rattle.std.proofs.Common.{List, Ok, Err, ◌++◌, length, refl, sym, ap, subst, ◌∙◌}
use Rattle.ballots.specs.declared.message.Message.{Message}
use Rattle.node_core.specs.Inputs.{input_of}
use Rattle.node_core.specs.State.{NodeState, NodeHas}
use Rattle.node_core.specs.Plans.{kept_by}
use Rattle.stored_nodes.proofs.Leaving.{done_by, due_kept, unkept_gives, unkept_doubts, planned_sends}
use Rattle.stored_nodes.proofs.steps.take.Goals as goal

pub returns-in-Ok-keep_and_commit-clause-gives : goal.returns-in-Ok-keep_and_commit-clause-gives
returns-in-Ok-keep_and_commit-clause-gives g c = λ views has.
    let copied = c.in-Ok-ready_to_send.ensures.copies ∙ c.sends.ensures in
    let kept = due_kept (kept_by c.in-Ok.plan) (Ok c.in-Ok-keep_and_commit.field-0) c.args.kept.now.records.items c.keep_and_commit.new.kept.records.items
    c.keep_and_commit.new.kept.doubted c.in-Ok-keep_and_commit.field-0 refl c.in-Ok-keep_and_commit.ensures.kept in
    done_by c.args.node.now c.plan.new.self c.keep_and_commit.new.node views (input_of c.args.input) c.in-Ok.plan c.args.kept.now.records.items c.keep_and_commit.new.kept.records.items
    c.keep_and_commit.new.kept.doubted c.args.sent.now.items c.send.new.sent.items c.send.result
    (c.in-Ok.ensures.gives views has) (c.in-Ok.ensures.same views has) c.in-Ok.ensures.config c.in-Ok-keep_and_commit.ensures.stands kept.0 kept.1
    (c.send.ensures.behind ∙ (ap (λ (ms : List Message). ms ++ c.in-Ok-ready_to_send.copies.items) c.in-Ok-ready_to_send.ensures.same
    ∙ ap (λ (ms : List Message). c.args.sent.now.items ++ ms) copied))
    (c.send.ensures.counted ∙ ap (λ (ms : List Message). length ms) copied)

pub returns-in-Ok-keep_and_commit-clause-certain : goal.returns-in-Ok-keep_and_commit-clause-certain
returns-in-Ok-keep_and_commit-clause-certain g c =
    (due_kept (kept_by c.in-Ok.plan) (Ok c.in-Ok-keep_and_commit.field-0) c.args.kept.now.records.items c.keep_and_commit.new.kept.records.items
    c.keep_and_commit.new.kept.doubted c.in-Ok-keep_and_commit.field-0 refl c.in-Ok-keep_and_commit.ensures.kept).1

pub returns-in-Err-clause-gives : goal.returns-in-Err-clause-gives
returns-in-Err-clause-gives g c = λ views has.
    (c.in-Err.ensures.gives views has, record { has = c.in-Err.ensures.same views has; unrecorded = refl; certain = c.requires.certain; unsent = refl })

pub returns-in-Err-ready_to_send-clause-gives : goal.returns-in-Err-ready_to_send-clause-gives
returns-in-Err-ready_to_send-clause-gives g c = λ views has. (
  planned_sends c.args.node.now views (input_of c.args.input) c.in-Ok.plan (c.in-Ok.ensures.gives views has)
      (λ none. c.in-Err-ready_to_send.ensures.wants (c.sends.ensures ∙ none)),
  record { has = c.in-Ok.ensures.same views has; unrecorded = refl; certain = c.requires.certain; unsent = c.in-Err-ready_to_send.ensures.same },
)

pub returns-in-Err-keep_and_commit-clause-gives : goal.returns-in-Err-keep_and_commit-clause-gives
returns-in-Err-keep_and_commit-clause-gives g c = λ views has.
    unkept_gives c.records_are_due.ensures.planned c.args.node.now c.keep_and_commit.new.node views (input_of c.args.input) c.in-Ok.plan c.args.kept.now.records.items
    c.keep_and_commit.new.kept.records.items c.keep_and_commit.new.kept.doubted (kept_by c.in-Ok.plan) c.args.sent.now.items c.ready_to_send.new.sent.items
    c.in-Err-keep_and_commit.fault (Err c.in-Err-keep_and_commit.fault) c.not_kept.result
    refl c.not_kept.ensures (c.in-Ok.ensures.gives views has) refl c.in-Err-keep_and_commit.ensures.kept
    (subst (λ (n : NodeState). NodeHas n views) (sym c.in-Err-keep_and_commit.ensures.same) (c.in-Ok.ensures.same views has)) c.in-Ok-ready_to_send.ensures.same

pub returns-in-Err-keep_and_commit-clause-certain : goal.returns-in-Err-keep_and_commit-clause-certain
returns-in-Err-keep_and_commit-clause-certain g c =
    unkept_doubts c.args.kept.now.records.items c.keep_and_commit.new.kept.records.items c.keep_and_commit.new.kept.doubted (kept_by c.in-Ok.plan)
    c.in-Err-keep_and_commit.fault (Err c.in-Err-keep_and_commit.fault) c.not_kept.result refl c.not_kept.ensures c.in-Err-keep_and_commit.ensures.kept
