use Rattle.std.proofs.Common.{List, Option, Bool, Bor, IfSome, refl, sym, ap, subst, ◌∙◌}
use Rattle.std.specs.Option.{option_map}
use Rattle.node_parts.specs.histories.specs.Owning.{OwnEntry}
use Rattle.node_parts.specs.traces.specs.Traced.{TraceReachesFrom}
use Rattle.journal.specs.Journaled.{seats_in, Journaled, journaled, HasEntry, MayEnter, EntersOwn}
use Rattle.journal.specs.Logged.{own_entry, GoesOn}
use Rattle.journal.proofs.Entering.{enters, own_grows, own_leaves}
use Rattle.journal.proofs.Logging.{logged_some}
use Rattle.journal.proofs.journal.Journal.enter.Goals as goal

pub invariant_of-self : goal.invariant_of-self
invariant_of-self g c =
    let old : Journaled = journaled g.J.Beginning.start c.self.inside.kept c.self.inside.progress c.self.inside.outrun in
    let may : MayEnter old c.args.step c.args.more.items c.args.recovered = subst (λ (j : Journaled). MayEnter j c.args.step c.args.more.items c.args.recovered) (sym c.self.view_is) c.requires.follows in
    let there = enters c.a_member_steps_alone.ensures c.own_entries_decide_the_node.ensures old c.args.step c.args.more.items c.args.recovered may.0 may.1 c.self.invariant.0 may.2 in
    let new : Journaled = journaled g.J.Beginning.start c.push.new.self c.with_own-progress.result.0 c.with_own-progress.result.1 in
    let entry : HasEntry old c.args.step c.args.more.items c.args.recovered new = record { start_is = refl; trace = c.push.ensures.more.trace; recovered_is = c.push.ensures.more.recovered_is; whole_is = c.push.ensures.whole } in (
      (
        there.behind,
        subst (λ (rs : List Bool). TraceReachesFrom (seats_in old.start) c.push.new.self.recalled.trace rs there.behind) (sym c.push.ensures.more.recovered_is)
            (c.push.ensures.reaches (seats_in old.start) c.self.inside.kept.recalled.recovered there.before there.behind there.reached there.follows),
      ),
      logged_some old new c.args.step c.args.more.items c.args.recovered c.self.inside.progress c.self.inside.outrun (option_map (λ (e : Bor OwnEntry). e.now) c.args.own) c.with_own-progress.result.0 c.with_own-progress.result.1 entry
          (λ node member. own_grows c.own_entries_grow.ensures old new c.args.step c.args.more.items c.args.recovered node c.self.invariant.0 entry member)
          c.self.invariant.1 (c.requires.own ∙ ap (λ (j : Journaled). own_entry j c.args.step c.args.more.items c.args.recovered) (sym c.self.view_is)) (subst (λ (p : Option (List OwnEntry)). GoesOn p c.self.inside.outrun (option_map (λ (e : Bor OwnEntry). e.now) c.args.own) c.with_own-progress.result.0 c.with_own-progress.result.1) c.take.ensures.value (subst (λ (o : Option (List OwnEntry)). GoesOn c.take.result o (option_map (λ (e : Bor OwnEntry). e.now) c.args.own) c.with_own-progress.result.0 c.with_own-progress.result.1) c.take-2.ensures.value c.with_own-progress.ensures)),
      c.push.ensures.whole ∙ c.self.invariant.2,
    )

pub returns-clause-own : goal.returns-clause-own
returns-clause-own g c =
    let old : Journaled = journaled g.J.Beginning.start c.self.inside.kept c.self.inside.progress c.self.inside.outrun in
    let new : Journaled = journaled g.J.Beginning.start c.push.new.self c.with_own-progress.result.0 c.with_own-progress.result.1 in
    let entry : HasEntry old c.args.step c.args.more.items c.args.recovered new = record { start_is = refl; trace = c.push.ensures.more.trace; recovered_is = c.push.ensures.more.recovered_is; whole_is = c.push.ensures.whole } in
    subst (λ (j : Journaled). EntersOwn j c.args.step c.args.more.items c.args.recovered new) c.self.view_is
    (record {
      grows = λ node member. own_grows c.own_entries_grow.ensures old new c.args.step c.args.more.items c.args.recovered node c.self.invariant.0 entry member;
      leaves = λ was left next.
          let there = enters c.a_member_steps_alone.ensures c.own_entries_decide_the_node.ensures old c.args.step c.args.more.items c.args.recovered was left c.self.invariant.0 next in
          own_leaves c.own_entries_leave_the_node.ensures old new c.args.step c.args.more.items c.args.recovered left there c.push.ensures.more.trace.config_is
          (subst (λ (rs : List Bool). TraceReachesFrom (seats_in old.start) c.push.new.self.recalled.trace rs there.behind) (sym c.push.ensures.more.recovered_is)
          (c.push.ensures.reaches (seats_in old.start) c.self.inside.kept.recalled.recovered there.before there.behind there.reached there.follows)) next.member;
    })
