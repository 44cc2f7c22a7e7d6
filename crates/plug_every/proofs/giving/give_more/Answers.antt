use Rattle.std.proofs.Common.{◌∙◌}
use Rattle.plug_every.proofs.Between.{is_next}
use Rattle.plug_every.proofs.GivenDue.{noted_given, one_given}
use Rattle.plug_every.proofs.giving.give_more.Goals as goal

pub give_due-requires-clause-allowed : goal.give_due-requires-clause-allowed
give_due-requires-clause-allowed g c =
    let given = c.loop-next.invariant.given c.requires.n c.requires.history c.requires.mark c.requires.is c.requires.not_below c.requires.met in
    let next = is_next c.requires.n c.args.counts (g.P.Plugin.rule c.args.plugin.now) c.requires.history given.to c.in-Some.next c.loop-next.due.items
    c.pop_below.new.notes.items given.is.notes c.in-Some.ensures.taken.0 in
    record { history = c.requires.history; mark = given.to; holds = given.is.holds; not_below = next.low; met = next.within }

pub loop-next-preserved : goal.loop-next-preserved
loop-next-preserved g c = record {
  given = λ n history mark is le within.
      let given = c.loop-next.invariant.given n history mark is le within in
      let next = is_next n c.args.counts (g.P.Plugin.rule c.args.plugin.now) history given.to c.in-Some.next c.loop-next.due.items
      c.pop_below.new.notes.items given.is.notes c.in-Some.ensures.taken.0 in
      let gives = c.in_ok-give_due.ensures.gives history given.to given.is.holds next.low next.within next.seen in
      one_given (g.P.Plugin.rule c.args.plugin.now) (g.P.Plugin.rule c.loop-next.plugin) c.loop-next.invariant.same_rule (g.P.Plugin.stands_for c.loop-next.plugin)
      (g.P.Plugin.stands_for c.give_due.new.plugin) n c.args.counts history mark c.args.written c.args.lines.now.items c.loop-next.lines.items c.in-Some.next
      c.loop-next.due.items c.pop_below.new.notes.items c.give_due.new.lines.items given c.in-Some.ensures.taken.0 c.in-Some.ensures.taken.1 gives.0 gives.1;
  same_rule = c.give_due.ensures.same_rule ∙ c.loop-next.invariant.same_rule;
}

pub returns-in_err-give_due-clause-met : goal.returns-in_err-give_due-clause-met
returns-in_err-give_due-clause-met g c = λ n history mark is le within.
    let given = c.loop-next.invariant.given n history mark is le within in
    let next = is_next n c.args.counts (g.P.Plugin.rule c.args.plugin.now) history given.to c.in-Some.next c.loop-next.due.items
    c.pop_below.new.notes.items given.is.notes c.in-Some.ensures.taken.0 in
    c.give_due.ensures.met history given.to given.is.holds next.low next.within

pub returns-clause-gives : goal.returns-clause-gives
returns-clause-gives g c = λ n history mark is le within.
    let given = c.loop-next.invariant.given n history mark is le within in
    noted_given (g.P.Plugin.rule c.args.plugin.now) (g.P.Plugin.rule c.loop-next.plugin) c.loop-next.invariant.same_rule (g.P.Plugin.stands_for c.loop-next.plugin)
    (g.P.Plugin.stands_for c.note.new.self) n c.args.counts history mark c.args.written c.args.lines.now.items c.loop-next.lines.items
    c.note.result c.loop-next.due.items c.pop_below.new.notes.items c.note.new.lines.items given c.in_default.ensures.left.0 c.in_default.ensures.left.1 within
    (c.note.ensures.gives history given.to given.is.holds given.high within)
