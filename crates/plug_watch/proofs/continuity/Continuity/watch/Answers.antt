use Rattle.std.proofs.Common.{Bool, if◌then◌else◌, ap, sym, ◌∙◌, arith}
use Rattle.ts_packet.specs.Header.{with_counter}
use Rattle.plug_watch.specs.ContinuityConfOf.{conf_of}
use Rattle.plug_watch.specs.ContinuityRule.{fixed}
use Rattle.plug_watch.proofs.Watching.{watches_live}
use Rattle.plug_watch.proofs.continuity.Continuity.watch.Goals as goal

pub returns-then-self-clause-edited : goal.returns-then-self-clause-edited
returns-then-self-clause-edited c = λ history mark w.
    c.set_counter.ensures.row
    ∙ (ap (with_counter c.args.packet.now) (c.keep-right.ensures.right (conf_of c.args.self.now) history w.remembers c.requires.watched)
    ∙ sym (ap (λ (b : Bool). if b then fixed history c.args.packet.now else c.args.packet.now) c.if-self.true))

pub returns-then-self-clause-met : goal.returns-then-self-clause-met
returns-then-self-clause-met c = λ history mark w count labels.
    watches_live (conf_of c.args.self.now) _ _ _ history mark w c.args.packet.now labels (omega (arith, count, c.requires.in_range)) c.keep-right.new.self c.push_if_any.new.notes.items _
    (c.keep-right.ensures.kept (conf_of c.args.self.now) history w.remembers c.requires.watched labels)
    (c.fault.ensures (conf_of c.args.self.now) history w.remembers c.requires.watched count) c.in_ok-push_if_any.ensures.ok

pub returns-else-self-clause-met : goal.returns-else-self-clause-met
returns-else-self-clause-met c = λ history mark w count labels.
    watches_live (conf_of c.args.self.now) _ _ _ history mark w c.args.packet.now labels (omega (arith, count, c.requires.in_range)) c.keep-right.new.self c.push_if_any.new.notes.items _
    (c.keep-right.ensures.kept (conf_of c.args.self.now) history w.remembers c.requires.watched labels)
    (c.fault.ensures (conf_of c.args.self.now) history w.remembers c.requires.watched count) c.in_ok-push_if_any.ensures.ok
