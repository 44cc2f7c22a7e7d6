use Rattle.monitor_crcs.proofs.Little.{little-empty, little-open, told_after-ended}
use Rattle.monitor_crcs.proofs.reader.PieceReader.go_on.Goals as goal

pub returns-then-not-self-clause-little : goal.returns-then-not-self-clause-little
returns-then-not-self-clause-little c = little-empty c.args.self.now (c.requires.closed c.if-not-self.true)

pub returns-then-branch-clause-little : goal.returns-then-branch-clause-little
returns-then-branch-clause-little c = little-empty c.close.new.self c.close.ensures.empty

pub returns-then-branch-clause-told : goal.returns-then-branch-clause-told
returns-then-branch-clause-told c =
    λ more. told_after-ended c.args.waiting.now.items c.cut_off.new.waiting.items c.args.self.now.is_open c.close.new.self.is_open
    c.args.self.now.unfinished.items c.args.bytes.now c.extend_from_slice.new.self.items c.close.new.self.unfinished.items more
    c.if-not-self.false c.close.ensures.closed c.in_ok-extend_from_slice.ensures.items
    (c.in_ok-cut_off.ensures.over c.if-branch.true more)

pub returns-else-branch-clause-little : goal.returns-else-branch-clause-little
returns-else-branch-clause-little c =
    little-open (record { last = c.args.self.now.last; is_open = c.args.self.now.is_open; unfinished = c.cut_off.new.unfinished })
    c.if-not-self.false (c.in_ok-cut_off.ensures.not_whole c.if-branch.false) (c.in_ok-cut_off.ensures.alive c.if-branch.false)
