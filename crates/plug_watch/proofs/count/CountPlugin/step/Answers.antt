use Rattle.std.proofs.Common.{ℕ, length, ap, sym, ◌∙◌, refl, arith}
use Rattle.plugin_options.specs.Selection.{is_selected}
use Rattle.plug_watch.specs.declared.note.Note.{Note}
use Rattle.plug_watch.specs.CountConfOf.{conf_of}
use Rattle.plug_watch.proofs.CountStates.{counts_other, counts_live, not_full}
use Rattle.plug_watch.proofs.count.CountPlugin.step.Goals as goal

pub returns-then-not-selects-clause-meets : goal.returns-then-not-selects-clause-meets
returns-then-not-selects-clause-meets c = λ history mark w count.
    counts_other (conf_of c.args.self.now) _ _ history mark w c.args.packet.now c.args._labels.now (omega (arith, count, c.requires.in_range))
    (ap (is_selected c.args.self.now.pids c.args.self.now.negate) (sym c.pid-pid.ensures.field) ∙ sym c.if-not-selects.ensures)

pub returns-in-Ok-clause-meets : goal.returns-in-Ok-clause-meets
returns-in-Ok-clause-meets c = λ history mark w count.
    counts_live (conf_of c.args.self.now) _ _ history mark w c.args.packet.now c.args._labels.now (omega (arith, count, c.requires.in_range))
    (record { at = c.args.at; pid = c.pid-pid.result }) c.push_note.new.notes.items
    (ap (is_selected c.args.self.now.pids c.args.self.now.negate) (sym c.pid-pid.ensures.field) ∙ (sym c.selects.ensures ∙ c.if-not-selects.false))
    (ap (λ (n : ℕ). let note : Note = record { at = n; pid = c.pid-pid.result } in note) (sym count) ∙ ap (λ (n : ℕ). let note : Note = record { at = length history; pid = n } in note) c.pid-pid.ensures.field)
    c.in-Ok.ensures.ok

pub returns-in-Err-clause-room : goal.returns-in-Err-clause-room
returns-in-Err-clause-room c = λ room said.
    not_full (conf_of c.args.self.now) _ _ room.history room.mark room.holds c.args.self.now.notes.capacity room.room c.args.at
    c.args.self.now.all room.is_preallocated room.count room.within (c.in-Err.ensures.full refl)
