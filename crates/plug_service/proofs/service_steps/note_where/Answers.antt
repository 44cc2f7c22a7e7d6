use Rattle.std.proofs.Common.{sym, ◌∙◌, ap}
use Rattle.plugin_trait.specs.Finding.{first_of}
use Rattle.plug_service.proofs.service_steps.note_where.Goals as goal

pub returns-then-not-came : goal.returns-then-not-came
returns-then-not-came c = λ way words before after follows same noted.
    sym (noted c.args.at) ∙ ap (first_of c.args.found.now.at c.args.at) (sym (same c.if-not-came.true))

pub returns : goal.returns
returns c = λ way words before after follows same noted.
    c.meet.ensures ∙ ap (first_of c.args.found.now.at c.args.at) (c.is_there.ensures way words after follows)
