use Rattle.std.proofs.Common.{sym, ap, ◌==◌, ◌∙◌, ℕ}
use Rattle.std.proofs.lemmas.Bool.{ne_eqb}
use Rattle.ts_descr_mpeg.specs.MpegDescrs.{mpeg_pages}
use Rattle.monitor_services.proofs.Speaking.{other-tag}
use Rattle.monitor_services.proofs.component_pids.is_special.Goals as goal

pub returns-then-tag-ne-LANGUAGE : goal.returns-then-tag-ne-LANGUAGE
returns-then-tag-ne-LANGUAGE c =
    sym (other-tag mpeg_pages c.args.descriptor.now (ap (λ (n : ℕ). n == 10) (sym c.tag.ensures) ∙ ne_eqb c.tag.result 10 c.if-tag-ne-LANGUAGE.true))
