use Rattle.std.proofs.Common.{rules, map, ap, refl, ◌∙◌}
use Rattle.std.specs.Prelude.{not}
use Rattle.std.proofs.lemmas.Fn.{filter_same}
use Rattle.ts_si.specs.SiTables.{stream_item}
use Rattle.plugin_options.specs.NumberSet.{has_number}
use Rattle.plug_psi.specs.NumbersHeld.{number_at}
use Rattle.plug_psi.proofs.KeptView.{kept_view}
use Rattle.plug_edit.proofs.nit_edit.remove_streams.Goals as goal

pub returns : goal.returns
returns c =
    ap (map stream_item) (filter_same _ (λ s. not (has_number c.args.listed.now s.stream_id)) _ (λ x b f' k. search rules) _ _ c.retain.ensures.filtered)
    ∙ kept_view stream_item (λ s. not (has_number c.args.listed.now s.stream_id)) (λ item. not (has_number c.args.listed.now (number_at item.values 0))) (λ x. refl) c.args.streams.now.items
