use Rattle.std.proofs.Common.{rules, map, ap, refl, ◌∙◌}
use Rattle.std.specs.Prelude.{not}
use Rattle.std.proofs.lemmas.Fn.{filter_same}
use Rattle.ts_eit.specs.EitTables.{event_item}
use Rattle.plug_psi.proofs.KeptView.{kept_view}
use Rattle.plug_eit.specs.EventChange.{is_asked, is_event}
use Rattle.plug_eit.proofs.events.without_events.Goals as goal

pub returns : goal.returns
returns c =
    ap (map event_item) (filter_same _ (λ e. not (is_asked c.args.conf.now.event e.event_id)) _ (λ x b f' k. search rules) _ _ c.retain.ensures.filtered)
    ∙ kept_view event_item (λ e. not (is_asked c.args.conf.now.event e.event_id)) (λ item. not (is_event c.args.conf.now item)) (λ x. refl) c.args.events.items
