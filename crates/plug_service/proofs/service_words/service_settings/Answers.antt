use Rattle.std.proofs.Common.{rules, ◌<◌, ◌∙◌, ap, codes, length, refl, sym, subst}
use Rattle.std.specs.List.{All, IsDistinct, list_all}
use Rattle.plugin_options.specs.Options.{values_of}
use Rattle.plugin_options.specs.ServiceTexts.{is_service}
use Rattle.plugin_options.proofs.RefusalLemmas.{malformed, value_refused}
use Rattle.named_services.specs.ServiceWords.{SaysService, is_same}
use Rattle.named_services.proofs.WordLemmas.{all-services, words-some}
use Rattle.named_services.proofs.WordLists.{words-different, words-say}
use Rattle.plug_service.specs.ServiceWords.{service_options, service_rows}
use Rattle.plug_service.proofs.ServiceLemmas.{above-none}
use Rattle.plug_service.proofs.service_words.service_settings.Goals as goal

pub returns-in_err-services-clause-reads : goal.returns-in_err-services-clause-reads
returns-in_err-services-clause-reads c =
    value_refused service_options c.args.found.now _ _ _ c.from_residual.ensures.1 c.in_err-services.ensures (sym c.has_values.ensures ∙ c.if-not-has_values.false)
    (λ none. malformed service_rows c.args.found.now 0 _ refl (ap (list_all is_service) (sym c.texts.ensures) ∙ none))

pub returns-clause-valid : goal.returns-clause-valid
returns-clause-valid c =
    let some = above-none (length (values_of (codes "operand") c.args.found.now)) (sym c.has_values.ensures ∙ c.if-not-has_values.false) in
    let words = sym c.in_ok-services.ensures.1 in
    record {
      words = subst (All SaysService) words (words-say _);
      some = subst (λ l. 0 < length l) words
          (words-some _ (subst (λ l. 0 < length l) (sym c.texts.ensures) some) (all-services _ ∙ c.in_ok-services.ensures.0));
      few = search rules;
      different = subst (IsDistinct is_same) words (words-different _);
    }
