use Rattle.std.proofs.Common.{Some, ap, refl, sym, ◌∙◌}
use Rattle.std.specs.Prelude.{is_some, option_map}
use Rattle.named_services.proofs.WordLemmas.{is-service}
use Rattle.followed_services.proofs.OptionLemmas.{word-formed, word-read}
use Rattle.followed_services.proofs.option_word.service_option.Goals as goal

pub returns-in-Some-2-clause-reads : goal.returns-in-Some-2-clause-reads
returns-in-Some-2-clause-reads c =
    let text = c.in-Some.text.now in
    let given = sym c.value.ensures ∙ ap (option_map (λ t. t.now)) c.in-Some.is in
    let word = sym c.in_ok-word.ensures ∙ c.in-Some-2.is in (
      word-formed c.args.name.now c.args.found.now (Some text) given ∙ sym (is-service text) ∙ ap is_some word,
      sym word ∙ sym (word-read c.args.name.now c.args.found.now (Some text) given),
    )

pub returns-in-None-clause-reads : goal.returns-in-None-clause-reads
returns-in-None-clause-reads c =
    let text = c.in-Some.text.now in
    let given = sym c.value.ensures ∙ ap (option_map (λ t. t.now)) c.in-Some.is in
    let word = sym c.in_ok-word.ensures ∙ c.in-None.is in (
      refl,
      word-formed c.args.name.now c.args.found.now (Some text) given ∙ sym (is-service text) ∙ ap is_some word,
    )
