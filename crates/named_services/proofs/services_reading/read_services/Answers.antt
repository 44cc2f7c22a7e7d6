use Rattle.std.proofs.Common.{◌∙◌, ◌+◌, None, Some, ap, drop, map, refl, sym}
use Rattle.std.specs.Prelude.{filter_map, fold, is_some}
use Rattle.std.specs.List.{list_all}
use Rattle.std.proofs.lemmas.List.{drop_all}
use Rattle.plugin_options.proofs.OperandLemmas.{formed_step, read_step}
use Rattle.named_services.specs.ServiceWords.{with_word, word_of}
use Rattle.named_services.proofs.WordLemmas.{all-services}
use Rattle.named_services.proofs.services_reading.read_services.Goals as goal

pub returns-in_default : goal.returns-in_default
returns-in_default c = (
  refl,
  sym (all-services (map (λ text. text.now) c.args.texts.now))
      ∙ c.loop-text.invariant.formed
      ∙ formed_step word_of c.args.texts.now c.loop-text.text-index _ c.loop-text-test.true None (sym c.in_default.is ∙ c.in_ok-read.ensures),
)

pub loop-text-preserved : goal.loop-text-preserved
loop-text-preserved c = record {
  formed = c.loop-text.invariant.formed
      ∙ formed_step word_of c.args.texts.now c.loop-text.text-index _ c.loop-text-test.true (Some c.in-Some.word) (sym c.in-Some.is ∙ c.in_ok-read.ensures);
  read = c.loop-text.invariant.read
      ∙ ap (fold with_word c.loop-text.words) (read_step word_of c.args.texts.now c.loop-text.text-index _ c.loop-text-test.true (Some c.in-Some.word) (sym c.in-Some.is ∙ c.in_ok-read.ensures))
      ∙ ap (λ words. fold with_word words (filter_map word_of (map (λ text. text.now) (drop (c.loop-text.text-index + 1) c.args.texts.now)))) (sym c.in_ok-add.ensures);
}

pub returns : goal.returns
returns c =
    let none = drop_all c.loop-text.text-index c.args.texts.now c.loop-text-test.false in (
      sym (all-services (map (λ text. text.now) c.args.texts.now))
          ∙ c.loop-text.invariant.formed
          ∙ ap (λ texts. list_all (λ text. is_some (word_of text)) (map (λ text. text.now) texts)) none,
      sym (c.loop-text.invariant.read ∙ ap (λ texts. fold with_word c.loop-text.words (filter_map word_of (map (λ text. text.now) texts))) none),
    )
