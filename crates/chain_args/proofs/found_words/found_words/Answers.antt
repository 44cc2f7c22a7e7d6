use Rattle.std.proofs.Common.{◌≡◌, ◌∙◌, MatchResult, true, false, ap, subst}
use Rattle.std.specs.Prelude.{map}
use Rattle.std.specs.String.{string_bytes}
use Rattle.clap.specs.Faults.{is_simple_and_free}
use Rattle.clap.specs.Simple.{App}
use Rattle.plugin_options.specs.Options.{findings, is_taken}
use Rattle.plugin_options.specs.Refusal.{IsRefusedBy}
use Rattle.plugin_options.specs.declared.words_rule.WordsRule.TheVariants.{Shape}
use Rattle.chain_args.proofs.found_words.found_words.Goals as goal

pub of-requires : goal.of-requires
of-requires c = ap is_simple_and_free c.in_ok-command_with.ensures ∙ c.requires

pub returns : goal.returns
returns c = subst (λ (app : App).
    MatchResult c.of.result
    (λ found. (is_taken app (map string_bytes c.args.words.now) ≡ true) × (found ≡ findings app (map string_bytes c.args.words.now)))
    (IsRefusedBy Shape (is_taken app (map string_bytes c.args.words.now) ≡ false)))
    c.in_ok-command_with.ensures c.of.ensures
