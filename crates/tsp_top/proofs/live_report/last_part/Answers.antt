use Rattle.std.proofs.Common.{◌≡◌, ◌++◌, ◌||◌, ap, ◌∙◌, Bool, List, [], ℕ, if◌then◌else◌, append_assoc}
use Rattle.std.specs.String.{string_bytes}
use Rattle.chain_model.specs.Reports.{end_line}
use Rattle.tsp_top.specs.InputRounds.{rest_faulty, rest_printed}
use Rattle.tsp_top.specs.PlannedChain.{named_rules}
use Rattle.tsp_top.specs.Printed.{summaries_printed}
use Rattle.tsp_top.proofs.live_report.last_part.Goals as goal

pub returns : goal.returns
returns g c = λ tables rules input same met.
    let general = c.args.general.now in
    let first : List ℕ = rest_printed general.bare c.args.counts c.args.kept.now c.args.closed.cause in
    let printed : List ℕ = summaries_printed general.bare rules input c.args.closed.cut 0 (named_rules c.args.items.now tables) in
    let last : List ℕ = if general.bare then [] else end_line c.args.closed.cause c.args.closed.cut in
    let begins : string_bytes c.push_input_rest.new.text ≡ first =
    c.in_ok-input_faulty.ensures.said ∙ ap (λ (l : List ℕ). l ++ first) c.new-text.ensures.bytes in
    let goes : string_bytes c.push_summaries.new.text ≡ first ++ printed =
    c.in_ok-plugin_faulty.ensures.said tables rules input same met ∙ ap (λ (l : List ℕ). l ++ printed) begins in (
      c.either-faulty.ensures
          ∙ ap (λ (b : Bool). b || c.in_ok-plugin_faulty.plugin_faulty) c.in_ok-input_faulty.ensures.faulty
          ∙ ap (λ (b : Bool). rest_faulty c.args.counts c.args.kept.now c.args.closed.cause || b)
          (c.in_ok-plugin_faulty.ensures.faults tables rules input same met),
      c.in_ok-push_str.ensures.bytes
          ∙ (ap (λ (l : List ℕ). string_bytes c.push_summaries.new.text ++ l) (c.as_str.ensures.value ∙ c.in_ok-last.ensures)
          ∙ ap (λ (l : List ℕ). l ++ last) goes)
          ∙ append_assoc first printed last,
      c.in_ok-input_faulty.ensures.known,
    )
