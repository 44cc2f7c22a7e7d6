use Rattle.std.proofs.Common.{◌≢◌, ◌∙◌, sym, true≢false, arith, get_or}
use Rattle.std.proofs.lemmas.Str.Pattern.{starts_char}
use Rattle.plugin_options.proofs.NumberLemmas.{no_plus, parsed_none, parsed_some}
use Rattle.plugin_options.proofs.number.read_numeral.Goals as goal

pub returns-clause-some : goal.returns-clause-some
returns-clause-some c =
    let first = starts_char 43 c.args.digits.now c.starts_with.result c.starts_with.ensures.cases (omega arith) (omega arith) in
    let ne : get_or c.args.digits.now 0 0 ≢ 43 = λ e. true≢false (sym (first.1 e) ∙ c.if-starts_with.false) in
    rw c.ok.ensures.value (parsed_some c.args.radix c.args.digits.now c.from_str_radix.result (no_plus _ ne) c.from_str_radix.ensures.value)

pub returns-clause-none : goal.returns-clause-none
returns-clause-none c =
    let first = starts_char 43 c.args.digits.now c.starts_with.result c.starts_with.ensures.cases (omega arith) (omega arith) in
    let ne : get_or c.args.digits.now 0 0 ≢ 43 = λ e. true≢false (sym (first.1 e) ∙ c.if-starts_with.false) in
    rw c.ok.ensures.value (parsed_none c.args.radix c.args.digits.now c.from_str_radix.result (no_plus _ ne) c.from_str_radix.ensures.value)
