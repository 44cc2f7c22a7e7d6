use Rattle.std.specs.List.{list_any}
use Rattle.std.specs.Str.{bytes_eq}
use Rattle.plugin_options.proofs.WordListLemmas.{known-alone, known-first, known-later}
use Rattle.plugin_options.proofs.word_list.+are_known.Goals as goal

pub returns-then-is_one : goal.returns-then-is_one
returns-then-is_one t c =
    known-later (λ word. list_any (λ one. bytes_eq one.now word) c.args.known.now) c.args.text.now c.in-Some.part.now c.in-Some.others.now c.in-Some.ensures.0 c.in-Some.ensures.1 c.in-Some.ensures.2
    c.is_one.result c.is_one.ensures c.are_known.result c.if-is_one.true c.are_known.ensures

pub returns-else-is_one : goal.returns-else-is_one
returns-else-is_one t c =
    known-first (λ word. list_any (λ one. bytes_eq one.now word) c.args.known.now) c.args.text.now c.in-Some.part.now c.in-Some.others.now c.in-Some.ensures.0 c.in-Some.ensures.1 c.in-Some.ensures.2
    c.is_one.result c.is_one.ensures c.if-is_one.false

pub returns-in-None : goal.returns-in-None
returns-in-None t c =
    known-alone (λ word. list_any (λ one. bytes_eq one.now word) c.args.known.now) c.args.text.now c.in-None.ensures c.is_one-in-None.result c.is_one-in-None.ensures
