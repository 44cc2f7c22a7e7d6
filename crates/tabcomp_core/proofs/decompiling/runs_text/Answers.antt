use Rattle.std.proofs.Common.{string_bytes}
use Rattle.tabcomp_core.proofs.AgainLemmas.{text_back, text_same, text_whole}
use Rattle.tabcomp_core.proofs.decompiling.runs_text.Goals as goal

pub returns-clause-text : goal.returns-clause-text
returns-clause-text c =
    text_whole c.args.runs.now (string_bytes c.in_ok-text.text) (string_bytes c.push_str.new.self) c.in_ok-text.ensures.text c.in_ok-push_str.ensures.bytes

pub returns-clause-again : goal.returns-clause-again
returns-clause-again c =
    text_back (record { shallow = c.shown_table_is_plain.ensures.shallow; whole = c.shown_table_is_plain.ensures.whole }) (record {
      name = c.element_shows.ensures.name;
      keys = c.element_shows.ensures.keys;
      values = c.element_shows.ensures.values;
      children = c.element_shows.ensures.children;
    }) c.args.runs.now c.push_str.new.self c.in_ok-text.ensures.faithful (returns-clause-text c)

pub returns-clause-same : goal.returns-clause-same
returns-clause-same c = text_same c.args.runs.now (string_bytes c.push_str.new.self) c.in_ok-text.ensures.faithful (returns-clause-text c) (returns-clause-again c)
