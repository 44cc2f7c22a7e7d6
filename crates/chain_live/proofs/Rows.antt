-- Worked rows, computed on the definitions. Packets have one byte here.
use Rattle.std.proofs.Common.{◌≡◌, ℕ, zero, suc, List, [], ◌∷◌, ◌++◌, length, Some, false, refl}
use Rattle.std.specs.Prelude.{codes, ◌==◌, if◌then◌else◌}
use Rattle.std.specs.Fmt.{digits}
use Rattle.ts_packet.specs.Cells.{Live}
use Rattle.ts_packet.specs.Labels.{no_labels}
use Rattle.chain_model.specs.declared.cause.Cause.TheVariants.{Input}
use Rattle.chain_model.specs.declared.input_end.InputEnd.TheVariants.{End}
use Rattle.chain_model.specs.PluginRule.{PluginRule, RuleOutcome, passes, drops}
use Rattle.chain_model.specs.Apply.{input_over}
use Rattle.chain_model.specs.PureRun.{Chain, reported_at}
use Rattle.chain_live.specs.LiveReports.{LiveLine, lines_below, live_reported}

-- a rule that has these lines after so many cells, makes this of each packet, and whose summary is one line
abbrev says : (ℕ → List (List ℕ)) → (ℕ → List ℕ → RuleOutcome) → PluginRule
says texts outcome = record {
  outcome_of = λ history packet labels. outcome (length history) packet;
  labels_of = λ history packet labels. labels;
  lines_of = λ history packet labels. texts (length history);
  summary_of = λ history. codes "sum" ∷ [];
  agrees = λ history. false;
  has_fault = λ history. false;
}

-- a line at 0 and two at 1
abbrev early : ℕ → List (List ℕ)
early zero = codes "a" ∷ []
early (suc zero) = codes "b" ∷ codes "c" ∷ []
early (suc (suc p)) = []

-- a line at 1 and one at 2
abbrev late : ℕ → List (List ℕ)
late zero = []
late (suc zero) = codes "d" ∷ []
late (suc (suc zero)) = codes "e" ∷ []
late (suc (suc (suc p))) = []

abbrev passing : ℕ → List ℕ → RuleOutcome
passing n packet = passes packet

-- the packet at position 1 is dropped
abbrev dropping : ℕ → List ℕ → RuleOutcome
dropping n packet = if n == 1 then drops else passes packet

-- three packets through a plugin `x` and a plugin `y`, the first of which makes this of them
abbrev chain : (ℕ → List ℕ → RuleOutcome) → Chain
chain outcome = record {
  input = record {
    cells = Live (1 ∷ []) no_labels ∷ Live (2 ∷ []) no_labels ∷ Live (3 ∷ []) no_labels ∷ [];
    ended = Some (input_over (End 0));
  };
  plugins = record { rule = says early outcome; name = codes "x" } ∷ record { rule = says late passing; name = codes "y" } ∷ [];
  users = [];
}

abbrev line : ℕ → ℕ → List ℕ → List ℕ → LiveLine
line at plugin name text = record { at = at; plugin = plugin; name = name; text = text }

-- in the order of positions, and at one position in the order of the plugins
in_order : lines_below (chain passing) 3
    ≡ line 0 1 (codes "x") (codes "a")
    ∷ line 1 1 (codes "x") (codes "b")
    ∷ line 1 1 (codes "x") (codes "c")
    ∷ line 1 2 (codes "y") (codes "d")
    ∷ line 2 2 (codes "y") (codes "e")
    ∷ []
in_order = refl

-- of a packet that the first plugin drops, the second has no line
dropped-none : lines_below (chain dropping) 3
    ≡ line 0 1 (codes "x") (codes "a")
    ∷ line 1 1 (codes "x") (codes "b")
    ∷ line 1 1 (codes "x") (codes "c")
    ∷ line 2 2 (codes "y") (codes "e")
    ∷ []
dropped-none = refl

-- a run that is cut after two packets: no line of the third, and then the summaries and the end line
cut-after_two : live_reported (chain passing) 2 (Input (End 0))
    ≡ codes "[1] x: a" ++ (10 ∷ (codes "[1] x: b" ++ (10 ∷ (codes "[1] x: c" ++ (10 ∷ (codes "[2] y: d" ++ (10 ∷ (
    codes "[1] x: sum" ++ (10 ∷ (codes "[2] y: sum" ++ (10 ∷ (codes "end: input after 2 packets" ++ (10 ∷ [])))))))))))))
unfolding digits
cut-after_two = refl

-- the same run, printed after its end: plugin by plugin
after_the_end : reported_at (chain passing) 2 (Input (End 0))
    ≡ codes "[1] x: a" ++ (10 ∷ (codes "[1] x: b" ++ (10 ∷ (codes "[1] x: c" ++ (10 ∷ (codes "[1] x: sum" ++ (10 ∷ (
    codes "[2] y: d" ++ (10 ∷ (codes "[2] y: sum" ++ (10 ∷ (codes "end: input after 2 packets" ++ (10 ∷ [])))))))))))))
unfolding digits
after_the_end = refl

-- past the end of the list no line is
past_the_end : lines_below (chain passing) 7 ≡ lines_below (chain passing) 3
past_the_end = refl
