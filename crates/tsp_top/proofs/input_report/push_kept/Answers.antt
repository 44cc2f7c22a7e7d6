use Rattle.std.proofs.Common.{◌≡◌, ◌++◌, ◌∙◌, ℕ, List, codes, ap, append_assoc}
use Rattle.std.specs.List.{flat_map}
use Rattle.std.specs.String.{string_bytes}
use Rattle.search_source.specs.Gaps.{with_end}
use Rattle.search_source.specs.declared.gap.Gap.{Gap}
use Rattle.search_source.specs.declared.gap_counts.GapCounts.{GapCounts}
use Rattle.tsp_top.specs.LeftOut.{counts_below, counts_text, left_behind}
use Rattle.tsp_top.specs.PlannedChain.{stuffing_of}
use Rattle.tsp_top.specs.Printed.{end_printed, gap_printed, printed_line}
use Rattle.tsp_top.proofs.input_report.push_kept.Goals as goal

pub returns-clause-said : goal.returns-clause-said
returns-clause-said c =
    let general = c.args.general.now in
    let kept = c.args.kept.now in
    let stuffing = stuffing_of general in
    let cut = c.args.closed.cut in
    let all : List Gap → List ℕ = flat_map (gap_printed general.bare stuffing cut kept.form) in
    let count : List Gap → GapCounts = counts_below stuffing cut kept.form in
    let line : GapCounts → List ℕ = λ k. printed_line general.bare 0 (codes "file") (counts_text k) in
    let left : ℕ = left_behind c.args.closed.cause kept.behind in
    let text : List ℕ = string_bytes c.args.text.now in
    let first : List ℕ = all kept.gaps.items in
    let second : List ℕ = end_printed general.bare left in
    let third : List ℕ = line (with_end (count kept.gaps.items) left) in
    let one : string_bytes c.push_gaps.new.text ≡ text ++ first =
    c.in_ok-counts.ensures.said ∙ ap (λ (g : List Gap). text ++ all g) c.as_slice.ensures.value in
    let two : string_bytes c.push_end.new.text ≡ string_bytes c.push_gaps.new.text ++ second =
    c.in_ok-push_end.ensures ∙ ap (λ (n : ℕ). string_bytes c.push_gaps.new.text ++ end_printed general.bare n) c.behind_at_end-behind.ensures in
    let counted : c.with_end-counts.result ≡ with_end (count kept.gaps.items) left =
    c.with_end-counts.ensures
    ∙ ap (λ (k : GapCounts). with_end k c.behind_at_end-behind.result) (c.in_ok-counts.ensures.counts ∙ ap count c.as_slice.ensures.value)
    ∙ ap (with_end (count kept.gaps.items)) c.behind_at_end-behind.ensures in
    let three : string_bytes c.push_counts.new.text ≡ string_bytes c.push_end.new.text ++ third =
    c.in_ok-push_counts.ensures ∙ ap (λ (k : GapCounts). string_bytes c.push_end.new.text ++ line k) counted in
    three
    ∙ ap (λ (t : List ℕ). t ++ third) two
    ∙ append_assoc (string_bytes c.push_gaps.new.text) second third
    ∙ ap (λ (t : List ℕ). t ++ (second ++ third)) one
    ∙ append_assoc text first (second ++ third)
