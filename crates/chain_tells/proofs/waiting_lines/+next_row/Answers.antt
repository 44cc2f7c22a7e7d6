use Rattle.std.proofs.Common.{◌≡◌, ◌+◌, ℕ, suc, [], drop, ap, sym, ◌∙◌, subst, arith}
use Rattle.std.specs.Prelude.{IfSome, IfNone, slice_index_or}
use Rattle.chain_tells.specs.Waiting.{told_rows, IsNextRow}
use Rattle.chain_tells.specs.declared.line_row.LineRow.{LineRow}
use Rattle.chain_tells.proofs.NextLemmas.{empty-some, empty-none, own-first, later-some, later-none, no-lines, some-lines}
use Rattle.chain_tells.proofs.waiting_lines.+next_row.Goals as goal

next : (n : ℕ) → n + 1 ≡ suc n
next n = omega arith

pub returns-in_default-clause-some : goal.returns-in_default-clause-some
returns-in_default-clause-some t c =
    empty-some c.args.rows.now c.args.first (omega arith) c.index-rows-first.result c.index-rows-first.is c.next_row-later.result
    (subst (λ (n : ℕ). IfSome c.next_row-later.result (λ found. IsNextRow c.args.rows.now n found.row found.at)) (next c.args.first) c.next_row-later.ensures.some)
    (subst (λ (n : ℕ). IfNone c.next_row-later.result (told_rows n (drop n c.args.rows.now) ≡ [])) (next c.args.first) c.next_row-later.ensures.none)
    (ap (λ (r : LineRow). r.lines.items) c.index-rows-first.is ∙ no-lines (slice_index_or c.args.rows.now c.args.first c.index-rows-first.result).lines.items c.front.result c.front.ensures.item c.in_default.is)

pub returns-in_default-clause-none : goal.returns-in_default-clause-none
returns-in_default-clause-none t c =
    empty-none c.args.rows.now c.args.first (omega arith) c.index-rows-first.result c.index-rows-first.is c.next_row-later.result
    (subst (λ (n : ℕ). IfSome c.next_row-later.result (λ found. IsNextRow c.args.rows.now n found.row found.at)) (next c.args.first) c.next_row-later.ensures.some)
    (subst (λ (n : ℕ). IfNone c.next_row-later.result (told_rows n (drop n c.args.rows.now) ≡ [])) (next c.args.first) c.next_row-later.ensures.none)
    (ap (λ (r : LineRow). r.lines.items) c.index-rows-first.is ∙ no-lines (slice_index_or c.args.rows.now c.args.first c.index-rows-first.result).lines.items c.front.result c.front.ensures.item c.in_default.is)

pub returns-then-comes_first-clause-some : goal.returns-then-comes_first-clause-some
returns-then-comes_first-clause-some t c =
    own-first c.args.rows.now c.args.first (omega arith) c.index-rows-first.result c.index-rows-first.is c.next_row-later.result
    (subst (λ (n : ℕ). IfSome c.next_row-later.result (λ found. IsNextRow c.args.rows.now n found.row found.at)) (next c.args.first) c.next_row-later.ensures.some)
    (subst (λ (n : ℕ). IfNone c.next_row-later.result (told_rows n (drop n c.args.rows.now) ≡ [])) (next c.args.first) c.next_row-later.ensures.none)
    c.in-Some.line.now (drop 1 (slice_index_or c.args.rows.now c.args.first c.index-rows-first.result).lines.items)
    (ap (λ (r : LineRow). r.lines.items) c.index-rows-first.is ∙ some-lines (slice_index_or c.args.rows.now c.args.first c.index-rows-first.result).lines.items c.front.result c.in-Some.line c.front.ensures.item c.in-Some.is) (sym c.comes_first.ensures ∙ c.if-comes_first.true)

pub returns-clause-some : goal.returns-clause-some
returns-clause-some t c =
    later-some c.args.rows.now c.args.first (omega arith) c.index-rows-first.result c.index-rows-first.is c.next_row-later.result
    (subst (λ (n : ℕ). IfSome c.next_row-later.result (λ found. IsNextRow c.args.rows.now n found.row found.at)) (next c.args.first) c.next_row-later.ensures.some)
    (subst (λ (n : ℕ). IfNone c.next_row-later.result (told_rows n (drop n c.args.rows.now) ≡ [])) (next c.args.first) c.next_row-later.ensures.none)
    c.in-Some.line.now (drop 1 (slice_index_or c.args.rows.now c.args.first c.index-rows-first.result).lines.items)
    (ap (λ (r : LineRow). r.lines.items) c.index-rows-first.is ∙ some-lines (slice_index_or c.args.rows.now c.args.first c.index-rows-first.result).lines.items c.front.result c.in-Some.line c.front.ensures.item c.in-Some.is) (sym c.comes_first.ensures ∙ c.if-comes_first.false)

pub returns-clause-none : goal.returns-clause-none
returns-clause-none t c =
    later-none c.args.rows.now c.args.first (omega arith) c.index-rows-first.result c.index-rows-first.is c.next_row-later.result
    (subst (λ (n : ℕ). IfSome c.next_row-later.result (λ found. IsNextRow c.args.rows.now n found.row found.at)) (next c.args.first) c.next_row-later.ensures.some)
    (subst (λ (n : ℕ). IfNone c.next_row-later.result (told_rows n (drop n c.args.rows.now) ≡ [])) (next c.args.first) c.next_row-later.ensures.none)
    c.in-Some.line.now (drop 1 (slice_index_or c.args.rows.now c.args.first c.index-rows-first.result).lines.items)
    (ap (λ (r : LineRow). r.lines.items) c.index-rows-first.is ∙ some-lines (slice_index_or c.args.rows.now c.args.first c.index-rows-first.result).lines.items c.front.result c.in-Some.line c.front.ensures.item c.in-Some.is) _ (sym c.comes_first.ensures ∙ c.if-comes_first.false)
