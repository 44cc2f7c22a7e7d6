use Rattle.std.proofs.Common.{◌++◌, ◌∙◌, List, [], ◌∷◌, ap, sym}
use Rattle.std.specs.String.{string_bytes}
use Rattle.chain_rounds.specs.declared.told_line.ToldLine.{ToldLine}
use Rattle.chain_tells.specs.Waiting.{waiting}
use Rattle.tsp_top.specs.InputRounds.{round_text}
use Rattle.tsp_top.proofs.TextRounds.{before-none, none-waits, step-before, stop-before}
use Rattle.tsp_top.proofs.told_texts.push_before.Goals as goal

pub returns-then-not-is_after_place-clause-said : goal.returns-then-not-is_after_place-clause-said
returns-then-not-is_after_place-clause-said c = λ line later is.
    stop-before c.args.bare c.args.items.now line later c.in-Some.at _ _ is c.is_after_place.ensures (string_bytes c.loop-at.text) (waiting c.loop-at.lines) c.if-not-is_after_place.true c.in-Some.ensures
    ∙ c.loop-at.invariant.said line later is

pub returns-in_default-next-clause-said : goal.returns-in_default-next-clause-said
returns-in_default-next-clause-said c = λ line later is.
    let none = c.in_default-next.ensures.none in
    ap (λ (l : List ToldLine). string_bytes c.loop-at.text ++ round_text c.args.bare c.args.items.now (line ∷ []) [] ++ round_text c.args.bare c.args.items.now later l) (none.1 ∙ sym none.0)
    ∙ before-none c.args.bare c.args.items.now line later (string_bytes c.loop-at.text) (waiting c.loop-at.lines) none.0
    ∙ c.loop-at.invariant.said line later is

pub loop-at-preserved : goal.loop-at-preserved
loop-at-preserved c = record {
  said = λ line later is.
      step-before c.args.bare c.args.items.now line later c.in-Some.at _ _ is c.is_after_place.ensures (string_bytes c.loop-at.text) (string_bytes c.push_told.new.text) c.in-Some-next.told
      (waiting c.loop-at.lines) (waiting c.next.new.self) c.if-not-is_after_place.false c.in-Some.ensures c.in-Some-next.ensures.some c.in_ok-push_told.ensures
      ∙ c.loop-at.invariant.said line later is;
  rows = c.next.ensures.rows ∙ c.loop-at.invariant.rows;
}

pub returns-clause-said : goal.returns-clause-said
returns-clause-said c = λ line later is.
    before-none c.args.bare c.args.items.now line later (string_bytes c.loop-at.text) (waiting c.loop-at.lines) (none-waits (waiting c.loop-at.lines) c.in_default.ensures)
    ∙ c.loop-at.invariant.said line later is
