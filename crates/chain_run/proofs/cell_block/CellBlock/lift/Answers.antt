use Rattle.std.proofs.Common.{◌≡◌, ◌+◌, length, take, drop, sym, ap, ◌∙◌, arith, length-drop}
use Rattle.cell_land.specs.Cells.{CellPiece, cell_piece}
use Rattle.chain_run.specs.Blocks.{CellSlots}
use Rattle.chain_run.proofs.cell_block.CellBlock.lift.Goals as goal

pub split-before-requires : goal.split-before-requires
split-before-requires c =
    let cells = c.whole.ensures.cells ∙ ap (λ (s : CellSlots). s.items) c.take.ensures.all in
    let w = c.requires.within in let n = ap length cells in omega (arith, w, n)

pub split-window-requires : goal.split-window-requires
split-window-requires c =
    let cells = c.whole.ensures.cells ∙ ap (λ (s : CellSlots). s.items) c.take.ensures.all in
    let w = c.requires.within in let n = ap length cells in
    let rest = ap (λ (p : CellPiece). length p.cells) c.split-before.ensures.back ∙ length-drop c.args.start c.whole.result.cells in omega (arith, w, n, rest)

pub returns-clause-lifts : goal.returns-clause-lifts
returns-clause-lifts c =
    let all = c.whole.result in let items = c.args.self.now.items in
    let cells : all.cells ≡ items = c.whole.ensures.cells ∙ ap (λ (s : CellSlots). s.items) c.take.ensures.all in
    let start : all.start ≡ 0 = c.whole.ensures.whole.0 in
    let at : all.start + c.args.start ≡ c.args.start = omega (arith, start) in
    let b = c.split-before.ensures in let w = c.split-window.ensures in
    record {
      land = all.land;
      count = sym c.whole.ensures.whole.1 ∙ ap length cells;
      before = b.front ∙ (λ i. cell_piece all.land (start i) (take c.args.start (cells i)));
      window = w.front ∙ ap (λ (p : CellPiece). cell_piece p.land p.start (take c.args.len p.cells)) b.back
          ∙ (λ i. cell_piece all.land (at i) (take c.args.len (drop c.args.start (cells i))));
      behind = w.back ∙ ap (λ (p : CellPiece). cell_piece p.land (p.start + c.args.len) (drop c.args.len p.cells)) b.back
          ∙ (λ i. cell_piece all.land (at i + c.args.len) (drop c.args.len (drop c.args.start (cells i))));
    }
