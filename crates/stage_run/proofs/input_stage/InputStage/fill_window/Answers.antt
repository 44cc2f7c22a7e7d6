use Rattle.std.proofs.Common.{◌≡◌, ◌+◌, ◌-◌, ℕ, List, ◌++◌, length, take, sym, ap, ◌∙◌, subst, arith, length-take-le, length-drop, length-append, inl, inr, Option, None, Some, is_some, true}
use Rattle.chain_model.specs.declared.input_end.InputEnd.{InputEnd}
use Rattle.stage_run.specs.InputStands.{IsOpen}
use Rattle.std.proofs.Math.Seq.{take-append-add}
use Rattle.ts_packet.specs.declared.cell.Cell.{Cell}
use Rattle.cell_land.specs.Cells.{CellPiece}
use Rattle.stage_run.specs.InputSteps.{InputGoes, IsFilled, with_more}
use Rattle.stage_run.proofs.InputLemmas.{InputGoes-trans, IsFilled-over, None-from_is_some}
use Rattle.stage_run.proofs.input_stage.InputStage.fill_window.Goals as goal

pub returns-clause-goes : goal.returns-clause-goes
returns-clause-goes g c = λ lists holds.
    let seen = g.S.Source.seen in let old = c.args.self.now in let r = c.read_into-read in let f = c.fill_rows-back in let mid = r.new.self in
    let k = r.result.0 in let len = length c.args.window.cells in let s = c.split-front.ensures in
    let size : length r.result.1.cells ≡ len = r.ensures.slots.2 in let few = r.ensures.within in
    let xs : List Cell = take k r.result.1.cells in let ys : List Cell = take f.result.0.done f.result.1.cells in
    let one = r.ensures.goes lists holds in
    let short : length xs ≡ k = length-take-le k r.result.1.cells (omega (arith, few, size)) in
    let back : length c.split-front.result.1.cells ≡ len - k = ap (λ (w : CellPiece). length w.cells) s.back ∙ length-drop k r.result.1.cells ∙ ap (λ n. n - k) size in
    let two = f.ensures.goes (with_more lists one.bytes xs) one.holds in
    let both = InputGoes-trans seen old mid f.new.self lists len len (length c.split-front.result.1.cells) xs ys (omega arith) (omega (arith, short, back, few)) one two in
    let front : c.split-front.result.0.cells ≡ xs = ap (λ (w : CellPiece). w.cells) s.front in
    let all : take (k + f.result.0.done) c.join.result.cells ≡ xs ++ ys =
    ap (λ (w : CellPiece). take (k + f.result.0.done) w.cells) c.join.ensures
    ∙ ap (λ (l : List Cell). take (k + f.result.0.done) (l ++ f.result.1.cells)) front
    ∙ ap (λ n. take (n + f.result.0.done) (xs ++ f.result.1.cells)) (sym short)
    ∙ take-append-add xs f.result.1.cells f.result.0.done in
    subst (λ (l : List Cell). InputGoes seen old f.new.self lists len l) (sym all) both

pub returns-clause-filled : goal.returns-clause-filled
returns-clause-filled g c =
    let r = c.read_into-read in let f = c.fill_rows-back in let k = r.result.0 in let len = length c.args.window.cells in let few = r.ensures.within in
    let size : length r.result.1.cells ≡ len = r.ensures.slots.2 in
    let back : length c.split-front.result.1.cells ≡ len - k = ap (λ (w : CellPiece). length w.cells) c.split-front.ensures.back ∙ length-drop k r.result.1.cells ∙ ap (λ n. n - k) size in
    subst (λ (n : ℕ). IsFilled f.new.self n (k + f.result.0.done) f.result.0.over) (omega (arith, back, few)) f.ensures.filled

pub returns-clause-slots : goal.returns-clause-slots
returns-clause-slots g c =
    let r = c.read_into-read in let f = c.fill_rows-back in let k = r.result.0 in let w = c.args.window in let few = r.ensures.within in let s = c.split-front.ensures in
    let size : length r.result.1.cells ≡ length w.cells = r.ensures.slots.2 in
    let front : length c.split-front.result.0.cells ≡ k = ap (λ (x : CellPiece). length x.cells) s.front ∙ length-take-le k r.result.1.cells (omega (arith, few, size)) in
    let back : length c.split-front.result.1.cells ≡ length w.cells - k = ap (λ (x : CellPiece). length x.cells) s.back ∙ length-drop k r.result.1.cells ∙ ap (λ n. n - k) size in (
      ap (λ (x : CellPiece). x.land) c.join.ensures ∙ ap (λ (x : CellPiece). x.land) s.front ∙ r.ensures.slots.0,
      ap (λ (x : CellPiece). x.start) c.join.ensures ∙ ap (λ (x : CellPiece). x.start) s.front ∙ r.ensures.slots.1,
      ap (λ (x : CellPiece). length x.cells) c.join.ensures ∙ length-append c.split-front.result.0.cells f.result.1.cells
          ∙ (let m = f.ensures.slots.2 in omega (arith, front, back, m, few)),
    )

pub join-requires-clause-land : goal.join-requires-clause-land
join-requires-clause-land g c =
    let s = c.split-front.ensures in
    c.fill_rows-back.ensures.slots.0 ∙ ap (λ (x : CellPiece). x.land) s.back ∙ sym (ap (λ (x : CellPiece). x.land) s.front)

pub join-requires-clause-beside : goal.join-requires-clause-beside
join-requires-clause-beside g c =
    let s = c.split-front.ensures in let r = c.read_into-read in let k = r.result.0 in let few = r.ensures.within in let size = r.ensures.slots.2 in
    let front : length c.split-front.result.0.cells ≡ k = ap (λ (x : CellPiece). length x.cells) s.front ∙ length-take-le k r.result.1.cells (omega (arith, few, size)) in
    c.fill_rows-back.ensures.slots.1 ∙ ap (λ (x : CellPiece). x.start) s.back
    ∙ (λ i. sym (ap (λ (x : CellPiece). x.start) s.front) i + sym front i)

pub split-front-requires : goal.split-front-requires
split-front-requires g c = let a = c.read_into-read.ensures.within in let b = c.read_into-read.ensures.slots.2 in omega (arith, a, b)

pub fill_rows-back-requires-clause-few : goal.fill_rows-back-requires-clause-few
fill_rows-back-requires-clause-few g c =
    let r = c.read_into-read in let few = r.ensures.within in let size = r.ensures.slots.2 in let range = c.requires.in_range in
    let back = ap (λ (w : CellPiece). length w.cells) c.split-front.ensures.back ∙ length-drop r.result.0 r.result.1.cells in
    omega (arith, few, size, range, back)

pub fill_rows-back-requires-clause-in_range : goal.fill_rows-back-requires-clause-in_range
fill_rows-back-requires-clause-in_range g c =
    let r = c.read_into-read in let few = r.ensures.within in let size = r.ensures.slots.2 in let range = c.requires.in_range in let put = r.ensures.packets in
    let back = ap (λ (w : CellPiece). length w.cells) c.split-front.ensures.back ∙ length-drop r.result.0 r.result.1.cells in
    omega (arith, few, size, range, back, put)

pub returns-clause-done : goal.returns-clause-done
returns-clause-done g c =
    let r = c.read_into-read in let few = r.ensures.within in let size = r.ensures.slots.2 in let done = c.fill_rows-back.ensures.done in
    let back = ap (λ (w : CellPiece). length w.cells) c.split-front.ensures.back ∙ length-drop r.result.0 r.result.1.cells in
    omega (arith, few, size, back, done)

pub returns-clause-stays_open : goal.returns-clause-stays_open
returns-clause-stays_open g c = λ none was.
    let r = c.read_into-read in
    c.fill_rows-back.ensures.stays_open none
    (elim (c.over-over.ensures.goes_on (None-from_is_some c.over-over.result (sym c.is_some.ensures ∙ c.if-is_some.false))) [
      | inl some ↦ r.ensures.stays_open some was
      | inr not_yet ↦ subst IsOpen (sym not_yet) tt
    ])

pub returns-then-is_some-clause-filled : goal.returns-then-is_some-clause-filled
returns-then-is_some-clause-filled g c =
    IsFilled-over c.read_into-read.new.self (length c.args.window.cells) c.read_into-read.result.0 c.over-over.result (sym c.is_some.ensures ∙ c.if-is_some.true) c.over-over.ensures.over

pub returns-then-is_some-clause-stays_open : goal.returns-then-is_some-clause-stays_open
returns-then-is_some-clause-stays_open g c = λ none was. absurd (no_end c.over-over.result none (sym c.is_some.ensures ∙ c.if-is_some.true))
  where
    no_end : (o : Option InputEnd) → o ≡ None → is_some o ≡ true → ⊥
    no_end None none some = cc
    no_end (Some how) none some = cc
