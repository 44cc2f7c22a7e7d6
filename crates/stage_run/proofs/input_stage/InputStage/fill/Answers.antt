use Rattle.std.proofs.Common.{◌≡◌, ℕ, ◌+◌, ◌-◌, ◌≤◌, ◌<◌, List, [], ◌∷◌, ◌++◌, length, take, set, ◌∙◌, sym, ap, subst, arith, append-nil, length-append, length-set}
use Rattle.std.proofs.lemmas.List.{take-set, take_more_set, length-take-le}
use Rattle.ts_packet.specs.declared.cell.Cell.{Cell}
use Rattle.cell_rows.specs.Cells.{cell_of, cells_of}
use Rattle.cell_rows.proofs.CellLemmas.{cells_long, cells_set}
use Rattle.stage_run.specs.InputStands.{IsOpen}
use Rattle.stage_run.specs.InputSteps.{InputGoes, with_more, cell_put}
use Rattle.stage_run.proofs.CellLemmas.{length-written, cells-written}
use Rattle.stage_run.proofs.InputLemmas.{InputGoes-trans, InputGoes-stop, IsFilled-over, None-from_is_some}
use Rattle.stage_run.proofs.input_stage.InputStage.fill.Goals as goal

pub returns-then-is_some-clause-goes : goal.returns-then-is_some-clause-goes
returns-then-is_some-clause-goes g c = λ lists holds.
    let seen = g.S.Source.seen in
    let done : ℕ = c.loop-done.done in
    let len : ℕ = length c.args.packets.now in
    let ps = c.loop-done.packets in
    let ms = c.loop-done.marks in
    let p = c.next_cell-over.new.packet in
    let m = c.next_cell-over.new.mark in
    let long : length ms ≡ length ps = let a = c.loop-done.invariant.size in let b = c.loop-done.invariant.marks in omega (arith, a, b) in
    let cells : List Cell = cells_of ps ms in
    let size : length cells ≡ len = cells_long ps ms long ∙ c.loop-done.invariant.size in
    let xs : List Cell = take done cells in
    let one = c.loop-done.invariant.goes lists holds in
    let two = InputGoes-stop seen c.loop-done.self c.next_cell-over.new.self (with_more lists one.bytes xs) (len - done) (cell_of p m) c.next_cell-over.result
    (sym c.is_some.ensures ∙ c.if-is_some.true) (c.next_cell-over.ensures.goes (with_more lists one.bytes xs) one.holds) in
    let few : length xs + (len - done) ≤ len = let w = c.loop-done.invariant.within in omega (arith, length-take-le done cells (omega (arith, w, size)), w) in
    subst (λ (l : List Cell). InputGoes seen c.args.self.now c.next_cell-over.new.self lists len l)
    (append-nil xs ∙ sym (ap (take done) (cells_set ps ms done p m long) ∙ take-set cells done (cell_of p m)))
    (InputGoes-trans seen c.args.self.now c.loop-done.self c.next_cell-over.new.self lists len len (len - done) xs [] (omega arith) few one two)

pub returns-then-is_some-clause-filled : goal.returns-then-is_some-clause-filled
returns-then-is_some-clause-filled g c =
    IsFilled-over c.next_cell-over.new.self (c.args.before + length c.args.packets.now) (c.args.before + c.loop-done.done) c.next_cell-over.result
    (sym c.is_some.ensures ∙ c.if-is_some.true) c.next_cell-over.ensures.over

pub loop-done-preserved : goal.loop-done-preserved
loop-done-preserved g c =
    let seen = g.S.Source.seen in
    let done : ℕ = c.loop-done.done in
    let len : ℕ = length c.args.packets.now in
    let ps0 = c.loop-done.packets in
    let ms0 = c.loop-done.marks in
    let p = c.next_cell-over.new.packet in
    let m = c.next_cell-over.new.mark in
    let ps = set ps0 done p in
    let ms = set ms0 done m in
    let long0 : length ms0 ≡ length ps0 = let a = c.loop-done.invariant.size in let b = c.loop-done.invariant.marks in omega (arith, a, b) in
    let cells : List Cell = cells_of ps0 ms0 in
    let cell : Cell = cell_of p m in
    let xs : List Cell = take done cells in
    let part : List Cell = cells_of c.put_in_hand-done.new.packets c.put_in_hand-done.new.marks in
    let count : ℕ = c.put_in_hand-done.result in
    let size : length ps ≡ len = length-set ps0 done p ∙ c.loop-done.invariant.size in
    let msize : length ms ≡ len = length-set ms0 done m ∙ c.loop-done.invariant.marks in
    let behind : ℕ = len - (done + 1) in
    let under : done < len = omega arith in
    let all : done + 1 + behind ≡ len = omega (arith, under) in
    let behind_ps : ℕ = length ps - (done + 1) in
    let behind_ms : ℕ = length ms - (done + 1) in
    let all_ps : done + 1 + behind_ps ≡ length ps = omega (arith, size, under) in
    let all_ms : done + 1 + behind_ms ≡ length ms = omega (arith, msize, under) in
    let plong : length c.put_in_hand-done.new.packets ≡ behind_ps = omega arith in
    let mlong : length c.put_in_hand-done.new.marks ≡ behind_ms = omega arith in
    let none = None-from_is_some c.next_cell-over.result (sym c.is_some.ensures ∙ c.if-is_some.false) in
    let inside : done < length cells = let n = cells_long ps0 ms0 long0 in let a = c.loop-done.invariant.size in omega (arith, n, a, under) in
    record {
      fits = c.put_in_hand-done.ensures.fits;
      within = let fits = c.put_in_hand-done.ensures.done in omega arith;
      size = length-written (done + 1) behind_ps ps c.put_in_hand-done.new.packets all_ps plong ∙ size;
      marks = length-written (done + 1) behind_ms ms c.put_in_hand-done.new.marks all_ms mlong ∙ msize;
      packets = let before = c.loop-done.invariant.packets in omega (arith, c.next_cell-over.ensures.packets, c.put_in_hand-done.ensures.packets);
      goes = λ lists holds.
          let one = c.loop-done.invariant.goes lists holds in
          let two = subst (λ r. InputGoes seen c.loop-done.self c.next_cell-over.new.self (with_more lists one.bytes xs) (len - done) (cell_put r cell)) none
          (c.next_cell-over.ensures.goes (with_more lists one.bytes xs) one.holds) in
          let short : length xs ≡ done = length-take-le done cells (omega (arith, inside)) in
          let both = InputGoes-trans seen c.args.self.now c.loop-done.self c.next_cell-over.new.self lists len len (len - done) xs (cell ∷ []) (omega arith) (omega (arith, short, under)) one two in
          let three = c.put_in_hand-done.ensures.goes (with_more lists both.bytes (xs ++ cell ∷ [])) behind both.holds in
          let few : length (xs ++ cell ∷ []) + behind ≤ len = omega (arith, length-append xs (cell ∷ []), short, all) in
          subst (λ (l : List Cell). InputGoes seen c.args.self.now c.put_in_hand-done.new.self lists len l)
          (sym (cells-written (done + 1) behind_ps behind_ms count ps c.put_in_hand-done.new.packets ms c.put_in_hand-done.new.marks all_ps all_ms (msize ∙ sym size)
          (let f = c.put_in_hand-done.ensures.done in omega (arith, f, plong)) (let f = c.put_in_hand-done.ensures.done in omega (arith, f, plong, mlong, size, msize))
          ∙ ap (λ (l : List Cell). l ++ take count part) (ap (take (done + 1)) (cells_set ps0 ms0 done p m long0) ∙ take_more_set cells done cell inside)))
          (InputGoes-trans seen c.args.self.now c.next_cell-over.new.self c.put_in_hand-done.new.self lists len len behind (xs ++ cell ∷ []) (take count part) (omega arith) few both three);
      stays_open = λ was. subst IsOpen (sym c.put_in_hand-done.ensures.same_end) (c.next_cell-over.ensures.stays_open none (c.loop-done.invariant.stays_open was));
      same_stuffing = c.put_in_hand-done.ensures.same_stuffing ∙ c.next_cell-over.ensures.same_stuffing ∙ c.loop-done.invariant.same_stuffing;
    }

pub returns-clause-goes : goal.returns-clause-goes
returns-clause-goes g c = λ lists holds.
    let all : c.loop-done.done ≡ length c.args.packets.now = omega arith in
    subst (λ (n : ℕ). InputGoes g.S.Source.seen c.args.self.now c.loop-done.self lists (length c.args.packets.now) (take n (cells_of c.loop-done.packets c.loop-done.marks))) all
    (c.loop-done.invariant.goes lists holds)
