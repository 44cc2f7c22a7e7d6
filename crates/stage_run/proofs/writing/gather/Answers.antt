use Rattle.std.proofs.Common.{◌≡◌, ◌<◌, ◌++◌, List, ℕ, length, take, get_or, sym, ap, ◌∙◌, arith}
use Rattle.std.proofs.lemmas.List.{get_or_default}
use Rattle.ts_packet.specs.declared.cell.Cell.{Cell}
use Rattle.ts_packet.specs.Cells.{Dropped}
use Rattle.chain_model.specs.Written.{cell_bytes, written}
use Rattle.cell_rows.specs.Cells.{cell_of, cells_of}
use Rattle.cell_rows.proofs.CellLemmas.{cells_long, cells_at}
use Rattle.stage_run.proofs.WritingLemmas.{written-take-more}
use Rattle.stage_run.proofs.writing.gather.Goals as goal

pub loop-i-preserved : goal.loop-i-preserved
loop-i-preserved c =
    let i : ℕ = c.loop-i.i in let ps = c.args.packets.now in let ms = c.args.marks.now in let cells : List Cell = cells_of ps ms in let d = get_or cells i Dropped in
    let p = c.index-packets-i.result in let m = c.index-marks-i.result in let o = c.gather_one-bytes.ensures in
    let lt : i < length ps = c.loop-i-test.true in let n = cells_long ps ms c.requires.long in let inside : i < length cells = omega (arith, n, lt) in
    let here : d ≡ cell_of p m = cells_at ps ms i p m c.requires.long lt ∙ (λ k. cell_of (sym c.index-packets-i.is k) (sym c.index-marks-i.is k)) in
    record {
      long = o.long ∙ c.loop-i.invariant.long;
      fits = (let f = o.few in let r = o.long in omega arith);
      few = (let f = o.few in let r = c.loop-i.invariant.few in omega (arith, f, r));
      gathered = o.gathered ∙ ap (λ (l : List ℕ). l ++ cell_bytes (cell_of p m)) c.loop-i.invariant.gathered
          ∙ ap (λ (x : Cell). written (take i cells) ++ cell_bytes x) (sym here)
          ∙ sym (written-take-more cells i d inside (sym (get_or_default cells i d Dropped inside)));
    }

pub returns-clause-gathered : goal.returns-clause-gathered
returns-clause-gathered c =
    let all : c.loop-i.i ≡ length c.args.packets.now = omega arith in
    c.loop-i.invariant.gathered ∙ ap (λ (n : ℕ). written (take n (cells_of c.args.packets.now c.args.marks.now))) all
