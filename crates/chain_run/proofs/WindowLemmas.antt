-- The work of a stage on a window of the buffer, from the work of its part.
use Rattle.std.proofs.Common.{◌≡◌, ℕ, ◌+◌, ◌%◌, ◌<◌, ◌≤◌, List, ◌++◌, length, take, drop, sym, ap, ◌∙◌, subst, arith, length-take-le, length-drop, drop-drop}
use Rattle.std.specs.Prelude.{slice_index_or, slice_set}
use Rattle.ts_packet.specs.declared.cell.Cell.{Cell}
use Rattle.cell_land.specs.Cells.{CellPiece, SameSlots}
use Rattle.chain_core.specs.declared.news.News.{News}
use Rattle.stage_run.specs.Seeing.{Seeing}
use Rattle.stage_run.specs.declared.stage_part.StagePart.{StagePart}
use Rattle.stage_run.specs.declared.work.Work.{Work}
use Rattle.stage_run.specs.Works.{PartWork}
use Rattle.chain_run.specs.declared.cell_block.Lifted.{Lifted}
use Rattle.chain_run.specs.Lifting.{InARow, Lifts}
use Rattle.chain_run.specs.Working.{StageWorks}

-- a window that was lifted, and what came back in its place
module _ (items : List Cell) (start len : ℕ) (lifted : Lifted) (lifts : Lifts items start len lifted) (within : start + len ≤ length items)
    (back : CellPiece) (same : SameSlots lifted.window back) where
  pub back_long : length back.cells ≡ len
  back_long = same.2 ∙ ap (λ (p : CellPiece). length p.cells) lifts.window
      ∙ length-take-le len (drop start items) (let n = length-drop start items in omega (arith, n, within))

  before_long : length lifted.before.cells ≡ start
  before_long = ap (λ (p : CellPiece). length p.cells) lifts.before ∙ length-take-le start items (omega (arith, within))

  pub in_a_row : InARow lifted.before back lifted.behind
  in_a_row = record {
    first = ap (λ (p : CellPiece). p.start) lifts.before;
    land = same.0 ∙ ap (λ (p : CellPiece). p.land) lifts.window ∙ sym (ap (λ (p : CellPiece). p.land) lifts.before);
    second = same.1 ∙ ap (λ (p : CellPiece). p.start) lifts.window ∙ sym before_long;
    land_behind = ap (λ (p : CellPiece). p.land) lifts.behind ∙ sym (ap (λ (p : CellPiece). p.land) lifts.before);
    third = ap (λ (p : CellPiece). p.start) lifts.behind ∙ (λ i. sym before_long i + sym back_long i);
    whole = (let a = before_long in let b = back_long in let d = ap (λ (p : CellPiece). length p.cells) lifts.behind in let e = length-drop len (drop start items) in let f = length-drop start items in
        let n = lifts.count in let m = ap (λ (p : CellPiece). p.land.count) lifts.before in omega (arith, a, b, d, e, f, n, m, within));
  }

  pub put_back : lifted.before.cells ++ (back.cells ++ lifted.behind.cells) ≡ take start items ++ (back.cells ++ drop (start + len) items)
  put_back =
      (λ i. ap (λ (p : CellPiece). p.cells) lifts.before i ++ (back.cells ++ ap (λ (p : CellPiece). p.cells) lifts.behind i))
      ∙ ap (λ (l : List Cell). take start items ++ (back.cells ++ l)) (drop-drop len start items)

module _ {S K P : Type 0} (see : Seeing S K P) where
  pub stage-works : (items items_new : List Cell) (parts parts_new : List (StagePart S K P)) (stage slots at given len : ℕ) (row : List Cell) (old new : StagePart S K P) (news : News) (work : Work)
      → old ≡ slice_index_or parts stage old → parts_new ≡ slice_set parts stage new
      → slots ≡ length items → at ≡ given
      → at % slots + len ≤ length items → length row ≡ len → at + len ≤ news.taken → (at < news.taken → 0 < len)
      → items_new ≡ take (at % slots) items ++ (row ++ drop (at % slots + len) items)
      → PartWork see old new at news (take len (drop (at % slots) items)) row work
      → StageWorks see parts parts_new items items_new stage given news work
  stage-works items items_new parts parts_new stage slots at given len row old new news work is_old is_new slots-is at-is fits long in_hand some is worked =
      let start : at % slots ≡ given % length items = ap (λ n. at % n) slots-is ∙ ap (λ n. n % length items) at-is in
      record {
        old = old;
        new = new;
        is_old = is_old;
        is_new = is_new;
        len = len;
        in_hand = omega arith;
        some = λ lt. some (omega arith);
        in_row = omega arith;
        window_new = row;
        same_length = long;
        cells_are = is ∙ ap (λ n. take n items ++ (row ++ drop (n + len) items)) start;
        worked = subst (λ n. PartWork see old new n news (take len (drop (given % length items) items)) row work) at-is
            (subst (λ n. PartWork see old new at news (take len (drop n items)) row work) start worked);
      }
