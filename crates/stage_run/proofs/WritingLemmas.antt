-- Cells one after another: what they write, and where a byte of it stands.
use Rattle.std.proofs.Common.{◌≡◌, ℕ, zero, suc, refl, Bool, true, false, ◌*◌, inl, length-take, length-take-le, ◌+◌, ◌<◌, ◌≤◌, List, [], ◌∷◌, ◌++◌, length, take, drop, get_or, ap, sym, ◌∙◌, arith, append_assoc, append-nil, length-append, length-drop, subst, take-add, drop-drop, take-append-drop, inr}
use Rattle.std.proofs.lemmas.List.{drop_more, take_more, drop-append-le, take-append-le}
use Rattle.std.proofs.Math.Seq.{take-append-add}
use Rattle.std.proofs.lemmas.List.Concat.{flat_map-append}
use Rattle.ts_packet.specs.declared.cell.Cell.{Cell}
use Rattle.ts_packet.specs.Cells.{Live, Dropped}
use Rattle.ts_outside.specs.Sink.{SinkView, took, write_failed}
use Rattle.ts_outside.proofs.Views.{took-took}
use Rattle.chain_model.specs.Written.{cell_bytes, written, IsPartOfFirst}
use Rattle.std.proofs.lemmas.List.{get_or_default}
use Rattle.std.proofs.lemmas.List.Elements.{All-head, All-tail, All-take}
use Rattle.cell_rows.specs.declared.mark.Mark.{Mark}
use Rattle.cell_rows.specs.Cells.{cell_of, cells_of}
use Rattle.cell_rows.proofs.CellLemmas.{cells_at, cells_long, cells_take, dropped_is, live_is}
use Rattle.ts_land.specs.Opening.{AreRows, joined}
use Rattle.stage_run.specs.Writing.{AreLive, IsLiveMark, StandsAt, WritesCells}

pub written-append : (xs ys : List Cell) → written (xs ++ ys) ≡ written xs ++ written ys
written-append xs ys = flat_map-append cell_bytes xs ys

-- what is written up to a place further on
pub written-take-add : (done n : ℕ) (cells : List Cell) → written (take (done + n) cells) ≡ written (take done cells) ++ written (take n (drop done cells))
written-take-add done n cells = ap written (take-add done n cells) ∙ written-append (take done cells) (take n (drop done cells))

pub written-take-drop : (n : ℕ) (cells : List Cell) → written cells ≡ written (take n cells) ++ written (drop n cells)
written-take-drop n cells = ap written (sym (take-append-drop n cells)) ∙ written-append (take n cells) (drop n cells)

-- one cell more
pub written-take-more : (cells : List Cell) (place : ℕ) (cell : Cell) → place < length cells → cell ≡ get_or cells place cell
    → written (take (place + 1) cells) ≡ written (take place cells) ++ cell_bytes cell
written-take-more cells place cell within here =
    ap written (take_more cells place cell within ∙ ap (λ (x : Cell). take place cells ++ x ∷ []) (sym here))
    ∙ written-append (take place cells) (cell ∷ [])
    ∙ ap (λ (l : List ℕ). written (take place cells) ++ l) (append-nil (cell_bytes cell))

pub written-drop-more : (cells : List Cell) (place : ℕ) (cell : Cell) → place < length cells → cell ≡ get_or cells place cell
    → written (drop place cells) ≡ cell_bytes cell ++ written (drop (place + 1) cells)
written-drop-more cells place cell within here =
    ap written (drop_more cells place cell within ∙ ap (λ (x : Cell). x ∷ drop (place + 1) cells) (sym here))

-- a byte inside the packet of a live cell
pub StandsAt-live : (cells : List Cell) (place left byte : ℕ) (cell : Cell) (packet : List ℕ) (labels : ℕ) → place < length cells
    → cell ≡ get_or cells place cell → cell ≡ Live packet labels → left < length packet → byte ≡ length (written (take place cells)) + left
    → StandsAt cells byte place
StandsAt-live cells place left byte cell packet labels within here live inside at =
    let rest : List Cell = drop (place + 1) cells in
    let from : drop place cells ≡ Live packet labels ∷ rest =
    drop_more cells place cell within ∙ ap (λ x. x ∷ rest) (sym here ∙ live) in
    let whole : written cells ≡ written (take place cells) ++ (packet ++ written rest) =
    written-take-drop place cells ∙ ap (λ l. written (take place cells) ++ written l) from in
    record {
      part = take left packet;
      taken = ap (take byte) whole
          ∙ ap (λ n. take n (written (take place cells) ++ (packet ++ written rest))) at
          ∙ take-append-add (written (take place cells)) (packet ++ written rest) left
          ∙ ap (λ l. written (take place cells) ++ l) (take-append-le left packet (written rest) (omega arith));
      cut = let P : List Cell → Type 0 = λ l. IsPartOfFirst l (take left packet) in
          subst P (sym from) (drop left packet, omega (arith, length-drop left packet), sym (take-append-drop left packet));
    }

-- the first cells of a list write no more than all of it
pub written-take-least : (n : ℕ) (cells : List Cell) → length (written (take n cells)) ≤ length (written cells)
written-take-least n cells = omega (arith, ap length (written-take-drop n cells), length-append (written (take n cells)) (written (drop n cells)))

-- the sink took what the cells before a place write, and then those after it
pub taken-more : (first mid now : SinkView) (cells : List Cell) (done n : ℕ) (piece : List ℕ)
    → mid ≡ took first (written (take done cells)) → now ≡ took mid piece → piece ≡ written (take n (drop done cells))
    → now ≡ took first (written (take (done + n) cells))
taken-more first mid now cells done n piece before then is =
    then
    ∙ ap (λ (view : SinkView). took view piece) before
    ∙ took-took first (written (take done cells)) piece
    ∙ ap (took first) (ap (λ (l : List ℕ). written (take done cells) ++ l) is ∙ sym (written-take-add done n cells))

-- a write failed after the cells before a place
pub cut-behind : (first mid now : SinkView) (cells : List Cell) (done n taken place : ℕ) (piece : List ℕ)
    → mid ≡ took first (written (take done cells)) → now ≡ write_failed (took mid (take taken piece))
    → piece ≡ written (take n (drop done cells)) → taken < length piece → place < length (drop done cells)
    → StandsAt (drop done cells) taken place → WritesCells first now cells (done + place)
cut-behind first mid now cells done n taken place piece before failed is short within stands =
    let rest : List Cell = drop done cells in
    let front : take taken piece ≡ written (take place rest) ++ stands.part =
    sym (take-append-le taken piece (written (drop n rest)) (omega arith))
    ∙ ap (λ (l : List ℕ). take taken (l ++ written (drop n rest))) is
    ∙ ap (take taken) (sym (written-take-drop n rest))
    ∙ stands.taken in
    inr (
      omega (arith, length-drop done cells),
      record {
        part = stands.part;
        taken = failed
            ∙ ap write_failed
            (ap (λ (view : SinkView). took view (take taken piece)) before
            ∙ took-took first (written (take done cells)) (take taken piece)
            ∙ ap (took first)
            (ap (λ (l : List ℕ). written (take done cells) ++ l) front
            ∙ sym (append_assoc (written (take done cells)) (written (take place rest)) stands.part)
            ∙ ap (λ (l : List ℕ). l ++ stands.part) (sym (written-take-add done place cells))));
        cut = let P : List Cell → Type 0 = λ l. IsPartOfFirst l stands.part in
            subst P (drop-drop place done cells) stands.cut;
      },
    )

-- a place further on in a list of cells
pub placed-more : (cells : List Cell) (place left left' byte : ℕ) (cell : Cell) → place < length cells → cell ≡ get_or cells place cell
    → byte ≡ length (written (take place cells)) + left → left < length (written (drop place cells)) → left ≡ length (cell_bytes cell) + left'
    → (byte ≡ length (written (take (place + 1) cells)) + left') × (left' < length (written (drop (place + 1) cells)))
placed-more cells place left left' byte cell within here at inside is = (
  omega (arith, ap length (written-take-more cells place cell within here), length-append (written (take place cells)) (cell_bytes cell)),
  omega (arith, ap length (written-drop-more cells place cell within here), length-append (cell_bytes cell) (written (drop (place + 1) cells))),
)

part-of-more : (xs ys : List Cell) (part : List ℕ) → IsPartOfFirst xs part → IsPartOfFirst (xs ++ ys) part
part-of-more [] ys part is = absurd is
part-of-more (Dropped ∷ xs) ys part is = absurd is
part-of-more (Live packet labels ∷ xs) ys part is = is

-- a cut in the first cells of a list is one in the list
pub part-of-all : (len place : ℕ) (cells : List Cell) (part : List ℕ) → place ≤ length (take len cells)
    → IsPartOfFirst (drop place (take len cells)) part → IsPartOfFirst (drop place cells) part
part-of-all len place cells part within is =
    let back : drop place cells ≡ drop place (take len cells) ++ drop len cells =
    ap (drop place) (sym (take-append-drop len cells)) ∙ drop-append-le place (take len cells) (drop len cells) within in
    let P : List Cell → Type 0 = λ l. IsPartOfFirst l part in
    subst P (sym back) (part-of-more (drop place (take len cells)) (drop len cells) part is)

-- cells of which none was dropped write their packets
pub written_live : (ps : List (List ℕ)) (ms : List Mark) → length ms ≡ length ps → AreLive ms → written (cells_of ps ms) ≡ joined ps
written_live [] ms l are = refl
written_live (p ∷ ps) [] l are = absurd (omega (arith, l))
written_live (p ∷ ps) (m ∷ ms) l are =
    ap (λ (c : Cell). written (c ∷ cells_of ps ms)) (live_is p m (All-head IsLiveMark m ms are))
    ∙ ap (λ (w : List ℕ). p ++ w) (written_live ps ms (omega (arith, l)) (All-tail IsLiveMark m ms are))

pub length-joined : (ps : List (List ℕ)) → AreRows ps → length (joined ps) ≡ 188 * length ps
length-joined [] are = refl
length-joined (p ∷ ps) are =
    let here : length p ≡ 188 = are.0.whole in let rest = length-joined ps are.1 in omega (arith, length-append p (joined ps), here, rest)

rows_first : (k : ℕ) (ps : List (List ℕ)) → AreRows ps → AreRows (take k ps)
rows_first zero ps are = tt
rows_first (suc k) [] are = tt
rows_first (suc k) (p ∷ ps) are = (are.0, rows_first k ps are.1)

-- one packet of a window
row_at : (k : ℕ) (ps : List (List ℕ)) → AreRows ps → k < length ps → length (get_or ps k []) ≡ 188
row_at k [] are lt = absurd (omega (arith, lt))
row_at zero (p ∷ ps) are lt = are.0.whole
row_at (suc k) (p ∷ ps) are lt = row_at k ps are.1 (omega (arith, lt))

-- a byte of packets of which none was dropped stands in the packet of its number
pub stands_live : (ps : List (List ℕ)) (ms : List Mark) (byte k left : ℕ) → length ms ≡ length ps → AreLive ms → AreRows ps → byte ≡ k * 188 + left → left < 188 → k < length ps
    → StandsAt (cells_of ps ms) byte k
stands_live ps ms byte k left l are rows is few within =
    let cells = cells_of ps ms in let n = cells_long ps ms l in let none : Mark = record { labels = 0; is_live = false } in let mark : Mark = get_or ms k none in
    let here : get_or cells k Dropped ≡ Live (get_or ps k []) mark.labels =
    cells_at ps ms k [] none l within ∙ live_is (get_or ps k []) mark (are k none (omega (arith, l, within))) in
    let front : length (written (take k cells)) ≡ 188 * k =
    ap (λ (c : List Cell). length (written c)) (cells_take k ps ms)
    ∙ ap length (written_live (take k ps) (take k ms) (let a = length-take k ps in let b = length-take k ms in omega (arith, a, b, l)) (All-take IsLiveMark k ms are))
    ∙ length-joined (take k ps) (rows_first k ps rows) ∙ ap (λ n. 188 * n) (length-take-le k ps (omega (arith, within))) in
    StandsAt-live cells k left byte (get_or cells k Dropped) (get_or ps k []) mark.labels (omega (arith, n, within)) (sym (get_or_default cells k (get_or cells k Dropped) Dropped (omega (arith, n, within)))) here
    (let r = row_at k ps rows within in omega (arith, r, few)) (omega (arith, is, front))

-- packets that lie side by side were written, or a write failed in one of them
pub writes_whole : (old new : SinkView) (ps : List (List ℕ)) (ms : List Mark) → length ms ≡ length ps → AreLive ms → new ≡ took old (joined ps) → WritesCells old new (cells_of ps ms) (length ps)
writes_whole old new ps ms l are is = inl (sym (cells_long ps ms l), is ∙ ap (took old) (sym (written_live ps ms l are)))

pub writes_cut : (old new : SinkView) (ps : List (List ℕ)) (ms : List Mark) (byte k left : ℕ) → length ms ≡ length ps → AreLive ms → AreRows ps → byte ≡ k * 188 + left → left < 188 → k < length ps
    → new ≡ write_failed (took old (take byte (joined ps))) → WritesCells old new (cells_of ps ms) k
writes_cut old new ps ms byte k left l are rows is few within failed =
    let stands = stands_live ps ms byte k left l are rows is few within in let n = cells_long ps ms l in
    inr (
      omega (arith, n, within),
      record {
        part = stands.part;
        taken = failed ∙ ap (λ (w : List ℕ). write_failed (took old w)) (ap (take byte) (sym (written_live ps ms l are)) ∙ stands.taken);
        cut = stands.cut;
      },
    )

-- where a byte is one of those that a cell writes, its packet was not dropped
pub size_live : (p : List ℕ) (m : Mark) (left : ℕ) → left < length (cell_bytes (cell_of p m)) → (cell_of p m ≡ Live p m.labels) × (left < length p)
size_live p m left lt = by m.is_live refl
  where
    by : (b : Bool) → m.is_live ≡ b → (cell_of p m ≡ Live p m.labels) × (left < length p)
    by true e = (live_is p m e, subst (λ (c : Cell). left < length (cell_bytes c)) (live_is p m e) lt)
    by false e = absurd (omega (arith, subst (λ (c : Cell). left < length (cell_bytes c)) (dropped_is p m e) lt))
