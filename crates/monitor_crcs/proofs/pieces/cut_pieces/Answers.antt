use Rattle.std.proofs.Common.{◌≡◌, ℕ, ◌+◌, ◌-◌, ◌≤◌, ◌++◌, List, true, length, take, drop, refl, arith, length-append, length-drop, ap}
use Rattle.std.proofs.lemmas.List.{take_rest}
use Rattle.ts_demux.specs.Cut.{is_whole_in_front, size_in_front}
use Rattle.monitor_crcs.specs.WrongCrcs.{told_in, told_piece}
use Rattle.monitor_crcs.proofs.Telling.{piece_size, told_in-advance}
use Rattle.monitor_crcs.proofs.pieces.cut_pieces.Goals as goal

pub loop-size-preserved : goal.loop-size-preserved
loop-size-preserved c =
    let bytes : List ℕ = c.args.bytes.now in
    let at = c.loop-size.at in
    let size = c.in-Some.size in
    let rest : List ℕ = drop at bytes in
    let t : take (length bytes - at) rest ≡ rest = take_rest bytes at in
    let whole : is_whole_in_front rest ≡ true = rw t at (c.in-Some.ensures.whole.0 refl) in
    let sized : size ≡ size_in_front rest = rw t at c.in-Some.ensures.size in
    let n : at + size - at ≡ size = omega arith in
    let next : c.take_piece.new.waiting.items ≡ c.loop-size.waiting.items ++ told_piece (take size rest) = rw n at c.in_ok-take_piece.ensures in
    record {
      within = omega (arith, c.in-Some.ensures.within.0, length-drop at bytes);
      told = λ more. told_in-advance (c.args.waiting.now.items ++ told_in (bytes ++ more)) c.loop-size.waiting.items c.take_piece.new.waiting.items bytes more at size whole sized next (c.loop-size.invariant.told more);
      grows = omega (arith, ap length next, length-append c.loop-size.waiting.items (told_piece (take size rest)), c.loop-size.invariant.grows);
    }

-- the piece has the size that it says
pub take_piece-requires : goal.take_piece-requires
take_piece-requires c =
    let bytes : List ℕ = c.args.bytes.now in
    let at = c.loop-size.at in
    let size = c.in-Some.size in
    let rest : List ℕ = drop at bytes in
    let t : take (length bytes - at) rest ≡ rest = take_rest bytes at in
    let sized : size ≡ size_in_front rest = rw t at c.in-Some.ensures.size in
    let within : size ≤ length rest = rw t at c.in-Some.ensures.within.0 in
    let n : at + size - at ≡ size = omega arith in
    rw n (piece_size rest size c.in-Some.ensures.within.1 within sized)
