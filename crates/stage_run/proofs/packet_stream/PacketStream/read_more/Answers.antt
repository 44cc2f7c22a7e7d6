use Rattle.std.proofs.Common.{◌≡◌, ℕ, ◌+◌, ◌-◌, ◌*◌, ◌≤◌, List, [], ◌++◌, length, take, drop, ap, sym, ◌∙◌, arith, length-take, subst}
use Rattle.std.specs.Option.{IfSome}
use Rattle.std.proofs.lemmas.Result.{MatchResult-from_err}
use Rattle.ts_outside.specs.Source.{SourceView, read_failed}
use Rattle.stage_run.proofs.StreamLemmas.{hand-more, hand-kept}
use Rattle.stage_run.proofs.packet_stream.PacketStream.read_more.Goals as goal

pub returns-clause-read : goal.returns-clause-read
returns-clause-read g c =
    let have : ℕ = c.to_front.new.self.have in
    let k : ℕ = c.min-want.result * 188 - have in
    let all : List ℕ = c.as_mut_slice-bytes.result.now in
    let got : List ℕ = c.read.new.into in
    let fits : have + k ≤ length all = omega arith in
    let long : length got ≡ k = omega arith in
    let few : c.in_ok-count.count ≤ k = omega (arith, c.in_ok-count.ensures.within) in
    let front : take have all ≡ take have (drop c.to_front.new.self.from c.to_front.new.self.room.bytes.items) =
    ap (take have) c.as_mut_slice-bytes.ensures.value
    ∙ ap (λ (n : ℕ). take have (drop n c.to_front.new.self.room.bytes.items)) (sym c.to_front.ensures.front) in
    record {
      bytes = take c.in_ok-count.count got;
      length_is = omega (arith, length-take c.in_ok-count.count got);
      hand = hand-more c.to_front.new.self.room.bytes have k c.in_ok-count.count c.to_front.new.self.from all got fits long few c.as_mut_slice-bytes.ensures.len c.to_front.ensures.front
          ∙ ap (λ (l : List ℕ). l ++ take c.in_ok-count.count got) (front ∙ c.to_front.ensures.moves.hand);
      have = ap (λ (n : ℕ). n + c.in_ok-count.count) c.to_front.ensures.moves.have;
      source = ap g.S.Source.seen (sym c.to_front.ensures.moves.source) ∙ c.in_ok-count.ensures.moved;
      at_end = λ none. subst (λ (view : SourceView). IfSome view.left (λ left. left ≡ []))
          (ap g.S.Source.seen c.to_front.ensures.moves.source) (c.in_ok-count.ensures.end none);
    }

pub returns-in_err-count-clause-read : goal.returns-in_err-count-clause-read
returns-in_err-count-clause-read g c =
    let have : ℕ = c.to_front.new.self.have in
    let k : ℕ = c.min-want.result * 188 - have in
    let all : List ℕ = c.as_mut_slice-bytes.result.now in
    let got : List ℕ = c.read.new.into in
    let fits : have + k ≤ length all = omega arith in
    let long : length got ≡ k = omega arith in
    let front : take have all ≡ take have (drop c.to_front.new.self.from c.to_front.new.self.room.bytes.items) =
    ap (take have) c.as_mut_slice-bytes.ensures.value
    ∙ ap (λ (n : ℕ). take have (drop n c.to_front.new.self.room.bytes.items)) (sym c.to_front.ensures.front) in
    MatchResult-from_err c.from_residual.result _ _ c.from_residual.ensures.0
    (λ fault. record {
      hand = hand-kept c.to_front.new.self.room.bytes have k c.to_front.new.self.from all got fits long c.as_mut_slice-bytes.ensures.len c.to_front.ensures.front
          ∙ (front ∙ c.to_front.ensures.moves.hand);
      have = c.to_front.ensures.moves.have;
      source = c.in_err-count.ensures.failed ∙ ap (λ (view : SourceView). read_failed view) (ap g.S.Source.seen c.to_front.ensures.moves.source);
    })
