use Rattle.std.proofs.Common.{◌≡◌, ℕ, ◌+◌, ◌-◌, ◌≤◌, List, ◌++◌, length, take, drop, ap, sym, ◌∙◌, arith, length-take}
use Rattle.std.proofs.lemmas.Result.{MatchResult-from_err}
use Rattle.search_source.proofs.Filled.{hand-more, hand-kept}
use Rattle.search_source.proofs.finder.Finder.read_from.Goals as goal

pub returns : goal.returns
returns g c =
    let mid = c.to_front.new.self in
    let have : ℕ = mid.have in
    let all : List ℕ = c.as_mut_slice-bytes.result.now in
    let k : ℕ = length all - have in
    let got : List ℕ = c.read.new.into in
    let size : length all ≡ mid.room.len = c.as_mut_slice-bytes.ensures.len in
    let inside : mid.from + have ≤ mid.room.len = mid.within in
    let fits : have + k ≤ length all = omega arith in
    let long : length got ≡ k = omega arith in
    let few : c.in_ok-count.count ≤ k = omega (arith, c.in_ok-count.ensures.within) in
    let front : take have all ≡ take have (drop mid.from mid.room.items) =
    ap (take have) c.as_mut_slice-bytes.ensures.value
    ∙ ap (λ (n : ℕ). take have (drop n mid.room.items)) (sym c.to_front.ensures.front) in
    record {
      read = record {
        bytes = take c.in_ok-count.count got;
        length_is = omega (arith, length-take c.in_ok-count.count got);
        hand = hand-more mid.room have k c.in_ok-count.count mid.from all got fits long few size c.to_front.ensures.front
            ∙ ap (λ (l : List ℕ). l ++ take c.in_ok-count.count got) (front ∙ c.to_front.ensures.hand);
        same = let same = c.to_front.ensures.same in record { form = same.form; due = same.due; tail = same.tail; near = same.near; left = same.left; number = same.number; noted = same.noted };
        source = c.in_ok-count.ensures.moved;
        at_end = c.in_ok-count.ensures.end;
      };
    }

pub returns-in_err-count : goal.returns-in_err-count
returns-in_err-count g c =
    let mid = c.to_front.new.self in
    let have : ℕ = mid.have in
    let all : List ℕ = c.as_mut_slice-bytes.result.now in
    let k : ℕ = length all - have in
    let got : List ℕ = c.read.new.into in
    let size : length all ≡ mid.room.len = c.as_mut_slice-bytes.ensures.len in
    let inside : mid.from + have ≤ mid.room.len = mid.within in
    let fits : have + k ≤ length all = omega arith in
    let long : length got ≡ k = omega arith in
    let front : take have all ≡ take have (drop mid.from mid.room.items) =
    ap (take have) c.as_mut_slice-bytes.ensures.value
    ∙ ap (λ (n : ℕ). take have (drop n mid.room.items)) (sym c.to_front.ensures.front) in
    record {
      read = MatchResult-from_err c.from_residual.result _ _ c.from_residual.ensures.0
          (λ fault. record {
            hand = hand-kept mid.room have k mid.from all got fits long size c.to_front.ensures.front ∙ (front ∙ c.to_front.ensures.hand);
            same = let same = c.to_front.ensures.same in record { form = same.form; due = same.due; tail = same.tail; near = same.near; left = same.left; number = same.number; noted = same.noted };
            source = c.in_err-count.ensures.failed;
          });
    }
