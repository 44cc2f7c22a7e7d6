use Rattle.std.proofs.Common.{◌≡◌, ◌+◌, suc, ◌<◌, length, map, take, slice_index_or, ap, sym, ◌∙◌, subst, arith, Some, None}
use Rattle.std.specs.String.{string_bytes}
use Rattle.switch_args.specs.SwitchWords.{place, place_after, start, step}
use Rattle.switch_args.specs.Readings.{Went, given_of, expected_of}
use Rattle.switch_args.proofs.ValidLemmas.{result-valid}
use Rattle.switch_args.proofs.FormLemmas.{more, no-more, map-at, map-many, ends-whole}
use Rattle.switch_args.proofs.words.read_words.Goals as goal

pub loop-at-preserved : goal.loop-at-preserved
loop-at-preserved c =
    let ws = map string_bytes c.args.words.now in
    let at = c.loop-at.at in
    let lt : at < length c.args.words.now = c.loop-at-test.true in
    let is : slice_index_or ws at (string_bytes c.index-words-at.result) ≡ c.as_str.result.now = map-at string_bytes c.args.words.now at c.index-words-at.result lt ∙ ap string_bytes (sym c.index-words-at.is) ∙ sym c.as_str.ensures.value in
    let next : suc at ≡ at + 1 = omega arith in
    let went = subst (λ b. Went c.loop-at.reading c.as_str.result.now b c.take.new.self) c.in-Ok-true.field-0-test c.in-Ok-true.ensures in (
      omega (arith, lt),
      subst (λ n. place_after start (take n ws) ≡ Some (place (given_of c.take.new.self) (expected_of c.take.new.self.expected))) next
          (more ws at _ _ (string_bytes c.index-words-at.result) (let m = map-many string_bytes c.args.words.now in omega (arith, m, lt)) c.loop-at.invariant.1
          (subst (λ w. step (given_of c.loop-at.reading) (expected_of c.loop-at.reading.expected) w ≡ Some (place (given_of c.take.new.self) (expected_of c.take.new.self.expected))) (sym is) went)),
    )

pub returns-in-Ok-false-clause-read : goal.returns-in-Ok-false-clause-read
returns-in-Ok-false-clause-read c =
    let ws = map string_bytes c.args.words.now in
    let at = c.loop-at.at in
    let lt : at < length c.args.words.now = c.loop-at-test.true in
    let is : slice_index_or ws at (string_bytes c.index-words-at.result) ≡ c.as_str.result.now = map-at string_bytes c.args.words.now at c.index-words-at.result lt ∙ ap string_bytes (sym c.index-words-at.is) ∙ sym c.as_str.ensures.value in
    let went = subst (λ b. Went c.loop-at.reading c.as_str.result.now b c.take.new.self) c.in-Ok-false.field-0-test c.in-Ok-false.ensures in
    no-more ws at _ (string_bytes c.index-words-at.result) (let m = map-many string_bytes c.args.words.now in omega (arith, m, lt)) c.loop-at.invariant.1
    (subst (λ w. step (given_of c.loop-at.reading) (expected_of c.loop-at.reading.expected) w ≡ None) (sym is) went)

pub returns-clause-read : goal.returns-clause-read
returns-clause-read c =
    let ws = map string_bytes c.args.words.now in
    let many : c.loop-at.at ≡ length ws = (let m = map-many string_bytes c.args.words.now in let a = c.loop-at.invariant.0 in let b = c.loop-at-test.false in omega (arith, m, a, b)) in
    ends-whole ws c.loop-at.at c.loop-at.reading c.end.result many c.loop-at.invariant.1 c.end.ensures

pub returns-clause-valid : goal.returns-clause-valid
returns-clause-valid c =
    let ws = map string_bytes c.args.words.now in
    let many : c.loop-at.at ≡ length ws = (let m = map-many string_bytes c.args.words.now in let a = c.loop-at.invariant.0 in let b = c.loop-at-test.false in omega (arith, m, a, b)) in
    result-valid ws c.end.result (ends-whole ws c.loop-at.at c.loop-at.reading c.end.result many c.loop-at.invariant.1 c.end.ensures)
