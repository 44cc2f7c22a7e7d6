-- A text that is reported in pieces.
use Rattle.std.proofs.Common.{◌≡◌, ℕ, zero, suc, ◌+◌, List, [], ◌∷◌, ◌++◌, length, take, Bool, true, false, refl, ap, sym, ◌∙◌, arith, length-append}
use Rattle.std.proofs.lemmas.List.{take-append-le}
use Rattle.ts_outside.specs.Desk.{DeskView, reports, report_failed}
use Rattle.ts_outside.specs.Saying.{Says}
use Rattle.ts_outside.proofs.Views.{reports-reports}

take-behind : (xs ys : List ℕ) (n m : ℕ) → m ≡ length xs + n → take m (xs ++ ys) ≡ xs ++ take n ys
take-behind [] ys n m e = let same : m ≡ n = omega arith in ap (λ (k : ℕ). take k ys) same
take-behind (x ∷ xs) ys n zero e = absurd (omega arith)
take-behind (x ∷ xs) ys n (suc m) e = ap (λ (rest : List ℕ). x ∷ rest) (take-behind xs ys n m (omega arith))

-- after a report failed nothing more is reported
pub stays_failed : (first now : DeskView) (before piece : List ℕ) → Says first now before true → Says first now (before ++ piece) true
stays_failed first now before piece s =
    let n : ℕ = s.0 in (
      n,
      (omega (arith, s.1, length-append before piece)),
      s.2 ∙ ap (λ (text : List ℕ). report_failed (reports first text)) (sym (take-append-le n before piece (omega (arith, s.1)))),
    )

-- one more piece
pub one_more : (first mid now : DeskView) (before piece : List ℕ) (failed : Bool) → Says first mid before false → Says mid now piece failed → Says first now (before ++ piece) failed
one_more first mid now before piece false said more =
    more ∙ (ap (λ (d : DeskView). reports d piece) said ∙ reports-reports first before piece)
one_more first mid now before piece true said more =
    let n : ℕ = more.0 in
    let m : ℕ = length before + n in (
      m,
      (omega (arith, more.1, length-append before piece)),
      more.2 ∙ (ap (λ (d : DeskView). report_failed (reports d (take n piece))) said
          ∙ (ap (λ (d : DeskView). report_failed d) (reports-reports first before (take n piece))
          ∙ ap (λ (text : List ℕ). report_failed (reports first text)) (sym (take-behind before piece n m refl)))),
    )
