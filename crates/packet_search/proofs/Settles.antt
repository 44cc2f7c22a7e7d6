-- What the first bytes of a file decide, and the rounds of the code that leave bytes out.
use Rattle.std.proofs.Common.{inl, inr, ◌≡◌, ℕ, zero, suc, ◌+◌, ◌-◌, ◌*◌, ◌<◌, ◌≤◌, Bool, false, if◌then◌else◌, List, [], ◌∷◌, ◌++◌, length, drop, min, refl, ap, sym, ◌∙◌, arith, append-nil, length-append, length-drop}
use Rattle.std.proofs.lemmas.Bool.{cases_lt}
use Rattle.std.proofs.lemmas.List.{drop-append-le, drop-drop, drop_min}
use Rattle.packet_forms.specs.declared.forms.Form.{Form}
use Rattle.packet_forms.specs.Stripped.{unit}
use Rattle.packet_search.specs.Rule.{gives, stays, past}
use Rattle.packet_search.specs.Search.{Found, with_found, found_here, left_after, search_from}
use Rattle.packet_search.specs.Settled.{Settled, IsEnough}
use Rattle.packet_search.proofs.Units.{unit-holds, gives-more, past-more, stays-more, past-few, past-fits, past-is}
use Rattle.packet_search.proofs.Steps.{with-both, step-none, here-more, after-more}

none-kept : (form : Form) (near : Bool) (left : ℕ) → Settled form 0 near left []
none-kept form near left = record { found = []; beside = near; left_out = left; kept = []; few = omega (arith, unit-holds form); goes_on = λ more. refl }

all-kept : (form : Form) (near : Bool) (left : ℕ) (bytes : List ℕ) → length bytes < 6 * unit form → Settled form 0 near left bytes
all-kept form near left bytes few = record { found = []; beside = near; left_out = left; kept = bytes; few = few; goes_on = λ more. refl }

-- a step, whatever follows
step : (form : Form) (near : Bool) (left x : ℕ) (bytes more : List ℕ) → 6 * unit form ≤ length (x ∷ bytes)
    → search_from form 0 near left (x ∷ (bytes ++ more))
    ≡ with_found (found_here form near left (x ∷ bytes))
    (search_from form (past form near (x ∷ bytes)) (stays form near (x ∷ bytes)) (left_after form near left (x ∷ bytes)) (bytes ++ more))
unfolding search_from
step form near left x bytes more long =
    let X : List ℕ = x ∷ bytes in
    let Y : List ℕ = x ∷ (bytes ++ more) in
    ap (λ (l : List Found). with_found l (search_from form (past form near Y) (stays form near Y) (left_after form near left Y) (bytes ++ more))) (here-more form near left X more long)
    ∙ ap (λ (n : ℕ). with_found (found_here form near left X) (search_from form n (stays form near Y) (left_after form near left Y) (bytes ++ more))) (past-more form near X more long)
    ∙ ap (λ (b : Bool). with_found (found_here form near left X) (search_from form (past form near X) b (left_after form near left Y) (bytes ++ more))) (stays-more form near X more long)
    ∙ ap (λ (n : ℕ). with_found (found_here form near left X) (search_from form (past form near X) (stays form near X) n (bytes ++ more))) (after-more form near left X more long)

step-on : (form : Form) (near : Bool) (left x : ℕ) (bytes : List ℕ) → 6 * unit form ≤ length (x ∷ bytes)
    → Settled form (past form near (x ∷ bytes)) (stays form near (x ∷ bytes)) (left_after form near left (x ∷ bytes)) bytes → Settled form 0 near left (x ∷ bytes)
step-on form near left x bytes long rest =
    let here : List Found = found_here form near left (x ∷ bytes) in
    record {
      found = here ++ rest.found;
      beside = rest.beside;
      left_out = rest.left_out;
      kept = rest.kept;
      few = rest.few;
      goes_on = λ more. step form near left x bytes more long
          ∙ ap (with_found here) (rest.goes_on more)
          ∙ sym (with-both here rest.found (search_from form 0 rest.beside rest.left_out (rest.kept ++ more)));
    }

skipped : (form : Form) (n : ℕ) (near : Bool) (left x : ℕ) (bytes : List ℕ) → Settled form n near left bytes → Settled form (suc n) near left (x ∷ bytes)
unfolding search_from
skipped form n near left x bytes rest =
    record { found = rest.found; beside = rest.beside; left_out = rest.left_out; kept = rest.kept; few = rest.few; goes_on = λ more. rest.goes_on more }

pub settles : (form : Form) (skip : ℕ) (near : Bool) (left : ℕ) (bytes : List ℕ) → skip ≤ length bytes → Settled form skip near left bytes
settles form zero near left [] fits = none-kept form near left
settles form (suc n) near left [] fits = absurd (omega arith)
settles form (suc n) near left (x ∷ bytes) fits = skipped form n near left x bytes (settles form n near left bytes (omega arith))
settles form zero near left (x ∷ bytes) fits =
    elim (cases_lt (length (x ∷ bytes)) (6 * unit form)) [
      | inl short ↦ all-kept form near left (x ∷ bytes) short
      | inr long ↦ step-on form near left x bytes long
          (settles form (past form near (x ∷ bytes)) (stays form near (x ∷ bytes)) (left_after form near left (x ∷ bytes)) bytes
          (omega (arith, past-few form near (x ∷ bytes), unit-holds form)))
    ]

-- bytes that give no packet here are left out, whatever follows
passed-here : (form : Form) (near : Bool) (left : ℕ) (rest more : List ℕ) → 0 < length rest → gives form near rest ≡ false → IsEnough form (length rest) more
    → search_from form 0 near left (rest ++ more)
    ≡ search_from form 0 (stays form near rest) (left + suc (past form near rest)) (drop (suc (past form near rest)) rest ++ more)
passed-here form near left rest more some none (inl enough) =
    let n : ℕ = suc (past form near rest) in
    let all : 0 < length (rest ++ more) = omega (arith, length-append rest more) in
    step-none form near left (rest ++ more) all (gives-more form near rest more enough ∙ none)
    ∙ ap (λ (b : Bool). search_from form 0 b (left + suc (past form near (rest ++ more))) (drop (suc (past form near (rest ++ more))) (rest ++ more))) (stays-more form near rest more enough)
    ∙ ap (λ (k : ℕ). search_from form 0 (stays form near rest) (left + suc k) (drop (suc k) (rest ++ more))) (past-more form near rest more enough)
    ∙ ap (search_from form 0 (stays form near rest) (left + n)) (drop-append-le n rest more (past-fits form near rest some none))
passed-here form near left rest more some none (inr end) =
    let n : ℕ = suc (past form near rest) in
    ap (λ (l : List ℕ). search_from form 0 near left (rest ++ l)) end
    ∙ ap (search_from form 0 near left) (append-nil rest)
    ∙ step-none form near left rest some none
    ∙ ap (search_from form 0 (stays form near rest) (left + n)) (sym (append-nil (drop n rest)))
    ∙ ap (λ (l : List ℕ). search_from form 0 (stays form near rest) (left + n) (drop n rest ++ l)) (sym end)

-- the bytes after some more are left out
left-more : (from count size : ℕ) (bytes : List ℕ) → length bytes ≡ size → from ≤ size → drop (from + min count (size - from)) bytes ≡ drop count (drop from bytes)
left-more from count size bytes long few =
    let rest : size - from ≡ length (drop from bytes) = omega (arith, length-drop from bytes) in
    sym (drop-drop (min count (size - from)) from bytes)
    ∙ ap (λ (n : ℕ). drop (min count n) (drop from bytes)) rest
    ∙ drop_min count (drop from bytes)

-- a round of leaving bytes out
pub goes-on-more : (form : Form) (near beside after : Bool) (from count enough size : ℕ) (bytes : List ℕ) → length bytes ≡ size → from ≤ size → 0 < enough → enough ≤ size - from
    → gives form beside (drop from bytes) ≡ false → after ≡ stays form beside (drop from bytes) → count ≡ (if after then unit form else 1)
    → ((left : ℕ) (more : List ℕ) → IsEnough form enough more → search_from form 0 near left (bytes ++ more) ≡ search_from form 0 beside (left + from) (drop from bytes ++ more))
    → (left : ℕ) (more : List ℕ) → IsEnough form enough more
    → search_from form 0 near left (bytes ++ more) ≡ search_from form 0 after (left + (from + min count (size - from))) (drop (from + min count (size - from)) bytes ++ more)
goes-on-more form near beside after from count enough size bytes long few some much none after_is count_is before left more is_enough =
    let rest : List ℕ = drop from bytes in
    let size_is : length rest ≡ size - from = length-drop from bytes ∙ ap (λ (n : ℕ). n - from) long in
    let there : 0 < length rest = omega arith in
    let wide : IsEnough form (length rest) more =
    elim is_enough [ inl six ↦ inl (omega arith) | inr end ↦ inr end ] in
    let count_past : suc (past form beside rest) ≡ count = past-is form beside rest ∙ ap (λ (b : Bool). if b then unit form else 1) (sym after_is) ∙ sym count_is in
    let fits : suc (past form beside rest) ≤ length rest = past-fits form beside rest there none in
    let sum : left + from + count ≡ left + (from + min count (size - from)) = omega arith in
    before left more is_enough
    ∙ passed-here form beside (left + from) rest more there none wide
    ∙ ap (λ (b : Bool). search_from form 0 b (left + from + suc (past form beside rest)) (drop (suc (past form beside rest)) rest ++ more)) (sym after_is)
    ∙ ap (λ (n : ℕ). search_from form 0 after (left + from + n) (drop n rest ++ more)) count_past
    ∙ ap (λ (n : ℕ). search_from form 0 after n (drop count rest ++ more)) sum
    ∙ ap (λ (l : List ℕ). search_from form 0 after (left + (from + min count (size - from))) (l ++ more)) (sym (left-more from count size bytes long few))
