-- Lemmas: the words of settings, written out, are read as these settings.
use Rattle.std.proofs.Common.{◌≡◌, ℕ, ◌+◌, ◌<◌, ◌≤◌, ◌^◌, List, [], ◌∷◌, ◌++◌, length, Option, None, Some, Bool, true, false, refl, ap, sym, ◌∙◌, subst, arith, append-nil, append_assoc}
use Rattle.std.specs.Prelude.{option_and_then, codes, ◌&&◌, nat_lt, nat_eq, if◌then◌else◌, IfSome, drop}
use Rattle.std.specs.Fmt.{decimal}
use Rattle.std.specs.Char.{digit_value}
use Rattle.std.specs.List.{starts_with, list_all}
use Rattle.std.specs.Str.Parse.{AllDigits, digits_value}
use Rattle.std.proofs.lemmas.Fmt.{decimal_is_IsNumeral}
use Rattle.std.proofs.lemmas.Bool.{lt-ltb, and_from, ne_eqb}
use Rattle.std.proofs.lemmas.Bool.Decides.{nat_tests}
use Rattle.plugin_options.specs.Number.{number_within, number_of, numeral, if_within}
use Rattle.switch_args.specs.SwitchWords.{Given, Output, to_file, dropped, an_option_or_input, the_input_kind, the_input_name, an_input_or_output, nothing, Place, place, place_after, start, may_end, read_of, is_name, if_so}
use Rattle.switch_args.specs.ValidSettings.{IsValid, IsValidOutput, words_of, number_words, flag_words, input_words, output_words}
use Rattle.switch_args.proofs.FormLemmas.{after-append}

-- ---- a number in decimal digits

and-false : (b : Bool) → (b && false) ≡ false
and-false true = refl
and-false false = refl

no-sign : (ds : List ℕ) → AllDigits 10 ds → starts_with nat_eq ds (codes "0x") ≡ false
no-sign [] all = refl
no-sign (c ∷ []) all = and-false (nat_eq 48 c)
no-sign (c ∷ d ∷ ds) all = ap (λ b. nat_eq 48 c && (b && true)) (ne_eqb 120 d (λ e. digit (subst (λ x. digit_value x < 10) (sym e) all.1.0))) ∙ and-false (nat_eq 48 c)
  where
    digit : digit_value 120 < 10 → ⊥
    digit lt = omega (arith, lt)

numeral-test : (ds : List ℕ) → AllDigits 10 ds → list_all (λ digit. nat_lt (digit_value digit) 10) ds ≡ true
numeral-test [] all = refl
numeral-test (d ∷ ds) all = and_from _ _ (lt-ltb (digit_value d) 10 all.0) (numeral-test ds all.1)

number-of-decimal : (n : ℕ) → n < 2 ^ 64 → number_of (decimal n) ≡ Some n
unfolding number_of
number-of-decimal n small =
    let k = decimal_is_IsNumeral n small in
    ap (λ b. if b then numeral 16 (drop 2 (decimal n)) else numeral 10 (decimal n)) (no-sign (decimal n) k.0.1)
    ∙ ap (λ b. if b then Some (digits_value 10 (decimal n)) else None) (and_from _ _ (lt-ltb 0 (length (decimal n)) k.0.0) (numeral-test (decimal n) k.0.1))
    ∙ ap Some k.1

if-inside : (least most n : ℕ) → least ≤ n → n ≤ most → if_within least most n ≡ Some n
if-inside least most n low high = grind (arith, nat_tests)

within-decimal : (least most n : ℕ) → least ≤ n → n ≤ most → n < 2 ^ 64 → number_within least most (decimal n) ≡ Some n
unfolding number_within
within-decimal least most n low high small = ap (option_and_then (if_within least most)) (number-of-decimal n small) ∙ if-inside least most n low high

-- ---- part by part

abbrev given : Option ℕ → Option ℕ → Bool → List (List ℕ) → Given
given cycle buffer resync inputs = record { cycle = cycle; buffer = buffer; resync = resync; inputs = inputs; output = to_file [] }

cycle-words : (cycle : Option ℕ) → IfSome cycle (λ n. (1 ≤ n) × (n ≤ 1000)) → place_after start (number_words (codes "--cycle") cycle) ≡ Some (place (given cycle None false []) an_option_or_input)
cycle-words None l = refl
cycle-words (Some n) l = ap (λ o. option_and_then (λ q. place_after q []) (option_and_then (λ m. Some (place (given (Some m) None false []) an_option_or_input)) o)) (within-decimal 1 1000 n l.0 l.1 (omega (arith, l.1)))

buffer-words : (cycle buffer : Option ℕ) → IfSome buffer (λ n. (1 ≤ n) × (n ≤ 1000000)) → place_after (place (given cycle None false []) an_option_or_input) (number_words (codes "--buffer-packets") buffer) ≡ Some (place (given cycle buffer false []) an_option_or_input)
buffer-words cycle None l = refl
buffer-words cycle (Some n) l = ap (λ o. option_and_then (λ q. place_after q []) (option_and_then (λ m. Some (place (given cycle (Some m) false []) an_option_or_input)) o)) (within-decimal 1 1000000 n l.0 l.1 (omega (arith, l.1)))

flag-words : (cycle buffer : Option ℕ) (resync : Bool) → place_after (place (given cycle buffer false []) an_option_or_input) (flag_words (codes "--resync") resync) ≡ Some (place (given cycle buffer resync []) an_option_or_input)
flag-words cycle buffer true = refl
flag-words cycle buffer false = refl

module _ (cycle buffer : Option ℕ) (resync : Bool) where
  name-word : (done : List (List ℕ)) (name : List ℕ) (words : List (List ℕ)) → is_name name ≡ true
      → place_after (place (given cycle buffer resync done) the_input_name) (name ∷ words) ≡ place_after (place (given cycle buffer resync (done ++ name ∷ [])) an_input_or_output) words
  name-word done name words is = ap (λ t. option_and_then (λ q. place_after q words) (if_so t (place (given cycle buffer resync (done ++ name ∷ [])) an_input_or_output) None)) is

  first-input : (name : List ℕ) (words : List (List ℕ)) → is_name name ≡ true
      → place_after (place (given cycle buffer resync []) an_option_or_input) (codes "-I" ∷ codes "file" ∷ name ∷ words) ≡ place_after (place (given cycle buffer resync (name ∷ [])) an_input_or_output) words
  first-input name words is = name-word [] name words is

  one-more : (done : List (List ℕ)) (name : List ℕ) (words : List (List ℕ)) → length done < 32 → is_name name ≡ true
      → place_after (place (given cycle buffer resync done) an_input_or_output) (codes "-I" ∷ codes "file" ∷ name ∷ words) ≡ place_after (place (given cycle buffer resync (done ++ name ∷ [])) an_input_or_output) words
  one-more done name words few is =
      ap (λ t. option_and_then (λ q. place_after q (codes "file" ∷ name ∷ words)) (if_so t (place (given cycle buffer resync done) the_input_kind) None)) (lt-ltb (length done) 32 few)
      ∙ name-word done name words is

  length-more : (done : List (List ℕ)) (name : List ℕ) → length (done ++ name ∷ []) ≡ length done + 1
  length-more [] name = refl
  length-more (x ∷ done) name = (let l = length-more done name in omega (arith, l))

  names-first : (name : List ℕ) (names : List (List ℕ)) → list_all is_name (name ∷ names) ≡ true → (is_name name ≡ true) × (list_all is_name names ≡ true)
  names-first name names all = both (is_name name) (list_all is_name names) all
    where
      both : (a b : Bool) → (a && b) ≡ true → (a ≡ true) × (b ≡ true)
      both true b e = (refl, e)
      both false b e = absurd (let bad : false ≡ true = e in cc)

  more-inputs : (done names : List (List ℕ)) → length done + length names ≤ 32 → list_all is_name names ≡ true
      → place_after (place (given cycle buffer resync done) an_input_or_output) (input_words names) ≡ Some (place (given cycle buffer resync (done ++ names)) an_input_or_output)
  more-inputs done [] few all = ap (λ l. Some (place (given cycle buffer resync l) an_input_or_output)) (sym (append-nil done))
  more-inputs done (name ∷ names) few all =
      let a = names-first name names all in
      one-more done name (input_words names) (omega (arith, few)) a.0
      ∙ more-inputs (done ++ name ∷ []) names (let l = length-more done name in omega (arith, few, l)) a.1
      ∙ ap (λ l. Some (place (given cycle buffer resync l) an_input_or_output)) (append_assoc done (name ∷ []) names)

  all-inputs : (names : List (List ℕ)) → 1 ≤ length names → length names ≤ 32 → list_all is_name names ≡ true
      → place_after (place (given cycle buffer resync []) an_option_or_input) (input_words names) ≡ Some (place (given cycle buffer resync names) an_input_or_output)
  all-inputs [] some few all = absurd (omega (arith, some))
  all-inputs (name ∷ names) some few all =
      let a = names-first name names all in
      first-input name (input_words names) a.0 ∙ more-inputs (name ∷ []) names (omega (arith, few)) a.1

  output-end : (names : List (List ℕ)) (output : Output) → IsValidOutput output
      → option_and_then may_end (place_after (place (given cycle buffer resync names) an_input_or_output) (output_words output)) ≡ Some (record { cycle = cycle; buffer = buffer; resync = resync; inputs = names; output = output })
  output-end names (to_file []) l = refl
  output-end names (to_file (x ∷ xs)) l =
      ap (λ t. option_and_then may_end (option_and_then (λ q. place_after q []) (if_so t (place (record { cycle = cycle; buffer = buffer; resync = resync; inputs = names; output = to_file (x ∷ xs) }) nothing) None))) l
  output-end names dropped l = refl

after : (p q : Place) (a b : List (List ℕ)) → place_after p a ≡ Some q → place_after p (a ++ b) ≡ place_after q b
after p q a b e = after-append p a b ∙ ap (option_and_then (λ r. place_after r b)) e

pub read-back : (g : Given) → IsValid g → read_of (words_of g) ≡ Some g
read-back g l =
    ap (option_and_then may_end)
    (after start (place (given g.cycle None false []) an_option_or_input) (number_words (codes "--cycle") g.cycle) _ (cycle-words g.cycle l.cycle)
    ∙ after _ (place (given g.cycle g.buffer false []) an_option_or_input) (number_words (codes "--buffer-packets") g.buffer) _ (buffer-words g.cycle g.buffer l.buffer)
    ∙ after _ (place (given g.cycle g.buffer g.resync []) an_option_or_input) (flag_words (codes "--resync") g.resync) _ (flag-words g.cycle g.buffer g.resync)
    ∙ after _ (place (given g.cycle g.buffer g.resync g.inputs) an_input_or_output) (input_words g.inputs) _ (all-inputs g.cycle g.buffer g.resync g.inputs l.some l.few l.names))
    ∙ output-end g.cycle g.buffer g.resync g.inputs g.output l.output
