-- Lemmas: what is read is valid.
use Rattle.std.proofs.Common.{◌≡◌, ℕ, ◌+◌, ◌<◌, ◌≤◌, ◌⊎◌, inl, inr, List, [], ◌∷◌, ◌++◌, length, Option, None, Some, Bool, true, false, refl, ap, ◌∙◌, subst, arith}
use Rattle.std.specs.Prelude.{option_and_then, codes, ◌&&◌, not, nat_lt, IfSome, IfOk, is_none, Result, Ok, Err}
use Rattle.std.specs.Str.{bytes_eq}
use Rattle.std.specs.List.{list_all}
use Rattle.std.proofs.lemmas.Bool.{ltb-true}
use Rattle.std.proofs.lemmas.Bool.Decides.{nat_tests}
use Rattle.plugin_options.specs.Number.{number_within, number_of, if_within}
use Rattle.switch_args.specs.declared.settings.SwitchSettings.{SwitchSettings}
use Rattle.switch_args.specs.declared.words.WordsFault.{WordsFault}
use Rattle.switch_args.specs.Readings.{ReadsWords, given_of_settings}
use Rattle.switch_args.specs.SwitchWords.{Given, to_file, dropped, Expected, an_option_or_input, the_cycle, the_buffer, the_input_kind, the_input_name, an_input_or_output, the_output_kind, the_output_name, nothing, Place, place, step, place_after, start, may_end, read_of, is_name, if_so}
use Rattle.switch_args.specs.ValidSettings.{IsValid, IsValidOutput}

-- how many inputs there are at a place: none before the first, and room for one that is expected
abbrev CountsInputs : Expected → ℕ → Type 0
CountsInputs an_option_or_input n = n ≡ 0
CountsInputs the_cycle n = n ≡ 0
CountsInputs the_buffer n = n ≡ 0
CountsInputs the_input_kind n = n < 32
CountsInputs the_input_name n = n < 32
CountsInputs an_input_or_output n = (1 ≤ n) × (n ≤ 32)
CountsInputs the_output_kind n = (1 ≤ n) × (n ≤ 32)
CountsInputs the_output_name n = (1 ≤ n) × (n ≤ 32)
CountsInputs nothing n = (1 ≤ n) × (n ≤ 32)

-- what was given before a place is valid
record IsValidTo (p : Place) : Type 0 where
  cycle : IfSome p.given.cycle (λ n. (1 ≤ n) × (n ≤ 1000))
  buffer : IfSome p.given.buffer (λ n. (1 ≤ n) × (n ≤ 1000000))
  counts : CountsInputs p.expected (length p.given.inputs)
  names : list_all is_name p.given.inputs ≡ true
  output : IsValidOutput p.given.output

-- a place that is reached: by this word, or by another rule
so : (b : Bool) (p : Place) (rest : Option Place) (q : Place) → if_so b p rest ≡ Some q → ((b ≡ true) × (p ≡ q)) ⊎ (rest ≡ Some q)
so true p rest q e = inl (refl, (let f = e in cc))
so false p rest q e = inr e

never : {q : Place} → None ≡ Some q → ⊥
never e = cc

inside : (least most : ℕ) (text : List ℕ) (n : ℕ) → number_within least most text ≡ Some n → (least ≤ n) × (n ≤ most)
unfolding number_within
inside least most text n e = by-number (number_of text) e
  where
    by-number : (o : Option ℕ) → option_and_then (if_within least most) o ≡ Some n → (least ≤ n) × (n ≤ most)
    by-number None e = absurd (let bad : None ≡ Some n = e in cc)
    by-number (Some m) e = grind (arith, nat_tests, e)

both : {a b : Bool} → (a && b) ≡ true → (a ≡ true) × (b ≡ true)
both {a = true} e = (refl, e)
both {a = false} e = absurd (let bad : false ≡ true = e in cc)

all-more : (names : List (List ℕ)) (name : List ℕ) → list_all is_name names ≡ true → is_name name ≡ true → list_all is_name (names ++ name ∷ []) ≡ true
all-more [] name all is = ap (λ b. b && true) is
all-more (x ∷ names) name all is =
    let a = both {a = is_name x} {b = list_all is_name names} all in
    ap (λ b. b && list_all is_name (names ++ name ∷ [])) a.0 ∙ all-more names name a.1 is

many-more : (names : List (List ℕ)) (name : List ℕ) → length (names ++ name ∷ []) ≡ length names + 1
many-more [] name = refl
many-more (x ∷ names) name = (let l = many-more names name in omega (arith, l))

output-name : (word : List ℕ) → is_name word ≡ true → IsValidOutput (to_file word)
output-name [] is = tt
output-name (x ∷ xs) is = is

number-step : (least most : ℕ) (word : List ℕ) (at : ℕ → Place) (q : Place) → option_and_then (λ n. Some (at n)) (number_within least most word) ≡ Some q → (n : ℕ) × (least ≤ n) × (n ≤ most) × (at n ≡ q)
number-step least most word at q e = by-number (number_within least most word) refl e
  where
    by-number : (o : Option ℕ) → number_within least most word ≡ o → option_and_then (λ n. Some (at n)) o ≡ Some q → (n : ℕ) × (least ≤ n) × (n ≤ most) × (at n ≡ q)
    by-number None is e = absurd (let bad : None ≡ Some q = e in cc)
    by-number (Some n) is e = (let i = inside least most word n is in (n, i.0, i.1, (let f = e in cc)))

step-valid : (g : Given) (e : Expected) (word : List ℕ) (q : Place) → IsValidTo (place g e) → step g e word ≡ Some q → IsValidTo q
step-valid g an_option_or_input word q l is =
    let first = if_so (bytes_eq word (codes "-I")) (place g the_input_kind) None in
    let flag = if_so (bytes_eq word (codes "--resync") && not g.resync) (place (record g { resync = true }) an_option_or_input) first in
    let buffer = if_so (bytes_eq word (codes "--buffer-packets") && is_none g.buffer) (place g the_buffer) flag in
    elim (so (bytes_eq word (codes "--cycle") && is_none g.cycle) (place g the_cycle) buffer q is) [
      | inl s ↦ subst IsValidTo s.1 (record { cycle = l.cycle; buffer = l.buffer; counts = l.counts; names = l.names; output = l.output })
      | inr more ↦ elim (so (bytes_eq word (codes "--buffer-packets") && is_none g.buffer) (place g the_buffer) flag q more) [
        | inl s ↦ subst IsValidTo s.1 (record { cycle = l.cycle; buffer = l.buffer; counts = l.counts; names = l.names; output = l.output })
        | inr more ↦ elim (so (bytes_eq word (codes "--resync") && not g.resync) (place (record g { resync = true }) an_option_or_input) first q more) [
          | inl s ↦ subst IsValidTo s.1 (record { cycle = l.cycle; buffer = l.buffer; counts = l.counts; names = l.names; output = l.output })
          | inr more ↦ elim (so (bytes_eq word (codes "-I")) (place g the_input_kind) None q more) [
            | inl s ↦ subst IsValidTo s.1 (record { cycle = l.cycle; buffer = l.buffer; counts = (let n = l.counts in omega (arith, n)); names = l.names; output = l.output })
            | inr bad ↦ absurd (never bad)
          ]
        ]
      ]
    ]
step-valid g the_cycle word q l is =
    let s = number-step 1 1000 word (λ n. place (record g { cycle = Some n }) an_option_or_input) q is in
    subst IsValidTo s.3 (record { cycle = (s.1, s.2); buffer = l.buffer; counts = l.counts; names = l.names; output = l.output })
step-valid g the_buffer word q l is =
    let s = number-step 1 1000000 word (λ n. place (record g { buffer = Some n }) an_option_or_input) q is in
    subst IsValidTo s.3 (record { cycle = l.cycle; buffer = (s.1, s.2); counts = l.counts; names = l.names; output = l.output })
step-valid g the_input_kind word q l is = elim (so (bytes_eq word (codes "file")) (place g the_input_name) None q is) [
  | inl s ↦ subst IsValidTo s.1 (record { cycle = l.cycle; buffer = l.buffer; counts = l.counts; names = l.names; output = l.output })
  | inr bad ↦ absurd (never bad)
]
step-valid g the_input_name word q l is = elim (so (is_name word) (place (record g { inputs = g.inputs ++ word ∷ [] }) an_input_or_output) None q is) [
  | inl s ↦ subst IsValidTo s.1 (record {
    cycle = l.cycle;
    buffer = l.buffer;
    counts = (let n = l.counts in let m = many-more g.inputs word in (omega (arith, m), omega (arith, n, m)));
    names = all-more g.inputs word l.names s.0;
    output = l.output;
  })
  | inr bad ↦ absurd (never bad)
]
step-valid g an_input_or_output word q l is =
    let output = if_so (bytes_eq word (codes "-O")) (place g the_output_kind) None in
    elim (so (bytes_eq word (codes "-I") && nat_lt (length g.inputs) 32) (place g the_input_kind) output q is) [
      | inl s ↦ subst IsValidTo s.1 (record { cycle = l.cycle; buffer = l.buffer; counts = ltb-true (length g.inputs) 32 (both s.0).1; names = l.names; output = l.output })
      | inr more ↦ elim (so (bytes_eq word (codes "-O")) (place g the_output_kind) None q more) [
        | inl s ↦ subst IsValidTo s.1 (record { cycle = l.cycle; buffer = l.buffer; counts = l.counts; names = l.names; output = l.output })
        | inr bad ↦ absurd (never bad)
      ]
    ]
step-valid g the_output_kind word q l is =
    let drop = if_so (bytes_eq word (codes "drop")) (place (record g { output = dropped }) nothing) None in
    elim (so (bytes_eq word (codes "file")) (place g the_output_name) drop q is) [
      | inl s ↦ subst IsValidTo s.1 (record { cycle = l.cycle; buffer = l.buffer; counts = l.counts; names = l.names; output = l.output })
      | inr more ↦ elim (so (bytes_eq word (codes "drop")) (place (record g { output = dropped }) nothing) None q more) [
        | inl s ↦ subst IsValidTo s.1 (record { cycle = l.cycle; buffer = l.buffer; counts = l.counts; names = l.names; output = tt })
        | inr bad ↦ absurd (never bad)
      ]
    ]
step-valid g the_output_name word q l is = elim (so (is_name word) (place (record g { output = to_file word }) nothing) None q is) [
  | inl s ↦ subst IsValidTo s.1 (record { cycle = l.cycle; buffer = l.buffer; counts = l.counts; names = l.names; output = output-name word s.0 })
  | inr bad ↦ absurd (never bad)
]
step-valid g nothing word q l is = absurd (never is)

after-valid : (p : Place) (words : List (List ℕ)) (q : Place) → IsValidTo p → place_after p words ≡ Some q → IsValidTo q
after-valid p [] q l is = subst IsValidTo (let f = is in cc) l
after-valid p (word ∷ words) q l is = by-step (λ r s. after-valid r words q (step-valid p.given p.expected word r l s)) (step p.given p.expected word) refl is
  where
    by-step : ((r : Place) → step p.given p.expected word ≡ Some r → place_after r words ≡ Some q → IsValidTo q) → (o : Option Place) → step p.given p.expected word ≡ o → option_and_then (λ r. place_after r words) o ≡ Some q → IsValidTo q
    by-step law None s e = absurd (never e)
    by-step law (Some r) s e = law r s e

given-is : (a b : Given) → Some a ≡ Some b → a ≡ b
given-is a b e = (let f = e in cc)

end-valid : (g : Given) (e : Expected) (given : Given) → IsValidTo (place g e) → may_end (place g e) ≡ Some given → IsValid given
end-valid g an_input_or_output given l is = subst IsValid (given-is g given is) (record { cycle = l.cycle; buffer = l.buffer; some = l.counts.0; few = l.counts.1; names = l.names; output = l.output })
end-valid g nothing given l is = subst IsValid (given-is g given is) (record { cycle = l.cycle; buffer = l.buffer; some = l.counts.0; few = l.counts.1; names = l.names; output = l.output })
end-valid g an_option_or_input given l is = absurd (let bad : None ≡ Some given = is in cc)
end-valid g the_cycle given l is = absurd (let bad : None ≡ Some given = is in cc)
end-valid g the_buffer given l is = absurd (let bad : None ≡ Some given = is in cc)
end-valid g the_input_kind given l is = absurd (let bad : None ≡ Some given = is in cc)
end-valid g the_input_name given l is = absurd (let bad : None ≡ Some given = is in cc)
end-valid g the_output_kind given l is = absurd (let bad : None ≡ Some given = is in cc)
end-valid g the_output_name given l is = absurd (let bad : None ≡ Some given = is in cc)

start-valid : IsValidTo start
start-valid = record { cycle = tt; buffer = tt; counts = refl; names = refl; output = tt }

pub read-valid : (words : List (List ℕ)) (given : Given) → read_of words ≡ Some given → IsValid given
read-valid words given is = by-place (place_after start words) refl is
  where
    by-place : (o : Option Place) → place_after start words ≡ o → option_and_then may_end o ≡ Some given → IsValid given
    by-place None s e = absurd (let bad : None ≡ Some given = e in cc)
    by-place (Some p) s e = end-valid p.given p.expected given (after-valid start words p start-valid s) e

pub result-valid : (words : List (List ℕ)) (result : Result SwitchSettings WordsFault) → ReadsWords words result → IfOk result (λ settings. IsValid (given_of_settings settings))
result-valid words (Ok settings) reads = read-valid words (given_of_settings settings) reads
result-valid words (Err fault) reads = tt
