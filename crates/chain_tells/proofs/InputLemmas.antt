-- The lines of a chain with those of its input.
use Rattle.std.proofs.Common.{◌≡◌, ℕ, zero, suc, ◌<◌, ◌≤◌, List, [], ◌∷◌, ◌++◌, map, filter, Bool, true, false, nat_lt, ◌==◌, if◌then◌else◌, cond, refl, ap, ◌∙◌, arith, eq-eqb, lt-ltb, le-ltb}
use Rattle.std.proofs.lemmas.Bool.{ne_eqb}
use Rattle.std.specs.List.{AllByRecursion}
use Rattle.ts_packet.specs.declared.cell.Cell.{Cell}
use Rattle.chain_model.specs.Reports.{NamedRule}
use Rattle.chain_model.specs.PureRun.{Chain}
use Rattle.chain_live.specs.LiveReports.{LiveLine, is_before, is_of, lines_at, lines_below, lines_from, lines_to, list_met, texts_of, told_at}
use Rattle.chain_rounds.specs.Merged.{into, merged}
use Rattle.chain_rounds.specs.Round.{place}
use Rattle.chain_tells.specs.InputLines.{AreBefore, AreFrom, lines_with}

-- ---- two rows that are cut at one position

-- what is before the position comes first
late-one : (m : ℕ) (x : LiveLine) (xs ys zs : List LiveLine) → m ≤ x.at → AreBefore m ys → merged place (x ∷ xs) (ys ++ zs) ≡ ys ++ merged place (x ∷ xs) zs
late-one m x xs [] zs from before = refl
late-one m x xs (y ∷ ys) zs from before =
    ap (λ (t : Bool). if t then y ∷ into place x (merged place xs) (ys ++ zs) else x ∷ merged place xs (y ∷ (ys ++ zs))) (lt-ltb y.at x.at (omega (arith, from, before.0)))
    ∙ ap (λ (rest : List LiveLine). y ∷ rest) (late-one m x xs ys zs from before.1)

late-row : (m : ℕ) (xs ys zs : List LiveLine) → AreFrom m xs → AreBefore m ys → merged place xs (ys ++ zs) ≡ ys ++ merged place xs zs
late-row m [] ys zs from before = refl
late-row m (x ∷ xs) ys zs from before = late-one m x xs ys zs from.0 before

module _ (m : ℕ) (later others : List LiveLine) (from : AreFrom m later) (from_others : AreFrom m others) where
  -- the one row begins with this line, and the rest of it is known
  one-more : (x : LiveLine) (xs : List LiveLine) → x.at < m
      → ((ys : List LiveLine) → AreBefore m ys → merged place (xs ++ later) (ys ++ others) ≡ merged place xs ys ++ merged place later others)
      → (ys : List LiveLine) → AreBefore m ys
      → into place x (merged place (xs ++ later)) (ys ++ others) ≡ into place x (merged place xs) ys ++ merged place later others
  one-more x xs lt each [] before = at-last others from_others refl
    where
      at-last : (zs : List LiveLine) → AreFrom m zs → zs ≡ others
          → into place x (merged place (xs ++ later)) zs ≡ (x ∷ merged place xs []) ++ merged place later others
      at-last [] all e =
          ap (λ (ws : List LiveLine). x ∷ merged place (xs ++ later) ws) e ∙ ap (λ (rest : List LiveLine). x ∷ rest) (each [] tt)
      at-last (z ∷ zs) all e =
          ap (λ (t : Bool). if t then z ∷ into place x (merged place (xs ++ later)) zs else x ∷ merged place (xs ++ later) (z ∷ zs)) (le-ltb z.at x.at (omega (arith, lt, all.0)))
          ∙ (ap (λ (ws : List LiveLine). x ∷ merged place (xs ++ later) ws) e
          ∙ ap (λ (rest : List LiveLine). x ∷ rest) (each [] tt))
  one-more x xs lt each (y ∷ ys) before =
      elim (nat_lt y.at x.at) as (λ t. (if t then y ∷ into place x (merged place (xs ++ later)) (ys ++ others) else x ∷ merged place (xs ++ later) (y ∷ (ys ++ others))) ≡ (if t then y ∷ into place x (merged place xs) ys else x ∷ merged place xs (y ∷ ys)) ++ merged place later others) [
        | true ↦ ap (λ (rest : List LiveLine). y ∷ rest) (one-more x xs lt each ys before.1)
        | false ↦ ap (λ (rest : List LiveLine). x ∷ rest) (each (y ∷ ys) before)
      ]

  both-parts : (xs ys : List LiveLine) → AreBefore m xs → AreBefore m ys
      → merged place (xs ++ later) (ys ++ others) ≡ merged place xs ys ++ merged place later others
  both-parts [] ys before before_others = late-row m later ys others from before_others
  both-parts (x ∷ xs) ys before before_others = one-more x xs before.0 (λ zs all. both-parts xs zs before.1 all) ys before_others

pub in-parts : (m : ℕ) (first second first_later second_later : List LiveLine) → AreBefore m first → AreBefore m second → AreFrom m first_later → AreFrom m second_later
    → merged place (first ++ first_later) (second ++ second_later) ≡ merged place first second ++ merged place first_later second_later
in-parts m first second first_later second_later a b c d = both-parts m first_later second_later c d first second a b

-- ---- one plugin's lines among those of all

abbrev NoneOf : (LiveLine → Bool) → List LiveLine → Type 0
NoneOf test = AllByRecursion (λ (line : LiveLine). test line ≡ false)

-- of two rows of which the first has none that are picked
module _ (test : LiveLine → Bool) where
  into-none : (x : LiveLine) (rest : List LiveLine → List LiveLine) → test x ≡ false → ((ys : List LiveLine) → filter test (rest ys) ≡ filter test ys)
      → (ys : List LiveLine) → filter test (into place x rest ys) ≡ filter test ys
  into-none x rest none each [] = ap (λ (b : Bool). cond b (x ∷ filter test (rest [])) (filter test (rest []))) none ∙ each []
  into-none x rest none each (y ∷ ys) =
      elim (nat_lt y.at x.at) as (λ t. filter test (if t then y ∷ into place x rest ys else x ∷ rest (y ∷ ys)) ≡ filter test (y ∷ ys)) [
        | true ↦ ap (λ (l : List LiveLine). cond (test y) (y ∷ l) l) (into-none x rest none each ys)
        | false ↦ ap (λ (b : Bool). cond b (x ∷ filter test (rest (y ∷ ys))) (filter test (rest (y ∷ ys)))) none ∙ each (y ∷ ys)
      ]

  merged-none : (xs ys : List LiveLine) → NoneOf test xs → filter test (merged place xs ys) ≡ filter test ys
  merged-none [] ys none = refl
  merged-none (x ∷ xs) ys none = into-none x (merged place xs) none.0 (λ zs. merged-none xs zs none.1) ys

  -- and of two rows of which the second has none
  into-other : (x : LiveLine) (rest : List LiveLine → List LiveLine) (kept : List LiveLine) → ((ys : List LiveLine) → NoneOf test ys → filter test (rest ys) ≡ kept)
      → (ys : List LiveLine) → NoneOf test ys → filter test (into place x rest ys) ≡ cond (test x) (x ∷ kept) kept
  into-other x rest kept each [] none = ap (λ (l : List LiveLine). cond (test x) (x ∷ l) l) (each [] tt)
  into-other x rest kept each (y ∷ ys) none =
      elim (nat_lt y.at x.at) as (λ t. filter test (if t then y ∷ into place x rest ys else x ∷ rest (y ∷ ys)) ≡ cond (test x) (x ∷ kept) kept) [
        | true ↦ ap (λ (b : Bool). cond b (y ∷ filter test (into place x rest ys)) (filter test (into place x rest ys))) none.0 ∙ into-other x rest kept each ys none.1
        | false ↦ ap (λ (l : List LiveLine). cond (test x) (x ∷ l) l) (each (y ∷ ys) none)
      ]

  merged-other : (xs ys : List LiveLine) → NoneOf test ys → filter test (merged place xs ys) ≡ filter test xs
  merged-other [] ys none = all-none ys none
    where
      all-none : (ys : List LiveLine) → NoneOf test ys → filter test ys ≡ []
      all-none [] none = refl
      all-none (y ∷ ys) none = ap (λ (b : Bool). cond b (y ∷ filter test ys) (filter test ys)) none.0 ∙ all-none ys none.1
  merged-other (x ∷ xs) ys none = into-other x (merged place xs) (filter test xs) (λ zs all. merged-other xs zs all) ys none

-- ---- lines of the number 0, and lines of plugins

abbrev AreInputs : List LiveLine → Type 0
AreInputs = AllByRecursion (λ (line : LiveLine). line.plugin ≡ 0)

filter-all : (P : LiveLine → Type 0) (test : LiveLine → Bool) (xs : List LiveLine) → AllByRecursion P xs → AllByRecursion P (filter test xs)
filter-all P test [] all = tt
filter-all P test (x ∷ xs) all =
    elim (test x) as (λ b. AllByRecursion P (cond b (x ∷ filter test xs) (filter test xs))) [
      | true ↦ (all.0, filter-all P test xs all.1)
      | false ↦ filter-all P test xs all.1
    ]

no-plugin : (j : ℕ) (xs : List LiveLine) → AreInputs xs → NoneOf (is_of (suc j)) xs
no-plugin j [] all = tt
no-plugin j (x ∷ xs) all = (ap (λ (n : ℕ). n == suc j) all.0 ∙ ne_eqb 0 (suc j) (λ e. absurd (omega arith)), no-plugin j xs all.1)

all-inputs : (xs : List LiveLine) → AreInputs xs → filter (is_of 0) xs ≡ xs
all-inputs [] all = refl
all-inputs (x ∷ xs) all =
    ap (λ (b : Bool). cond b (x ∷ filter (is_of 0) xs) (filter (is_of 0) xs)) (eq-eqb x.plugin 0 all.0)
    ∙ ap (λ (l : List LiveLine). x ∷ l) (all-inputs xs all.1)

none-append : (test : LiveLine → Bool) (xs ys : List LiveLine) → NoneOf test xs → NoneOf test ys → NoneOf test (xs ++ ys)
none-append test [] ys a b = b
none-append test (x ∷ xs) ys a b = (a.0, none-append test xs ys a.1 b)

no-told : (p j : ℕ) (name : List ℕ) (texts : List (List ℕ)) → NoneOf (is_of 0) (told_at p j name texts)
no-told p j name [] = tt
no-told p j name (text ∷ texts) = (ne_eqb (suc j) 0 (λ e. absurd (omega arith)), no-told p j name texts)

no-from : (met : ℕ → List Cell) (p j : ℕ) (plugins : List NamedRule) → NoneOf (is_of 0) (lines_from met p j plugins)
no-from met p j [] = tt
no-from met p j (plugin ∷ rest) =
    none-append (is_of 0) (told_at p j plugin.name (lines_at plugin.rule (met j) p)) (lines_from met p (suc j) rest)
    (no-told p j plugin.name (lines_at plugin.rule (met j) p)) (no-from met p (suc j) rest)

no-input : (met : ℕ → List Cell) (plugins : List NamedRule) (m : ℕ) → NoneOf (is_of 0) (lines_to met plugins m)
no-input met plugins zero = tt
no-input met plugins (suc p) =
    none-append (is_of 0) (lines_to met plugins p) (lines_from met p 0 plugins) (no-input met plugins p) (no-from met p 0 plugins)

pub beside-plugins : (input : List LiveLine) (chain : Chain) (m j : ℕ) → AreInputs input
    → texts_of (suc j) (lines_with input chain m) ≡ texts_of (suc j) (lines_below chain m)
beside-plugins input chain m j all =
    ap (λ (l : List LiveLine). map (λ (line : LiveLine). line.text) l)
    (merged-none (is_of (suc j)) (filter (is_before m) input) (lines_below chain m)
    (no-plugin j (filter (is_before m) input) (filter-all (λ line. line.plugin ≡ 0) (is_before m) input all)))

pub beside-input : (input : List LiveLine) (chain : Chain) (m : ℕ) → AreInputs input
    → texts_of 0 (lines_with input chain m) ≡ map (λ (line : LiveLine). line.text) (filter (is_before m) input)
beside-input input chain m all =
    ap (λ (l : List LiveLine). map (λ (line : LiveLine). line.text) l)
    (merged-other (is_of 0) (filter (is_before m) input) (lines_below chain m) (no-input (list_met chain) chain.plugins m)
    ∙ all-inputs (filter (is_before m) input) (filter-all (λ line. line.plugin ≡ 0) (is_before m) input all))
