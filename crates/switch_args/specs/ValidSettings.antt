-- Valid settings of `tsswitch`, and the words that give them. This project's own rule.
use Rattle.std.specs.Prelude.{◌≡◌, ℕ, ◌≤◌, List, [], ◌∷◌, ◌++◌, length, codes, Bool, true, if◌then◌else◌, Option, None, Some, IfSome}
use Rattle.std.specs.Fmt.{decimal}
use Rattle.std.specs.List.{list_all}
use Rattle.switch_args.specs.SwitchWords.{Given, Output, to_file, dropped, is_name}

-- a file of this name, the standard output for the empty name, or no output
abbrev pub IsValidOutput : Output → Type 0
IsValidOutput (to_file []) = Unit {0}
IsValidOutput (to_file (x ∷ xs)) = is_name (x ∷ xs) ≡ true
IsValidOutput dropped = Unit {0}

-- numbers in their ranges, and 1 to 32 names of inputs
pub record IsValid (given : Given) : Type 0 where
  pub cycle : IfSome given.cycle (λ n. (1 ≤ n) × (n ≤ 1000))
  pub buffer : IfSome given.buffer (λ n. (1 ≤ n) × (n ≤ 1000000))
  pub some : 1 ≤ length given.inputs
  pub few : length given.inputs ≤ 32
  pub names : list_all is_name given.inputs ≡ true
  pub output : IsValidOutput given.output

-- an option with its number in decimal digits, if it is given
abbrev pub number_words : List ℕ → Option ℕ → List (List ℕ)
number_words name None = []
number_words name (Some n) = name ∷ decimal n ∷ []

-- a flag, if it is given
abbrev pub flag_words : List ℕ → Bool → List (List ℕ)
flag_words name given = if given then name ∷ [] else []

-- the words of inputs
abbrev pub input_words : List (List ℕ) → List (List ℕ)
input_words [] = []
input_words (name ∷ names) = codes "-I" ∷ codes "file" ∷ name ∷ input_words names

-- the words of an output; the standard output has none
abbrev pub output_words : Output → List (List ℕ)
output_words (to_file []) = []
output_words (to_file (x ∷ xs)) = codes "-O" ∷ codes "file" ∷ (x ∷ xs) ∷ []
output_words dropped = codes "-O" ∷ codes "drop" ∷ []

-- the words of settings
abbrev pub words_of : Given → List (List ℕ)
words_of given =
    number_words (codes "--cycle") given.cycle
    ++ (number_words (codes "--buffer-packets") given.buffer
    ++ (flag_words (codes "--resync") given.resync ++ (input_words given.inputs ++ output_words given.output)))
