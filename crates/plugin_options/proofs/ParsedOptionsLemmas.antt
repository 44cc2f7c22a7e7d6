-- From what `clap` gives to what is found.
use Rattle.std.proofs.Common.{◌≡◌, ◌∙◌, ◌==◌, ℕ, true, false, List, [], ◌∷◌, length, Option, Some, None, refl, ap, subst, inl, inr, arith, ne_eqb}
use Rattle.std.specs.Prelude.{find, option_and_then, option_map, unwrap_or}
use Rattle.std.specs.Option.{option_map_or}
use Rattle.std.specs.Str.{bytes_eq}
use Rattle.clap.specs.Facts.{Entry}
use Rattle.clap.specs.Faults.{fault_of}
use Rattle.clap.specs.Kinds.{HasKind, IsAmong, Kinds}
use Rattle.clap.specs.Values.{kind_of}
use Rattle.clap.specs.declared.error.Error.{Error}
use Rattle.clap.specs.declared.error.kind.ErrorKind.TheVariants.{OutOfMemory}
use Rattle.clap.specs.Matches.{first_value, matched_of, raw_values}
use Rattle.clap.specs.Simple.{App, matches_of}
use Rattle.clap.specs.Walk.{row_of, rows_of}
use Rattle.clap.specs.declared.parser.matches.Found.{Found}
use Rattle.clap.proofs.WalkLemmas.{find_row, first_value-rows, raw_values-rows}
use Rattle.plugin_options.specs.Options.{findings, has_flag, is_by_words, is_taken, value_of, values_of}

-- the source of an entry is the source of its row
pub flag_from : (f : Found) (name : List ℕ) → has_flag name (rows_of f) ≡ is_by_words (option_and_then (λ a. a.source) (matched_of f name))
unfolding has_flag
flag_from f name = ap (λ row. option_map_or (λ r. is_by_words r.source) row false) (find_row f.entries.items name) ∙ go (find (λ e. bytes_eq e.0.now name) f.entries.items)
  where
    go : (o : Option Entry) → option_map_or (λ r. is_by_words r.source) (option_map row_of o) false ≡ is_by_words (option_and_then (λ a. a.source) (option_map (λ e. e.1) o))
    go None = refl
    go (Some e) = refl

pub value_from : (f : Found) (name : List ℕ) → first_value f name ≡ value_of name (rows_of f)
unfolding value_of
value_from f name = first_value-rows f name

pub taken_from : (app : App) (words : List (List ℕ)) → fault_of app words ≡ [] → is_taken app words ≡ true
unfolding is_taken
taken_from app words e = ap (λ kinds. length kinds == 0) e

pub refused_from : (app : App) (words : List (List ℕ)) → (fault_of app words ≡ [] → ⊥) → is_taken app words ≡ false
unfolding is_taken
refused_from app words ne = go (fault_of app words) ne
  where
    go : (kinds : Kinds) → (kinds ≡ [] → ⊥) → (length kinds == 0) ≡ false
    go [] h = absurd (h refl)
    go (k ∷ ks) h = ne_eqb (length (k ∷ ks)) 0 (λ e. omega (arith, e))

pub found_from : (app : App) (words : List (List ℕ)) → matches_of app words ≡ findings app words
unfolding findings
found_from app words = refl

-- an error other than out of memory has a kind among those of the words
pub kinds_from : (kinds : Kinds) (e : Error) → HasKind kinds e → (kind_of e ≡ OutOfMemory → ⊥) → kinds ≡ [] → ⊥
kinds_from kinds e (inl memory) never none = never memory
kinds_from kinds e (inr among) never none = subst (IsAmong (kind_of e)) none among

pub values_from : (f : Found) (name : List ℕ) → unwrap_or (option_map raw_values (matched_of f name)) [] ≡ values_of name (rows_of f)
unfolding values_of
values_from f name = ap (λ o. unwrap_or o []) (raw_values-rows f name)
