-- The segments of a command line.
-- This project's own rule.
use Rattle.std.specs.Prelude.{ℕ, ◌+◌, ◌||◌, Bool, List, [], ◌∷◌, None, Option, codes, drop, if◌then◌else◌, length, option_and_then, slice_get}
use Rattle.std.specs.Str.{bytes_eq}
use Rattle.chain_args.specs.Inputs.{input_kind_named}
use Rattle.chain_args.specs.Outputs.{output_kind_named}
use Rattle.plugin_settings.specs.Plugins.{plugin_kind_named}
use Rattle.chain_args.specs.declared.input_words.InputKind.{InputKind}
use Rattle.chain_args.specs.declared.output_words.OutputKind.{OutputKind}
use Rattle.plugin_settings.specs.declared.plugin_conf.PluginKind.{PluginKind}

-- a segment: its first word, and the words up to the next segment
pub record Segment : Type 0 where
  pub first : List ℕ
  pub others : List (List ℕ)

abbrev pub is_input_word : List ℕ → Bool
is_input_word word = bytes_eq word (codes "-I")

abbrev pub is_plugin_word : List ℕ → Bool
is_plugin_word word = bytes_eq word (codes "-P")

abbrev pub is_output_word : List ℕ → Bool
is_output_word word = bytes_eq word (codes "-O")

-- the word begins a segment, at any place
abbrev pub is_segment_word : List ℕ → Bool
is_segment_word word = is_input_word word || (is_plugin_word word || is_output_word word)

-- the words before the first segment, and the segments, cut before each segment word
unfoldable pub cut : List (List ℕ) → List (List ℕ) × List Segment
cut [] = ([], [])
cut (word ∷ words) =
    if is_segment_word word
    then ([], record { first = word; others = (cut words).0 } ∷ (cut words).1)
    else (word ∷ (cut words).0, (cut words).1)

-- the words before the first segment
abbrev pub general_words : List (List ℕ) → List (List ℕ)
general_words words = (cut words).0

-- the segments in their order
abbrev pub segments : List (List ℕ) → List Segment
segments words = (cut words).1

-- the number of words of a segment
abbrev pub word_count : Segment → ℕ
word_count s = 1 + length s.others

-- ---- one segment

abbrev pub is_input : Segment → Bool
is_input s = is_input_word s.first

abbrev pub is_plugin : Segment → Bool
is_plugin s = is_plugin_word s.first

abbrev pub is_output : Segment → Bool
is_output s = is_output_word s.first

-- the words after its name
abbrev pub own_words : Segment → List (List ℕ)
own_words s = drop 1 s.others

-- its name
abbrev pub name_of : Segment → Option (List ℕ)
name_of s = slice_get s.others 0

-- the input of a segment, where it names one
abbrev pub input_of : Segment → Option InputKind
input_of s = if is_input s then option_and_then input_kind_named (name_of s) else None

-- the plugin of a segment, where it names one
abbrev pub plugin_of : Segment → Option PluginKind
plugin_of s = if is_plugin s then option_and_then plugin_kind_named (name_of s) else None

-- the output of a segment, where it names one
abbrev pub output_of : Segment → Option OutputKind
output_of s = if is_output s then option_and_then output_kind_named (name_of s) else None
