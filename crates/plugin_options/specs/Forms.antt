-- The forms that a value of an option or an operand may have.
-- This project's own rule.
use Rattle.std.specs.Prelude.{ℕ, ℤ, Bool, List, is_some, true}
use Rattle.plugin_options.specs.HexText.{bytes_of}
use Rattle.plugin_options.specs.Number.{number_within}
use Rattle.plugin_options.specs.Pairs.{pair_of, pairs_of}
use Rattle.plugin_options.specs.Parts.{all_numbered_of, part_of}
use Rattle.plugin_options.specs.Ranges.{ranges_of, ranges_within}
use Rattle.plugin_options.specs.Signed.{signed_within}
use Rattle.plugin_options.specs.declared.part.Part.{Part}

-- the form of a value
pub data Form : Type 0 where
  -- a number from a least to a greatest
  number : ℕ → ℕ → Form
  -- such a number, where `-` in front is below 0
  signed : ℤ → ℤ → Form
  -- numbers and ranges joined by commas, none above a greatest
  ranges : ℕ → Form
  -- numbers and ranges joined by commas, none below a least or above a greatest
  ranges_from : ℕ → ℕ → Form
  -- two numbers joined by a sign, each with its least and its greatest
  pair : ℕ → ℕ × ℕ → ℕ × ℕ → Form
  -- such pairs joined by commas
  pairs : ℕ → ℕ × ℕ → ℕ × ℕ → Form
  -- bytes as hexadecimal digits, of a least to a greatest number of bytes
  bytes : ℕ → ℕ → Form
  -- a code, or whole descriptors
  part : Part → Form
  -- such parts, each behind a number from a least to a greatest and a sign, joined by commas
  numbered : ℕ → ℕ × ℕ → Part → Form
  -- a word that this test knows
  known : (List ℕ → Bool) → Form
  -- any text
  text : Form

-- the text has the form
abbrev pub has_form : Form → List ℕ → Bool
has_form (number least most) word = is_some (number_within least most word)
has_form (signed least most) word = is_some (signed_within least most word)
has_form (ranges most) word = is_some (ranges_of most word)
has_form (ranges_from least most) word = is_some (ranges_within least most word)
has_form (pair sign first second) word = is_some (pair_of sign first second word)
has_form (pairs sign first second) word = is_some (pairs_of sign first second word)
has_form (bytes least most) word = is_some (bytes_of least most word)
has_form (part what) word = is_some (part_of what word)
has_form (numbered sign range what) word = is_some (all_numbered_of sign range what word)
has_form (known test) word = test word
has_form text word = true
