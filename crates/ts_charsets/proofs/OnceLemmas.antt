-- In each alphabet every character has one spelling: the tables are computed.
use Rattle.std.proofs.Common.{◌≡◌, true, refl, ap, sym, ◌∙◌}
use Rattle.std.specs.Prelude.{Option, Some, None}
use Rattle.std.proofs.lemmas.Option.{same_Some}
use Rattle.ts_charsets.specs.declared.charset.Charset.{Charset}
use Rattle.ts_charsets.specs.declared.charset.Charset.TheVariants.{Latin, Part1, Part2, Part3, Part4, Part5, Part6, Part7, Part8, Part9, Part10, Part11, Part13, Part14, Part15, Utf16, Utf8}
use Rattle.ts_charsets.specs.Alphabets.{Alphabet}
use Rattle.ts_charsets.specs.KnownAlphabets.{alphabet_for}
use Rattle.ts_charsets.specs.SingleSpelling.{spells_once, table_spells_once, all_below}

-- what is there, if anything is
abbrev Passes : Option Alphabet → Type 0
Passes None = Unit {0}
Passes (Some a) = spells_once a ≡ true

all : (c : Charset) → Passes (alphabet_for c)
unfolding table_spells_once all_below
all Latin = refl
all Part1 = refl
all Part2 = refl
all Part3 = refl
all Part4 = refl
all Part5 = refl
all Part6 = refl
all Part7 = refl
all Part8 = refl
all Part9 = refl
all Part10 = refl
all Part11 = refl
all Part13 = refl
all Part14 = refl
all Part15 = refl
all Utf16 = refl
all Utf8 = tt

taken : (found : Option Alphabet) (a : Alphabet) → Passes found → found ≡ Some a → spells_once a ≡ true
taken None a pass is = cc
taken (Some x) a pass is = let same : x ≡ a = same_Some _ _ is in ap spells_once (sym same) ∙ pass

pub once : (c : Charset) (a : Alphabet) → alphabet_for c ≡ Some a → spells_once a ≡ true
once c a is = taken (alphabet_for c) a (all c) is
