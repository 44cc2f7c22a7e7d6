-- Worked rows of signed numbers, pairs, ranges and parts that are joined by commas, computed on the definitions.
use Rattle.std.proofs.Common.{◌≡◌, ◌||◌, true, false, pos, negsuc, [], ◌∷◌, None, Some, codes, refl}
use Rattle.ts_bits.specs.DescriptorLoop.{descriptors_from}
use Rattle.plugin_options.specs.Number.{number_of, number_within}
use Rattle.plugin_options.specs.Pairs.{pair_of, pairs_of}
use Rattle.plugin_options.specs.Parts.{all_numbered_of, code_of, if_whole, numbered_of}
use Rattle.plugin_options.specs.Ranges.{range_of, ranges_within}
use Rattle.plugin_options.specs.Signed.{signed_of, signed_within}
use Rattle.plugin_options.specs.WordLists.{are_known, has_part}
use Rattle.std.specs.Str.{bytes_eq}
use Rattle.plugin_options.specs.declared.part.Part.TheVariants.{Code}

-- two pairs, of which the second has a hexadecimal number
two-pairs : pairs_of 47 (1, 65535) (0, 8191) (codes "1/256,0x2/257") ≡ Some ((1, 256) ∷ (2, 257) ∷ [])
unfolding number_of number_within pair_of pairs_of
two-pairs = refl

-- a comma after the last pair leaves an empty part
empty-part : pairs_of 47 (1, 65535) (0, 8191) (codes "1/256,") ≡ None
unfolding number_of number_within pair_of pairs_of
empty-part = refl

-- a range that begins below the least
below-the-least : ranges_within 1 65535 (codes "5,0-2") ≡ None
unfolding number_of number_within range_of ranges_within
below-the-least = refl

-- a code may have a slash and a blank
two-codes : all_numbered_of 47 (0, 8191) Code (codes "0x101/deu,258/a /") ≡ Some ((257, codes "deu") ∷ (258, codes "a /") ∷ [])
unfolding all_numbered_of code_of number_of number_within numbered_of
two-codes = refl

-- four characters, and a PID that there is not
long-code : all_numbered_of 47 (0, 8191) Code (codes "257/deut") ≡ None
unfolding all_numbered_of code_of number_of number_within numbered_of
long-code = refl

far-code : all_numbered_of 47 (0, 8191) Code (codes "8192/deu") ≡ None
unfolding all_numbered_of code_of number_of number_within numbered_of
far-code = refl

-- a descriptor of two bytes and one of none
whole-descriptors : if_whole (0x52 ∷ 2 ∷ 0 ∷ 42 ∷ 10 ∷ 0 ∷ []) ≡ Some (0x52 ∷ 2 ∷ 0 ∷ 42 ∷ 10 ∷ 0 ∷ [])
unfolding descriptors_from
whole-descriptors = refl

-- a descriptor that passes the end
cut-descriptor : if_whole (0x52 ∷ 2 ∷ 0 ∷ []) ≡ None
unfolding descriptors_from
cut-descriptor = refl

-- an hour earlier, in either writing
hour-earlier : signed_within (negsuc 9999999) (pos 10000000) (codes "-3600") ≡ Some (negsuc 3599)
unfolding number_of signed_of signed_within
hour-earlier = refl

hour-earlier-in-hexadecimal : signed_within (negsuc 9999999) (pos 10000000) (codes "-0xE10") ≡ Some (negsuc 3599)
unfolding number_of signed_of signed_within
hour-earlier-in-hexadecimal = refl

-- nothing below 0 is 0
no-shift : signed_within (negsuc 9999999) (pos 10000000) (codes "-0") ≡ Some (pos 0)
unfolding number_of signed_of signed_within
no-shift = refl

-- the least number, and one that is less
least-of-all : signed_within (negsuc 9) (pos 10) (codes "-10") ≡ Some (negsuc 9)
unfolding number_of signed_of signed_within
least-of-all = refl

below-the-least-signed : signed_within (negsuc 9) (pos 10) (codes "-11") ≡ None
unfolding number_of signed_of signed_within
below-the-least-signed = refl

-- there is no other sign, and one alone
plus : signed_of (codes "+5") ≡ None
unfolding number_of signed_of
plus = refl

twice : signed_of (codes "--5") ≡ None
unfolding number_of signed_of
twice = refl

sign-alone : signed_of (codes "-") ≡ None
unfolding number_of signed_of
sign-alone = refl

-- words of three, joined by commas; one that is none of them, and none at all
kept-words : are_known (λ word. bytes_eq (codes "nit") word || bytes_eq (codes "time") word) (codes "time,nit,nit") ≡ true
kept-words = refl

other-words : are_known (λ word. bytes_eq (codes "nit") word) (codes "nit,bat") ≡ false
other-words = refl

no-words : are_known (λ word. bytes_eq (codes "nit") word) (codes "nit,") ≡ false
no-words = refl

-- a word is a whole part
whole-part : has_part (codes "it") (codes "nit,eit") ≡ false
whole-part = refl

second-part : has_part (codes "eit") (codes "nit,eit") ≡ true
second-part = refl
