-- Worked rows of `tables`, computed on the definitions.
use Rattle.std.proofs.Common.{◌≡◌, ℕ, ◌&&◌, true, false, List, [], ◌∷◌, refl}
use Rattle.ts_bit_rows.specs.BitRow.{bit_of, field}
use Rattle.plug_psi.specs.InForce.{names, pat_of}
use Rattle.plug_tables.specs.TablesRule.{choice_of, is_told}
use Rattle.plug_tables.specs.WatchedPackets.{is_watched, usual}

-- without a list 0, 1, 16, 17 and 18 are watched, and any other where the PAT names it; with one, its PIDs alone; 8191 never is
usual-choice : choice_of [] ≡ usual
usual-choice = refl

sdt-watched : (packets : List (List ℕ)) → is_watched (choice_of []) 17 packets ≡ true
sdt-watched packets = refl

eit-watched : (packets : List (List ℕ)) → is_watched (choice_of []) 18 packets ≡ true
eit-watched packets = refl

other-named : (packets : List (List ℕ)) → is_watched (choice_of []) 2 packets ≡ (names (pat_of packets) 2 && true)
other-named packets = refl

listed-watched : (packets : List (List ℕ)) → is_watched (choice_of ((300, 301) ∷ [])) 301 packets ≡ true
listed-watched packets = refl

usual-unlisted : (packets : List (List ℕ)) → is_watched (choice_of ((300, 301) ∷ [])) 0 packets ≡ false
usual-unlisted packets = refl

null-unwatched : (packets : List (List ℕ)) → is_watched (choice_of ((8000, 8191) ∷ [])) 8191 packets ≡ false
null-unwatched packets = refl

-- with a list of table_ids, a table is reported that begins with one of them; without, each is
listed-told : is_told ((0x42, 0x46) ∷ []) ((0x42 ∷ []) ∷ []) ≡ true
unfolding field bit_of
listed-told = refl

unlisted-untold : is_told ((0x42, 0x46) ∷ []) ((0x02 ∷ []) ∷ []) ≡ false
unfolding field bit_of
unlisted-untold = refl

all-told : is_told [] ((0x02 ∷ []) ∷ []) ≡ true
unfolding field bit_of
all-told = refl
