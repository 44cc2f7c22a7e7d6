-- Worked rows of which tables may come where.
use Rattle.std.proofs.Common.{◌≡◌, [], ◌∷◌, map, true, false, refl}
use Rattle.monitor_tables.specs.TableIds.{is_scrambled_pat, may_be_on, strangers_in}
use Rattle.ts_bit_rows.specs.BitRow.{bit_of, field}
use Rattle.monitor_tables.specs.declared.limits.TheConstants.{CAT_LIMIT, NIT_LIMIT, PAT_LIMIT, SDT_LIMIT, TDT_LIMIT}

-- a table_id 112 on PID 0, one of 66 on PID 19; stuffing, 114, is right on 18 and not on 1
strangers : strangers_in 0 ((0 ∷ []) ∷ (112 ∷ []) ∷ []) ≡ 112 ∷ []
unfolding field bit_of
strangers = refl

on_19 : map (may_be_on 19) (66 ∷ 113 ∷ 114 ∷ []) ≡ false ∷ true ∷ true ∷ []
on_19 = refl

on_18 : map (may_be_on 18) (77 ∷ 78 ∷ 111 ∷ 112 ∷ 114 ∷ []) ≡ false ∷ true ∷ true ∷ false ∷ true ∷ []
on_18 = refl

stuffing : map (λ pid. may_be_on pid 114) (0 ∷ 1 ∷ 16 ∷ 17 ∷ 20 ∷ 256 ∷ []) ≡ false ∷ false ∷ true ∷ true ∷ true ∷ true ∷ []
stuffing = refl

-- scrambled on PID 0; the same with a transport_error_indicator; and on PID 256
scrambled : map is_scrambled_pat ((0x47 ∷ 0 ∷ 0 ∷ 0x90 ∷ []) ∷ (0x47 ∷ 0x80 ∷ 0 ∷ 0x90 ∷ []) ∷ (0x47 ∷ 1 ∷ 0 ∷ 0x90 ∷ []) ∷ []) ≡ true ∷ false ∷ false ∷ []
unfolding field bit_of
scrambled = refl

-- the limits: 500 ms, 2 s, 10 s, 2 s, 30 s
limits : PAT_LIMIT ∷ CAT_LIMIT ∷ NIT_LIMIT ∷ SDT_LIMIT ∷ TDT_LIMIT ∷ [] ≡ 13500000 ∷ 54000000 ∷ 270000000 ∷ 54000000 ∷ 810000000 ∷ []
limits = refl
