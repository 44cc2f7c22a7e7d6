-- Rows that the definitions compute.
use Rattle.std.proofs.Common.{◌≡◌, ℕ, List, [], ◌∷◌, ◌++◌, replicate, refl}
use Rattle.packet_forms.specs.declared.forms.Form.TheVariants.{Ts, M2ts, Rs204}
use Rattle.packet_search.specs.Rule.{is_whole, in_row, five_within, whole_among, is_held, is_cut, gives, stays, past}
use Rattle.packet_search.specs.Search.{Found, found_here, left_after, search_from, search}

-- a packet with the same byte behind its sync byte, and five of them
packet : ℕ → List ℕ
packet n = 71 ∷ replicate 187 n

five : List ℕ
five = packet 1 ++ (packet 2 ++ (packet 3 ++ (packet 4 ++ packet 5)))

-- a packet that is found after so many bytes that are left out, and the other four of five
found : ℕ → ℕ → Found
found n left = record { left_out = left; packet = packet n }

others : List Found
others = found 2 0 ∷ found 3 0 ∷ found 4 0 ∷ found 5 0 ∷ []

-- one packet whose sync byte is wanting is left out, and the next one is found at its place
one_wanting : search Ts (packet 1 ++ (replicate 188 9 ++ packet 3)) ≡ record { found = found 1 0 ∷ found 3 188 ∷ []; behind = 0 }
unfolding is_whole in_row five_within whole_among is_held is_cut gives stays past found_here left_after search_from search packet found
one_wanting = refl

-- two wanting in a row lose the place, and one packet alone does not find it again
two_wanting : search Ts (packet 1 ++ (replicate 376 9 ++ packet 4)) ≡ record { found = found 1 0 ∷ []; behind = 564 }
unfolding is_whole in_row five_within whole_among is_held is_cut gives stays past found_here left_after search_from search packet found
two_wanting = refl

-- a file that begins within a packet, of which seven bytes are there that look like sync bytes
begins_within : search Ts (replicate 7 71 ++ five) ≡ record { found = found 1 7 ∷ others; behind = 0 }
unfolding is_whole in_row five_within whole_among is_held is_cut gives stays past found_here left_after search_from search packet five found others
begins_within = refl

-- a packet whose end is lost is cut by five in a row: it is left out, and the five are found
end_lost : search Ts (packet 8 ++ (71 ∷ replicate 99 9 ++ five)) ≡ record { found = found 8 0 ∷ found 1 100 ∷ others; behind = 0 }
unfolding is_whole in_row five_within whole_among is_held is_cut gives stays past found_here left_after search_from search packet five found others
end_lost = refl

-- what stands behind the last packet of a unit may be missing; with what is before it, a unit of 192 bytes is left out
trail_missing : search Rs204 (packet 1 ++ (replicate 16 2 ++ packet 3)) ≡ record { found = found 1 0 ∷ found 3 0 ∷ []; behind = 0 }
unfolding is_whole in_row five_within whole_among is_held is_cut gives stays past found_here left_after search_from search packet found
trail_missing = refl

lead_left_out : search M2ts (replicate 4 7 ++ (packet 1 ++ (replicate 192 9 ++ (replicate 4 7 ++ (packet 3 ++ replicate 3 7))))) ≡ record { found = found 1 0 ∷ found 3 192 ∷ []; behind = 3 }
unfolding is_whole in_row five_within whole_among is_held is_cut gives stays past found_here left_after search_from search packet found
lead_left_out = refl
