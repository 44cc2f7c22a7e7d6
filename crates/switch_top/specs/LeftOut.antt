-- The bytes that are left out of a file as packets are found in it. This project's own rule.
use Rattle.std.specs.Prelude.{◌≡◌, ℕ, ◌+◌, List, [], ◌∷◌}
use Rattle.std.specs.Option.{option_map}
use Rattle.packet_forms.specs.declared.forms.Form.TheVariants.{Ts}
use Rattle.search_source.specs.declared.gap.Gap.{Gap}
use Rattle.search_source.specs.Coming.{Coming, found_in}
use Rattle.search_source.specs.SearchView.{SearchView}

-- the bytes of gaps
unfoldable pub bytes_of_gaps : List Gap → ℕ
bytes_of_gaps [] = 0
bytes_of_gaps (gap ∷ gaps) = gap.bytes + bytes_of_gaps gaps

-- of what comes, the bytes that are left out
abbrev pub left_out_in : Coming → ℕ
left_out_in coming = bytes_of_gaps coming.gaps + coming.behind

-- so many bytes were left out of what came, and with those of what comes they are all that are left out of the file, where
-- it is known
abbrev pub CountsLeftOut : SearchView → ℕ → Type 0
CountsLeftOut view left_out =
    option_map (λ file. left_out_in (found_in Ts file)) view.origin.bytes ≡ option_map (λ coming. left_out + left_out_in coming) view.coming

-- so many bytes are left out of what comes, where it is known
abbrev pub LeavesOutRest : SearchView → ℕ → Type 0
LeavesOutRest view left_out = option_map left_out_in view.coming ≡ option_map (λ (coming : Coming). left_out) view.coming
