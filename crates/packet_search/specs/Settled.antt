-- What the first bytes of a file decide. This project's own rule.
use Rattle.std.specs.Prelude.{ℕ, ◌≡◌, ◌⊎◌, ◌<◌, ◌≤◌, Bool, List, [], ◌++◌, length}
use Rattle.packet_forms.specs.declared.forms.Form.{Form}
use Rattle.packet_search.specs.Rule.{deciding_bytes}
use Rattle.packet_search.specs.Search.{Found, with_found, search_from}

-- whatever bytes follow, these packets are found first; fewer than six units of bytes are kept, and the search goes on
-- there, near a unit or not, after so many bytes that are left out
pub record Settled (form : Form) (skip : ℕ) (near : Bool) (left : ℕ) (bytes : List ℕ) : Type 0 where
  pub found : List Found
  pub beside : Bool
  pub left_out : ℕ
  pub kept : List ℕ
  pub few : length kept < deciding_bytes form
  pub goes_on : (more : List ℕ) → search_from form skip near left (bytes ++ more) ≡ with_found found (search_from form 0 beside left_out (kept ++ more))

-- so many bytes are enough where these follow: six units are whatever follows, any where none do
abbrev pub IsEnough : Form → ℕ → List ℕ → Type 0
IsEnough form enough more = (deciding_bytes form ≤ enough) ⊎ (more ≡ [])
