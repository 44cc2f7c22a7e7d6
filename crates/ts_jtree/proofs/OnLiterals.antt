-- What a worked row unfolds to compute how elements are written.
use Rattle.std.specs.Fmt.{digits}
use Rattle.std.specs.Prelude.{⊤}
use Rattle.hex.proofs.OnLiterals.{hex_on_literals}
use Rattle.serde_json.proofs.OnLiterals.{serde_json_on_literals}
use Rattle.ts_jtree.specs.Shown.{put_attribute, put_attributes}

unfoldable pub shown_on_literals : ⊤
unfolding digits serde_json_on_literals hex_on_literals put_attribute put_attributes
shown_on_literals = tt
