-- The items of a language.
use Rattle.std.proofs.Common.{◌≡◌, ℕ, ◌%◌, Bool, true, false, length, arith}
use Rattle.std.specs.Prelude.{◌==◌, ◌&&◌, nat_eq}
use Rattle.ts_bits.specs.TaggedBody.{TaggedBody}
use Rattle.ts_pages.specs.MpegPages.{language}
use Rattle.plug_edit.specs.PmtChanges.{is_language}

-- its body is whole items
pub items_whole : (d : TaggedBody) → is_language d ≡ true → length d.body % 4 ≡ 0
items_whole d e = go (nat_eq d.tag language.tag) (length d.body % 4) e
  where
    go : (a : Bool) (n : ℕ) → (a && (n == 0)) ≡ true → n ≡ 0
    go true n f = grind (arith, f)
    go false n f = cc
