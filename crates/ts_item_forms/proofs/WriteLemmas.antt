-- Bytes behind bytes.
use Rattle.std.proofs.Common.{◌≡◌, ℕ, List, ◌++◌, sym, ap, ◌∙◌, append_assoc}
use Rattle.std.proofs.lemmas.Grind.{flat_map-append}
use Rattle.ts_fields.specs.Bits.{bits, bits_of}
use Rattle.ts_fields.specs.Bodies.{Holding}
use Rattle.ts_fields.specs.Layout.{Row}
use Rattle.ts_fields.specs.Spelling.{spell_rows}
use Rattle.ts_item_forms.specs.ItemForms.{Form, page_of_rows, spell_inner, spell_item}
use Rattle.ts_item_forms.proofs.LoopLemmas.{item_spelled}

-- the fields of an item and the items in it, behind other bytes
pub item_behind : (f : Form) (rs : List Row) (h : Holding) (old fields inner : List ℕ)
    → bits_of fields ≡ spell_rows rs h.head → bits_of inner ≡ spell_inner f.inner h.items
    → bits_of ((old ++ fields) ++ inner) ≡ bits_of old ++ spell_item (page_of_rows f rs, h)
item_behind f rs h old fields inner first second =
    flat_map-append (bits 8) (old ++ fields) inner
    ∙ ap (λ l. l ++ bits_of inner) (flat_map-append (bits 8) old fields)
    ∙ append_assoc (bits_of old) (bits_of fields) (bits_of inner)
    ∙ ap (λ l. bits_of old ++ (l ++ bits_of inner)) first
    ∙ ap (λ l. bits_of old ++ (spell_rows rs h.head ++ l)) second
    ∙ ap (λ l. bits_of old ++ l) (sym (item_spelled f.name f.inner rs h))
