-- Texts that are read as their values, alone and as parts of others.
use Rattle.std.proofs.Common.{◌≡◌, ℕ, ◌≤◌, List, [], false, Some, option_and_then, sym, ap, ◌∙◌, arith, append-nil}
use Rattle.json.specs.Json as json
use Rattle.json.specs.Lex.{tokens}
use Rattle.json.specs.Tree as tree
use Rattle.json.specs.Tree.{json_tokens}
use Rattle.json.proofs.Numbered.{document-HasNumbers}
use Rattle.json.proofs.Printed.Tokens.{tokens-print}
use Rattle.json.proofs.Printed.Trees.{ArePrintable-json_tokens, value-json_tokens}
use Rattle.serde_json.specs.Data.{Data, Items, Members, null, boolean, number, string, array, object, no_items, item, no_members, member, depth, items_depth, members_depth}
use Rattle.serde_json.specs.Read.{of_json, max_depth, read}
use Rattle.serde_json.specs.Written.{IsInOrder, compact_text, has_float, outline, items_outline, members_outline}
use Rattle.serde_json.proofs.Texts.{print-outline, tokens_from_order}
use Rattle.tabcomp_core.specs.ElementTexts.{IsReadWithin}

mutual
  outline_depth : (d : Data) → tree.depth (outline d) ≤ depth d
  outline_depth null = omega arith
  outline_depth (boolean b) = omega arith
  outline_depth (number n) = omega arith
  outline_depth (string s) = omega arith
  outline_depth (array ds) = omega (arith, items_outline_depth ds)
  outline_depth (object ms) = omega (arith, members_outline_depth ms)

  items_outline_depth : (ds : Items) → tree.items_depth (items_outline ds) ≤ items_depth ds
  items_outline_depth no_items = omega arith
  items_outline_depth (item d ds) = omega (arith, outline_depth d, items_outline_depth ds)

  members_outline_depth : (ms : Members) → tree.members_depth (members_outline ms) ≤ members_depth ms
  members_outline_depth no_members = omega arith
  members_outline_depth (member k d ms) = omega (arith, outline_depth d, members_outline_depth ms)

-- what these tokens are read as
tokens_read : (text : List ℕ) (d : Data) → tokens text ≡ json_tokens (outline d) → depth d ≤ max_depth → read text ≡ of_json (outline d)
tokens_read text d are shallow =
    ap (λ ts. option_and_then of_json (option_and_then (λ p. json.if_last p.0 p.1) (json.value max_depth ts))) (are ∙ sym (append-nil (json_tokens (outline d))))
    ∙ ap (λ r. option_and_then of_json (option_and_then (λ p. json.if_last p.0 p.1) r))
    (value-json_tokens (outline d) max_depth [] (omega (arith, outline_depth d, shallow)))

tokens_document : (text : List ℕ) (d : Data) → tokens text ≡ json_tokens (outline d) → depth d ≤ max_depth → json.document text ≡ Some (outline d)
tokens_document text d are shallow =
    ap (λ ts. option_and_then (λ p. json.if_last p.0 p.1) (json.value json.max_depth ts)) (are ∙ sym (append-nil (json_tokens (outline d))))
    ∙ ap (λ r. option_and_then (λ p. json.if_last p.0 p.1) r)
    (value-json_tokens (outline d) json.max_depth [] (omega (arith, outline_depth d, shallow)))

-- a text that was written for a value and is read as it
pub within_from_text : (text : List ℕ) (d : Data) → has_float d ≡ false → depth d ≤ max_depth → IsInOrder text d → read text ≡ Some d → IsReadWithin d
within_from_text text d whole shallow order back =
    let are = tokens_from_order text d order whole in
    record {
      numbers = document-HasNumbers text (outline d) (tokens_document text d are shallow);
      same = sym (tokens_read text d are shallow) ∙ back;
    }

pub compact_read : (d : Data) → depth d ≤ max_depth → IsReadWithin d → read (compact_text d) ≡ Some d
compact_read d shallow within =
    let are : tokens (compact_text d) ≡ json_tokens (outline d) =
    ap tokens (sym (print-outline d)) ∙ tokens-print (json_tokens (outline d)) (ArePrintable-json_tokens (outline d) within.numbers) in
    tokens_read (compact_text d) d are shallow ∙ within.same
