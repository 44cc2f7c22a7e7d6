use Rattle.std.specs.Prelude.{codes}
use Rattle.std.proofs.Common.{length, take, drop, ap, ◌∙◌}
use Rattle.ts_jtree.proofs.KeyLemmas.{front_differs, front_agrees}
use Rattle.ts_jtree.proofs.element.is_hex_key.Goals as goal

pub returns-then-ne : goal.returns-then-ne
returns-then-ne c = front_differs c.args.key.now c.args.name.now (codes "_hex") _ _ (c.split_at.ensures.front ∙ ap (take (length c.args.name.now)) c.as_bytes-key.ensures.value) c.as_bytes.ensures.value c.if-ne.ensures

pub returns : goal.returns
returns c =
    front_agrees c.args.key.now c.args.name.now (codes "_hex") _ _ _ _ c.eq.result (c.split_at.ensures.front ∙ ap (take (length c.args.name.now)) c.as_bytes-key.ensures.value) c.as_bytes.ensures.value c.if-ne.ensures
    (c.split_at.ensures.back ∙ ap (drop (length c.args.name.now)) c.as_bytes-key.ensures.value) c.as_slice.ensures c.eq.ensures
