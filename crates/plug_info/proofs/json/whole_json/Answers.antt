use Rattle.std.proofs.Common.{◌≡◌, ◌++◌, List, ℕ, ap, ap₂, ◌∙◌}
use Rattle.plug_info_texts.specs.InfoJson.{number_or_null, stream_json}
use Rattle.plug_info.specs.InfoRule.{scene_of}
use Rattle.plug_info_texts.specs.declared.scene.Scene.{Scene}
use Rattle.plug_info_texts.specs.declared.stream_numbers.StreamNumbers.{StreamNumbers}
use Rattle.plug_info.proofs.JsonLemmas.{whole_is}
use Rattle.plug_info.proofs.json.whole_json.Goals as goal

pub returns : goal.returns
returns c = λ cells w.
    let numbers = c.stream_numbers-numbers.ensures cells w in
    let scene_is : (let s : Scene = record { whole = c.stream_numbers-numbers.result.packets; extent = c.stream_numbers-numbers.result.extent; rate = c.stream_numbers-numbers.result.rate } in s) ≡ scene_of cells =
    ap (λ (n : StreamNumbers). let s : Scene = record { whole = n.packets; extent = n.extent; rate = n.rate } in s) numbers in
    c.of.ensures
    ∙ (c.in_ok-text.ensures.ok
    ∙ whole_is _ _ _ _ _ _ _ _ _ _ (c.in_ok-stream.ensures ∙ ap stream_json numbers)
    (c.in_ok-sdt-2.ensures.ok
    ∙ ap₂ (λ (a b : List ℕ). a ++ b) (c.in_ok-sdt.ensures ∙ ap number_or_null (c.widened.ensures ∙ c.sdt_stream_id.ensures cells w)) (c.in_ok-names.ensures cells w))
    (c.in_ok-cas.ensures cells w) (c.in_ok-services.ensures cells w scene_is) (c.in_ok-pids.ensures cells w scene_is))
