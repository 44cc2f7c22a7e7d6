use Rattle.std.proofs.Common.{◌≡◌, ◌∷◌, [], ◌++◌, List, ℕ, ap, ap₂, ◌∙◌}
use Rattle.plugin_trait.specs.PlacedLines.{placed_at}
use Rattle.plug_info.specs.InfoRule.{scene_of}
use Rattle.plug_info_texts.specs.InfoTexts.{sdt_texts, stream_text}
use Rattle.plug_info_texts.specs.declared.scene.Scene.{Scene}
use Rattle.plug_info_texts.specs.declared.stream_numbers.StreamNumbers.{StreamNumbers}
use Rattle.plug_info.proofs.LineLemmas.{six_pushed}
use Rattle.plug_info.proofs.summary.push_summary.Goals as goal

pub returns : goal.returns
returns c = λ cells w.
    let numbers = c.stream_numbers-numbers.ensures cells w in
    let scene_is : (let s : Scene = record { whole = c.stream_numbers-numbers.result.packets; extent = c.stream_numbers-numbers.result.extent; rate = c.stream_numbers-numbers.result.rate } in s) ≡ scene_of cells =
    ap (λ (n : StreamNumbers). let s : Scene = record { whole = n.packets; extent = n.extent; rate = n.rate } in s) numbers in
    six_pushed c.args.cut c.args.lines.now.items c.push_line.new.lines.items c.push_sdt.new.lines.items c.push_names.new.lines.items c.push_systems.new.lines.items c.push_services.new.lines.items c.push_pids.new.lines.items _ _ _ _ _ _
    (c.in_ok-push_line.ensures ∙ ap (λ (t : List ℕ). c.args.lines.now.items ++ placed_at c.args.cut (t ∷ [])) (c.in_ok-text.ensures ∙ ap stream_text numbers))
    (c.in_ok-push_sdt.ensures ∙ ap (λ (ts : List (List ℕ)). c.push_line.new.lines.items ++ placed_at c.args.cut ts)
    (ap₂ sdt_texts (ap (λ (n : StreamNumbers). n.stream_id) numbers) (c.sdt_stream_id.ensures cells w)))
    (c.in_ok-push_names.ensures cells w)
    (c.in_ok-push_systems.ensures cells w)
    (c.in_ok-push_services.ensures cells w scene_is)
    (c.in_ok-push_pids.ensures cells w scene_is)
