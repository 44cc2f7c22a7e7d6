use Rattle.std.proofs.Common.{◌∷◌, [], ◌++◌, List, ℕ, ◌==◌, ◌&&◌, not, ap, ap₂, sym, ◌∙◌, append-nil}
use Rattle.std.specs.List.{flat_map}
use Rattle.std.specs.String.{string_bytes}
use Rattle.ts_packet.specs.Cells.{live_packets}
use Rattle.plugin_notes.specs.PidPackets.{packets_on}
use Rattle.plug_info_texts.specs.InfoJson.{after_comma, pid_json, portion_json}
use Rattle.plug_info_texts.specs.declared.pid_numbers.PidNumbers.{PidNumbers}
use Rattle.plug_info_texts.specs.declared.scene.Scene.{Scene}
use Rattle.plug_info.specs.InfoRule.{numbers_on, scene_of, use_of, users_of}
use Rattle.plug_info.proofs.LineLemmas.{shown_is}
use Rattle.plug_info.proofs.json.push_pid.Goals as goal

pub returns : goal.returns
returns c = λ cells w u s.
    let pid = c.args.pid in
    let object : Scene → PidNumbers → List ℕ = λ scene numbers. pid_json pid (use_of (live_packets cells) pid) (portion_json scene numbers.packets) numbers in
    let is = shown_is (not (packets_on pid (live_packets cells) == 0) && (users_of (live_packets cells) pid == 0)) c.in-Some.numbers (numbers_on pid cells) (object (scene_of cells) (numbers_on pid cells) ∷ []) (c.in-Some.ensures cells w) in
    c.in_ok-push_item.ensures
    ∙ ap (λ (xs : List ℕ). string_bytes c.args.items.now ++ xs)
    (ap after_comma (c.deref.ensures ∙ (c.in_ok-text.ensures ∙ (ap (λ (name : List ℕ). pid_json pid name (portion_json c.args.scene.now c.in-Some.numbers.packets) c.in-Some.numbers) (c.name-name.ensures (live_packets cells) w.fed u) ∙ ap₂ object s is.1)))
    ∙ (sym (append-nil (after_comma (object (scene_of cells) (numbers_on pid cells)))) ∙ ap (flat_map after_comma) (sym is.0)))
