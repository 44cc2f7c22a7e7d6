use Rattle.std.proofs.Common.{◌∷◌, [], ◌++◌, List, ℕ, ◌==◌, ◌&&◌, not, ap, ap₂, sym, ◌∙◌}
use Rattle.ts_packet.specs.Cells.{live_packets}
use Rattle.plugin_notes.specs.PidPackets.{packets_on}
use Rattle.plugin_trait.specs.PlacedLines.{placed_at}
use Rattle.plug_info_texts.specs.InfoTexts.{pid_text, portion_text}
use Rattle.plug_info_texts.specs.declared.pid_numbers.PidNumbers.{PidNumbers}
use Rattle.plug_info_texts.specs.declared.scene.Scene.{Scene}
use Rattle.plug_info.specs.InfoRule.{numbers_on, scene_of, use_of, users_of}
use Rattle.plug_info.proofs.LineLemmas.{shown_is}
use Rattle.plug_info.proofs.summary.push_pid.Goals as goal

pub returns : goal.returns
returns c = λ cells w u s.
    let pid = c.args.pid in
    let line : Scene → PidNumbers → List ℕ = λ scene numbers. pid_text pid (use_of (live_packets cells) pid) (portion_text scene numbers.packets) numbers in
    let is = shown_is (not (packets_on pid (live_packets cells) == 0) && (users_of (live_packets cells) pid == 0)) c.in-Some.numbers (numbers_on pid cells) (line (scene_of cells) (numbers_on pid cells) ∷ []) (c.in-Some.ensures cells w) in
    c.in_ok-push_line.ensures
    ∙ ap (λ (ts : List (List ℕ)). c.args.lines.now.items ++ placed_at c.args.cut ts)
    (ap (λ (t : List ℕ). t ∷ []) (c.in_ok-text.ensures ∙ (ap (λ (name : List ℕ). pid_text pid name (portion_text c.args.scene.now c.in-Some.numbers.packets) c.in-Some.numbers) (c.name-name.ensures (live_packets cells) w.fed u) ∙ ap₂ line s is.1)) ∙ sym is.0)
