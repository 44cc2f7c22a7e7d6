use Rattle.std.proofs.Common.{◌≡◌, ℕ, ◌<◌, [], ◌∷◌, ◌++◌, length, ap, sym, ◌∙◌, subst}
use Rattle.plug_window.specs.CompactRule.{is_null}
use Rattle.plug_window.specs.BlockState.{Collected, state_of, shifted, filled, counted, Collects}
use Rattle.ts_packet.specs.declared.labelled.Labelled.{Labelled}
use Rattle.plug_window.proofs.BlockLemmas.{turned, first-is, has_room}
use Rattle.plug_window.proofs.block_line.BlockLine.turn.Goals as goal

pub put-requires-clause-packets : goal.put-requires-clause-packets
put-requires-clause-packets c =
    let line = c.args.self.now in
    let room = has_room is_null line.window c.requires.rows line.packets.items line.nulls.items line.collected line.left line.gives c.requires.stands.collects in
    subst (λ (k : ℕ). length c.give-given.new.self.packets.items < k) (sym (c.give-given.ensures.size.packets ∙ c.requires.stands.packets))
    (subst (λ (s : Collected Labelled). length s.packets < line.window) (sym c.give-given.ensures.state) room.0)

pub put-requires-clause-nulls : goal.put-requires-clause-nulls
put-requires-clause-nulls c =
    let line = c.args.self.now in
    let room = has_room is_null line.window c.requires.rows line.packets.items line.nulls.items line.collected line.left line.gives c.requires.stands.collects in
    subst (λ (k : ℕ). length c.give-given.new.self.nulls.items < k) (sym (c.give-given.ensures.size.nulls ∙ c.requires.stands.nulls))
    (subst (λ (s : Collected Labelled). length s.nulls < line.window) (sym c.give-given.ensures.state) room.1)

pub returns-clause-given : goal.returns-clause-given
returns-clause-given c = λ rows stands.
    let line = c.args.self.now in
    c.give-given.ensures.given ∙ first-is is_null line.window rows c.args.came line.packets.items line.nulls.items line.collected line.left line.gives stands.collects

pub returns-clause-stands : goal.returns-clause-stands
returns-clause-stands c = λ rows stands.
    let line = c.args.self.now in
    let window : c.count.new.self.window ≡ line.window = c.count.ensures.size.window ∙ (c.put.ensures.size.window ∙ c.give-given.ensures.size.window) in
    let kept : state_of c.count.new.self ≡ counted line.window (filled is_null c.args.came (shifted (state_of line))) =
    c.count.ensures.state
    ∙ (ap (λ (k : ℕ). counted k (state_of c.put.new.self)) (c.put.ensures.size.window ∙ c.give-given.ensures.size.window)
    ∙ ap (counted line.window) (c.put.ensures.state ∙ ap (filled is_null c.args.came) c.give-given.ensures.state)) in
    record {
      collects = subst (λ (k : ℕ). Collects is_null k (rows ++ c.args.came ∷ []) (state_of c.count.new.self)) (sym window)
          (subst (λ (s : Collected Labelled). Collects is_null line.window (rows ++ c.args.came ∷ []) s) (sym kept)
          (turned is_null line.window rows c.args.came line.packets.items line.nulls.items line.collected line.left line.gives stands.collects));
      packets = c.count.ensures.size.packets ∙ (c.put.ensures.size.packets ∙ (c.give-given.ensures.size.packets ∙ (stands.packets ∙ sym window)));
      nulls = c.count.ensures.size.nulls ∙ (c.put.ensures.size.nulls ∙ (c.give-given.ensures.size.nulls ∙ (stands.nulls ∙ sym window)));
    }
