use Rattle.ts_charsets.proofs.ScreenLemmas.{screen_done, screen_more}
use Rattle.ts_charsets.proofs.shown.screen_text.Goals as goal

pub loop-character-preserved : goal.loop-character-preserved
loop-character-preserved c =
    screen_more _ _ c.args.characters.now c.loop-character.character-index _ _ c.loop-character-test.true c.character-item.is c.in_ok-push_on_screen.ensures c.loop-character.invariant

pub returns : goal.returns
returns c = screen_done _ c.args.characters.now c.loop-character.character-index c.loop-character-test.false c.loop-character.invariant
