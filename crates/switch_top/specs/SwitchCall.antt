-- What a call of `tsswitch` does. This project's own rule.
use Rattle.std.specs.Prelude.{◌≡◌, ℕ, List, [], ◌∷◌, ◌++◌, codes, Bool, Some}
use Rattle.ts_outside.specs.Desk.{DeskView}
use Rattle.ts_outside.specs.Saying.{Says}
use Rattle.switch_args.specs.SwitchWords.{Given, read_of, IsFirstFault}
use Rattle.switch_top.specs.declared.status.SwitchStatus.{SwitchStatus}
use Rattle.switch_top.specs.declared.status.SwitchStatus.TheVariants as status
use Rattle.switch_top.specs.SwitchEnds.{SwitchesPlan, output_name}
use Rattle.switch_top.specs.SwitchPlans.{IsBuffer, plays_of}

pub data CallsSwitch (words : List (List ℕ)) (old new : DeskView) (answer : SwitchStatus) : Type 0 where
  -- the words are not of the form
  at_words : (word : ℕ) → (failed : Bool) → answer ≡ status.Words word → IsFirstFault words word
      → Says old new (codes "tsswitch: words" ++ 10 ∷ []) failed → CallsSwitch words old new answer
  -- memory ran out for the words
  no_room : answer ≡ status.NoMemory → new ≡ old → CallsSwitch words old new answer
  -- the plays of the settings, over rings of some size
  at_plan : (given : Given) → read_of words ≡ Some given → (buffer : ℕ) → IsBuffer given.buffer buffer
      → SwitchesPlan given.resync buffer (plays_of given) (output_name given.output) old new answer → CallsSwitch words old new answer
