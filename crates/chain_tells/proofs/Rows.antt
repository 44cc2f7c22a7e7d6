-- What plugins met in a state, which line is next, and what was heard, computed.
use Rattle.std.proofs.Common.{◌≡◌, ℕ, zero, suc, ◌+◌, List, [], ◌∷◌, ◌++◌, length, None, Some, true, false, refl, arith, inr}
use Rattle.ts_packet.specs.Cells.{Live, Dropped}
use Rattle.chain_core.specs.Machine.{StageState}
use Rattle.chain_rounds.specs.declared.told_line.ToldLine.{ToldLine}
use Rattle.chain_tells.specs.Taking.{met_in}
use Rattle.chain_tells.specs.Waiting.{comes_first_of}
use Rattle.ts_outside.specs.Desk.{DeskView, reports}
use Rattle.chain_tells.specs.Live.{lines_of_rows, HeardRows}
use Rattle.chain_tells.specs.Printing.{PrintsOn}
use Rattle.chain_tells.specs.Rounds.{Round, HeardRounds}
use Rattle.chain_live.specs.LiveReports.{LiveLine}
use Rattle.chain_rounds.specs.Merged.{merged}
use Rattle.chain_rounds.specs.Round.{place}

-- the input gave three cells, the plugin two of them, and the output one
abbrev stages : ℕ → StageState
stages zero = record { given = Live (1 ∷ []) 0 ∷ Dropped ∷ Live (2 ∷ []) 0 ∷ []; taken = 8; agreed = None; ended = None }
stages (suc zero) = record { given = Live (1 ∷ []) 0 ∷ Live (3 ∷ []) 0 ∷ []; taken = 3; agreed = None; ended = None }
stages (suc (suc k)) = record { given = Live (1 ∷ []) 0 ∷ []; taken = 2; agreed = None; ended = None }

-- so the plugin met the first two cells of the input as the input gave them
met-two : met_in (record { stages = stages; told = None }) 0 ≡ Live (1 ∷ []) 0 ∷ Dropped ∷ []
met-two = refl

-- and after it comes what it gave, of which the output gave one
met-one : met_in (record { stages = stages; told = None }) 1 ≡ Live (1 ∷ []) 0 ∷ []
met-one = refl

-- a line comes before one of a later row at the same position, and not before one at a position below
level : comes_first_of 3 (Some (record { row = 1; at = 3 })) ≡ true
level = refl

below : comes_first_of 3 (Some (record { row = 1; at = 2 })) ≡ false
below = refl

-- a listener that counts: it heard two lines, and then one
abbrev counts : ℕ → ℕ → List ToldLine → Type 0
counts old new lines = new ≡ old + length lines

module _ (a b c : ToldLine) where
  in-order : lines_of_rows ((c ∷ []) ∷ (a ∷ b ∷ []) ∷ []) ≡ a ∷ b ∷ c ∷ []
  in-order = refl

  two-rows : HeardRows counts 4 7 ((c ∷ []) ∷ (a ∷ b ∷ []) ∷ [])
  two-rows = (6, (4, refl, omega arith, refl), omega arith, refl)

-- a text is printed; after a report failed, and once there was no memory for a text, nothing is
printed : (desk : DeskView) (text : List ℕ) → PrintsOn false false false false desk (reports desk text) text
printed desk text = inr (refl, refl)

failed-before : (desk : DeskView) (text : List ℕ) → PrintsOn false true false true desk desk text
failed-before desk text = (refl, refl, refl)

wanted-before : (desk : DeskView) (text : List ℕ) → PrintsOn true false true false desk desk text
wanted-before desk text = (refl, refl, refl)

-- ---- with lines of the input

abbrev line : ℕ → ℕ → LiveLine
line at plugin = record { at = at; plugin = plugin; name = []; text = [] }

-- by position, and at one position the input's in front, whose number is 0
beside_input : merged place (line 1 0 ∷ line 4 0 ∷ []) (line 0 1 ∷ line 1 1 ∷ line 1 2 ∷ line 2 1 ∷ line 4 2 ∷ line 5 1 ∷ [])
    ≡ line 0 1 ∷ line 1 0 ∷ line 1 1 ∷ line 1 2 ∷ line 2 1 ∷ line 4 0 ∷ line 4 2 ∷ line 5 1 ∷ []
beside_input = refl

-- the same in two rounds, of which the first one goes up to position 2
in_two_rounds : merged place (line 1 0 ∷ []) (line 0 1 ∷ line 1 1 ∷ line 1 2 ∷ [])
    ++ merged place (line 4 0 ∷ []) (line 2 1 ∷ line 4 2 ∷ line 5 1 ∷ [])
    ≡ merged place (line 1 0 ∷ line 4 0 ∷ []) (line 0 1 ∷ line 1 1 ∷ line 1 2 ∷ line 2 1 ∷ line 4 2 ∷ line 5 1 ∷ [])
in_two_rounds = refl

-- a source without packets, and a listener that counts the positions
abbrev positions : ℕ → ℕ → Round ℕ → Type 0
positions old new round = new ≡ round.to

module _ (a b : ToldLine) where
  abbrev first-round : Round ℕ
  first-round = record { lines = a ∷ []; source = Some 3; from = 0; to = 5 }

  abbrev second-round : Round ℕ
  second-round = record { lines = b ∷ []; source = Some 8; from = 5; to = 7 }

  two-rounds : HeardRounds positions 0 7 7 (second-round ∷ first-round ∷ [])
  two-rounds = (5, (0, (refl, refl), refl, refl), refl, refl)
