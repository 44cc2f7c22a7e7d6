-- Worked rows of summaries at each so-many-th packet, over a rule that counts packets.
use Rattle.std.proofs.Common.{◌≡◌, [], ◌∷◌, ◌++◌, true, false, codes, refl}
use Rattle.std.specs.Fmt.{decimal, digits}
use Rattle.ts_packet.specs.declared.cell.Cell.{Cell}
use Rattle.ts_packet.specs.Cells.{Live, Dropped}
use Rattle.chain_model.specs.PluginRule.{PluginRule, passes}
use Rattle.chain_model.specs.Reports.{said_of}
use Rattle.plugin_trait.specs.LiveCount.{live_count}
use Rattle.plug_every.specs.EveryRule.{every_rule}

-- a rule with a line at each packet, and the number of packets as its summary
abbrev counting : PluginRule
counting = record {
  outcome_of = λ _ packet _. passes packet;
  labels_of = λ _ _ labels. labels;
  lines_of = λ _ packet _. packet ∷ [];
  summary_of = λ history. (codes "total " ++ decimal (live_count history)) ∷ [];
  agrees = λ _. false;
  has_fault = λ _. false;
}

abbrev a : Cell
a = Live (codes "a") 0

abbrev b : Cell
b = Live (codes "b") 0

-- behind the second packet that is seen, which is the third cell; the summary of all is at the end
every-second : said_of (every_rule 2 true counting) (a ∷ Dropped ∷ b ∷ a ∷ [])
    ≡ codes "a" ∷ codes "b" ∷ codes "so far 2 packets" ∷ codes "total 2" ∷ codes "a" ∷ codes "total 3" ∷ []
unfolding digits
every-second = refl

-- a run that ends there has the summary twice
ends-there : said_of (every_rule 2 true counting) (a ∷ b ∷ [])
    ≡ codes "a" ∷ codes "b" ∷ codes "so far 2 packets" ∷ codes "total 2" ∷ codes "total 2" ∷ []
unfolding digits
ends-there = refl

-- without the line that counts packets
uncounted : said_of (every_rule 1 false counting) (a ∷ []) ≡ codes "a" ∷ codes "total 1" ∷ codes "total 1" ∷ []
unfolding digits
uncounted = refl
